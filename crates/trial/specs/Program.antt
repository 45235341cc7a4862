-- What the trial program writes for its arguments, document 02, request f. What the arguments are is not known to a proof,
-- so the statements are about some bytes.
--     Outcome, outcome, with_start, with_edges                  what the arguments ask for
--     output_of, message                                        what goes to standard output; to standard error
--     start_most, arguments                                     the largest starting number; how many arguments there are
--     usage, not_number, not_a_number, start_word, edges_word   the text of the messages
--     Laid                                                      a text stands at the front of a slice
--     Few                                                       no more edges than a table has
use Rattle.std.specs.Prelude.{ℕ, ◌≤◌, ◌≡◌, cond, List, [], ◌∷◌, ◌++◌, eqb, length, Option, Some, None, Result, Ok, Err}
use Rattle.text.specs.Decimal.{decimal}
use Rattle.table.specs.Layout.{edges}
use Rattle.table.specs.Output.{front}
use Rattle.arguments.specs.Arguments.{number_in}
use Rattle.trial_jobs.specs.Trial.{trial_bytes}
use Rattle.trial.specs.declared.Order.{Order}
use Rattle.trial.specs.declared.Misuse.{Misuse}
use Rattle.trial.specs.declared.Misuse.TheVariants.{Usage, BadStart, BadEdges}

-- "the 32-bit starting number"; the other bound is the table's: "13, N above 1,024"
abbrev pub start_most : ℕ
start_most = 4294967295

-- the program's own name, START and EDGES
abbrev pub arguments : ℕ
arguments = 3

-- a job from these two numbers, or what is wrong
abbrev pub Outcome : Type 0
Outcome = Result Order Misuse

-- START, "the first of the two", is read first, so that one line says what is wrong
abbrev pub with_edges : ℕ → Option ℕ → Outcome
with_edges start (Some n) = Ok (record { start = start; edges = n })
with_edges start None = Err BadEdges

abbrev pub with_start : Option ℕ → Option ℕ → Outcome
with_start (Some start) second = with_edges start second
with_start None second = Err BadStart

-- given so many arguments, the two after its name being these
unfoldable pub outcome : ℕ → List ℕ → List ℕ → Outcome
outcome count first second = cond (eqb count arguments) (with_start (number_in first start_most) (number_in second edges)) (Err Usage)

-- the job's bytes, and nothing where an argument is bad
abbrev pub output_of : Outcome → List ℕ
output_of (Ok o) = trial_bytes o.start o.edges
output_of (Err m) = []

-- " is not a number from 0 to "
abbrev pub not_a_number : List ℕ
not_a_number = (32 ∷ 105 ∷ 115 ∷ 32 ∷ 110 ∷ 111 ∷ 116 ∷ 32 ∷ 97 ∷ 32 ∷ 110 ∷ 117 ∷ 109 ∷ 98 ∷ 101 ∷ 114 ∷ [])
    ++ (32 ∷ 102 ∷ 114 ∷ 111 ∷ 109 ∷ 32 ∷ 48 ∷ 32 ∷ 116 ∷ 111 ∷ 32 ∷ [])

-- "trial: ", the argument's name, that it is none, the most that it may be
abbrev pub not_number : List ℕ → ℕ → List ℕ
not_number name most = (116 ∷ 114 ∷ 105 ∷ 97 ∷ 108 ∷ 58 ∷ 32 ∷ []) ++ (name ++ (not_a_number ++ (decimal most ++ (10 ∷ []))))

-- "START", "EDGES"
abbrev pub start_word : List ℕ
start_word = 83 ∷ 84 ∷ 65 ∷ 82 ∷ 84 ∷ []

abbrev pub edges_word : List ℕ
edges_word = 69 ∷ 68 ∷ 71 ∷ 69 ∷ 83 ∷ []

-- "usage: trial START EDGES"
abbrev pub usage : List ℕ
usage = (117 ∷ 115 ∷ 97 ∷ 103 ∷ 101 ∷ 58 ∷ 32 ∷ 116 ∷ 114 ∷ 105 ∷ 97 ∷ 108 ∷ 32 ∷ []) ++ (start_word ++ ((32 ∷ []) ++ (edges_word ++ (10 ∷ []))))

-- a line that says what is wrong, and nothing where there is a job
unfoldable pub message : Outcome → List ℕ
message (Ok o) = []
message (Err Usage) = usage
message (Err BadStart) = not_number start_word start_most
message (Err BadEdges) = not_number edges_word edges

-- a text stands at the front of a slice, as many bytes as are said; the rest is as it was
pub record Laid (text out : List ℕ) (size : ℕ) (out' : List ℕ) : Type 0 where
  pub all : size ≡ length text
  pub bytes : out' ≡ front text out

-- no more edges than a table has
abbrev pub Few : Outcome → Type 0
Few (Ok o) = o.edges ≤ edges
Few (Err m) = Unit
