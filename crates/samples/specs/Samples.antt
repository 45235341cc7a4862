-- Document 01, "Samples (P: to be proved)", 1 to 6: for each the edits from the empty mesh, what they answer, and what is said of the
-- table that they leave. Nothing else has to be believed: every fact is an equation with a definition of the crates below.
--     samples, sample                           the list of samples; one line of it
--     Sample, Holds                             edits, answers and facts of a sample; that they hold from the empty mesh
--     Fact, Has                                 what a sample says of a table; that the table has it
--     answers, by                               what a host gets from each edit of a run; F faces by a rule
--     walk_lengths                              the steps of each listed walk that has steps
--     one_edge, one_loop, two_loops, turned_loop  the edits of the samples, for their turns
--     any_length                                the length of every edge here
--     All                                       P holds of each of a list
use Rattle.std.specs.Prelude.{ℕ, ◌*◌, ◌≡◌, Bool, true, false, List, [], ◌∷◌, map, length, ℤ, pos, neg_ℤ, Ok, Some}
use Rattle.table.specs.Layout.{darts, edge_word}
use Rattle.table.specs.Rotation.{Rotation, rotation}
use Rattle.table.specs.Empty.{empty_table}
use Rattle.tracing.specs.Walk.{walk}
use Rattle.tracing.specs.Listing.{starts, lone_corner, face_count}
use Rattle.edits.specs.Turns.{turns_in}
use Rattle.edits.specs.Edits.{edited}
use Rattle.edits.specs.Rules.{reply, reply_code}
use Rattle.edits.specs.declared.rule.Rule.{Rule}
use Rattle.edits.specs.declared.rule.Rule.TheVariants as rule
use Rattle.edits.specs.declared.edit.Edit.{Edit}
use Rattle.edits.specs.declared.edit.Edit.TheVariants.{AddVertex, InsertEdge, TurnEdge}
use Rattle.surface.specs.Labels.{orientable}
use Rattle.surface.specs.Parts.{parts}
use Rattle.surface.specs.Signed.{mesh_euler}
use Rattle.weave.specs.Letters.{plain}
use Rattle.runs.specs.Run.{run}

-- what a sample says of the table after its edits
pub data Fact : Type 0 where
  -- F, the number of listed walks
  F : ℕ → Fact
  -- the Euler number of the mesh
  Euler : ℤ → Fact
  -- for each part, upward, whether it is orientable: true is "o", false "n"
  Marks : List Bool → Fact
  -- the numbers of steps of the listed walks that have steps
  Steps : List ℕ → Fact
  -- whether the weave is plain: true is "plain", false "mixed"
  Plain : Bool → Fact
  -- the turns of an edge
  Turns : ℕ → ℤ → Fact

-- "two walks of two steps": the listed walks that have steps start at darts
abbrev pub walk_lengths : Rotation → List ℕ
walk_lengths R = map (λ d. length (walk R (2 * d))) (starts R darts)

-- that the table has it: V, E, F, parts, marks and walks are those of its rotation system
abbrev pub Has : List ℕ → Fact → Type 0
Has t (F n) = face_count (rotation t) ≡ n
Has t (Euler z) = mesh_euler (rotation t) ≡ z
Has t (Marks l) = map (orientable (rotation t)) (parts (rotation t)) ≡ l
Has t (Steps l) = walk_lengths (rotation t) ≡ l
Has t (Plain b) = plain t ≡ b
Has t (Turns e z) = turns_in (edge_word t e) ≡ z

-- what a host gets from each edit of a run: the new face count, for an edge with the rule met, or minus the number of the refusal
unfoldable pub answers : List ℕ → List Edit → List ℤ
answers t [] = []
answers t (E ∷ Es) = reply_code (reply t E) ∷ answers (edited t E) Es

-- F faces by a rule
abbrev pub by : ℕ → Rule → ℤ
by n r = reply_code (Ok (record { faces = n; rule = Some r }))

-- the edits from the empty mesh, what each of them answers, and what holds after them
pub record Sample : Type 0 where
  pub edits : List Edit
  pub answered : List ℤ
  pub facts : List Fact

-- P holds of each of a list
abbrev pub All : {A : Type 0} → (A → Type 0) → List A → Type 0
All P [] = Unit {0}
All P (x ∷ l) = P x × All P l

pub record Holds (s : Sample) : Type 0 where
  pub answered : answers empty_table s.edits ≡ s.answered
  pub facts : All (Has (run empty_table s.edits)) s.facts

-- document 01 gives no lengths, and its samples do not depend on them
abbrev pub any_length : ℕ
any_length = 16

-- "two vertices, one edge" with turns k
abbrev pub one_edge : ℤ → List Edit
one_edge k = AddVertex 0 ∷ AddVertex 1 ∷ InsertEdge 0 (lone_corner 0) (lone_corner 1) k any_length ∷ []

-- "one loop" with turns k
abbrev pub one_loop : ℤ → List Edit
one_loop k = AddVertex 0 ∷ InsertEdge 0 (lone_corner 0) (lone_corner 0) k any_length ∷ []

-- a "loop of turns" k, "then turns" l "between corners 0 and 1"
abbrev pub two_loops : ℤ → ℤ → List Edit
two_loops k l = AddVertex 0 ∷ InsertEdge 0 (lone_corner 0) (lone_corner 0) k any_length ∷ InsertEdge 1 0 1 l any_length ∷ []

-- one loop with turns 99, turned by a
abbrev pub turned_loop : ℤ → List Edit
turned_loop a = AddVertex 0 ∷ InsertEdge 0 (lone_corner 0) (lone_corner 0) (pos 99) any_length ∷ TurnEdge 0 a ∷ []

-- a line of the list
abbrev pub sample : List Edit → List ℤ → List Fact → Sample
sample e a f = record { edits = e; answered = a; facts = f }

abbrev pub samples : List Sample
samples =
    -- 1. "no vertex: F 0, plain"
    sample [] [] (F 0 ∷ Plain true ∷ [])
    -- "one vertex: F 1, Euler 2"
    ∷ sample (AddVertex 0 ∷ []) (pos 1 ∷ []) (F 1 ∷ Euler (pos 2) ∷ [])
    -- 2. "two vertices, one edge, turns 0 or 1: F 1, Euler 2, orientable both times"
    ∷ sample (one_edge (pos 0)) (pos 1 ∷ pos 2 ∷ by 1 rule.A ∷ []) (F 1 ∷ Euler (pos 2) ∷ Marks (true ∷ []) ∷ [])
    ∷ sample (one_edge (pos 1)) (pos 1 ∷ pos 2 ∷ by 1 rule.A ∷ []) (F 1 ∷ Euler (pos 2) ∷ Marks (true ∷ []) ∷ [])
    -- 3. "one loop: turns 0, F 2, Euler 2; turns 1, F 1, Euler 1, n"
    ∷ sample (one_loop (pos 0)) (pos 1 ∷ by 2 rule.B1 ∷ []) (F 2 ∷ Euler (pos 2) ∷ [])
    ∷ sample (one_loop (pos 1)) (pos 1 ∷ by 1 rule.B2 ∷ []) (F 1 ∷ Euler (pos 1) ∷ Marks (false ∷ []) ∷ [])
    -- 4. "loop of turns 1, then turns 0 between corners 0 and 1: F 1, Euler 0, n"
    ∷ sample (two_loops (pos 1) (pos 0)) (pos 1 ∷ by 1 rule.B2 ∷ by 1 rule.B2 ∷ []) (F 1 ∷ Euler (pos 0) ∷ Marks (false ∷ []) ∷ [])
    -- 5. "the same with turns 0 twice: F 1, Euler 0, o"
    ∷ sample (two_loops (pos 0) (pos 0)) (pos 1 ∷ by 2 rule.B1 ∷ by 1 rule.A ∷ []) (F 1 ∷ Euler (pos 0) ∷ Marks (true ∷ []) ∷ [])
    -- "both 1: two walks of two steps, Euler 1"
    ∷ sample (two_loops (pos 1) (pos 1)) (pos 1 ∷ by 1 rule.B2 ∷ by 2 rule.B1 ∷ []) (F 2 ∷ Steps (2 ∷ 2 ∷ []) ∷ Euler (pos 1) ∷ [])
    -- "turns 1 and -1: mixed"
    ∷ sample (two_loops (pos 1) (neg_ℤ (pos 1))) (pos 1 ∷ by 1 rule.B2 ∷ by 2 rule.B1 ∷ []) (Plain false ∷ [])
    -- 6. "turns 99, turn by 1: 6; by -198: -99"
    ∷ sample (turned_loop (pos 1)) (pos 1 ∷ by 1 rule.B2 ∷ neg_ℤ (pos 6) ∷ []) (Turns 0 (pos 99) ∷ [])
    ∷ sample (turned_loop (neg_ℤ (pos 198))) (pos 1 ∷ by 1 rule.B2 ∷ by 1 rule.E ∷ []) (Turns 0 (neg_ℤ (pos 99)) ∷ [])
    ∷ []
