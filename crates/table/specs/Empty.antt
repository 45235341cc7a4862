-- The empty mesh: no dart, no edge and no vertex is live.
use Rattle.std.specs.Prelude.{ℕ, List, ◌++◌, length, replicate, eqb, Ok, Err}
use Rattle.table.specs.Layout.{words, edges, vertices, nothing, edge_at}
use Rattle.table.specs.declared.answer.Refusal.TheVariants.{Torn}
use Rattle.table.specs.Answers.{unless, if_done, Answer}

-- three words for each dart, then a word for each edge, one for each vertex, and a length for each edge
unfoldable pub empty_table : List ℕ
empty_table = replicate edge_at nothing ++ (replicate edges 0 ++ (replicate vertices nothing ++ replicate edges 0))

-- a fresh fill tests only the size
abbrev pub empty_of : List ℕ → Answer
empty_of t = unless (eqb (length t) words) (Err Torn) (Ok 0)

abbrev pub emptied : List ℕ → List ℕ
emptied t = if_done (empty_of t) empty_table t
