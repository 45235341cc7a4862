-- The cut length of a ribbon, document 01, "Over and under", with the workshop's rule of document 02, d, and the lengths of the table, g; and what the
-- call for it answers.
use Rattle.table.specs.Answers.{Answer}
use Rattle.std.specs.Prelude.{ℕ, ◌+◌, ◌*◌, ◌/◌, List, [], ◌∷◌, Ok, Err}
use Rattle.table.specs.Layout.{length_word, edge_of}
use Rattle.table.specs.Rotation.{rotation}
use Rattle.tracing.specs.Met.{times}
use Rattle.tracing.specs.Walk.{walk}
use Rattle.weave.specs.Calls.{named_step, Named}
use Rattle.weave.specs.Letters.{over, step_letters, letters}

-- the length of the edge that step s is on: "Cut lengths come from the table"
abbrev pub length_of : List ℕ → ℕ → ℕ
length_of t s = length_word t (edge_of (s / 2))

-- "the sum of edge lengths", one for each of these steps: document 01's cut length, which the saw's rule adds to
unfoldable pub strip_length : List ℕ → List ℕ → ℕ
strip_length t [] = 0
strip_length t (s ∷ l) = length_of t s + strip_length t l

-- "8 sixteenths for each O": what these letters take up
abbrev pub over_allowance : List ℕ → ℕ
over_allowance l = 8 * times over l

-- what step s takes up: its edge's length, and 8 for each of its own O's
abbrev pub taken_by : List ℕ → ℕ → ℕ
taken_by t s = length_of t s + over_allowance (step_letters t s)

-- "320 for the lap"
abbrev pub lap : ℕ
lap = 320

-- "cut length is the sum of edge lengths, plus 8 sixteenths for each O on the ribbon, plus 320 for the lap": of the ribbon through step s
unfoldable pub cut_length : List ℕ → ℕ → ℕ
cut_length t s = strip_length t (walk (rotation t) s) + over_allowance (letters t s) + lap

abbrev pub cut_length_by : List ℕ → Named → Answer
cut_length_by t (Ok s) = Ok (cut_length t s)
cut_length_by t (Err r) = Err r

-- "Cut length of a ribbon, named by any step on it"
abbrev pub cut_length_of : List ℕ → ℕ → ℕ → Answer
cut_length_of t d k = cut_length_by t (named_step t d k)
