-- The walk reader as C keeps it: the code of a step's answer, handed on.
use Rattle.std.specs.Prelude.{ℕ, ◌<◌, ◌^◌, ◌≡◌, List, ℤ}
use Rattle.std.proofs.Common.{◌∙◌, ap, to_z, of_z}
use Rattle.std.specs.Int.Signed.{mag}
use Rattle.std.specs.Int.{w64}
use Rattle.table.specs.Answers.{code_of}
use Rattle.table.specs.laws.Answers.{handed_on}
use Rattle.reader.specs.declared.standing.Standing.{Standing}
use Rattle.reader_tally.specs.declared.tally.Tally.{Tally}
use Rattle.reader.specs.declared.walk.Stepped.{Stepped}
use Rattle.reader.specs.Reader.{step_of}
use Rattle.reader.specs.Standing.{at_of, start_of, stands_at, called_by, called_of}

pub called_on : {q : Stepped} {z : ℤ} (t : List ℕ) (r : Standing) (y : Tally)
    → mag z < 2 ^ 63 → z ≡ code_of q.answer → q ≡ step_of t (at_of r) (start_of r) y
    → record { code = to_z w64 (of_z w64 z); reader = stands_at q.at r; tally = q.tally } ≡ called_of t r y
called_on {q} t r y h e f = ap (λ c. record { code = c; reader = stands_at q.at r; tally = q.tally }) (handed_on h e) ∙ ap (called_by r) f
