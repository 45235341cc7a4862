-- A tally brought forward by one step, document 01, "Corners and walks", with the length of document 02, d, and when the step is declined: 6.
use Rattle.std.specs.Prelude.{ℕ, ◌+◌, Bool, true, false, ◌&&◌, List, ltb, Ok, Err, Result}
use Rattle.table.specs.declared.answer.Refusal.{Refusal}
use Rattle.table.specs.declared.answer.Refusal.TheVariants.{Overturned}
use Rattle.tracing.specs.Met.{times}
use Rattle.weave.specs.Letters.{over, under, step_letters}
use Rattle.lengths.specs.CutLength.{taken_by, lap}
use Rattle.reader_tally.specs.declared.tally.Tally.{Tally}
use Rattle.table.specs.Answers.{unless}

-- "A tally record .. is brought forward by each step: steps, overs, unders, length."
abbrev pub forward : Tally → ℕ → ℕ → ℕ → Tally
forward y o u l = record { steps = y.steps + 1; overs = y.overs + o; unders = y.unders + u; length = y.length + l }

-- the first number past 32 bits
abbrev pub past32 : ℕ
past32 = 4294967296

-- do its fields fit 32 bits
abbrev pub fits32 : Tally → Bool
fits32 y = ltb y.steps past32 && (ltb y.overs past32 && (ltb y.unders past32 && ltb y.length past32))

-- the tally with one step more, or the refusal of that step
abbrev pub Tallied : Type 0
Tallied = Result Tally Refusal

-- "a tally that a step would carry past 32 bits is declined with 6"
unfoldable pub forward_of : Tally → ℕ → ℕ → ℕ → Tallied
forward_of y o u l = unless (fits32 (forward y o u l)) (Err Overturned) (Ok (forward y o u l))

-- "the lap enters the tally with the walk's last step"
abbrev pub lap_at : Bool → ℕ
lap_at true = lap
lap_at false = 0

-- what step s adds to the length: what it takes up, and the lap if it is the walk's last one
abbrev pub step_length : List ℕ → ℕ → Bool → ℕ
step_length t s last = taken_by t s + lap_at last

-- the tally with step s more: its letters and its length
abbrev pub step_tally : List ℕ → ℕ → Bool → Tally → Tally
step_tally t s last y = forward y (times over (step_letters t s)) (times under (step_letters t s)) (step_length t s last)

unfoldable pub tally_of : List ℕ → ℕ → Bool → Tally → Tallied
tally_of t s last y = forward_of y (times over (step_letters t s)) (times under (step_letters t s)) (step_length t s last)
