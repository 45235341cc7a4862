-- The theorems of this crate, document 01, "Corners and walks". Each is proved by the law of its name.
use Rattle.std.specs.Prelude.{ℕ, ◌≡◌, false, List, ◌≢◌, eqb, length, Ok}
use Rattle.table.specs.Rotation.{rotation}
use Rattle.tracing.specs.Walk.{walk}
use Rattle.tracing.specs.Listing.{has}
use Rattle.lengths.specs.CutLength.{cut_length_of}
use Rattle.reader.specs.declared.place.Step.{Step}
use Rattle.reader_tally.specs.declared.tally.Tally.{Tally}
use Rattle.reader_tally.specs.Forward.{step_tally}
use Rattle.reader.specs.Reader.{word_at, begin_of, step_of, EachStep}
use Rattle.reader.specs.Walked.{steps_from, after_steps, Walked}
use Rattle.reader.specs.laws.Reader as reader
use Rattle.reader.specs.laws.Walked as walked
use Rattle.reader.specs.laws.Elsewhere as elsewhere

-- of every step: it declines as the making would, a declined one changes nothing, and one that ends the walk is back at the start
pub each_step : (t : List ℕ) (y : Tally) → EachStep t y
each_step = reader.each_step

-- "the lap enters the tally with the walk's last step": an accepted step adds its letters and its length, with the lap exactly if it answers 1
pub step_tallied : (t : List ℕ) (at first : Step) (y : Tally) (n : ℕ) → (step_of t at first y).answer ≡ Ok n
    → (step_of t at first y).tally ≡ step_tally t (word_at at) (eqb n 1) y
step_tallied = reader.step_tallied

-- over a whole walk, of a reader that can be made
pub reader_walks : (t : List ℕ) (first : Step) → begin_of t first.dart first.kind ≡ Ok 0 → Walked t first
reader_walks = walked.reader_walks

-- at the walk's end the tally's length is the cut length: what the call for it answers
pub tally_cut : (t : List ℕ) (first : Step) → begin_of t first.dart first.kind ≡ Ok 0
    → cut_length_of t first.dart first.kind ≡ Ok (after_steps t first (length (walk (rotation t) (word_at first)))).tally.length
tally_cut = walked.tally_cut

-- a reader whose step is there and whose start is not on that step's walk never says that the walk ends
pub never_ends : (t : List ℕ) (at first : Step) (y : Tally) → begin_of t at.dart at.kind ≡ Ok 0
    → has (word_at first) (walk (rotation t) (word_at at)) ≡ false → (n : ℕ) → (steps_from t at first y n).answer ≢ Ok 1
never_ends = elsewhere.never_ends
