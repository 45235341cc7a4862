-- A reader over one whole walk: it hands out the walk's steps, says at the last of them that the walk ends, and is then where it began;
-- a tally begun at zeros holds the ribbon's numbers.
use Rattle.std.specs.Prelude.{ℕ, zero, suc, ◌<◌, ◌≡◌, List, [], ◌∷◌, ◌++◌, eqb, length, Ok}
use Rattle.table.specs.Rotation.{rotation}
use Rattle.tracing.specs.Walk.{walk}
use Rattle.tracing.specs.Listing.{bit}
use Rattle.weave.specs.Letters.{over, under, letters}
use Rattle.lengths.specs.CutLength.{cut_length}
use Rattle.reader.specs.declared.place.Step.{Step}
use Rattle.reader_tally.specs.declared.tally.Tally.{Tally}
use Rattle.reader.specs.declared.walk.Stepped.{Stepped}
use Rattle.tracing.specs.Met.{times}
use Rattle.reader.specs.Reader.{word_at, step_of}

-- "A tally begun at zeros"
abbrev pub zeros : Tally
zeros = record { steps = 0; overs = 0; unders = 0; length = 0 }

-- what a reader that stands at `at`, and whose walk began at `first`, has come to after n steps
unfoldable pub steps_from : List ℕ → Step → Step → Tally → ℕ → Stepped
steps_from t at first y zero = record { answer = Ok 0; at = at; tally = y }
steps_from t at first y (suc n) = let r = steps_from t at first y n in step_of t r.at first r.tally

-- one that was made at `first`, with a tally begun at zeros
abbrev pub after_steps : List ℕ → Step → ℕ → Stepped
after_steps t first n = steps_from t first first zeros n

-- the steps that it has handed out, as step words
unfoldable pub handed : List ℕ → Step → ℕ → List ℕ
handed t first zero = []
handed t first (suc n) = handed t first n ++ (word_at (after_steps t first n).at ∷ [])

-- a ribbon's number of steps, its O's, its U's and its cut length
abbrev pub ribbon_tally : List ℕ → ℕ → Tally
ribbon_tally t s = record {
  steps = length (walk (rotation t) s);
  overs = times over (letters t s);
  unders = times under (letters t s);
  length = cut_length t s;
}

-- a reader made at `first`, over one walk
pub record Walked (t : List ℕ) (first : Step) : Type 0 where
  -- it "hands out one step at a time": those of the walk
  pub steps : handed t first (length (walk (rotation t) (word_at first))) ≡ walk (rotation t) (word_at first)
  -- "With each step it says whether the walk ends there": at its last step, and not before. No step is declined, so the tally is never past 32 bits
  pub ends : (n : ℕ) → n < length (walk (rotation t) (word_at first))
      → (after_steps t first (suc n)).answer ≡ Ok (bit (eqb (suc n) (length (walk (rotation t) (word_at first)))))
  -- "the step after that begins the walk again"
  pub again : (after_steps t first (length (walk (rotation t) (word_at first)))).at ≡ first
  -- "A tally begun at zeros, and any cut length, fit 32 bits over one walk": where the walk ends it holds the ribbon's numbers
  pub tally : (after_steps t first (length (walk (rotation t) (word_at first)))).tally ≡ ribbon_tally t (word_at first)
