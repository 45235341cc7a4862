-- The walk reader, document 01, "Corners and walks": where it stands, when it declines, and what a step leaves.
--     begin_of, begin_by           the answer to making a reader
--     placed, is_step              where the reader stands, or its refusal; is it a dart and a type
--     step_of, step_by, stepped_by  what a step leaves; once its place is known; once its tally is known
--     tally_at                     the tally with this step more
--     moved_to, stays               the reader goes on to the next step; it does not move
--     ends_at                       does the walk end there
--     word_at, step_at              the step word 2d+t of a step; the step of a step word
--     EachStep                     what holds of every step, wherever the reader stands
use Rattle.std.specs.Prelude.{ℕ, ◌+◌, ◌*◌, ◌/◌, ◌%◌, ◌≡◌, Bool, ◌&&◌, List, ltb, eqb, Ok, Err}
use Rattle.table.specs.Layout.{darts}
use Rattle.table.specs.Rotation.{rotation, live?}
use Rattle.table.specs.Check.{good?}
use Rattle.table.specs.declared.answer.Refusal.{Refusal}
use Rattle.table.specs.declared.answer.Refusal.TheVariants.{Torn, NoSuchName, Absent, Overturned}
use Rattle.tracing.specs.Step.{step}
use Rattle.tracing.specs.Listing.{bit}
use Rattle.weave.specs.Calls.{named_step, Named}
use Rattle.reader.specs.declared.place.Step.{Step}
use Rattle.reader_tally.specs.declared.tally.Tally.{Tally}
use Rattle.reader.specs.declared.walk.Stepped.{Stepped}
use Rattle.reader_tally.specs.Forward.{tally_of, Tallied}
use Rattle.table.specs.Answers.{unless, Answer}

-- the making of a reader: accepted, or the refusal of the step that it is made at
abbrev pub begin_by : Named → Answer
begin_by (Ok s) = Ok 0
begin_by (Err r) = Err r

abbrev pub begin_of : List ℕ → ℕ → ℕ → Answer
begin_of t d k = begin_by (named_step t d k)

-- a step and its step word, 2d+t
abbrev pub word_at : Step → ℕ
word_at s = 2 * s.dart + s.kind

abbrev pub step_at : ℕ → Step
step_at x = record { dart = x / 2; kind = x % 2 }

-- 2, no such name: "vertex, edge or dart past its range, type above 1"
abbrev pub is_step : ℕ → ℕ → Bool
is_step d k = ltb d darts && ltb k 2

-- the step that the reader stands at, as a step word, if it and the step that the walk began at are there: 1, then 2, then 4
unfoldable pub placed : List ℕ → Step → Step → Named
placed t at first =
    unless (good? t) (Err Torn)
    (unless (is_step at.dart at.kind && is_step first.dart first.kind) (Err NoSuchName)
    (unless (live? t at.dart && live? t first.dart) (Err Absent)
    (Ok (word_at at))))

-- "after a declined step the reader has not moved"; "all lent slices and records keep their contents"
abbrev pub stays : Step → Tally → Refusal → Stepped
stays at y r = record { answer = Err r; at = at; tally = y }

-- "whether the walk ends there": is the next step the one that it began at, dart and type
abbrev pub ends_at : ℕ → Step → Bool
ends_at next first = eqb next (word_at first)

-- the reader goes on to step `next`. "With each step it says whether the walk ends there": 1 if it does, else 0
abbrev pub moved_to : ℕ → Step → Tally → Stepped
moved_to next first z = record {
  answer = Ok (bit (ends_at next first));
  at = step_at next;
  tally = z;
}

-- the step s, once its tally is known
abbrev pub stepped_by : List ℕ → Step → Step → Tally → ℕ → Tallied → Stepped
stepped_by t at first y s (Ok z) = moved_to (step (rotation t) s) first z
stepped_by t at first y s (Err r) = stays at y r

-- the tally with step s more, which is "the walk's last step" if the walk ends there
abbrev pub tally_at : List ℕ → Step → ℕ → Tally → Tallied
tally_at t first s y = tally_of t s (ends_at (step (rotation t) s) first) y

-- the step, once its place is known
abbrev pub step_by : List ℕ → Step → Step → Tally → Named → Stepped
step_by t at first y (Ok s) = stepped_by t at first y s (tally_at t first s y)
step_by t at first y (Err r) = stays at y r

-- one step of a reader that stands at `at` and whose walk began at `first`
abbrev pub step_of : List ℕ → Step → Step → Tally → Stepped
step_of t at first y = step_by t at first y (placed t at first)

-- every step, of a reader that stands anywhere and whose walk began anywhere
pub record EachStep (t : List ℕ) (y : Tally) : Type 0 where
  -- "Every step declines as the making of the reader would": of a reader that could not be made, every step is declined so
  pub as_made : (s : Step) {r : Refusal} → begin_of t s.dart s.kind ≡ Err r → step_of t s s y ≡ stays s y r
  -- and of one whose start is one that can be made, a step is declined as the making of a reader where it stands would be
  pub as_made_there : (at first : Step) → begin_of t first.dart first.kind ≡ Ok 0 → {r : Refusal} → begin_of t at.dart at.kind ≡ Err r
      → step_of t at first y ≡ stays at y r
  -- and otherwise for its tally alone: "a tally that a step would carry past 32 bits is declined with 6"
  pub else_overturned : (at first : Step) → begin_of t first.dart first.kind ≡ Ok 0 → begin_of t at.dart at.kind ≡ Ok 0
      → {r : Refusal} → (step_of t at first y).answer ≡ Err r → r ≡ Overturned
  -- "after a declined step the reader has not moved"
  pub not_moved : (at first : Step) {r : Refusal} → (step_of t at first y).answer ≡ Err r → step_of t at first y ≡ stays at y r
  -- "whether the walk ends there": where a step says so the reader is back at its start, dart and type
  pub back : (at first : Step) → (step_of t at first y).answer ≡ Ok 1 → (step_of t at first y).at ≡ first
