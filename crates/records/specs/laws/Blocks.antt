-- Why the job program may read its input in blocks: what it prints for a block and then for the bytes that are left is what it prints for all.
--     left_none, left_some, left_few    the bytes left of a block: none after a bad mark; fewer than the longest record
--     reading_left, left_again          they are read again, before those that come
--     lines_blocks, run_blocks          the lines and the table are those of all bytes
--     printed_bad, run_bad              after a bad mark nothing is read
use Rattle.std.specs.Prelude.{ℕ, ◌+◌, ◌<◌, ◌≡◌, List, [], ◌++◌, true, false, length, drop}
use Rattle.std.proofs.Common.{arith, sym, ◌∙◌, length-drop, drop-drop}
use Rattle.std.proofs.Math.Path.{ap}
use Rattle.orbits.proofs.laws.Truth.{truth, holds, fails}
use Rattle.std.proofs.lemmas.List.{drop-append-le}
use Rattle.runs.specs.Run.{run}
use Rattle.runs.proofs.laws.Run.{run_append}
use Rattle.records.specs.Records.{longest_record}
use Rattle.records.specs.Reading.{reading, reads_on}
use Rattle.records.specs.laws.Reading.{joined, reading_blocks, reading_bad, reading_bounds}
use Rattle.records.specs.Lines.{lines}
use Rattle.records.specs.laws.Lines.{lines_append}
use Rattle.records.specs.Blocks.{printed_by, printed, left}

pub left_none : (s : List ℕ) → reads_on (reading s).stop ≡ false → left s ≡ []
unfolding left
left_none s e = rw e

pub left_some : (s : List ℕ) → reads_on (reading s).stop ≡ true → left s ≡ drop (reading s).taken s
unfolding left
left_some s e = rw e

-- fewer bytes than the longest record has
pub left_few : (s : List ℕ) → length (left s) < longest_record
left_few s = elim (truth (reads_on (reading s).stop)) [
  | holds e ↦ let rest = (reading_bounds s).rest e in rw (left_some s e, length-drop (reading s).taken s) rest
  | fails e ↦ rw (left_none s e) (omega arith)
]

pub reading_left : (a b : List ℕ) → reads_on (reading a).stop ≡ true → reading (a ++ b) ≡ joined (reading a) (reading (left a ++ b))
reading_left a b h = reading_blocks a b h ∙ ap (λ l. joined (reading a) (reading (l ++ b))) (sym (left_some a h))

-- what is left of all is what is left of the bytes that were left and those that came
pub left_again : (a b : List ℕ) → reads_on (reading a).stop ≡ true → left (a ++ b) ≡ left (left a ++ b)
left_again a b h =
    let same : reading (a ++ b) ≡ joined (reading a) (reading (left a ++ b)) = reading_left a b h in
    let stops : reads_on (reading (a ++ b)).stop ≡ reads_on (reading (left a ++ b)).stop = ap (λ r. reads_on r.stop) same in
    elim (truth (reads_on (reading (left a ++ b)).stop)) [
      | holds e ↦
          left_some (a ++ b) (stops ∙ e)
          ∙ ap (λ r. drop r.taken (a ++ b)) same
          ∙ sym (drop-drop (reading (left a ++ b)).taken (reading a).taken (a ++ b))
          ∙ ap (drop (reading (left a ++ b)).taken) (drop-append-le (reading a).taken a b (reading_bounds a).within ∙ ap (λ l. l ++ b) (sym (left_some a h)))
          ∙ sym (left_some (left a ++ b) e)
      | fails e ↦ left_none (a ++ b) (stops ∙ e) ∙ sym (left_none (left a ++ b) e)
    ]

-- a block `a`, and what comes after it
module _ (t : List ℕ) (n : ℕ) (a b : List ℕ) where
  -- the bytes of the block that are left are read again, before those that come
  module _ (h : reads_on (reading a).stop ≡ true) where
    pub lines_blocks : lines t n (reading (a ++ b)).edits
        ≡ lines t n (reading a).edits ++ lines (run t (reading a).edits) (n + length (reading a).edits) (reading (left a ++ b)).edits
    lines_blocks = ap (λ r. lines t n r.edits) (reading_left a b h) ∙ lines_append t n (reading a).edits (reading (left a ++ b)).edits

    pub run_blocks : run t (reading (a ++ b)).edits ≡ run (run t (reading a).edits) (reading (left a ++ b)).edits
    run_blocks = ap (λ r. run t r.edits) (reading_left a b h) ∙ run_append t (reading a).edits (reading (left a ++ b)).edits

  -- after a bad mark nothing is read
  module _ (h : reads_on (reading a).stop ≡ false) where
    pub printed_bad : printed t n (a ++ b) ≡ printed t n a
    unfolding printed
    printed_bad = ap (printed_by t n) (reading_bad a b h)

    pub run_bad : run t (reading (a ++ b)).edits ≡ run t (reading a).edits
    run_bad = ap (λ r. run t r.edits) (reading_bad a b h)
