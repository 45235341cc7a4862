-- A reader over one whole walk: it hands out the walk's steps, says at the last of them that the walk ends, and is then where it began;
-- a tally begun at zeros holds the ribbon's numbers.
--     reader_walks                            a reader that can be made goes over the whole walk
--     tally_cut                               the tally's length is then what the call for the cut length answers
--     one_step                                one step that is not declined
--     Reads, reads_none, reads_more, reads    what n steps have come to: the place, the tally, the steps handed out
--     lapped, tallied                         the lap once the walk is over; the tally of the first n steps
--     letters_before, before_suc              their letters; those of one step more
--     end_at                                  the step says that the walk ends exactly at the walk's end
use Prim.Native.Nat.{ℕ, zero, suc, ◌+◌, ◌*◌, ◌/◌, ◌%◌, ◌<◌, ◌≤◌}
use native.Mathlib.Omega.{arith}
use Rattle.std.proofs.Math.Decide.{ℕ_discrete}
use Rattle.std.specs.Prelude.{◌≡◌, refl, List, [], ◌∷◌, ◌++◌, eqb, Ok}
use Rattle.std.proofs.Math.Path.{sym, ap, ap₂}
use Rattle.std.proofs.Common.{◌∙◌, lt-ltb, eq-eqb, ne_eqb}
use Rattle.std.proofs.Math.Bool.{true}
use Rattle.std.proofs.Math.ListN.{length}
use Rattle.orbits.specs.Iterate.{iter}
use Rattle.orbits.proofs.laws.Iterate.{iter_suc, iter_keeps, Period}
use Rattle.table.specs.Rotation.{rotation, live?}
use Rattle.table.specs.laws.Rotation.{live_yes}
use Rattle.table.specs.laws.Lawful.{good_lawful}
use Rattle.table.specs.laws.Check.{good_yes}
use Rattle.tracing.specs.Step.{step, steps}
use Rattle.tracing.specs.Walk.{walk}
use Rattle.tracing.proofs.laws.Walk.{iterates, run_suc, run_length, walk_run, walk_period, walk_period_le}
use Rattle.tracing.specs.Listing.{gather, bit}
use Rattle.tracing.proofs.laws.Listing.{gather_one, gather_append}
use Rattle.tracing.proofs.laws.Totals.{total_last}
use Rattle.tracing_walks.specs.laws.Stands.{Stands, stands_low, stands_step}
use Rattle.weave.specs.Letters.{over, under, step_letters, letters}
use Rattle.weave_letters.specs.laws.Counts.{letters_few}
use Rattle.weave.specs.Ribbon.{some}
use Rattle.weave.specs.Calls.{named_step}
use Rattle.weave.proofs.laws.Calls.{there_steps}
use Rattle.lengths.specs.CutLength.{taken_by, lap, cut_length_by, cut_length_of}
use Rattle.lengths.specs.laws.Summing.{cut_total, taken_before, taken_most, taken_most_lem}
use Rattle.reader.specs.declared.place.Step.{Step}
use Rattle.reader_tally.specs.declared.tally.Tally.{Tally}
use Rattle.tracing.specs.Met.{times, count_in, total}
use Rattle.tracing.proofs.laws.Has.{count_in_append}
use Rattle.reader_tally.specs.Forward.{past32, fits32, forward_of, lap_at, step_tally, tally_of}
use Rattle.reader_tally.proofs.laws.Forward.{lap_most}
use Rattle.reader.specs.Reader.{begin_of, word_at, step_at, ends_at, moved_to, step_by, step_of}
use Rattle.reader.specs.laws.Reader.{in_range, placed_there, begun_named, begun_placed}
use Rattle.reader.specs.Walked.{steps_from, after_steps, handed, Walked}

-- the letters of the first n steps from s
abbrev letters_before : List ℕ → ℕ → ℕ → List ℕ
letters_before t s n = gather (step_letters t) (iterates (step (rotation t)) s n)

before_suc : (t : List ℕ) (s n : ℕ) → letters_before t s (suc n) ≡ letters_before t s n ++ step_letters t (iter (step (rotation t)) n s)
before_suc t s n =
    let f = step (rotation t) in
    rw (run_suc f s n, gather_append (step_letters t) (iterates f s n) (iter f n s ∷ []), gather_one (step_letters t) (iter f n s))

module _ (t : List ℕ) (first : Step) (start : Stands t (word_at first)) (type : first.kind < 2)
    (p : Period (step (rotation t)) (word_at first)) (few : p.steps ≤ steps)
    (all : walk (rotation t) (word_at first) ≡ iterates (step (rotation t)) (word_at first) p.steps) where
  abbrev s : ℕ
  s = word_at first

  abbrev f : ℕ → ℕ
  f = step (rotation t)

  -- one step that is not declined
  one_step : (x : ℕ) (y : Tally) → Stands t x → fits32 (step_tally t x (ends_at (f x) first) y) ≡ true
      → step_of t (step_at x) first y ≡ moved_to (f x) first (step_tally t x (ends_at (f x) first) y)
  unfolding tally_of forward_of
  one_step x y h fits =
      let half : s / 2 ≡ first.dart = omega arith in
      let begun : live? t first.dart ≡ true = rw half at start.live in
      let here = in_range (x / 2) (x % 2) (live_yes t (x / 2) h.live).low (omega arith) in
      let there = placed_there t (step_at x) first (sym (good_yes t h.good)) here (in_range first.dart first.kind (live_yes t first.dart begun).low (omega arith)) h.live begun in
      let word : 2 * (x / 2) + x % 2 ≡ x = omega arith in
      ap (step_by t (step_at x) first y) (sym there ∙ ap Ok word) ∙ rw fits

  -- the lap, once n steps have been all of the walk's
  abbrev lapped : ℕ → ℕ
  lapped n = lap_at (eqb n p.steps)

  -- the tally of the first n steps of the walk
  abbrev tallied : ℕ → Tally
  tallied n = record {
    steps = n;
    overs = times over (letters_before t s n);
    unders = times under (letters_before t s n);
    length = taken_before t s n + lapped n;
  }

  -- what n steps have come to, none of them past the walk's last
  record Reads (n : ℕ) : Type 0 where
    at : (after_steps t first n).at ≡ step_at (iter f n s)
    tally : (after_steps t first n).tally ≡ tallied n
    steps : handed t first n ≡ iterates f s n
    overs : times over (letters_before t s n) ≤ 99 * n
    unders : times under (letters_before t s n) ≤ 99 * n
    length : taken_before t s n ≤ taken_most * n

  first_at : first ≡ step_at s
  first_at = ap₂ pair (omega arith) (omega arith)
    where
      pair : ℕ → ℕ → Step
      pair d k = record { dart = d; kind = k }

  not_yet : (n : ℕ) → n < p.steps → lapped n ≡ 0
  not_yet n h = ap lap_at (ne_eqb n p.steps (λ e. omega arith))

  reads_none : Reads zero
  unfolding steps_from handed iterates gather count_in total iter
  reads_none = let none = not_yet zero p.some in record {
    at = first_at;
    tally = ap (λ l. record { steps = 0; overs = 0; unders = 0; length = l }) (omega arith);
    steps = refl;
    overs = omega arith;
    unders = omega arith;
    length = omega arith;
  }

  -- the step after leads back exactly at the walk's end
  end_at : (n : ℕ) → n < p.steps → ends_at (f (iter f n s)) first ≡ eqb (suc n) p.steps
  end_at n h = elim (ℕ_discrete (suc n) p.steps) [
    | yes e ↦ eq-eqb (f (iter f n s)) s (sym (iter_suc f n s) ∙ ap (λ j. iter f j s) e ∙ p.back) ∙ sym (eq-eqb (suc n) p.steps e)
    | no e ↦ ne_eqb (f (iter f n s)) s (λ b. p.least (suc n) (omega arith) (omega arith) (iter_suc f n s ∙ b)) ∙ sym (ne_eqb (suc n) p.steps e)
  ]

  module _ (n : ℕ) (k : Reads n) (low : n < p.steps) where
    abbrev x : ℕ
    x = iter f n s

    there : Stands t x
    there = iter_keeps (Stands t) f (λ i h. stands_step h) n s start

    times_suc : (l : ℕ) → times l (letters_before t s (suc n)) ≡ times l (letters_before t s n) + times l (step_letters t x)
    times_suc l = ap (times l) (before_suc t s n) ∙ count_in_append (λ y. eqb l y) (letters_before t s n) (step_letters t x)

    length_suc : taken_before t s n + lapped n + (taken_by t x + lapped (suc n)) ≡ taken_before t s (suc n) + lapped (suc n)
    length_suc = let taken = total_last f s (taken_by t) n in let none = not_yet n low in omega arith

    tally_suc : step_tally t x (eqb (suc n) p.steps) (tallied n) ≡ tallied (suc n)
    tally_suc =
        let one : n + 1 ≡ suc n = omega arith in
        (λ i. record { steps = one i; overs = sym (times_suc over) i; unders = sym (times_suc under) i; length = length_suc i })

    tally_fits : fits32 (step_tally t x (eqb (suc n) p.steps) (tallied n)) ≡ true
    tally_fits =
        let letters = letters_few there in
        let o = letters.0 in
        let u = letters.1 in
        let l = taken_most_lem there in
        let overs = k.overs in
        let unders = k.unders in
        let length = k.length in
        let lap = lap_most (eqb (suc n) p.steps) in
        let none = not_yet n low in
        rw (
          lt-ltb (n + 1) past32 (omega arith),
          lt-ltb (times over (letters_before t s n) + times over (step_letters t x)) past32 (omega arith),
          lt-ltb (times under (letters_before t s n) + times under (step_letters t x)) past32 (omega arith),
          lt-ltb (taken_before t s n + lapped n + (taken_by t x + lapped (suc n))) past32 (omega arith),
        )

    -- one step more is not declined
    reads_step : after_steps t first (suc n) ≡ moved_to (f x) first (tallied (suc n))
    unfolding steps_from
    reads_step =
        let last = end_at n low in
        ap₂ (λ a y. step_of t a first y) k.at k.tally
        ∙ one_step x (tallied n) there (ap (λ b. fits32 (step_tally t x b (tallied n))) last ∙ tally_fits)
        ∙ ap (λ b. moved_to (f x) first (step_tally t x b (tallied n))) last
        ∙ ap (moved_to (f x) first) tally_suc

    reads_more : Reads (suc n)
    unfolding handed
    reads_more =
        let letters = letters_few there in
        let o = letters.0 in
        let u = letters.1 in
        let l = taken_most_lem there in
        let overs = k.overs in
        let unders = k.unders in
        let length = k.length in
        let overs-suc = times_suc over in
        let unders-suc = times_suc under in
        let taken = total_last f s (taken_by t) n in
        let word : word_at (step_at x) ≡ x = omega arith in
        record {
          at = ap (λ r. r.at) reads_step ∙ ap step_at (sym (iter_suc f n s));
          tally = ap (λ r. r.tally) reads_step;
          steps = ap₂ (λ a b. a ++ (b ∷ [])) k.steps (ap word_at k.at ∙ word) ∙ sym (run_suc f s n);
          overs = omega arith;
          unders = omega arith;
          length = omega arith;
        }

  reads : (n : ℕ) → n ≤ p.steps → Reads n
  reads zero h = reads_none
  reads (suc n) h = reads_more n (reads n (omega arith)) (omega arith)

  walked : Walked t first
  unfolding letters
  walked =
      let size_is : length (walk (rotation t) s) ≡ p.steps = ap length all ∙ run_length f s p.steps in
      let last = reads p.steps (omega arith) in
      let lap-is : lapped p.steps ≡ lap = ap lap_at (eq-eqb p.steps p.steps refl) in
      record {
        steps = rw size_is (last.steps ∙ sym all);
        ends = λ n h.
            let l : n < p.steps = omega arith in
            rw size_is
            (ap (λ r. r.answer) (reads_step n (reads n (omega arith)) l) ∙ ap (λ b. Ok (bit b)) (end_at n l));
        again = rw size_is (last.at ∙ ap step_at p.back ∙ sym first_at);
        tally = rw (size_is, cut_total t s, all) (rw lap-is at last.tally);
      }

-- a step that a reader can be made at
begun_there : (t : List ℕ) (s : Step) → begin_of t s.dart s.kind ≡ Ok 0 → named_step t s.dart s.kind ≡ Ok (word_at s)
begun_there t s b =
    let n = begun_named (named_step t s.dart s.kind) b in
    sym n.1 ∙ ap Ok (there_steps t s.dart s.kind n.1).word

-- a reader that can be made
pub reader_walks : (t : List ℕ) (first : Step) → begin_of t first.dart first.kind ≡ Ok 0 → Walked t first
reader_walks t first b =
    let h = begun_placed t first b in
    let start = h.stands in
    let R = rotation t in
    let L = good_lawful t start.good in
    let low = stands_low start in
    let p = walk_period R L (word_at first) low in
    let few = walk_period_le R L (word_at first) low p in
    walked t first start h.first_type p few (walk_run R (word_at first) p few)

-- and the call for the cut length answers what the tally then has
pub tally_cut : (t : List ℕ) (first : Step) → begin_of t first.dart first.kind ≡ Ok 0
    → cut_length_of t first.dart first.kind ≡ Ok (after_steps t first (length (walk (rotation t) (word_at first)))).tally.length
tally_cut t first b =
    let there = begun_there t first b in
    let tally = (reader_walks t first b).tally in
    ap (cut_length_by t) there ∙ ap (λ y. Ok y.length) (sym tally)
