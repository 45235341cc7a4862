-- A reader whose start is not on the walk of its step: it goes round that walk, and no step says that the walk ends.
--     never_ends              no step says that the walk ends
--     On, goes_on_lem, on_walk  the reader stays on the walk of its step
use Rattle.reader_tally.specs.Forward.{Tallied}
use Rattle.weave.specs.Calls.{Named}
use Prim.Native.Nat.{ℕ, zero, suc, ◌+◌, ◌*◌, ◌/◌, ◌%◌}
use native.Mathlib.Omega.{arith}
use Rattle.std.proofs.Math.Path.{◌≡◌, subst}
use Rattle.std.specs.Prelude.{refl, false, List, ◌≢◌, Ok, Err}
use Rattle.std.proofs.Common.{sym}
use Rattle.orbits.proofs.laws.Truth.{clash}
use Rattle.orbits.specs.Reach.{Reach}
use Rattle.orbits.proofs.laws.Reach.{reach_here, reach_one, reach_trans}
use Rattle.table.specs.Rotation.{rotation}
use Rattle.table.specs.laws.Lawful.{good_lawful}
use Rattle.tracing.specs.Step.{step}
use Rattle.tracing.specs.Walk.{walk}
use Rattle.tracing.specs.Listing.{has}
use Rattle.tracing.proofs.laws.Place.{trace, trace_step}
use Rattle.tracing.proofs.laws.Meets.{walk_has}
use Rattle.tracing_walks.specs.laws.Stands.{stands_low}
use Rattle.reader.specs.declared.place.Step.{Step}
use Rattle.reader_tally.specs.declared.tally.Tally.{Tally}
use Rattle.reader.specs.Reader.{begin_of, word_at, placed, stepped_by, tally_at, step_by, step_of}
use Rattle.reader.specs.Walked.{steps_from}
use Rattle.reader.specs.laws.Reader.{there_placed, begun_placed, each_step}

module _ (t : List ℕ) (at first : Step) (y : Tally) where
  abbrev On : Step → Type 0
  On s = Reach (trace (rotation t)) (word_at at) (word_at s)

  -- a step leads on along the walk, or nowhere
  goes_on_lem : (here : Step) (z : Tally) → On here → On (step_of t here first z).at
  goes_on_lem here z r = by (placed t here first) refl
    where
      tallied : (s : ℕ) → Ok s ≡ placed t here first → (m : Tallied) → On (stepped_by t here first z s m).at
      tallied s p (Err q) = r
      tallied s p (Ok w) =
          let h = there_placed p in
          let f = trace (rotation t) in
          let next = step (rotation t) s in
          let word : next ≡ 2 * (next / 2) + next % 2 = omega arith in
          let one = subst (Reach f s) (trace_step (rotation t) s (stands_low h.stands)) (reach_one s) in
          subst (Reach f (word_at at)) word (reach_trans (subst (Reach f (word_at at)) (sym h.word) r) one)

      by : (n : Named) → n ≡ placed t here first → On (step_by t here first z n).at
      by (Ok s) p = tallied s p (tally_at t first s z)
      by (Err q) p = r

  on_walk : (n : ℕ) → On (steps_from t at first y n).at
  unfolding steps_from
  on_walk zero = reach_here
  on_walk (suc n) = goes_on_lem (steps_from t at first y n).at (steps_from t at first y n).tally (on_walk n)

  pub never_ends : begin_of t at.dart at.kind ≡ Ok 0 → has (word_at first) (walk (rotation t) (word_at at)) ≡ false
      → (n : ℕ) → (steps_from t at first y n).answer ≢ Ok 1
  unfolding steps_from
  never_ends b off zero e = let z : ◌≡◌ {A = ℕ} 0 1 = cc in omega arith
  never_ends b off (suc n) e =
      let here = steps_from t at first y n in
      let start = (begun_placed t at b).stands in
      let back = (each_step t here.tally).back here.at first e in
      let r = subst On back (on_walk (suc n)) in
      clash (walk_has (rotation t) (good_lawful t start.good) (word_at at) (word_at first) (stands_low start) r) off
