-- A loop over the steps of a walk: those that it has gone over, and those that are left.
--     Along                                  together they are the walk
--     along_none, along_more, along_all      it begins, goes on, ends
--     along_has, along_stands                the step that comes next is one of the walk, and stands on a live dart
--     along_few, along_low                   fewer were gone over than it has, and than there are step words
--     walk_stands, walk_most                 every step of a walk stands on a live dart; it has no more steps than there are step words
use Rattle.std.specs.Prelude.{ℕ, ◌<◌, ◌≤◌, ◌≡◌, true, List, [], ◌∷◌, ◌++◌, length}
use Rattle.std.proofs.Common.{arith, sym, ◌∙◌, subst, append-nil, append_assoc, length-append}
use Rattle.table.specs.Rotation.{rotation}
use Rattle.table.specs.laws.Lawful.{good_lawful}
use Rattle.orbits.proofs.laws.Iterate.{iter_keeps}
use Rattle.tracing.specs.Step.{steps, step}
use Rattle.tracing.specs.Walk.{walk}
use Rattle.tracing.proofs.laws.Walk.{walk_run, walk_period, walk_period_le, run_length}
use Rattle.tracing.specs.Listing.{has}
use Rattle.tracing.proofs.laws.Listing.{has_here}
use Rattle.tracing.proofs.laws.Has.{has_right}
use Rattle.tracing.proofs.laws.Meets.{has_walk, trace_reach}
use Rattle.tracing_walks.specs.laws.Stands.{Stands, stands_step, stands_low}

-- every step of a walk stands on a live dart
pub walk_stands : {t : List ℕ} {s x : ℕ} → Stands t s → has x (walk (rotation t) s) ≡ true → Stands t x
walk_stands {t} {s} {x} h e =
    let R = rotation t in
    let L = good_lawful t h.good in
    let low = stands_low h in
    let r = (trace_reach R L low (has_walk R L s x low e)).reach in
    subst (Stands t) r.lands (iter_keeps (Stands t) (step R) (λ i k. stands_step k) r.steps s h)

pub walk_most : {t : List ℕ} {s : ℕ} → Stands t s → length (walk (rotation t) s) ≤ steps
walk_most {t} {s} h =
    let R = rotation t in
    let L = good_lawful t h.good in
    let p = walk_period R L s (stands_low h) in
    let le = walk_period_le R L s (stands_low h) p in
    rw (walk_run R s p le, run_length (step R) s p.steps) le

pub record Along (t : List ℕ) (s : ℕ) (gone left : List ℕ) : Type 0 where
  pub start : Stands t s
  pub whole : walk (rotation t) s ≡ gone ++ left

pub along_none : {t : List ℕ} {s : ℕ} {left : List ℕ} → Stands t s → left ≡ walk (rotation t) s → Along t s [] left
along_none h e = record { start = h; whole = sym e }

module _ {t : List ℕ} {s : ℕ} {gone left : List ℕ} (a : Along t s gone left) where
  pub along_all : left ≡ [] → gone ≡ walk (rotation t) s
  along_all e = sym (a.whole ∙ rw e (append-nil gone))

  module _ {at : ℕ} {left' : List ℕ} (e : left ≡ at ∷ left') where
    pub along_more : Along t s (gone ++ at ∷ []) left'
    along_more = record { start = a.start; whole = a.whole ∙ rw e (sym (append_assoc gone (at ∷ []) left')) }

    pub along_has : has at (walk (rotation t) s) ≡ true
    along_has = rw (a.whole, e) (has_right at gone (at ∷ left') (has_here at left'))

    pub along_stands : Stands t at
    along_stands = walk_stands a.start along_has

    pub along_few : length gone < length (walk (rotation t) s)
    along_few = rw (a.whole, e, length-append) (omega arith)

    pub along_low : length gone < steps
    along_low = let few = along_few in let most = walk_most a.start in omega arith
