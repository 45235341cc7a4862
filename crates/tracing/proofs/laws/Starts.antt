-- The starts of the listed walks: which darts they are, and how many of them pass a test.
--     start?                                  is dart d the start of a listed walk
--     starts_more, start_live, start_unmet    one dart more; a start is live, and no walk before meets its corner
--     StartBelow, has_start, start_has        the starts below n are those darts
--     starts_most                             there are at most as many starts as darts
--     starts_count, alones_count              how many starts, how many isolated vertices pass a test
--     only_few, only_has, one_more            at most one member is listed by a test, that one, and if the test holds
--     lone_there                              a listed isolated vertex is one
use Prim.Native.Nat.{ℕ, zero, suc, ◌+◌, ◌<◌, ◌≤◌}
use native.Mathlib.Omega.{arith}
use Rattle.std.proofs.Math.Decide.{ℕ_discrete}
use Rattle.std.specs.Prelude.{◌≡◌, Bool, ◌&&◌, [], ◌∷◌, ◌++◌, length}
use Rattle.std.proofs.Math.Path.{refl}
use Rattle.std.proofs.Common.{◌∙◌, ap, length-append}
use Rattle.std.proofs.Math.Bool.{true, false, not}
use Rattle.table.specs.Rotation.{Rotation}
use Rattle.orbits.proofs.laws.Truth.{truth, holds, fails, clash, both_left, both_right}
use Rattle.orbits.specs.Count.{count, more_if}
use Rattle.tracing.specs.Listing.{has, met_by, only, fresh, starts, lone, alones}
use Rattle.tracing.proofs.laws.Listing.{has_here, fresh_dead, fresh_met, fresh_start, starts_zero, starts_suc, alones_zero, alones_suc}
use Rattle.tracing.proofs.laws.Has.{has_empty, has_parts, left, right, has_left, has_right, has_cons, here, later, count_in_append}
use Rattle.tracing.specs.Met.{count_in}

-- is dart d the start of a listed walk
unfoldable pub start? : Rotation → ℕ → Bool
start? R d = R.live d && not (has d (met_by R (starts R d)))

module _ (R : Rotation) where
  fresh_only : (d : ℕ) → fresh R (starts R d) d ≡ only (start? R d) d
  unfolding start?
  fresh_only d = elim (truth (R.live d)) [
    | fails l ↦ rw l (fresh_dead R (starts R d) d l)
    | holds l ↦ elim (truth (has d (met_by R (starts R d)))) [
      | holds m ↦ rw (l, m) (fresh_met R (starts R d) d m)
      | fails m ↦ rw (l, m) (fresh_start R (starts R d) d l m)
    ]
  ]

  pub starts_more : (d : ℕ) → starts R (suc d) ≡ starts R d ++ only (start? R d) d
  starts_more d = starts_suc R d ∙ ap (λ l. starts R d ++ l) (fresh_only d)

  pub start_live : (d : ℕ) → start? R d ≡ true → R.live d ≡ true
  unfolding start?
  start_live d e = both_left (R.live d) (not (has d (met_by R (starts R d)))) e

  pub start_unmet : (d : ℕ) → start? R d ≡ true → has d (met_by R (starts R d)) ≡ false
  unfolding start?
  start_unmet d e = elim (truth (has d (met_by R (starts R d)))) [
    | fails m ↦ m
    | holds m ↦ absurd (clash (both_right (R.live d) (not (has d (met_by R (starts R d)))) e) (ap not m))
  ]

-- the starts below n
pub record StartBelow (R : Rotation) (n d : ℕ) : Type 0 where
  pub low : d < n
  pub start : start? R d ≡ true

pub only_few : (b : Bool) (x : ℕ) → length (only b x) ≤ 1
only_few true x = omega arith
only_few false x = omega arith

pub only_has : (b : Bool) (x c : ℕ) → has c (only b x) ≡ true → (c ≡ x) × (b ≡ true)
only_has true x c e = elim (has_cons c x [] e) [
  | here q ↦ (q, refl)
  | later h ↦ absurd (has_empty c h)
]
only_has false x c e = absurd (has_empty c e)

module _ (R : Rotation) where
  pub has_start : (n d : ℕ) → has d (starts R n) ≡ true → StartBelow R n d
  has_start zero d e = absurd (has_empty d (rw (starts_zero R) at e))
  has_start (suc n) d e = elim (has_parts d (starts R n) (only (start? R n) n) (rw (starts_more R n) at e)) [
    | left h ↦
        let s = has_start n d h in
        let low = s.low in
        record { low = omega arith; start = s.start }
    | right h ↦
        let o = only_has (start? R n) n d h in
        let q = o.0 in
        record { low = omega arith; start = rw q o.1 }
  ]

  pub start_has : (n d : ℕ) → d < n → start? R d ≡ true → has d (starts R n) ≡ true
  start_has zero d h e = absurd (omega arith)
  start_has (suc n) d h e = elim (ℕ_discrete d n) [
    | yes q ↦
        let here : start? R n ≡ true = rw q at e in
        rw (starts_more R n, here, q) (has_right n (starts R n) (n ∷ []) (has_here n []))
    | no q ↦ rw (starts_more R n) (has_left d (starts R n) (only (start? R n) n) (start_has n d (omega arith) e))
  ]

  pub one_more : (q : ℕ → Bool) (b : Bool) (x k : ℕ) → k + count_in q (only b x) ≡ more_if (b && q x) k
  unfolding count_in
  one_more q true x k = bit (q x)
    where
      bit : (t : Bool) → k + more_if t 0 ≡ more_if t k
      bit true = omega arith
      bit false = omega arith
  one_more q false x k = omega arith

  pub starts_count : (q : ℕ → Bool) (n : ℕ) → count_in q (starts R n) ≡ count (λ d. start? R d && q d) n
  unfolding count count_in starts
  starts_count q zero = refl
  starts_count q (suc n) =
      rw (starts_more R n, count_in_append q (starts R n) (only (start? R n) n), starts_count q n) (one_more q (start? R n) n (count (λ d. start? R d && q d) n))

  pub starts_most : (n : ℕ) → length (starts R n) ≤ n
  starts_most zero = rw (starts_zero R) (omega arith)
  starts_most (suc n) = let r = starts_most n in let one = only_few (start? R n) n in rw (starts_more R n, length-append) (omega arith)

  pub alones_count : (q : ℕ → Bool) (n : ℕ) → count_in q (alones R n) ≡ count (λ v. R.alone v && q v) n
  unfolding count count_in alones lone
  alones_count q zero = refl
  alones_count q (suc n) =
      rw (count_in_append q (alones R n) (only (R.alone n) n), alones_count q n) (one_more q (R.alone n) n (count (λ v. R.alone v && q v) n))

  pub lone_there : (n v : ℕ) → has v (alones R n) ≡ true → R.alone v ≡ true
  unfolding lone
  lone_there zero v e = absurd (has_empty v (rw (alones_zero R) at e))
  lone_there (suc n) v e = elim (has_parts v (alones R n) (only (R.alone n) n) (rw (alones_suc R n) at e)) [
    | left h ↦ lone_there n v h
    | right h ↦ let o = only_has (R.alone n) n v h in rw o.0 o.1
  ]
