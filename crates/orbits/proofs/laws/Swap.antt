-- Two numbers exchanged.
--     Position, position                     where a number stands: at x, at y or at neither
--     tr_left, tr_right, tr_off              x goes to y, y to x, and each other number to itself
--     tr_twice, tr_inj, tr_swap, tr_keeps    the exchange undoes itself; x and y may change places
use Rattle.std.specs.Prelude.{◌≡◌, refl, ◌≢◌, ℕ}
use Rattle.std.proofs.Common.{sym, ◌∙◌, ap, eq-eqb, ne_eqb}
use Rattle.std.proofs.Math.Decide.{ℕ_discrete}
use Rattle.orbits.specs.Exchange.{tr}

-- where i stands
pub data Position (x y i : ℕ) : Type 0 where
  at_left : i ≡ x → Position x y i
  at_right : i ≡ y → Position x y i
  off : i ≢ x → i ≢ y → Position x y i

pub position : (x y i : ℕ) → Position x y i
position x y i = elim (ℕ_discrete i x) [
  | yes e ↦ at_left e
  | no d ↦ elim (ℕ_discrete i y) [ yes e ↦ at_right e | no g ↦ off d g ]
]

pub tr_left : (x y : ℕ) → tr x y x ≡ y
unfolding tr
tr_left x y = rw (eq-eqb x x refl)

pub tr_off : (x y i : ℕ) → i ≢ x → i ≢ y → tr x y i ≡ i
unfolding tr
tr_off x y i d e = rw (ne_eqb i x d, ne_eqb i y e)

pub tr_right : (x y : ℕ) → tr x y y ≡ x
unfolding tr
tr_right x y = elim (ℕ_discrete y x) [
  | yes e ↦ rw e (tr_left x x)
  | no d ↦ rw (ne_eqb y x d, eq-eqb y y refl)
]

pub tr_twice : (x y i : ℕ) → tr x y (tr x y i) ≡ i
tr_twice x y i = elim (position x y i) [
  | at_left e ↦ rw (e, tr_left x y, tr_right x y)
  | at_right e ↦ rw (e, tr_right x y, tr_left x y)
  | off d e ↦ rw (tr_off x y i d e, tr_off x y i d e)
]

pub tr_inj : (x y i j : ℕ) → tr x y i ≡ tr x y j → i ≡ j
tr_inj x y i j e = sym (tr_twice x y i) ∙ ap (tr x y) e ∙ tr_twice x y j

pub tr_swap : (x y i : ℕ) → tr x y i ≡ tr y x i
tr_swap x y i = elim (position x y i) [
  | at_left e ↦ rw (e, tr_left x y, tr_right y x)
  | at_right e ↦ rw (e, tr_right x y, tr_left y x)
  | off d e ↦ rw (tr_off x y i d e, tr_off y x i e d)
]

pub tr_keeps : (P : ℕ → Type 0) (x y i : ℕ) → P x → P y → P i → P (tr x y i)
tr_keeps P x y i p q r = elim (position x y i) [
  | at_left e ↦ rw (e, tr_left x y) q
  | at_right e ↦ rw (e, tr_right x y) p
  | off d e ↦ rw (tr_off x y i d e) r
]
