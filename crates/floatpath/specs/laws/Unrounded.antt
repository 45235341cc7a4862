-- "Points lie within 65,536 either way, lifts within 4,096, so nothing is rounded": what holds of the floats of an accepted path.
--     path_unrounded    the floats of every step of an accepted path are exact
--     step_unrounded    those of a step whose words are in range
--     held_point        a piece holds the point that it is made of
use Rattle.std.specs.Prelude.{ℕ, ◌+◌, ◌*◌, ◌≡◌, refl, Bool, true, false, cond, List, eqb, ℤ, Ok, Err}
use Rattle.std.proofs.Common.{arith, sym}
use Rattle.orbits.proofs.laws.Truth.{truth, holds, fails, clash}
use Rattle.table.specs.Rotation.{rotation}
use Rattle.table.specs.laws.Output.{done_declined}
use Rattle.tracing.specs.Walk.{walk}
use Rattle.tracing.specs.Listing.{has}
use Rattle.weave.specs.Letters.{over, under}
use Rattle.weave.specs.Calls.{named_step, Named}
use Rattle.weave.proofs.laws.Calls.{there_steps}
use Rattle.weave.proofs.laws.Ribbon.{passes_some}
use Rattle.floatpath_pieces.specs.declared.piece.Point.{Point}
use Rattle.floatpath_pieces.specs.declared.piece.Piece.TheVariants.{Over, Under, Flat}
use Rattle.floatpath_pieces.specs.laws.Exact.{over32_exact}
use Rattle.floatpath_pieces.specs.Path.{first_end, second_end, lift_at, letter_of, point_at, piece_for, piece_on, point_of, far_step}
use Rattle.floatpath_pieces.specs.laws.Coordinate.{coordinate_few}
use Rattle.floatpath_pieces.specs.laws.Pieces.{near_step}
use Rattle.floatpath.specs.PathCall.{path_by, path_answer}
use Rattle.floatpath.specs.laws.PathCall.{along_room}
use Rattle.floatpath.specs.Unrounded.{Unrounded}

held_point : (letter : ℕ) (p : Point) → point_of (piece_for letter p) ≡ p
unfolding piece_for
held_point letter p = by (eqb letter over) (eqb letter under)
  where
    by : (a b : Bool) → point_of (cond a (Over p) (cond b (Under p) (Flat p))) ≡ p
    by true b = refl
    by false true = refl
    by false false = refl

step_unrounded : (t : List ℕ) (points lifts : List ℤ) (s : ℕ) → far_step t points lifts s ≡ false → Unrounded t points lifts s
unfolding piece_on point_at
step_unrounded t points lifts s e =
    let n = near_step t points lifts s e in
    let l = letter_of t s in
    let point = held_point l (point_at l points lifts (first_end t s) (second_end t s) (lift_at s)) in
    record {
      x = rw point (over32_exact _ (let few = coordinate_few l n.near_x in omega arith));
      y = rw point (over32_exact _ (let few = coordinate_few l n.near_y in omega arith));
      z = rw point (over32_exact _ (let few = coordinate_few l n.near_z in omega arith));
    }

-- of every step of a ribbon whose path is accepted
pub path_unrounded : (t : List ℕ) (d k : ℕ) (points lifts : List ℤ) (m c n : ℕ) → path_answer t d k points lifts m c ≡ Ok n
    → (s : ℕ) → has s (walk (rotation t) (2 * d + k)) ≡ true → Unrounded t points lifts s
path_unrounded t d k points lifts m c n a s h = by (named_step t d k) refl a
  where
    by : (named : Named) → named ≡ named_step t d k → path_by t points lifts m c named ≡ Ok n → Unrounded t points lifts s
    by (Err r) e f = absurd (done_declined f)
    by (Ok start) e f =
        let steps = there_steps t d k e in
        let room = along_room steps.stands points lifts m c (sym f) in
        elim (truth (far_step t points lifts s)) [
          | holds g ↦ absurd (clash (passes_some (far_step t points lifts) (walk (rotation t) start) s (rw steps.word h) g) room.near)
          | fails g ↦ step_unrounded t points lifts s g
        ]
