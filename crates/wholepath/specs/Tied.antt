-- What holds of the pieces of an accepted path, document 02, e: their words are small, and where the float path is accepted too, the two agree.
use Rattle.std.specs.Prelude.{ℕ, ◌≤◌, ◌<◌, ◌≡◌, List, [], ◌∷◌, ℤ, pos, nat_abs, ◌+ℤ◌, ◌*ℤ◌}
use Rattle.floatpath_pieces.specs.Exact.{Over32}
use Rattle.floatpath_pieces.specs.Path as float
use Rattle.wholepath_pieces.specs.declared.piece.Spot.{Spot}
use Rattle.wholepath_pieces.specs.Pieces.{piece_at, step_pieces, whole_form_of, spot_of}

-- nothing passes 32 bits, nor 16: a point's 65,536 and a lift's 4,096, and remainders below 2 times 99
pub record SpotNear (q : Spot) : Type 0 where
  pub x : nat_abs q.x ≤ 69632
  pub y : nat_abs q.y ≤ 69632
  pub z : nat_abs q.z ≤ 69632
  pub xrest : q.xrest < 198
  pub yrest : q.yrest < 198
  pub zrest : q.zrest < 198

-- step s gives one piece, of the form that the float path's has; each coordinate of the float path, times 32, is exactly twice the whole one plus its remainder
pub record Tied (t : List ℕ) (points lifts : List ℤ) (s : ℕ) : Type 0 where
  pub one : step_pieces t points lifts s ≡ piece_at t points lifts s 0 ∷ []
  pub form : whole_form_of (piece_at t points lifts s 0) ≡ float.form_of (float.piece_on t points lifts s)
  pub x : Over32 (pos 2 *ℤ (spot_of (piece_at t points lifts s 0)).x +ℤ pos (spot_of (piece_at t points lifts s 0)).xrest) (float.point_of (float.piece_on t points lifts s)).x
  pub y : Over32 (pos 2 *ℤ (spot_of (piece_at t points lifts s 0)).y +ℤ pos (spot_of (piece_at t points lifts s 0)).yrest) (float.point_of (float.piece_on t points lifts s)).y
  pub z : Over32 (pos 2 *ℤ (spot_of (piece_at t points lifts s 0)).z +ℤ pos (spot_of (piece_at t points lifts s 0)).zrest) (float.point_of (float.piece_on t points lifts s)).z
