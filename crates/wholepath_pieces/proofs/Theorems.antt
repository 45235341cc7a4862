-- The theorems of this crate, document 02, e. Each is proved by the law of its name.
use Rattle.std.specs.Prelude.{ℕ, ◌<◌, ◌≡◌, List, reverse, ℤ}
use Rattle.table.specs.Good.{Good}
use Rattle.table.specs.Rotation.{rotation}
use Rattle.tracing.specs.Step.{steps, mirror, back}
use Rattle.wholepath_pieces.specs.Pieces.{spots_of, step_pieces, pieces_along}
use Rattle.wholepath_pieces.specs.Placed.{SpotPlaced}
use Rattle.wholepath_pieces.proofs.laws.Placed as placed
use Rattle.wholepath_pieces.specs.laws.Back as backward

-- "at a plus (2j+1)(b-a)/(2n), rounded towards minus infinity, and the remainder, 0 to 2n-1": every coordinate of every piece
pub spot_placed : (t : List ℕ) (points lifts : List ℤ) (s i : ℕ) → i < spots_of t s → SpotPlaced t points lifts s i
spot_placed = placed.spot_placed

-- "Travelled from the second end, crossings come in falling j": the way back along an edge gives the same points in reverse order, over and under as they are
pub pieces_back : (t : List ℕ) (points lifts : List ℤ) (s : ℕ) → step_pieces t points lifts (back (rotation t) s) ≡ reverse (step_pieces t points lifts s)
pieces_back = backward.pieces_back

-- and so does the ribbon in the other sense
pub pieces_mirror : (t : List ℕ) (points lifts : List ℤ) → Good t → (s : ℕ) → s < steps → pieces_along t points lifts (mirror (rotation t) s) ≡ reverse (pieces_along t points lifts s)
pieces_mirror = backward.pieces_mirror
