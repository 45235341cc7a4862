-- The theorem of this crate, document 01, "so nothing is rounded", proved by the law of its name.
use Rattle.std.specs.Prelude.{ℕ, ◌+◌, ◌*◌, ℤ, ◌≡◌, true, List, Ok}
use Rattle.table.specs.Rotation.{rotation}
use Rattle.tracing.specs.Walk.{walk}
use Rattle.tracing.specs.Listing.{has}
use Rattle.floatpath.specs.PathCall.{path_answer}
use Rattle.floatpath.specs.Unrounded.{Unrounded}
use Rattle.floatpath.specs.laws.Unrounded as unrounded

-- of every step of a ribbon whose path is accepted
pub path_unrounded : (t : List ℕ) (d k : ℕ) (points lifts : List ℤ) (m c n : ℕ) → path_answer t d k points lifts m c ≡ Ok n → (s : ℕ)
    → has s (walk (rotation t) (2 * d + k)) ≡ true → Unrounded t points lifts s
path_unrounded = unrounded.path_unrounded
