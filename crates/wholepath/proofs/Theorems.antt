-- The theorems of this crate, document 02, e. Each is proved by the law of its name.
use Rattle.std.specs.Prelude.{ℕ, ◌+◌, ◌*◌, ◌≤◌, ◌<◌, ◌≡◌, true, List, ◌≢◌, ℤ, Ok, Err}
use Rattle.table.specs.Rotation.{rotation}
use Rattle.table.specs.declared.answer.Refusal.TheVariants.{ManyTurns}
use Rattle.tracing.specs.Listing.{has}
use Rattle.tracing.specs.Met.{total}
use Rattle.tracing.specs.Step.{mirror}
use Rattle.tracing.specs.Walk.{walk}
use Rattle.weave.specs.Calls.{named_step}
use Rattle.floatpath.specs.PathCall.{path_answer}
use Rattle.wholepath_pieces.specs.Pieces.{spots_of, piece_at, spot_of}
use Rattle.wholepath.specs.WholePath.{whole_answer}
use Rattle.wholepath.specs.Tied.{SpotNear, Tied}
use Rattle.wholepath.proofs.laws.Tied as tied
use Rattle.wholepath.proofs.laws.Sense as sense

-- "one per crossing or flat edge, then Close", and how many there can be
pub whole_count : (t : List ℕ) (d y : ℕ) (points lifts : List ℤ) (k c r n : ℕ) → whole_answer t d y points lifts k c r ≡ Ok n
    → (n ≡ total (spots_of t) (walk (rotation t) (2 * d + y)) + 1) × (n ≤ 202753)
whole_count = tied.whole_count

-- nothing of an accepted path passes 32 bits, nor a remainder 16
pub whole_near : (t : List ℕ) (d y : ℕ) (points lifts : List ℤ) (k c r n : ℕ) → whole_answer t d y points lifts k c r ≡ Ok n
    → (s i : ℕ) → has s (walk (rotation t) (2 * d + y)) ≡ true → i < spots_of t s → SpotNear (spot_of (piece_at t points lifts s i))
whole_near = tied.whole_near

-- what is answered, refusals too, is the same of two names of one ribbon, and of two names of its face, one in each sense
pub whole_named : (t : List ℕ) (points lifts : List ℤ) (d y d' y' : ℕ) {s x : ℕ} → named_step t d y ≡ Ok s → named_step t d' y' ≡ Ok x → (k c r : ℕ)
    → has x (walk (rotation t) s) ≡ true → whole_answer t d y points lifts k c r ≡ whole_answer t d' y' points lifts k c r
whole_named = sense.whole_named

pub whole_mirror : (t : List ℕ) (points lifts : List ℤ) (d y d' y' : ℕ) {s x : ℕ} → named_step t d y ≡ Ok s → named_step t d' y' ≡ Ok x → (k c r : ℕ)
    → x ≡ mirror (rotation t) s → whole_answer t d y points lifts k c r ≡ whole_answer t d' y' points lifts k c r
whole_mirror = sense.whole_mirror

-- "never with 8"
pub never_eight : (t : List ℕ) (d y : ℕ) (points lifts : List ℤ) (k c r : ℕ) → whole_answer t d y points lifts k c r ≢ Err ManyTurns
never_eight = tied.never_eight

-- "The float path and its 8 are untouched": where it is accepted, the whole path is, with as many pieces
pub float_whole : (t : List ℕ) (d y : ℕ) (points lifts : List ℤ) (m c n : ℕ) → path_answer t d y points lifts m c ≡ Ok n
    → (k e r : ℕ) → n ≤ k → 3 * n ≤ e → 3 * n ≤ r → whole_answer t d y points lifts k e r ≡ Ok n
float_whole = tied.float_whole

-- and step by step its coordinates times 32 are twice the whole ones plus their remainders
pub float_tied : (t : List ℕ) (d y : ℕ) (points lifts : List ℤ) (m c n : ℕ) → path_answer t d y points lifts m c ≡ Ok n
    → (s : ℕ) → has s (walk (rotation t) (2 * d + y)) ≡ true → Tied t points lifts s
float_tied = tied.float_tied
