-- The theorems of this crate. Each is proved by the law of its name.
use Rattle.std.specs.Prelude.{◌≡◌, Bool, ℕ, suc, ◌*◌, ◌≢◌}
use Rattle.orbits.specs.Reach.{Reach}
use Rattle.orbits.specs.Exchange.{exch, exch2}
use Rattle.orbits.specs.Orbits.{orbits, World, On}
use Rattle.orbits.specs.Mirror.{Mirror}
use Rattle.orbits.specs.Faces.{face_classes}
use Rattle.orbits.proofs.laws.Exchange as exchange
use Rattle.orbits.proofs.laws.ExchangeParts as exchangeParts
use Rattle.orbits.proofs.laws.Faces as faces
use Rattle.orbits.proofs.laws.FaceExchange as faceExchange

-- x and y on two orbits: after their exchange there is one orbit less
pub exch_less : {N : ℕ} {f : ℕ → ℕ} {live : ℕ → Bool} {x y : ℕ} → World N f live → On N live x → On N live y → ¬ Reach f x y
    → orbits f N live ≡ suc (orbits (exch f x y) N live)
exch_less = exchange.exch_less

-- x and y on one orbit: one more
pub exch_more : {N : ℕ} {f : ℕ → ℕ} {live : ℕ → Bool} {x y : ℕ} → World N f live → On N live x → On N live y → x ≢ y → Reach f x y
    → orbits (exch f x y) N live ≡ suc (orbits f N live)
exch_more = exchangeParts.exch_more

-- no orbit is its own mirror image: there are twice as many orbits as faces
pub orbits_pair : {N : ℕ} {f m : ℕ → ℕ} {live : ℕ → Bool} (E : Mirror N f m live) → orbits f N live ≡ 2 * face_classes f m N live
orbits_pair = faces.orbits_pair

pub faces_less : {N : ℕ} {f m : ℕ → ℕ} {live : ℕ → Bool} (E : Mirror N f m live) {x y : ℕ} (a : On N live x) (b : On N live y) (apart : ¬ Reach f x y) (mapart : ¬ Reach f x (m y))
    → face_classes f m N live ≡ suc (face_classes (exch2 f m x y) m N live)
faces_less = faceExchange.faces_less

pub faces_more : {N : ℕ} {f m : ℕ → ℕ} {live : ℕ → Bool} (E : Mirror N f m live) {x y : ℕ} (a : On N live x) (b : On N live y) (d : x ≢ y) (r : Reach f x y)
    → face_classes (exch2 f m x y) m N live ≡ suc (face_classes f m N live)
faces_more = faceExchange.faces_more

pub faces_same : {N : ℕ} {f m : ℕ → ℕ} {live : ℕ → Bool} (E : Mirror N f m live) {x y : ℕ} (a : On N live x) (b : On N live y) (r : Reach f x (m y))
    → face_classes (exch2 f m x y) m N live ≡ face_classes f m N live
faces_same = faceExchange.faces_same
