-- The rules for the face count, document 01, "Edits", over rotation systems. Each is proved by the law of its name.
use Rattle.std.specs.Prelude.{ℕ, ◌-◌, suc, ◌≡◌}
use Rattle.table.specs.Rotation.{Rotation, Lawful}
use Rattle.tracing.specs.Listing.{face_count}
use Rattle.tracing.specs.Sides.{sides_of}
use Rattle.surgery.specs.Without.{Without}
use Rattle.surgery.specs.Change.{Changes, deletion, insertion, turning, parity}
use Rattle.tracing.specs.Corner.{meeting_of}
use Rattle.surgery.specs.Sits.{Inserted}
use Rattle.surgery.specs.Turn.{Turned}
use Rattle.surgery.specs.Vertex.{Added}
use Rattle.surgery.proofs.laws.Change as change

-- the face count of the whole mesh
pub delete_count : {R R' : Rotation} {e : ℕ} → Lawful R → Lawful R' → Without R e R' → Changes (deletion (sides_of R e)) (face_count R) (face_count R')
delete_count = change.delete_count

pub insert_count : {R R' : Rotation} {e : ℕ} → Lawful R → Lawful R' → Without R e R' → {c₁ c₂ : ℕ} → Inserted R e R' c₁ c₂
    → Changes (insertion (meeting_of R' c₁ c₂) (parity R e)) (face_count R') (face_count R)
insert_count = change.insert_count

pub turn_count : {R R₁ : Rotation} {e : ℕ} → Lawful R → Lawful R₁ → Turned R e R₁ → parity R₁ e ≡ 1 - parity R e
    → Changes (turning (sides_of R e)) (face_count R) (face_count R₁)
turn_count = change.turn_count

pub turn_even_count : {R R₁ : Rotation} {e : ℕ} → Lawful R → Lawful R₁ → Turned R e R₁ → parity R₁ e ≡ parity R e → face_count R₁ ≡ face_count R
turn_even_count = change.turn_even_count

pub add_count : {R R₁ : Rotation} {v : ℕ} → Lawful R → Lawful R₁ → Added R v R₁ → face_count R₁ ≡ suc (face_count R)
add_count = change.add_count
