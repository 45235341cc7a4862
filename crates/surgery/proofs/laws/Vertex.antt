-- An isolated vertex added: its empty walk is one face more. Removed, one face less.
--     still_at                     the first still place of a vertex
--     VertexParts, vertex_whole    a part before, and the same part after it; the whole mesh
--     add_vertex                   one face more in the part that has the vertex
use Rattle.std.specs.Prelude.{◌≡◌, ◌≢◌, Bool, true, false, ℕ, suc, ◌+◌, ◌-◌, ◌*◌, ◌/◌, ◌<◌, ◌≤◌}
use Rattle.std.proofs.Common.{sym, ◌∙◌, ap, arith}
use Rattle.std.proofs.Math.Path.{fun_ext}
use Rattle.table.specs.Rotation.{Rotation, Lawful}
use Rattle.orbits.proofs.laws.Truth.{clash, false_unless}
use Rattle.orbits.proofs.laws.Swap.{position, at_left, at_right, off}
use Rattle.orbits.proofs.laws.Count.{without, without_at, without_other}
use Rattle.orbits.specs.Faces.{face_classes}
use Rattle.orbits.proofs.laws.Faces.{faces_live}
use Rattle.orbits.proofs.laws.PassThrough.{faces_alone}
use Rattle.tracing.specs.Step.{steps}
use Rattle.tracing.proofs.laws.Place.{places, trace, flip, on, trace_still, flip_still, on_step, on_still, is_step_lem, is_still, place as place-kind}
use Rattle.tracing.proofs.laws.Mirrored.{Part, whole, mirrored}
use Rattle.surgery.proofs.laws.Past.{faces_of}
use Rattle.surgery.proofs.laws.Alike.{alike_flip, alike_trace}
use Rattle.surgery.specs.Vertex.{Added}

-- the first still place of a vertex; the other is the next number
abbrev pub still_at : ℕ → ℕ
still_at v = steps + 2 * v

pub record VertexParts (R : Rotation) (v : ℕ) (R₁ : Rotation) (P P₁ : ℕ → Bool) : Type 0 where
  pub before : Part R P
  pub after : Part R₁ P₁
  pub others : (s : ℕ) → s < places → s ≢ still_at v → s ≢ still_at v + 1 → P₁ s ≡ P s

module _ {R R₁ : Rotation} {v : ℕ} (L : Lawful R) (L₁ : Lawful R₁) (A : Added R v R₁) where
  -- the vertex of a place that is no still place of v
  other_vertex : (s : ℕ) → steps ≤ s → s ≢ still_at v → s ≢ still_at v + 1 → (s - steps) / 2 ≢ v
  other_vertex s h p q = omega arith

  pub vertex_whole : VertexParts R v R₁ (on R) (on R₁)
  vertex_whole = record {
    before = whole R L;
    after = whole R₁ L₁;
    others = λ s l p q. elim (place-kind s) [
      | is_step_lem h ↦ rw (on_step R₁ s h, on_step R s h) (A.live (s / 2))
      | is_still h ↦ rw (on_still R₁ s h, on_still R s h) (A.alone ((s - steps) / 2) (other_vertex s h p q))
    ];
  }

  same_trace : trace R₁ ≡ trace R
  same_trace = fun_ext (λ s. elim (place-kind s) [
    | is_step_lem h ↦ alike_trace L L₁ A.next s (A.turns (s / 2) (omega arith))
    | is_still h ↦ trace_still R₁ s h ∙ sym (trace_still R s h)
  ])

  low : still_at v + 1 < places
  low = let h = L₁.there_low v (L₁.alone_there v A.now) in omega arith

  -- neither still place is there before
  absent : (s : ℕ) → steps ≤ s → (s - steps) / 2 ≡ v → on R s ≡ false
  absent s h q = on_still R s h ∙ rw q (false_unless (R.alone v) (λ a. clash (L.alone_there v a) A.fresh))

  module _ {P P₁ : ℕ → Bool} (K : VertexParts R v R₁ P P₁) where
    not_before : (s : ℕ) → s < places → steps ≤ s → (s - steps) / 2 ≡ v → P s ≡ false
    not_before s l h q = false_unless (P s) (λ t. clash (K.before.within s l t) (absent s h q))

    first_not : P (still_at v) ≡ false
    first_not = let h = low in not_before (still_at v) (omega arith) (omega arith) (omega arith)

    second_not : P (still_at v + 1) ≡ false
    second_not = not_before (still_at v + 1) low (omega arith) (omega arith)

    second : flip R₁ (still_at v) ≡ still_at v + 1
    second = flip_still R₁ (still_at v) (omega arith) ∙ omega arith

    same_faces : {Q : ℕ → Bool} → ((s : ℕ) → s < places → Q s ≡ P s) → face_classes (trace R₁) (flip R₁) places Q ≡ faces_of R P
    same_faces {Q} q = rw (same_trace, alike_flip L L₁ A.next) (faces_live (trace R) (flip R) places Q P q)

    pub add_vertex : P₁ (still_at v) ≡ true → faces_of R₁ P₁ ≡ suc (faces_of R P)
    add_vertex t =
        let h = low in
        faces_alone (mirrored R₁ L₁ P₁ K.after) (record { lt = omega arith; on = t }) (trace_still R₁ (still_at v) (omega arith))
        ∙ ap suc (same_faces left)
      where
        left : (s : ℕ) → s < places → without (without P₁ (still_at v)) (flip R₁ (still_at v)) s ≡ P s
        left s l = rw second (elim (position (still_at v) (still_at v + 1) s) [
          | at_left z ↦ rw z (without_other (without P₁ (still_at v)) (still_at v + 1) (still_at v) (omega arith) ∙ without_at P₁ (still_at v) ∙ sym first_not)
          | at_right z ↦ rw z (without_at (without P₁ (still_at v)) (still_at v + 1) ∙ sym second_not)
          | off p q ↦
              without_other (without P₁ (still_at v)) (still_at v + 1) s q ∙ without_other P₁ (still_at v) s p ∙ K.others s l p q
        ])
