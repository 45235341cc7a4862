-- Deleting the edge that was inserted gives the first table back, word for word.
--     deleted_inserted                                          the deletion after the insertion gives the first table
--     there_and_back                                            the table after both
--     live_back, next_back, there_back, edge_back, long_back    what is read on it, one kind after the other
use Rattle.std.specs.Prelude.{ℕ, ◌≤◌, ◌<◌, ◌≡◌, List, ◌≢◌}
use Rattle.std.proofs.Math.Decide.{ℕ_discrete}
use Rattle.std.proofs.Common.{sym, ◌∙◌, subst}
use Rattle.std.proofs.Math.Path.{fun_ext}
use Rattle.table.specs.Layout.{vertices, edges, nothing, edge_word, vertex_word, length_word, edge_word_most}
use Rattle.table.specs.Good.{Good}
use Rattle.table.specs.laws.Writes.{upd_at, upd_off}
use Rattle.table.specs.Rotation.{live?, next_dart, there?}
use Rattle.table.specs.laws.Rotation.{there_yes, there_word, next_dart_live}
use Rattle.edits.proofs.laws.Held.{Long, Held, good_held, held_same}
use Rattle.edits.specs.Edge.{inserted, deleted}
use Rattle.edits.proofs.laws.Edge.{Corner}
use Rattle.edits.proofs.laws.Deleted.{deleted_good, deleted_without, deleted_own, deleted_other, deleted_length}
use Rattle.edits.proofs.laws.Inserted.{inserted_good, inserted_without, inserted_own, inserted_other, inserted_length}

module _ (t : List ℕ) (g : Good t) (e c₁ c₂ w len : ℕ) (h : e < edges) (off : edge_word t e ≡ 0) (some : w ≢ 0) (few : w ≤ edge_word_most) (long : Long len)
    (C₁ : Corner t (live? t) c₁) (C₂ : Corner t (live? t) c₂) where
  abbrev there_and_back : List ℕ
  there_and_back = deleted (inserted t e c₁ c₂ w len) e

  on : edge_word (inserted t e c₁ c₂ w len) e ≢ 0
  on = rw (inserted_own t g e c₁ c₂ w len h off some few long C₁ C₂) some

  good : Good (inserted t e c₁ c₂ w len)
  good = inserted_good t g e c₁ c₂ w len h off some few long C₁ C₂

  live_back : (d : ℕ) → live? there_and_back d ≡ live? t d
  live_back d = (deleted_without (inserted t e c₁ c₂ w len) good e h on).live d ∙ sym ((inserted_without t g e c₁ c₂ w len h off some few long C₁ C₂).live d)

  next_back : (d : ℕ) → next_dart there_and_back d ≡ next_dart t d
  next_back d = (deleted_without (inserted t e c₁ c₂ w len) good e h on).next d ∙ sym ((inserted_without t g e c₁ c₂ w len h off some few long C₁ C₂).next d)

  there_back : (v : ℕ) → there? there_and_back v ≡ there? t v
  there_back v = (deleted_without (inserted t e c₁ c₂ w len) good e h on).there v ∙ sym ((inserted_without t g e c₁ c₂ w len h off some few long C₁ C₂).there v)

  word_back : (v : ℕ) (s u : List ℕ) → v < vertices → there? s v ≡ there? u v → vertex_word s v ≡ nothing → vertex_word u v ≡ nothing
  word_back v s u l q z = elim (ℕ_discrete (vertex_word u v) nothing) [
    | yes y ↦ y
    | no n ↦ absurd ((there_word s v (q ∙ there_yes u v l n)).1 z)
  ]

  edge_back : (i : ℕ) → i < edges → edge_word there_and_back i ≡ edge_word t i
  edge_back i l = elim (ℕ_discrete i e) [
    | yes q ↦ rw q (deleted_own (inserted t e c₁ c₂ w len) good e h on ∙ sym off)
    | no n ↦ deleted_other (inserted t e c₁ c₂ w len) good e h on i l n ∙ inserted_other t g e c₁ c₂ w len h off some few long C₁ C₂ i l n
  ]

  long_back : (i : ℕ) → i < edges → length_word there_and_back i ≡ length_word t i
  long_back i l = elim (ℕ_discrete i e) [
    | yes q ↦ rw q (deleted_length (inserted t e c₁ c₂ w len) good e h on e ∙ upd_at _ e 0 ∙ sym ((g.lengths e h).none off))
    | no n ↦
        deleted_length (inserted t e c₁ c₂ w len) good e h on i ∙ upd_off _ e 0 i n
        ∙ inserted_length t g e c₁ c₂ w len h off some few long C₁ C₂ i ∙ upd_off (length_word t) e len i n
  ]

  pub deleted_inserted : deleted (inserted t e c₁ c₂ w len) e ≡ t
  deleted_inserted = held_same t there_and_back (live? t) (good_held t g)
      (subst (λ L. Held there_and_back L) (fun_ext live_back) (good_held there_and_back (deleted_good (inserted t e c₁ c₂ w len) good e h on)))
      (λ d l. sym (next_dart_live there_and_back d (live_back d ∙ l)) ∙ next_back d ∙ next_dart_live t d l)
      (λ d l. (deleted_without (inserted t e c₁ c₂ w len) good e h on).from d (live_back d ∙ l) ∙ sym ((inserted_without t g e c₁ c₂ w len h off some few long C₁ C₂).from d l))
      edge_back
      long_back
      (λ v l. (word_back v there_and_back t l (there_back v), word_back v t there_and_back l (sym (there_back v))))
