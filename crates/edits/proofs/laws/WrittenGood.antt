-- The table that an accepted edit writes is good, and its words may be followed as they are written.
--     written_good                                                  the table that an accepted edit writes is good
--     add_good, remove_good, insert_good, delete_good, turn_good    the same for each of the five
--     turn_live                                                     a turn leaves the live darts
--     may_insert_ready, may_delete_ready                            the words that the writes follow are in range
--     present_corner                                                a corner that is there is a live dart or an isolated vertex
use Rattle.std.specs.Prelude.{ℕ, ◌<◌, ◌≡◌, refl, List, ◌≢◌, ℤ, Ok}
use Rattle.std.proofs.Math.Decide.{ℕ_discrete}
use Rattle.std.proofs.Common.{sym, ◌∙◌, ap, subst, inl, inr}
use Rattle.std.proofs.Math.Path.{fun_ext}
use Rattle.orbits.proofs.laws.Truth.{same_truth}
use Rattle.table.specs.Layout.{edges, nothing, isolated, edge_word, vertex_word, length_word, edge_of}
use Rattle.table.specs.Good.{Good}
use Rattle.table.specs.Rotation.{rotation, live?}
use Rattle.table.specs.laws.Rotation.{live_yes, yes_live, alone_word}
use Rattle.table.specs.Writes.{set_vertex, set_edge}
use Rattle.table.specs.laws.Writes.{upd_at, upd_off, edge_edge, length_edge}
use Rattle.tracing.specs.Corner.{Present, at_dart, at_lone}
use Rattle.edits.specs.Turns.{turned_word}
use Rattle.edits.proofs.laws.Held.{Held, good_held, held_good}
use Rattle.edits.specs.Edge.{inserted, deleted}
use Rattle.edits.proofs.laws.Edge.{Corner, edge_held}
use Rattle.edits.proofs.laws.Deleted.{deleted_good, delete_ready}
use Rattle.edits.proofs.laws.Inserted.{inserted_good, insert_ready}
use Rattle.edits.proofs.laws.Ready.{InsertReady, DeleteReady}
use Rattle.edits.specs.Edits.{written}
use Rattle.edits.specs.declared.edit.Edit.{Edit}
use Rattle.edits.specs.declared.edit.Edit.TheVariants.{AddVertex, RemoveVertex, InsertEdge, DeleteEdge, TurnEdge}
use Rattle.edits.proofs.laws.Verdicts.{MayAdd, MayRemove, MayInsert, MayDelete, MayTurn, may_add, may_remove, may_insert, may_delete, may_turn}
use Rattle.edits.specs.Verdicts.{verdict}
use Rattle.edits.proofs.laws.Turns.{turned_some, inserted_word}
use Rattle.edits.proofs.laws.Marked.{marked_good}
use Rattle.edits.proofs.laws.Edge as edge

pub present_corner : (t : List ℕ) (c : ℕ) → Present (rotation t) c → Corner t (live? t) c
present_corner t c (at_dart h l) = edge.at_dart l
present_corner t c (at_lone v h e a) = edge.at_lone v e h (alone_word t v a).1

-- The table that an accepted edit writes is good.
module _ (t : List ℕ) where
  pub add_good : (v : ℕ) → MayAdd t v → Good (set_vertex t v isolated)
  add_good v m = marked_good t m.good v isolated m.low
      (λ d l q. m.good.leaves_live d l (ap (vertex_word t) q ∙ m.absent)) (inr refl)

  pub remove_good : (v : ℕ) → MayRemove t v → Good (set_vertex t v nothing)
  remove_good v m = marked_good t m.good v nothing m.low (m.good.alone v m.low m.alone) (inl refl)

  pub insert_good : (e c₁ c₂ : ℕ) (k : ℤ) (n : ℕ) → MayInsert t e c₁ c₂ k n → Good (inserted t e c₁ c₂ (turned_word 100 k) n)
  insert_good e c₁ c₂ k n m =
      let w = inserted_word k m.few in
      inserted_good t m.good e c₁ c₂ (turned_word 100 k) n m.low m.free w.0 w.1 m.long (present_corner t c₁ m.first_there) (present_corner t c₂ m.second_there)

  pub delete_good : (e : ℕ) → MayDelete t e → Good (deleted t e)
  delete_good e m = deleted_good t m.good e m.low m.there

  -- an edge word that stays a live one's
  same_live : (e w : ℕ) → Good t → e < edges → edge_word t e ≢ 0 → w ≢ 0 → (d : ℕ) → live? (set_edge t e w) d ≡ live? t d
  same_live e w g h on some d = same_truth (live? (set_edge t e w) d) (live? t d)
      (λ l.
      let m = live_yes (set_edge t e w) d l in
      let low = m.low in
      yes_live t d (record {
        low = low;
        on = elim (ℕ_discrete (edge_of d) e) [
          | yes q ↦ rw q on
          | no n ↦ rw (other (edge_of d) n) at m.on
        ];
      }))
      (λ l.
      let m = live_yes t d l in
      let low = m.low in
      yes_live (set_edge t e w) d (record {
        low = low;
        on = elim (ℕ_discrete (edge_of d) e) [
          | yes q ↦ rw (q, edge_edge t g.size e w e h, upd_at (edge_word t) e w) some
          | no n ↦ rw (other (edge_of d) n) m.on
        ];
      }))
    where
      other : (i : ℕ) → i ≢ e → edge_word (set_edge t e w) i ≡ edge_word t i
      other i n = edge_edge t g.size e w i h ∙ upd_off (edge_word t) e w i n

  pub turn_live : (e : ℕ) (a : ℤ) → MayTurn t e a → (d : ℕ) → live? (set_edge t e (turned_word (edge_word t e) a)) d ≡ live? t d
  turn_live e a m = same_live e _ m.good m.low m.there (turned_some (edge_word t e) a m.few).0

  pub turn_good : (e : ℕ) (a : ℤ) → MayTurn t e a → Good (set_edge t e (turned_word (edge_word t e) a))
  turn_good e a m =
      let w = turned_word (edge_word t e) a in
      held_good (set_edge t e w)
      (subst (λ L. Held (set_edge t e w) L) (fun_ext (λ d. sym (turn_live e a m d))) (edge_held t (live? t) (good_held t m.good) e w m.low))
      (λ i h. elim (ℕ_discrete i e) [
        | yes q ↦ rw (q, edge_edge t m.good.size e w e m.low, upd_at (edge_word t) e w) (turned_some (edge_word t e) a m.few).1
        | no n ↦ rw (edge_edge t m.good.size e w i m.low, upd_off (edge_word t) e w i n) (m.good.turns i h)
      ])
      (λ i h.
      let same : length_word (set_edge t e w) i ≡ length_word t i = length_edge t e w i m.low in
      let f = m.good.lengths i h in
      record {
        some = λ on. rw same (f.some (still i on));
        none = λ z. same ∙ f.none (off i z);
        most = rw same f.most;
      })
    where
      some_word : turned_word (edge_word t e) a ≢ 0
      some_word = (turned_some (edge_word t e) a m.few).0

      own : edge_word (set_edge t e (turned_word (edge_word t e) a)) e ≡ turned_word (edge_word t e) a
      own = edge_edge t m.good.size e _ e m.low ∙ upd_at (edge_word t) e _

      other : (i : ℕ) → i ≢ e → edge_word (set_edge t e (turned_word (edge_word t e) a)) i ≡ edge_word t i
      other i n = edge_edge t m.good.size e _ i m.low ∙ upd_off (edge_word t) e _ i n

      still : (i : ℕ) → edge_word (set_edge t e (turned_word (edge_word t e) a)) i ≢ 0 → edge_word t i ≢ 0
      still i on = elim (ℕ_discrete i e) [
        | yes q ↦ rw q m.there
        | no n ↦ rw (other i n) at on
      ]

      off : (i : ℕ) → edge_word (set_edge t e (turned_word (edge_word t e) a)) i ≡ 0 → edge_word t i ≡ 0
      off i z = elim (ℕ_discrete i e) [
        | yes q ↦ absurd (some_word (sym own ∙ ap (edge_word (set_edge t e (turned_word (edge_word t e) a))) (sym q) ∙ z))
        | no n ↦ sym (other i n) ∙ z
      ]

  pub written_good : (E : Edit) → verdict t E ≡ Ok tt → Good (written t E)
  written_good (AddVertex v) p = add_good v (may_add t v p)
  written_good (RemoveVertex v) p = remove_good v (may_remove t v p)
  written_good (InsertEdge e c₁ c₂ k n) p = insert_good e c₁ c₂ k n (may_insert t e c₁ c₂ k n p)
  written_good (DeleteEdge e) p = delete_good e (may_delete t e p)
  written_good (TurnEdge e a) p = turn_good e a (may_turn t e a p)

  -- the words that the writes follow
  pub may_insert_ready : (e c₁ c₂ : ℕ) (k : ℤ) (n : ℕ) → MayInsert t e c₁ c₂ k n → InsertReady t e c₁ c₂
  may_insert_ready e c₁ c₂ k n m =
      let w = inserted_word k m.few in
      insert_ready t m.good e c₁ c₂ (turned_word 100 k) n m.low m.free w.0 w.1 m.long (present_corner t c₁ m.first_there) (present_corner t c₂ m.second_there)

  pub may_delete_ready : (e : ℕ) → MayDelete t e → DeleteReady t e
  may_delete_ready e m = delete_ready t m.good e m.low m.there
