-- The change of the face count that each edit's rule calls for, read on the table just before it, document 01, "Edits"; and that it is the change.
--     written_changes                 the face count changes as the edit's rule calls for
--     vertex_added                    the rotation with a vertex more, isolated
--     first_live                      an edge that is there has its first dart live
--     edge_turned                     the rotation with an edge turned
--     odd_turned                      the parity of turns and amount, from the edge word
--     remove_changes, turn_changes    the change by a removal; by a turn
use Rattle.std.specs.Prelude.{ℕ, zero, suc, ◌+◌, ◌-◌, ◌*◌, ◌%◌, ◌<◌, ◌≡◌, refl, true, false, List, ◌≢◌, ℤ, pos, negsuc, nat_abs, ◌+ℤ◌, Ok}
use native.Mathlib.Omega.{arith}
use Rattle.std.proofs.Common.{sym, ◌∙◌, subst, set-set}
use Rattle.std.proofs.Math.Path.{ap}
use Rattle.std.proofs.lemmas.List.{set-get_or}
use Rattle.std.proofs.Math.IntN.{sub_ℕ}
use Rattle.orbits.proofs.laws.Truth.{truth, holds, fails, false_unless, same_truth}
use Rattle.table.specs.Layout.{vertices, edges, nothing, isolated, edge_word, vertex_word, edge_of}
use Rattle.table.specs.Good.{Good}
use Rattle.table.specs.Rotation.{Lawful, rotation, live?, next_dart, turns_of, there?, alone?}
use Rattle.table.specs.laws.Rotation.{live_yes, yes_live, there_word, alone_yes, alone_word, next_dart_live, next_dart_dead}
use Rattle.table.specs.laws.Lawful.{good_lawful}
use Rattle.table.specs.laws.Signed.{difference, below, above}
use Rattle.table.specs.Writes.{set_vertex, set_edge}
use Rattle.table.specs.laws.Writes.{upd_at, upd_off, edge_edge, edge_vertex, vertex_vertex, vertex_edge, next_vertex, next_edge}
use Rattle.tracing.specs.Listing.{face_count}
use Rattle.tracing.specs.Sides.{sides_of}
use Rattle.surgery.specs.Turn.{Turned}
use Rattle.surgery.specs.Vertex.{Added}
use Rattle.surgery.specs.Change.{Changes, turning, parity}
use Rattle.surgery.proofs.laws.Change.{delete_count, insert_count, turn_count, turn_even_count, add_count}
use Rattle.edits.specs.Turns.{turns_in, overturned, turned_word, word_for}
use Rattle.edits.proofs.laws.Turns.{word_in, hundred, inserted_word}
use Rattle.edits.specs.Edge.{inserted}
use Rattle.edits.proofs.laws.Deleted.{deleted_without}
use Rattle.edits.proofs.laws.Inserted.{inserted_without, inserted_sits, inserted_own}
use Rattle.edits.specs.Edits.{written}
use Rattle.edits.proofs.laws.WrittenGood.{add_good, remove_good, insert_good, delete_good, turn_good, turn_live, present_corner}
use Rattle.edits.specs.declared.edit.Edit.{Edit}
use Rattle.edits.specs.declared.edit.Edit.TheVariants.{AddVertex, RemoveVertex, InsertEdge, DeleteEdge, TurnEdge}
use Rattle.edits.specs.Changes.{oddness, turn_change, change}
use Rattle.edits.specs.Verdicts.{verdict}
use Rattle.edits.proofs.laws.Verdicts.{may_add, MayRemove, may_remove, MayInsert, may_insert, may_delete, MayTurn, may_turn}

-- parities of turns and of their words

odd_difference : (a b : ℕ) → nat_abs (sub_ℕ a b) % 2 ≡ (a + b) % 2
odd_difference a b = elim (difference a b) [
  | below h e ↦ rw e (omega arith)
  | above h e ↦ rw e (omega arith)
]

odd_sum : (x y : ℤ) → nat_abs (x +ℤ y) % 2 ≡ (nat_abs x + nat_abs y) % 2
odd_sum (pos a) (pos b) = refl
odd_sum (pos a) (negsuc b) = odd_difference a (suc b)
odd_sum (negsuc a) (pos b) = let e = odd_difference b (suc a) in omega arith
odd_sum (negsuc a) (negsuc b) = omega arith

odd_word : (z : ℤ) → word_for z % 2 ≡ nat_abs z % 2
odd_word z = let e = odd_sum z (pos 100) in omega arith

pub odd_turned : (w : ℕ) (a : ℤ) → overturned (turns_in w +ℤ a) ≡ false → turned_word w a % 2 ≡ (w + nat_abs a) % 2
odd_turned w a f =
    let p = odd_word (turns_in w +ℤ a) in
    let q = odd_sum (turns_in w) a in
    let r = odd_sum (pos w) (negsuc 99) in
    ap (λ n. n % 2) (sym (word_in w a f)) ∙ omega arith

-- a vertex is added, or removed: R has it not, R₁ has it isolated
module _ (t : List ℕ) (g : Good t) (v : ℕ) (low : v < vertices) (absent : vertex_word t v ≡ nothing) where
  abbrev with_v : List ℕ
  with_v = set_vertex t v isolated

  edge_kept : (e : ℕ) → e < edges → edge_word with_v e ≡ edge_word t e
  edge_kept e h = edge_vertex t v isolated e h

  live_kept : (d : ℕ) → live? with_v d ≡ live? t d
  live_kept d = same_truth (live? with_v d) (live? t d)
      (λ l. let m = live_yes with_v d l in let h = m.low in yes_live t d (record { low = h; on = rw (edge_kept (edge_of d) (omega arith)) at m.on }))
      (λ l. let m = live_yes t d l in let h = m.low in yes_live with_v d (record { low = h; on = rw (edge_kept (edge_of d) (omega arith)) m.on }))

  next_kept : (d : ℕ) → next_dart with_v d ≡ next_dart t d
  next_kept d = elim (truth (live? t d)) [
    | holds l ↦
        next_dart_live with_v d (live_kept d ∙ l) ∙ next_vertex t v isolated d (live_yes t d l).low ∙ sym (next_dart_live t d l)
    | fails f ↦ next_dart_dead with_v d (live_kept d ∙ f) ∙ sym (next_dart_dead t d f)
  ]

  own_word : vertex_word with_v v ≡ isolated
  own_word = vertex_vertex t g.size v isolated v low ∙ upd_at (vertex_word t) v isolated

  other_word : (u : ℕ) → u ≢ v → vertex_word with_v u ≡ vertex_word t u
  other_word u n = vertex_vertex t g.size v isolated u low ∙ upd_off (vertex_word t) v isolated u n

  pub vertex_added : Added (rotation t) v (rotation with_v)
  unfolding turns_of
  vertex_added = record {
    fresh = false_unless (there? t v) (λ y. (there_word t v y).1 absent);
    now = alone_yes with_v v low own_word;
    live = live_kept;
    next = record { next = next_kept };
    turns = λ d h. ap (λ w. w % 2) (edge_kept (edge_of d) (omega arith));
    alone = λ u n. same_truth (alone? with_v u) (alone? t u)
        (λ y. let a = alone_word with_v u y in alone_yes t u a.0 (sym (other_word u n) ∙ a.1))
        (λ y. let a = alone_word t u y in alone_yes with_v u a.0 (other_word u n ∙ a.1));
  }

-- an edge that is there has its first dart live
pub first_live : (t : List ℕ) (e : ℕ) → e < edges → edge_word t e ≢ 0 → live? t (2 * e) ≡ true
first_live t e low there = let half : edge_of (2 * e) ≡ e = omega arith in yes_live t (2 * e) (record { low = omega arith; on = rw half there })

-- an edge is turned: all but the word of e stays
module _ (t : List ℕ) (e : ℕ) (a : ℤ) (m : MayTurn t e a) where
  abbrev turned : List ℕ
  turned = set_edge t e (turned_word (edge_word t e) a)

  turned_next : (d : ℕ) → next_dart turned d ≡ next_dart t d
  turned_next d = elim (truth (live? t d)) [
    | holds l ↦ next_dart_live turned d (turn_live t e a m d ∙ l) ∙ next_edge t e _ d (live_yes t d l).low ∙ sym (next_dart_live t d l)
    | fails f ↦ next_dart_dead turned d (turn_live t e a m d ∙ f) ∙ sym (next_dart_dead t d f)
  ]

  pub edge_turned : Turned (rotation t) e (rotation turned)
  unfolding turns_of
  edge_turned = record {
    here = first_live t e m.low m.there;
    live = turn_live t e a m;
    next = record { next = turned_next };
    turns = λ d n. ap (λ w. w % 2) (edge_edge t m.good.size e _ (edge_of d) m.low ∙ upd_off (edge_word t) e _ (edge_of d) n);
    alone = λ v. same_truth (alone? turned v) (alone? t v)
        (λ y. let b = alone_word turned v y in alone_yes t v b.0 (sym (vertex_edge t e _ v m.low) ∙ b.1))
        (λ y. let b = alone_word t v y in alone_yes turned v b.0 (vertex_edge t e _ v m.low ∙ b.1));
  }

  -- the parity of its turns after it
  turned_parity : parity (rotation turned) e ≡ (edge_word t e + nat_abs a) % 2
  unfolding turns_of
  turned_parity =
      let half : edge_of (2 * e) ≡ e = omega arith in
      ap (λ i. edge_word turned i % 2) half
      ∙ ap (λ w. w % 2) (edge_edge t m.good.size e _ e m.low ∙ upd_at (edge_word t) e _)
      ∙ odd_turned (edge_word t e) a m.few

  parity_before : parity (rotation t) e ≡ edge_word t e % 2
  unfolding turns_of
  parity_before = let half : edge_of (2 * e) ≡ e = omega arith in ap (λ i. edge_word t i % 2) half

  turn_changes : Changes (turn_change (oddness a) (turning (sides_of (rotation t) e))) (face_count (rotation t)) (face_count (rotation turned))
  turn_changes = by (nat_abs a % 2) refl
    where
      L : Lawful (rotation t)
      L = good_lawful t m.good

      L₁ : Lawful (rotation turned)
      L₁ = good_lawful turned (turn_good t e a m)

      odd_flip : (w n : ℕ) → n % 2 ≡ 1 → (w + n) % 2 ≡ 1 - w % 2
      odd_flip w n q = omega arith

      by : (n : ℕ) → nat_abs a % 2 ≡ n → Changes (turn_change n (turning (sides_of (rotation t) e))) (face_count (rotation t)) (face_count (rotation turned))
      by zero q = turn_even_count L L₁ edge_turned (turned_parity ∙ (omega arith) ∙ sym parity_before)
      by (suc n) q =
          let one : nat_abs a % 2 ≡ 1 = omega arith in
          turn_count L L₁ edge_turned (turned_parity ∙ odd_flip (edge_word t e) (nat_abs a) one ∙ ap (λ p. 1 - p) (sym parity_before))

module _ (t : List ℕ) where
  -- what a removal leaves is what an addition begins from
  remove_changes : (v : ℕ) → MayRemove t v → face_count (rotation t) ≡ suc (face_count (rotation (set_vertex t v nothing)))
  remove_changes v m =
      let u = set_vertex t v nothing in
      let good = remove_good t v m in
      let absent : vertex_word u v ≡ nothing = vertex_vertex t m.good.size v nothing v m.low ∙ upd_at (vertex_word t) v nothing in
      let back : set_vertex u v isolated ≡ t = set-set t _ nothing isolated ∙ ap (set_vertex t v) (sym m.alone) ∙ set-get_or t _ 0 in
      ap (λ w. face_count (rotation w)) (sym back)
      ∙ add_count (good_lawful u good) (subst (λ w. Lawful (rotation w)) (sym back) (good_lawful t m.good)) (vertex_added u good v m.low absent)

  inserted_parity : (e c₁ c₂ : ℕ) (k : ℤ) (n : ℕ) (m : MayInsert t e c₁ c₂ k n) → parity (rotation (inserted t e c₁ c₂ (turned_word 100 k) n)) e ≡ oddness k
  unfolding turns_of
  inserted_parity e c₁ c₂ k n m =
      let w = inserted_word k m.few in
      let half : edge_of (2 * e) ≡ e = omega arith in
      let first = present_corner t c₁ m.first_there in
      let second = present_corner t c₂ m.second_there in
      let own = inserted_own t m.good e c₁ c₂ (turned_word 100 k) n m.low m.free w.0 w.1 m.long first second in
      let odd = odd_turned 100 k (ap overturned (hundred k) ∙ m.few) in
      ap (λ i. edge_word (inserted t e c₁ c₂ (turned_word 100 k) n) i % 2) half ∙ ap (λ x. x % 2) own ∙ odd ∙ omega arith

  pub written_changes : (E : Edit) → verdict t E ≡ Ok tt → Changes (change t E) (face_count (rotation t)) (face_count (rotation (written t E)))
  written_changes (AddVertex v) p =
      let m = may_add t v p in
      add_count (good_lawful t m.good) (good_lawful _ (add_good t v m)) (vertex_added t m.good v m.low m.absent)
  written_changes (RemoveVertex v) p = remove_changes v (may_remove t v p)
  written_changes (InsertEdge e c₁ c₂ k n) p =
      let m = may_insert t e c₁ c₂ k n p in
      let w = inserted_word k m.few in
      let C₁ = present_corner t c₁ m.first_there in
      let C₂ = present_corner t c₂ m.second_there in
      rw (← (inserted_parity e c₁ c₂ k n m))
      (insert_count (good_lawful _ (insert_good t e c₁ c₂ k n m)) (good_lawful t m.good)
      (inserted_without t m.good e c₁ c₂ (turned_word 100 k) n m.low m.free w.0 w.1 m.long C₁ C₂)
      (inserted_sits t m.good e c₁ c₂ (turned_word 100 k) n m.low m.free w.0 w.1 m.long C₁ C₂))
  written_changes (DeleteEdge e) p =
      let m = may_delete t e p in
      delete_count (good_lawful t m.good) (good_lawful _ (delete_good t e m)) (deleted_without t m.good e m.low m.there)
  written_changes (TurnEdge e a) p = turn_changes t e a (may_turn t e a p)
