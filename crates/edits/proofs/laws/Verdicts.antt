-- What a verdict tells: two lists of tests, one after the other, and what is known where an edit goes through.
--     Judged, judged, never                                    a verdict is one of two
--     then_none, then_declines, then_passes                    two lists of tests, one after the other
--     MayAdd, MayRemove, MayInsert, MayDelete, MayTurn         what is known where each edit goes through
--     may_add, may_remove, may_insert, may_delete, may_turn    that its verdict says so
--     VertexThere, vertex_there_lem, edge_there_lem            what the tests on names tell
--     passed_good                                              an edit goes through on good tables alone
--     room_is                                                  the test of turns, from the word that the code makes
--     insert_on, turn_on                                       turns and amounts that are handed on keep their values
--     AreNames, names_are                                      the names of an edge and of two corners
use Rattle.std.specs.Prelude.{ℕ, ◌<◌, ◌≡◌, refl, true, false, not, ◌&&◌, List, ◌≢◌, eqb, ltb, ℤ, ◌+ℤ◌, Ok, Err}
use Rattle.std.proofs.Common.{arith, sym, ◌∙◌, ap, SFits, to_z, of_z, to_z-of_z}
use Rattle.std.proofs.Math.Dec.{leb}
use Rattle.std.specs.Int.{w16}
use borrow.Author.Tests.{ltb-true, leb-true, eqb-true, eqb-false, eq-eqb, ne_eqb, not-true, not-false}
use Rattle.orbits.proofs.laws.Truth.{truth, holds, fails, both_left, both_right}
use Rattle.table.specs.Layout.{vertices, edges, nothing, isolated, edge_word, vertex_word, longest}
use Rattle.table.specs.Good.{Good}
use Rattle.table.specs.Rotation.{rotation}
use Rattle.table.specs.Check.{good?}
use Rattle.table.specs.Answers.{unless}
use Rattle.table.specs.laws.Rotation.{case_yes}
use Rattle.table.specs.laws.Check.{good_case}
use Rattle.table.specs.laws.Lawful.{good_lawful}
use Rattle.table.specs.laws.Answers.{let_through}
use Rattle.table.specs.declared.answer.Refusal.{Refusal}
use Rattle.table.specs.declared.answer.Refusal.TheVariants.{Overturned}
use Rattle.tracing.specs.Corner.{present, Present, well_formed}
use Rattle.tracing.proofs.laws.Corner.{present_means}
use Rattle.edits.specs.Turns.{turns_in, overturned, turned_word}
use Rattle.edits.specs.Verdicts.{vertex_there, edge_there, new_vertex, old_vertex, new_edge, old_edge, few_turns, fair_length, and_then, verdict, Verdict}
use Rattle.edits.proofs.laws.Turns.{word_over, few_word}
use Rattle.edits.proofs.laws.Held.{Long}
use Rattle.edits.specs.declared.edit.Edit.{Edit}
use Rattle.edits.specs.declared.edit.Edit.TheVariants.{AddVertex, RemoveVertex, InsertEdge, DeleteEdge, TurnEdge}

pub never : {r : Refusal} → ◌≡◌ {A = Verdict} (Err r) (Ok tt) → ⊥
never e = let z : ◌≡◌ {A = ℕ} 0 1 = cc in omega arith

was_good : (t : List ℕ) → good? t ≡ true → Good t
was_good t e = case_yes (good_case t) e

-- a verdict is one of two
pub data Judged (v : Verdict) : Type 0 where
  passed : v ≡ Ok tt → Judged v
  declined : (r : Refusal) → v ≡ Err r → Judged v

pub judged : (v : Verdict) → Judged v
judged (Ok tt) = passed refl
judged (Err r) = declined r refl

-- two lists of tests, one after the other

pub then_none : (v : Verdict) → v ≡ and_then v (Ok tt)
then_none (Ok tt) = refl
then_none (Err r) = refl

pub then_declines : {a : Verdict} (b : Verdict) {r : Refusal} → a ≡ Err r → Err r ≡ and_then a b
then_declines b e = rw e

pub then_passes : {a b v : Verdict} → a ≡ Ok tt → v ≡ b → v ≡ and_then a b
then_passes e f = rw e f

then_through : (a b : Verdict) → and_then a b ≡ Ok tt → (a ≡ Ok tt) × (b ≡ Ok tt)
then_through (Ok tt) b e = (refl, e)
then_through (Err r) b e = absurd (never e)

-- what the tests on names tell where they let an edit through

pub record MayAdd (t : List ℕ) (v : ℕ) : Type 0 where
  pub good : Good t
  pub low : v < vertices
  pub absent : vertex_word t v ≡ nothing

pub record VertexThere (t : List ℕ) (v : ℕ) : Type 0 where
  pub good : Good t
  pub low : v < vertices

pub vertex_there_lem : (t : List ℕ) (v : ℕ) → old_vertex t v ≡ Ok tt → VertexThere t v
unfolding old_vertex
vertex_there_lem t v p =
    let a = let_through (good? t) never p in
    let b = let_through (ltb v vertices) never a.rest in
    record { good = was_good t a.held; low = ltb-true v vertices b.held }

pub record MayRemove (t : List ℕ) (v : ℕ) : Type 0 where
  pub good : Good t
  pub low : v < vertices
  pub alone : vertex_word t v ≡ isolated

pub record MayInsert (t : List ℕ) (e c₁ c₂ : ℕ) (k : ℤ) (n : ℕ) : Type 0 where
  pub good : Good t
  pub low : e < edges
  pub free : edge_word t e ≡ 0
  pub first_there : Present (rotation t) c₁
  pub second_there : Present (rotation t) c₂
  pub few : overturned k ≡ false
  pub long : Long n

pub record MayDelete (t : List ℕ) (e : ℕ) : Type 0 where
  pub good : Good t
  pub low : e < edges
  pub there : edge_word t e ≢ 0

pub edge_there_lem : (t : List ℕ) (e : ℕ) → old_edge t e ≡ Ok tt → MayDelete t e
unfolding old_edge
edge_there_lem t e p =
    let a = let_through (good? t) never p in
    let b = let_through (ltb e edges) never a.rest in
    let c = let_through (edge_there t e) never b.rest in
    record { good = was_good t a.held; low = ltb-true e edges b.held; there = eqb-false (edge_word t e) 0 (not-true _ c.held) }

pub record MayTurn (t : List ℕ) (e : ℕ) (a : ℤ) : Type 0 where
  pub good : Good t
  pub low : e < edges
  pub there : edge_word t e ≢ 0
  pub few : overturned (turns_in (edge_word t e) +ℤ a) ≡ false

-- what is known where an edit goes through
module _ (t : List ℕ) where
  pub may_add : (v : ℕ) → verdict t (AddVertex v) ≡ Ok tt → MayAdd t v
  unfolding new_vertex
  may_add v p =
      let a = let_through (good? t) never (then_through (new_vertex t v) (Ok tt) p).0 in
      let b = let_through (ltb v vertices) never a.rest in
      let c = let_through (not (vertex_there t v)) never b.rest in
      record {
        good = was_good t a.held;
        low = ltb-true v vertices b.held;
        absent = eqb-true (vertex_word t v) nothing (not-false (eqb (vertex_word t v) nothing) (not-true _ c.held));
      }

  pub may_remove : (v : ℕ) → verdict t (RemoveVertex v) ≡ Ok tt → MayRemove t v
  may_remove v p =
      let q = then_through (old_vertex t v) _ p in
      let there = vertex_there_lem t v q.0 in
      record { good = there.good; low = there.low; alone = eqb-true (vertex_word t v) isolated (let_through (eqb (vertex_word t v) isolated) never q.1).held }

  pub may_insert : (e c₁ c₂ : ℕ) (k : ℤ) (n : ℕ) → verdict t (InsertEdge e c₁ c₂ k n) ≡ Ok tt → MayInsert t e c₁ c₂ k n
  unfolding new_edge
  may_insert e c₁ c₂ k n p =
      let q = then_through (new_edge t e c₁ c₂) (and_then (few_turns k) (fair_length n)) p in
      let l = then_through (few_turns k) (fair_length n) q.1 in
      let a = let_through (good? t) never q.0 in
      let b = let_through _ never a.rest in
      let c = let_through (not (edge_there t e)) never b.rest in
      let d = let_through (present (rotation t) c₁ && present (rotation t) c₂) never c.rest in
      let f = let_through (not (overturned k)) never l.0 in
      let s = let_through (ltb 0 n && leb n longest) never l.1 in
      let g = was_good t a.held in
      let there = present_means (rotation t) (good_lawful t g) in
      record {
        good = g;
        low = ltb-true e edges (both_left (ltb e edges) _ b.held);
        free = eqb-true (edge_word t e) 0 (not-false (eqb (edge_word t e) 0) (not-true _ c.held));
        first_there = there c₁ (both_left (present (rotation t) c₁) _ d.held);
        second_there = there c₂ (both_right (present (rotation t) c₁) _ d.held);
        few = not-true _ f.held;
        long = record { some = (let z = ltb-true 0 n (both_left (ltb 0 n) _ s.held) in omega arith); most = leb-true n longest (both_right (ltb 0 n) _ s.held) };
      }

  pub may_delete : (e : ℕ) → verdict t (DeleteEdge e) ≡ Ok tt → MayDelete t e
  may_delete e p = edge_there_lem t e (then_through (old_edge t e) (Ok tt) p).0

  pub may_turn : (e : ℕ) (a : ℤ) → verdict t (TurnEdge e a) ≡ Ok tt → MayTurn t e a
  may_turn e a p =
      let q = then_through (old_edge t e) _ p in
      let there = edge_there_lem t e q.0 in
      record {
        good = there.good;
        low = there.low;
        there = there.there;
        few = not-true _ (let_through (not (overturned (turns_in (edge_word t e) +ℤ a))) never q.1).held;
      }

-- an edit goes through on good tables alone
pub passed_good : (t : List ℕ) (E : Edit) → verdict t E ≡ Ok tt → Good t
passed_good t (AddVertex v) p = (may_add t v p).good
passed_good t (RemoveVertex v) p = (may_remove t v p).good
passed_good t (InsertEdge e c₁ c₂ k n) p = (may_insert t e c₁ c₂ k n p).good
passed_good t (DeleteEdge e) p = (may_delete t e p).good
passed_good t (TurnEdge e a) p = (may_turn t e a p).good

-- the word of 0 that the code makes for turns past 99
pub room_is : (w : ℕ) (a : ℤ) {x : ℕ} {r : Verdict} → x ≡ turned_word w a → r ≡ unless (not (eqb x 0)) (Err Overturned) (Ok tt) → r ≡ few_turns (turns_in w +ℤ a)
room_is w a {x} e q = q ∙ elim (truth (overturned (turns_in w +ℤ a))) [
  | holds o ↦ rw (o, eq-eqb x 0 (e ∙ sym (word_over w a o)))
  | fails n ↦ rw (n, ne_eqb x 0 (λ z. few_word w a n (sym e ∙ z)))
]

-- turns and amounts that are handed on keep their values
module _ (t : List ℕ) where
  pub insert_on : (e c₁ c₂ : ℕ) (k : ℤ) (n : ℕ) {r v : Verdict} → SFits w16 k
      → r ≡ verdict t (InsertEdge e c₁ c₂ (to_z w16 (of_z w16 k)) n) → r ≡ v → verdict t (InsertEdge e c₁ c₂ k n) ≡ v
  insert_on e c₁ c₂ k n f p q = ap (λ z. verdict t (InsertEdge e c₁ c₂ z n)) (sym (to_z-of_z {w = w16} f)) ∙ sym p ∙ q

  pub turn_on : (e : ℕ) (a : ℤ) {r v : Verdict} → SFits w16 a → r ≡ verdict t (TurnEdge e (to_z w16 (of_z w16 a))) → r ≡ v → verdict t (TurnEdge e a) ≡ v
  turn_on e a f p q = ap (λ z. verdict t (TurnEdge e z)) (sym (to_z-of_z {w = w16} f)) ∙ sym p ∙ q

-- the names of an edge and of two corners
pub record AreNames (e c₁ c₂ : ℕ) : Type 0 where
  pub low : e < edges
  pub first : well_formed c₁ ≡ true
  pub second : well_formed c₂ ≡ true

pub names_are : (e c₁ c₂ : ℕ) → (ltb e edges && (well_formed c₁ && well_formed c₂)) ≡ true → AreNames e c₁ c₂
names_are e c₁ c₂ p =
    let corners = both_right (ltb e edges) _ p in
    record { low = ltb-true e edges (both_left (ltb e edges) _ p); first = both_left (well_formed c₁) _ corners; second = both_right (well_formed c₁) _ corners }
