-- The rule of an edit says how the face count changes; an edit's reply is its answer with the rule.
--     rule_change_lem, rule_changes             the change that a rule says is the one that the places call for;     so the face count changes by it
--     insert_met, turn_met                      as the code reads them
--     by_rule, faces_alone, was_refused         what a call hands over
--     answers_in, reply_read                    back from a reply to the answer;     from its number to count and rule
use Rattle.table.specs.Answers.{Answer}
use Rattle.std.specs.Prelude.{ℕ, zero, suc, ◌+◌, ◌%◌, ◌<◌, ◌≤◌, ◌≡◌, refl, List, ℤ, pos, Ok, Err, Option, None, Some, Result}
use Rattle.std.proofs.Common.{arith, sym, ◌∙◌, ap}
use Rattle.table.specs.Layout.{edge_word}
use Rattle.table.specs.Rotation.{rotation}
use Rattle.table.specs.laws.Lawful.{good_lawful}
use Rattle.table.specs.declared.answer.Refusal.{Refusal}
use Rattle.tracing.specs.Listing.{face_count}
use Rattle.tracing.specs.Corner.{meeting_of}
use Rattle.tracing.specs.Sides.{sides_of}
use Rattle.tracing.proofs.laws.Place.{places}
use Rattle.tracing.proofs.laws.FaceCount.{faces_low}
use Rattle.surgery.specs.Change.{Change, less, as_many, more, Changes, insertion, turning}
use Rattle.edits.specs.declared.edit.Edit.{Edit}
use Rattle.edits.specs.declared.edit.Edit.TheVariants.{AddVertex, RemoveVertex, InsertEdge, DeleteEdge, TurnEdge}
use Rattle.edits.specs.declared.rule.Rule.{Rule}
use Rattle.edits.specs.declared.rule.Rule.TheVariants as rule
use Rattle.edits.specs.declared.rule.Reply.{Reply}
use Rattle.edits.specs.Changes.{oddness, change, turn_change}
use Rattle.edits.specs.Turns.{overturned, turned_word}
use Rattle.edits.proofs.laws.Turns.{hundred}
use Rattle.edits.proofs.laws.Changes.{odd_turned, written_changes}
use Rattle.edits.specs.Verdicts.{verdict, Verdict}
use Rattle.edits.proofs.laws.Verdicts.{MayInsert, MayTurn}
use Rattle.edits.specs.Edits.{written, edited, answer}
use Rattle.edits.proofs.laws.Edits.{answer_passes, answer_declines, was_declined}
use Rattle.edits.proofs.laws.WrittenGood.{written_good}
use Rattle.edits.specs.Rules.{rule_for, turn_rule, rule_of, rule_change, with_rule, reply, rule_number, reply_code, faces_read, rule_read, number_met}

some_same : {r s : Rule} → Some r ≡ Some s → r ≡ s
some_same e = cc

no_rule : {r : Rule} → None ≡ Some r → ⊥
no_rule e = let z : ◌≡◌ {A = ℕ} 0 1 = cc in omega arith

-- the letters tell the change
letter_change : (c : Change) → rule_change (rule_for c) ≡ c
letter_change less = refl
letter_change as_many = refl
letter_change more = refl

turn_change_lem : (n : ℕ) (c : Change) → rule_change (turn_rule n c) ≡ turn_change n c
turn_change_lem zero c = refl
turn_change_lem (suc n) c = letter_change c

pub rule_change_lem : (t : List ℕ) (E : Edit) (r : Rule) → rule_of t E ≡ Some r → rule_change r ≡ change t E
rule_change_lem t (AddVertex v) r e = absurd (no_rule e)
rule_change_lem t (RemoveVertex v) r e = absurd (no_rule e)
rule_change_lem t (InsertEdge e c₁ c₂ k n) r q = ap rule_change (sym (some_same q)) ∙ letter_change _
rule_change_lem t (DeleteEdge e) r q = ap rule_change (sym (some_same q)) ∙ letter_change _
rule_change_lem t (TurnEdge e a) r q = ap rule_change (sym (some_same q)) ∙ turn_change_lem (oddness a) _

pub rule_changes : (t : List ℕ) (E : Edit) (r : Rule) → verdict t E ≡ Ok tt → rule_of t E ≡ Some r
    → Changes (rule_change r) (face_count (rotation t)) (face_count (rotation (written t E)))
rule_changes t E r p q = rw (rule_change_lem t E r q) (written_changes t E p)

-- the code reads the parity of turns off the edge's word

pub insert_met : {t : List ℕ} {e c₁ c₂ : ℕ} {k : ℤ} {n w : ℕ} {r : Rule} → MayInsert t e c₁ c₂ k n → w ≡ turned_word 100 k
    → r ≡ rule_for (insertion (meeting_of (rotation t) c₁ c₂) (w % 2)) → rule_of t (InsertEdge e c₁ c₂ k n) ≡ Some r
insert_met {t} {e} {c₁} {c₂} {k} {w} m q f =
    let odd = odd_turned 100 k (ap overturned (hundred k) ∙ m.few) in
    let same : oddness k ≡ w % 2 = omega arith in
    ap (λ n. Some (rule_for (insertion (meeting_of (rotation t) c₁ c₂) n))) same ∙ ap Some (sym f)

pub turn_met : {t : List ℕ} {e : ℕ} {a : ℤ} {w : ℕ} {r : Rule} → MayTurn t e a → w ≡ turned_word (edge_word t e) a
    → r ≡ turn_rule ((edge_word t e + w) % 2) (turning (sides_of (rotation t) e)) → rule_of t (TurnEdge e a) ≡ Some r
turn_met {t} {e} {a} {w} m q f =
    let odd = odd_turned (edge_word t e) a m.few in
    let same : oddness a ≡ (edge_word t e + w) % 2 = omega arith in
    ap (λ n. Some (turn_rule n (turning (sides_of (rotation t) e)))) same ∙ ap Some (sym f)

-- what a call hands over
module _ (t : List ℕ) (E : Edit) where
  pub by_rule : (n : ℕ) (r : Rule) → verdict t E ≡ Ok tt → rule_of t E ≡ Some r → n ≡ face_count (rotation (written t E)) → Ok (record { faces = n; rule = Some r }) ≡ reply t E
  unfolding reply
  by_rule n r p q f = rw (answer_passes t E p, q, f)

  pub was_refused : (r : Refusal) → verdict t E ≡ Err r → (Err r ≡ reply t E) × (t ≡ edited t E)
  unfolding reply
  was_refused r p =
      let w = was_declined t E r p in
      (rw (← w.0), w.1)

  pub faces_alone : {a : Answer} {r : Result Reply Refusal} → rule_of t E ≡ None → a ≡ answer t E → r ≡ with_rule a None → r ≡ reply t E
  unfolding reply
  faces_alone q e f = f ∙ rw (e, q)

-- the answer that a reply is of
abbrev pub answer_in : Result Reply Refusal → Answer
answer_in (Ok y) = Ok y.faces
answer_in (Err r) = Err r

reply_answer : (t : List ℕ) (E : Edit) → answer_in (reply t E) ≡ answer t E
unfolding reply
reply_answer t E = by (answer t E) (rule_of t E)
  where
    by : (a : Answer) (m : Option Rule) → answer_in (with_rule a m) ≡ a
    by (Ok n) m = refl
    by (Err r) m = refl

pub answers_in : (t : List ℕ) (E : Edit) {r : Result Reply Refusal} → r ≡ reply t E → answer_in r ≡ answer t E
answers_in t E e = ap answer_in e ∙ reply_answer t E

-- the face count that an edit answers is small
answer_low : (t : List ℕ) (E : Edit) (n : ℕ) → answer t E ≡ Ok n → n ≤ places
unfolding answer
answer_low t E n a = by (verdict t E) refl
  where
    same : {m : ℕ} → ◌≡◌ {A = Answer} (Ok n) (Ok m) → n ≡ m
    same e = cc

    by : (v : Verdict) → verdict t E ≡ v → n ≤ places
    by (Ok tt) p = let q = same (sym a ∙ answer_passes t E p) in let f = faces_low (good_lawful _ (written_good t E p)) in omega arith
    by (Err r) p = absurd (let q = sym a ∙ answer_declines t E r p in let z : ◌≡◌ {A = ℕ} 0 1 = cc in omega arith)

pub number_small : (r : Rule) → rule_number r < 5
number_small rule.A = omega arith
number_small rule.B1 = omega arith
number_small rule.B2 = omega arith
number_small rule.E = omega arith

-- a host reads the count and the rule back
pub reply_read : (t : List ℕ) (E : Edit) (n x : ℕ) → answer t E ≡ Ok n → reply_code (reply t E) ≡ pos x
    → (faces_read x ≡ n) × (rule_read x ≡ number_met (rule_of t E))
unfolding reply
reply_read t E n x a e = by (rule_of t E) (sym (ap (λ b. reply_code (with_rule b (rule_of t E))) a) ∙ e)
  where
    low : n ≤ places
    low = answer_low t E n a

    same : {i j : ℕ} → pos i ≡ pos j → i ≡ j
    same q = cc

    by : (m : Option Rule) → reply_code (with_rule (Ok n) m) ≡ pos x → (faces_read x ≡ n) × (rule_read x ≡ number_met m)
    by None q = let s = same q in let l = low in (omega arith, omega arith)
    by (Some r) q = let s = same q in let l = low in let f = number_small r in (omega arith, omega arith)
