-- The rules, as the code tells them: what it asks for, the parity of words, and the face count after the edit.
--     after_is                                  the face count that the rule allows is the one after the edit
--     Allowed, allowed_some                     there is a face count after; rule A needs one face before
--     insert_corners, delete_edge, turn_edge    what an accepted edit gives to the reading of its rule
--     unsplit, one_more, even_turn, odd_turn    the rules by the parity of words
--     few_rules                                 a rule's number is below 5
--     rule_allows, ruled_reply                  there is a face count after an accepted edit; it is answered with the rule
use Rattle.std.specs.Prelude.{ℕ, zero, suc, ◌+◌, ◌-◌, ◌%◌, ◌<◌, ◌≤◌, ◌≡◌, refl, ◌≢◌, List, ℤ, Ok, Some}
use Rattle.std.proofs.Common.{arith, sym, ◌∙◌, ap}
use Rattle.table.specs.Good.{Good}
use Rattle.table.specs.Rotation.{rotation}
use Rattle.table.specs.laws.Lawful.{good_lawful}
use Rattle.tracing.specs.Listing.{face_count}
use Rattle.tracing.proofs.laws.Place.{places}
use Rattle.tracing.proofs.laws.FaceCount.{faces_low}
use Rattle.tracing.specs.declared.meeting.Meeting.TheVariants.{SameType, OtherType}
use Rattle.surgery.specs.Change.{Change, Changes, insertion}
use Rattle.edits.specs.declared.rule.Rule.{Rule}
use Rattle.edits.specs.declared.rule.Rule.TheVariants as rule
use Rattle.edits.specs.Rules.{rule_for, turn_rule, rule_of, rule_change, faces_after, rule_number, reply}
use Rattle.edits.proofs.laws.Rules.{number_small, rule_changes, by_rule}
use Rattle.edits.specs.Verdicts.{verdict}
use Rattle.edits.specs.Edits.{written, edited}
use Rattle.edits.proofs.laws.Edits.{edited_passes}
use Rattle.edits.specs.declared.edit.Edit.{Edit}
use Rattle.edits.specs.declared.rule.Reply.{Reply}
use Rattle.edits.proofs.laws.Changes.{first_live}
use Rattle.edits.proofs.laws.Verdicts.{MayInsert, MayDelete, MayTurn}
use Rattle.tracing_meets.specs.laws.Read.{Corners, LiveEdge}

-- what the reading of the rule asks, of an edit that goes through

pub insert_corners : {t : List ℕ} {e c₁ c₂ : ℕ} {k : ℤ} {n : ℕ} → MayInsert t e c₁ c₂ k n → Corners t c₁ c₂
insert_corners m = record { good = m.good; first = m.first_there; second = m.second_there }

pub delete_edge : {t : List ℕ} {e : ℕ} → MayDelete t e → LiveEdge t e
delete_edge m = record { good = m.good; live = first_live _ _ m.low m.there }

pub turn_edge : {t : List ℕ} {e : ℕ} {a : ℤ} → MayTurn t e a → LiveEdge t e
turn_edge m = record { good = m.good; live = first_live _ _ m.low m.there }

-- the rules by the parity of words

pub unsplit : (n : ℕ) → n ≢ 0 → rule.B2 ≡ rule_for (insertion SameType n)
unsplit zero h = absurd (h refl)
unsplit (suc n) h = refl

-- types that differ are one more turn
pub one_more : (n : ℕ) → n < 2 → insertion SameType (1 - n) ≡ insertion OtherType n
one_more zero h = refl
one_more (suc zero) h = refl
one_more (suc (suc n)) h = absurd (omega arith)

pub even_turn : (v w : ℕ) (c : Change) → v % 2 ≡ w % 2 → rule.E ≡ turn_rule ((v + w) % 2) c
even_turn v w c h = let e : (v + w) % 2 ≡ 0 = omega arith in sym (ap (λ n. turn_rule n c) e)

pub odd_turn : (v w : ℕ) (c : Change) → v % 2 ≢ w % 2 → rule_for c ≡ turn_rule ((v + w) % 2) c
odd_turn v w c h = let e : (v + w) % 2 ≡ 1 = omega arith in sym (ap (λ n. turn_rule n c) e)

pub few_rules : {n : ℕ} (r : Rule) → n ≡ rule_number r → n < 5
few_rules r e = rw e (number_small r)

-- there is a face count after an edit, by the rule
pub record Allowed (n : ℕ) (r : Rule) : Type 0 where
  pub after : ℕ
  pub change : Changes (rule_change r) n after

pub after_is : (n m : ℕ) (r : Rule) → Changes (rule_change r) n m → faces_after n r ≡ m
after_is n m rule.A e = omega arith
after_is n m rule.B1 e = omega arith
after_is n m rule.B2 e = sym e
after_is n m rule.E e = sym e

pub allowed_some : {n : ℕ} {r : Rule} → Allowed n r → r ≡ rule.A → 0 < n
allowed_some {n} {r} a e = by (rw e at a.change)
  where
    by : n ≡ suc a.after → 0 < n
    by q = omega arith

-- an edit that goes through, on a table of n faces
module _ (t : List ℕ) (E : Edit) (p : verdict t E ≡ Ok tt) {r : Rule} (q : rule_of t E ≡ Some r) {n : ℕ} (f : n ≡ face_count (rotation t)) where
  pub rule_allows : Good t → (n ≤ places) × Allowed n r
  rule_allows g = let low = faces_low (good_lawful t g) in (omega arith, record { after = face_count (rotation (written t E)); change = rw f (rule_changes t E r p q) })

  pub ruled_reply : {u : List ℕ} {x : Reply} → u ≡ written t E → x ≡ record { faces = faces_after n r; rule = Some r } → (Ok x ≡ reply t E) × (u ≡ edited t E)
  ruled_reply e a =
      let after = after_is n (face_count (rotation (written t E))) r (rw f (rule_changes t E r p q)) in
      (ap Ok a ∙ by_rule t E (faces_after n r) r p q after, e ∙ sym (edited_passes t E p))
