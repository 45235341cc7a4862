-- Which rule an edit falls under, document 02, request a, read on the table just before it; and what an edit answers with it.
--     rule_for, turn_rule, rule_of      the rule, from how the corners or the sides lie
--     rule_change, faces_after          what a rule says of the number of faces; the face count after it
--     reply, with_rule                  the answer with its rule
--     reply_code, rule_number           as a host gets it; the numbers of the rules
--     faces_read, rule_read, number_met  what the host reads in that; the number of the rule met, 0 for none
use Rattle.std.specs.Prelude.{ℕ, zero, suc, ◌+◌, ◌-◌, ◌*◌, ◌/◌, ◌%◌, List, ℤ, pos, Ok, Err, Result, Option, Some, None}
use Rattle.table.specs.Rotation.{rotation}
use Rattle.table.specs.declared.answer.Refusal.{Refusal}
use Rattle.table.specs.Answers.{refusal_code, Answer}
use Rattle.tracing.specs.Corner.{meeting_of}
use Rattle.tracing.specs.Sides.{sides_of}
use Rattle.surgery.specs.Change.{Change, less, as_many, more, deletion, turning, insertion}
use Rattle.edits.specs.Changes.{oddness}
use Rattle.edits.specs.Edits.{answer}
use Rattle.edits.specs.declared.edit.Edit.{Edit}
use Rattle.edits.specs.declared.edit.Edit.TheVariants.{AddVertex, RemoveVertex, InsertEdge, DeleteEdge, TurnEdge}
use Rattle.edits.specs.declared.rule.Rule.{Rule}
use Rattle.edits.specs.declared.rule.Rule.TheVariants as rule
use Rattle.edits.specs.declared.rule.Reply.{Reply}

-- "A (two faces become one), B1 (one becomes two), B2 (one stays one)": "the letters follow the face change"
abbrev pub rule_for : Change → Rule
rule_for less = rule.A
rule_for more = rule.B1
rule_for as_many = rule.B2

-- "or E for a turn by an even amount"
abbrev pub turn_rule : ℕ → Change → Rule
turn_rule zero c = rule.E
turn_rule (suc n) c = rule_for c

-- "Insert, delete and turn now answer .. the rule met": by document 01's table, read on the table before the edit. A vertex meets none.
abbrev pub rule_of : List ℕ → Edit → Option Rule
rule_of t (AddVertex v) = None
rule_of t (RemoveVertex v) = None
rule_of t (InsertEdge e c₁ c₂ k n) = Some (rule_for (insertion (meeting_of (rotation t) c₁ c₂) (oddness k)))
rule_of t (DeleteEdge e) = Some (rule_for (deletion (sides_of (rotation t) e)))
rule_of t (TurnEdge e a) = Some (turn_rule (oddness a) (turning (sides_of (rotation t) e)))

-- what a rule says of the number of faces: one less, one more, as many
abbrev pub rule_change : Rule → Change
rule_change rule.A = less
rule_change rule.B1 = more
rule_change rule.B2 = as_many
rule_change rule.E = as_many

-- the face count after an edit of this rule, before which it was n
abbrev pub faces_after : ℕ → Rule → ℕ
faces_after n rule.A = n - 1
faces_after n rule.B1 = n + 1
faces_after n rule.B2 = n
faces_after n rule.E = n

-- "besides the new face count, the rule met"; a declined edit answers its number alone
abbrev pub with_rule : Answer → Option Rule → Result Reply Refusal
with_rule (Ok n) m = Ok (record { faces = n; rule = m })
with_rule (Err r) m = Err r

unfoldable pub reply : List ℕ → Edit → Result Reply Refusal
reply t E = with_rule (answer t E) (rule_of t E)

-- the house's numbers for the rules
abbrev pub rule_number : Rule → ℕ
rule_number rule.A = 1
rule_number rule.B1 = 2
rule_number rule.B2 = 3
rule_number rule.E = 4

-- the number of the rule met, 0 for none
abbrev pub number_met : Option Rule → ℕ
number_met None = 0
number_met (Some r) = rule_number r

-- a host gets the face count in the low 16 bits and the rule's number above them, or minus the refusal's number
abbrev pub reply_code : Result Reply Refusal → ℤ
reply_code (Ok y) = pos (y.faces + 65536 * number_met y.rule)
reply_code (Err r) = refusal_code r

-- what it reads in a number that is 0 or more: the face count; the rule's number, 0 for none
abbrev pub faces_read : ℕ → ℕ
faces_read x = x % 65536

abbrev pub rule_read : ℕ → ℕ
rule_read x = x / 65536 % 65536
