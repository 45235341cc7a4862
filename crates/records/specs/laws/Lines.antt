-- The lines for records that are declined, document 01, "The job program".
--     lines_append, lines_one    the lines of a run that goes on; of one edit
--     lines_few, stop_few        a line has at most 27 bytes
--     refused_few, line_few      the same of one refusal, of one edit
use Rattle.std.specs.Prelude.{ℕ, suc, ◌+◌, ◌*◌, ◌≤◌, ◌<◌, ◌^◌, ◌≡◌, List, [], ◌∷◌, ◌++◌, length, Ok, Err}
use Rattle.std.proofs.Common.{arith, add-zero, sym, ◌∙◌, ap, append_assoc, append-nil, length-append}
use Rattle.text.specs.Decimal.{decimal}
use Rattle.text.specs.laws.Decimal.{decimal_short, decimal_few}
use Rattle.table.specs.Answers.{number_of, Answer}
use Rattle.table.specs.declared.answer.Refusal.{Refusal}
use Rattle.table.specs.declared.answer.Refusal.TheVariants as refusal
use Rattle.edits.specs.Edits.{answer, edited}
use Rattle.edits.specs.declared.edit.Edit.{Edit}
use Rattle.records.specs.declared.records.Stop.{Stop}
use Rattle.records.specs.declared.records.Stop.TheVariants.{End, BadMark, CutRecord}
use Rattle.runs.specs.Run.{run}
use Rattle.records.specs.Lines.{no_line, line_by, edit_line, lines, stop_line}
use Rattle.table.specs.laws.Answers.{number_low}

-- a run that goes on
pub lines_append : (t : List ℕ) (n : ℕ) (Es Fs : List Edit) → lines t n (Es ++ Fs) ≡ lines t n Es ++ lines (run t Es) (n + length Es) Fs
unfolding lines run
lines_append t n [] Fs = rw add-zero
lines_append t n (E ∷ Es) Fs =
    let e : suc n + length Es ≡ n + suc (length Es) = omega arith in
    ap (λ l. edit_line t n E ++ l) (lines_append (edited t E) (suc n) Es Fs ∙ ap (λ k. lines (edited t E) (suc n) Es ++ lines (run (edited t E) Es) k Fs) e)
    ∙ sym (append_assoc (edit_line t n E) (lines (edited t E) (suc n) Es) (lines (run (edited t E) Es) (n + suc (length Es)) Fs))

pub lines_one : (t : List ℕ) (n : ℕ) (E : Edit) → lines t n (E ∷ []) ≡ edit_line t n E
unfolding lines
lines_one t n E = append-nil (edit_line t n E)

-- a line has at most 27 bytes

number_few : (r : Refusal) → length (decimal (number_of r)) ≤ 2
number_few r = let low = number_low r in decimal_short 1 (number_of r) (omega arith)

refused_few : (n : ℕ) (r : Refusal) → n < 2 ^ 64 → length (no_line n (number_of r)) ≤ 27
refused_few n r h = let few = decimal_few n h in let two = number_few r in simp length-append (omega arith)

answer_few : (n : ℕ) (a : Answer) → n < 2 ^ 64 → length (line_by n a) ≤ 27
answer_few n (Ok f) h = omega arith
answer_few n (Err r) h = refused_few n r h

line_few : (t : List ℕ) (n : ℕ) (E : Edit) → n < 2 ^ 64 → length (edit_line t n E) ≤ 27
unfolding edit_line
line_few t n E h = answer_few n (answer t E) h

pub lines_few : (t : List ℕ) (n : ℕ) (Es : List Edit) → n + length Es ≤ 2 ^ 64 → length (lines t n Es) ≤ 27 * length Es
unfolding lines
lines_few t n [] h = omega arith
lines_few t n (E ∷ Es) h =
    let one = line_few t n E (omega arith) in
    let rest = lines_few (edited t E) (suc n) Es (omega arith) in
    rw length-append (omega arith)

-- the last line
pub stop_few : (n : ℕ) (stop : Stop) → n < 2 ^ 64 → length (stop_line n stop) ≤ 27
unfolding stop_line
stop_few n End h = omega arith
stop_few n BadMark h = refused_few n refusal.BadMark h
stop_few n CutRecord h = refused_few n refusal.CutRecord h
