-- The lines for records that are declined, document 01, "The job program".
use Rattle.std.specs.Prelude.{ℕ, suc, List, [], ◌∷◌, ◌++◌, Ok, Err}
use Rattle.text.specs.Decimal.{decimal}
use Rattle.table.specs.Answers.{number_of, Answer}
use Rattle.table.specs.declared.answer.Refusal.TheVariants as refusal
use Rattle.edits.specs.Edits.{answer, edited}
use Rattle.edits.specs.declared.edit.Edit.{Edit}
use Rattle.records.specs.declared.records.Stop.{Stop}
use Rattle.records.specs.declared.records.Stop.TheVariants.{End, BadMark, CutRecord}

-- "no", record, number. "One space between fields, a newline after each line."
abbrev pub no_line : ℕ → ℕ → List ℕ
no_line n r = (110 ∷ 111 ∷ 32 ∷ []) ++ (decimal n ++ ((32 ∷ []) ++ (decimal r ++ (10 ∷ []))))

abbrev pub line_by : ℕ → Answer → List ℕ
line_by n (Ok f) = []
line_by n (Err r) = no_line n (number_of r)

-- "An edit declined prints "no", record, number": the edit of record n, over table t
unfoldable pub edit_line : List ℕ → ℕ → Edit → List ℕ
edit_line t n E = line_by n (answer t E)

-- "Records count from 1 .. and reading goes on": the edits of records n, n + 1, ..
unfoldable pub lines : List ℕ → ℕ → List Edit → List ℕ
lines t n [] = []
lines t n (E ∷ Es) = edit_line t n E ++ lines (edited t E) (suc n) Es

-- "10 and 11 print the same and end the reading": nothing where the reading ended with its bytes
unfoldable pub stop_line : ℕ → Stop → List ℕ
stop_line n End = []
stop_line n BadMark = no_line n (number_of refusal.BadMark)
stop_line n CutRecord = no_line n (number_of refusal.CutRecord)
