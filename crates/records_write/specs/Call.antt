-- The call that writes the record of a mark, with the arguments that it has, to the front of a lent slice, as a host has them.
--     record_answer, record_out   of a mark that there is: 7 where its record does not fit
--     marked_answer, marked_out   of any mark: 10 where there is no such one
use Rattle.std.specs.Prelude.{ℕ, List, leb, ℤ, length, Option, Some, None, Err, Ok}
use Rattle.table.specs.Answers.{unless, if_done, Answer}
use Rattle.table.specs.Output.{front}
use Rattle.table.specs.declared.answer.Refusal.TheVariants.{ShortSlice, BadMark}
use Rattle.records.specs.declared.records.Mark.{Mark}
use Rattle.records_write.specs.Encoding.{record_by}

-- "short slice: a lent slice shorter than the call needs"
abbrev pub record_answer : List ℕ → ℕ → Answer
record_answer bytes room = unless (leb (length bytes) room) (Err ShortSlice) (Ok (length bytes))

abbrev pub record_out : List ℕ → List ℕ → List ℕ
record_out bytes out = if_done (record_answer bytes (length out)) (front bytes out) out

-- "bad mark: job record with an unknown mark"
abbrev pub marked_answer : Option Mark → ℕ → ℕ → ℕ → ℤ → ℕ → ℕ → Answer
marked_answer (Some m) name c₁ c₂ k n room = record_answer (record_by m name c₁ c₂ k n) room
marked_answer None name c₁ c₂ k n room = Err BadMark

abbrev pub marked_out : Option Mark → ℕ → ℕ → ℕ → ℤ → ℕ → List ℕ → List ℕ
marked_out (Some m) name c₁ c₂ k n out = record_out (record_by m name c₁ c₂ k n) out
marked_out None name c₁ c₂ k n out = out
