-- Job records, document 01, "The job program": the first record of some bytes.
--     first_record                 the first record of some bytes: its edit and its size, or why there is none
--     Found, found                 that, and a whole record as it
--     marked_record, known_record  the same once the mark is read; once it is known
--     word, signed_word            the 16-bit word at byte i; as a signed number
--     mark_of                       the mark that a word says
--     size_of, longest_record       the bytes of a record, its mark included; the most that a record has
--     edit_of, insertion_of        the edit that a record says; the insertion, with a length
--     plain_length                 the length that a plain IE writes
use Rattle.std.specs.Prelude.{ℕ, ◌+◌, ◌-◌, ◌*◌, cond, List, ℤ, pos, negsuc, ltb, eqb, length, get_or, Option, Some, None, Result, Ok, Err}
use Rattle.edits.specs.declared.edit.Edit.{Edit}
use Rattle.edits.specs.declared.edit.Edit.TheVariants.{AddVertex, RemoveVertex, InsertEdge, DeleteEdge, TurnEdge}
use Rattle.records.specs.declared.records.Mark.{Mark}
use Rattle.records.specs.declared.records.Mark.TheVariants.{AV, RV, IE, IL, DE, TW}
use Rattle.records.specs.declared.records.Record.{Record}
use Rattle.records.specs.declared.records.Stop.{Stop}
use Rattle.records.specs.declared.records.Stop.TheVariants.{End, BadMark, CutRecord}

-- "16-bit words, high byte first": the one at byte i
abbrev pub word : List ℕ → ℕ → ℕ
word s i = get_or s i 0 * 256 + get_or s (i + 1) 0

-- "k and amount in two's complement"
abbrev pub signed_word : ℕ → ℤ
signed_word w = cond (ltb w 32768) (pos w) (negsuc (65535 - w))

-- "a two-byte mark": the letters' codes
abbrev pub mark_of : ℕ → Option Mark
mark_of w =
    cond (eqb w (65 * 256 + 86)) (Some AV)
    (cond (eqb w (82 * 256 + 86)) (Some RV)
    (cond (eqb w (73 * 256 + 69)) (Some IE)
    (cond (eqb w (73 * 256 + 76)) (Some IL)
    (cond (eqb w (68 * 256 + 69)) (Some DE)
    (cond (eqb w (84 * 256 + 87)) (Some TW)
    None)))))

-- "AV v; RV v; IE e c1 c2 k; DE e; TW e amount", and document 02, request g, "Record IL is IE with one more word, the last, for the length": the bytes of
-- a record, its mark included
abbrev pub size_of : Mark → ℕ
size_of AV = 4
size_of RV = 4
size_of IE = 10
size_of IL = 12
size_of DE = 4
size_of TW = 6

abbrev pub longest_record : ℕ
longest_record = size_of IL

-- the insertion that the words of an IE say, with a length
abbrev pub insertion_of : List ℕ → ℕ → Edit
insertion_of s n = InsertEdge (word s 2) (word s 4) (word s 6) (signed_word (word s 8)) n

-- "a plain IE writes 16"
abbrev pub plain_length : ℕ
plain_length = 16

abbrev pub edit_of : Mark → List ℕ → Edit
edit_of AV s = AddVertex (word s 2)
edit_of RV s = RemoveVertex (word s 2)
edit_of IE s = insertion_of s plain_length
edit_of IL s = insertion_of s (word s 10)
edit_of DE s = DeleteEdge (word s 2)
edit_of TW s = TurnEdge (word s 2) (signed_word (word s 4))

-- what can stand first: a whole record of so many bytes, or why there is none
abbrev pub Found : Type 0
Found = Result Record Stop

abbrev pub found : Edit → ℕ → Found
found E k = Ok (record { edit = E; size = k })

-- "cut record: fewer bytes than the record needs"
unfoldable pub known_record : Mark → List ℕ → Found
known_record m s = cond (ltb (length s) (size_of m)) (Err CutRecord) (found (edit_of m s) (size_of m))

-- "bad mark: job record with an unknown mark"
abbrev pub marked_record : Option Mark → List ℕ → Found
marked_record (Some m) s = known_record m s
marked_record None s = Err BadMark

-- the first record; "one lone byte included" among the cut ones
unfoldable pub first_record : List ℕ → Found
first_record s =
    cond (eqb (length s) 0) (Err End)
    (cond (eqb (length s) 1) (Err CutRecord)
    (marked_record (mark_of (word s 0)) s))
