-- Document 01's numbers for what a call answers; a refusal unless a test holds, and what a declined call leaves.
use Rattle.std.specs.Prelude.{ℕ, ℤ, pos, neg_ℤ, Bool, cond, Ok, Err, Result}
use Rattle.table.specs.declared.answer.Refusal.{Refusal}
use Rattle.table.specs.declared.answer.Refusal.TheVariants.{Torn, NoSuchName, Taken, Absent, Joined, Overturned, ShortSlice, ManyTurns, Far, BadMark, CutRecord, StaleForecast, ManyEdges}

-- the table of "When a call declines"
abbrev pub number_of : Refusal → ℕ
number_of Torn = 1
number_of NoSuchName = 2
number_of Taken = 3
number_of Absent = 4
number_of Joined = 5
number_of Overturned = 6
number_of ShortSlice = 7
number_of ManyTurns = 8
number_of Far = 9
number_of BadMark = 10
number_of CutRecord = 11
-- document 02, request b
number_of StaleForecast = 12
-- request f
number_of ManyEdges = 13

-- what a call answers: a number, or the refusal alone
abbrev pub Answer : Type 0
Answer = Result ℕ Refusal

-- a refusal, unless its test holds. Tests stand in the order in which they are made: "Where several hold: 1, 2, 3, .."
abbrev pub unless : {A : Type 0} → Bool → A → A → A
unless holds refusal rest = cond holds rest refusal

-- "A declined call returns its number alone; all lent slices and records keep their contents."
abbrev pub if_done : {A : Type 0} → Answer → A → A → A
if_done (Ok n) new old = new
if_done (Err r) new old = old

-- a host gets the answer, 0 or more, or minus the refusal's number
abbrev pub refusal_code : Refusal → ℤ
refusal_code r = neg_ℤ (pos (number_of r))

abbrev pub code_of : Answer → ℤ
code_of (Ok n) = pos n
code_of (Err r) = refusal_code r
