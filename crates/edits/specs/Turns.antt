-- Turns as edge words: "for each edge, 0 if not live, else its turns plus 100; turns run from -99 to 99".
use Rattle.std.specs.Prelude.{ℕ, Bool, cond, ltb, ℤ, pos, nat_abs, ◌+ℤ◌, ◌-ℤ◌}

-- the turns that an edge word says
abbrev pub turns_in : ℕ → ℤ
turns_in w = pos w -ℤ pos 100

-- "turns would pass 99 either way"
abbrev pub overturned : ℤ → Bool
overturned z = ltb 99 (nat_abs z)

-- the word of an edge with so many turns
abbrev pub word_for : ℤ → ℕ
word_for z = nat_abs (z +ℤ pos 100)

-- an edge of word w turned by an amount: its word, or 0 where it would be overturned
abbrev pub turned_word : ℕ → ℤ → ℕ
turned_word w a = cond (overturned (turns_in w +ℤ a)) 0 (word_for (turns_in w +ℤ a))
