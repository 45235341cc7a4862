-- Words of a table that are read, and counted, document 02, request c.
--     room       a count of reads is told below this number
--     Adds       what keeps count has had so many reads more
use Rattle.std.specs.Prelude.{ℕ, ◌+◌, ◌≤◌}

abbrev pub room : ℕ
room = 4294967296

-- what showed n reads before shows k more after; what shows nothing keeps no count
pub record Adds {C : Type 0} (shows : C → ℕ → Type 0) (old new : C) (k : ℕ) : Type 0 where
  pub told : (n : ℕ) → n + k ≤ room → shows old n → shows new (n + k)
