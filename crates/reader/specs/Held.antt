-- The walk reader as a struct over the lent table: what its making gives, and what a step leaves.
use Rattle.std.specs.Prelude.{ℕ, List}
use Rattle.std.specs.Borrow.{Bor}
use Rattle.reader_tally.specs.declared.tally.Tally.{Tally}
use Rattle.reader.specs.declared.walk.Stepped.{Stepped}
use Rattle.reader.specs.declared.reader.Reader.{Reader}
use Rattle.reader.specs.Reader.{step_of}

-- "A walk reader stands over the lent table": made at dart d with type k, which is where its walk begins
abbrev pub reader_at : Bor (List ℕ) → ℕ → ℕ → Reader
reader_at t d k = record { table = t; dart = d; kind = k; first = record { dart = d; kind = k } }

-- one step of the reader r
abbrev pub held_step : Reader → Tally → Stepped
held_step r y = step_of r.table.now (record { dart = r.dart; kind = r.kind }) r.first y

-- where it then stands; a declined step leaves it as it was (`EachStep`)
abbrev pub held_after : Reader → Tally → Reader
held_after r y = record { table = r.table; dart = (held_step r y).at.dart; kind = (held_step r y).at.kind; first = r.first }
