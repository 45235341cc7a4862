-- The walk reader as C keeps it: a record that the host lends, without the table, and what one call leaves.
use Rattle.std.specs.Prelude.{ℕ, List}
use Rattle.table.specs.Answers.{code_of}
use Rattle.reader.specs.declared.place.Step.{Step}
use Rattle.reader.specs.declared.standing.Standing.{Standing}
use Rattle.reader.specs.declared.standing.Called.{Called}
use Rattle.reader_tally.specs.declared.tally.Tally.{Tally}
use Rattle.reader.specs.declared.walk.Stepped.{Stepped}
use Rattle.reader.specs.Reader.{step_of}

-- the step that it stands at, and the one that its walk began at
abbrev pub at_of : Standing → Step
at_of r = record { dart = r.dart; kind = r.kind }

abbrev pub start_of : Standing → Step
start_of r = record { dart = r.start_dart; kind = r.start_kind }

-- the reader at another step of its walk
abbrev pub stands_at : Step → Standing → Standing
stands_at s r = record { dart = s.dart; kind = s.kind; start_dart = r.start_dart; start_kind = r.start_kind }

-- what a step q of the reader r leaves, with the answer as C gets it
abbrev pub called_by : Standing → Stepped → Called
called_by r q = record { code = code_of q.answer; reader = stands_at q.at r; tally = q.tally }

-- one call; "after a declined step the reader has not moved" (`stays`)
abbrev pub called_of : List ℕ → Standing → Tally → Called
called_of t r y = called_by r (step_of t (at_of r) (start_of r) y)
