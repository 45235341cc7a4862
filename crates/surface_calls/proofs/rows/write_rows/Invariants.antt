-- `rows::write_rows` meets its contract. The invariant: the rows of the parts labelled below r stand at the front.
use Rattle.surface_calls.specs.laws.Rowing.{Rowing}
use Rattle.surface_calls.proofs.rows.write_rows.Given as goal

abbrev pub invariant-loop-r : goal.invariant-loop-r
invariant-loop-r l = Rowing l.t l.up l.vs l.es l.fs l.odd l.r l.at l.initial.out l.out
