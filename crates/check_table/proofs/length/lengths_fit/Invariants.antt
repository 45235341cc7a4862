-- `length::lengths_fit` meets its contract. The invariant: no edge so far has a length that does not fit its word, and two words of each are counted.
use Rattle.table.specs.Reading.{Adds}
use Rattle.table.specs.laws.Blocks.{Together}
use Rattle.table.specs.Good.{LengthRule}
use Prim.Native.Nat.{◌*◌}
use mathlib.Core.Path.{◌≡◌}
use Rattle.check_table.proofs.length.lengths_fit.Given as goal

abbrev pub invariant-loop-e : goal.invariant-loop-e
invariant-loop-e g l = Adds g.C.Counter.shows l.initial.reads l.reads (2 * l.e) × Together (l.odd ≡ 0) (LengthRule l.t) l.e
