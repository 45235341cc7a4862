-- `block::is_blank` meets its contract. The invariant: the words so far, and-ed together, are 65,535 exactly if each is, and each is counted.
use Rattle.table.specs.Reading.{Adds}
use Rattle.table.specs.laws.Blocks.{Together}
use Rattle.table.specs.Layout.{nothing}
use lib.ListN.{get_or}
use Prim.Native.Nat.{◌+◌, ◌<◌}
use mathlib.Core.Path.{◌≡◌}
use Rattle.check_table.proofs.block.is_blank.Given as goal

abbrev pub invariant-loop-i : goal.invariant-loop-i
invariant-loop-i g l = Adds g.C.Counter.shows l.initial.reads l.reads l.i × (l.all < 65536) × Together (l.all ≡ nothing) (λ k. get_or l.t (l.from + k) 0 ≡ nothing) l.i
