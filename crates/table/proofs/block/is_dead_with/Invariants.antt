-- `block::is_dead_with` meets its contract. The invariant: the words so far, or-ed together, are 0 exactly if each is, and each is counted.
use Rattle.table.specs.Reading.{Adds}
use Rattle.table.specs.laws.Blocks.{Together}
use Rattle.table.specs.Layout.{edge_word}
use Prim.Native.Nat.{◌+◌, ◌*◌}
use mathlib.Core.Path.{◌≡◌}
use Rattle.table.proofs.block.is_dead_with.Given as goal

abbrev pub invariant-loop-i : goal.invariant-loop-i
invariant-loop-i g l = Adds g.C.Counter.shows l.initial.reads l.reads l.i × Together (l.any ≡ 0) (λ k. edge_word l.t (32 * l.b + k) ≡ 0) l.i
