-- `block::is_loose` meets its contract. The invariant: the words so far, and-ed together, are 65,534 at least exactly if each is, and each is counted.
use Rattle.table.specs.Reading.{Adds}
use Rattle.table.specs.laws.Blocks.{Together}
use Rattle.table.specs.Layout.{nothing, isolated, vertex_word}
use Prim.Native.Nat.{◌+◌, ◌*◌, ◌≤◌, ◌<◌}
use Rattle.check_table.proofs.block.is_loose.Given as goal

abbrev pub invariant-loop-i : goal.invariant-loop-i
invariant-loop-i g l = Adds g.C.Counter.shows l.initial.reads l.reads l.i × (l.all < 65536)
    × Together (isolated ≤ l.all) (λ k. (isolated ≤ vertex_word l.t (32 * l.b + k)) × (vertex_word l.t (32 * l.b + k) ≤ nothing)) l.i
