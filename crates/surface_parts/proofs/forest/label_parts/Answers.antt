-- `forest::label_parts` meets its contract. The invariant: the edges below e are taken in.
use Rattle.surface_parts.specs.laws.Linking.{linking_none, linking_more, linked_flat}
use mathlib.Core.Path.{◌≡◌}
use native.Mathlib.Omega.{arith}
use Rattle.surface_parts.proofs.forest.label_parts.Goals as goal

pub loop-e-init : goal.loop-e-init
loop-e-init c = linking_none c.requires.0 c.begin.ensures c.requires.2

pub loop-e-preserved : goal.loop-e-preserved
loop-e-preserved c = linking_more c.loop-e.invariant (omega arith) c.take_edge.ensures

pub returns : goal.returns
returns c = let end : c.loop-e.e ≡ 1024 = omega arith in linked_flat (rw end at c.loop-e.invariant) c.flatten.ensures
