-- `lines::no_line` meets its contract: its five fields, one after the other.
use Rattle.text.specs.laws.Paste.{pasted_then}
use Rattle.text.specs.laws.Decimal.{decimal_few}
use native.Mathlib.Omega.{arith}
use Rattle.records.proofs.lines.no_line.Goals as goal

pub byte-space-requires : goal.byte-space-requires
byte-space-requires c = let few = decimal_few _ c.ranges.n.fits in omega arith

pub number-second-requires : goal.number-second-requires
number-second-requires c = let few = decimal_few _ c.ranges.n.fits in omega arith

pub byte-requires : goal.byte-requires
byte-requires c = let few = decimal_few _ c.ranges.n.fits in let two = decimal_few _ c.ranges.refusal.fits in omega arith

pub returns : goal.returns
returns c = pasted_then c.bytes-word.ensures (pasted_then c.number-first.ensures (pasted_then c.byte-space.ensures (pasted_then c.number-second.ensures c.byte.ensures)))
