-- `writing::write_piece` meets its contract: one word, and three coordinates and three remainders from three times its index on.
use borrow.Author.Rules.{rules}
use Rattle.wholepath_writing.specs.laws.Written.{piece_written}
use lib.ListN.{length-set}
use native.Mathlib.Omega.{arith}
use Rattle.wholepath_writing.proofs.writing.write_piece.Goals as goal

pub bounds-coords-n-2 : goal.bounds-coords-n-2
bounds-coords-n-2 c = rw length-set (omega arith)

pub bounds-coords-n-3 : goal.bounds-coords-n-3
bounds-coords-n-3 c = rw (length-set, length-set) (omega arith)

pub bounds-remainders-n-2 : goal.bounds-remainders-n-2
bounds-remainders-n-2 c = rw length-set (omega arith)

pub bounds-remainders-n-3 : goal.bounds-remainders-n-3
bounds-remainders-n-3 c = rw (length-set, length-set) (omega arith)

pub returns : goal.returns
returns c = piece_written c.form_word.ensures c.spot_of-q.ensures (record { x = search rules; y = search rules; z = search rules })
