-- `print_stop` meets its contract: the line has room, and all of it is handed over.
use Rattle.job.specs.laws.Report.{line_room, line_handed}
use lib.Seq.{length-take-le}
use native.Mathlib.Omega.{arith}
use mathlib.Core.Path.{refl, sym}
use Rattle.job.proofs.print_stop.Goals as goal

pub slice_bounds-line-end : goal.slice_bounds-line-end
slice_bounds-line-end g c = line_room _ c.args.stop _ (omega arith) refl c.stop_line-size.ensures

pub slice_bounds-print-end : goal.slice_bounds-print-end
slice_bounds-print-end g c = sym (length-take-le _ _ (line_room _ c.args.stop _ (omega arith) refl c.stop_line-size.ensures))

pub returns : goal.returns
returns g c = line_handed _ c.args.stop _ (omega arith) refl c.stop_line-size.ensures c.print.ensures
