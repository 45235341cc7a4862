-- `report::show` meets its contract: what the window shows of the report stands at the front of the slice.
use Rattle.report.specs.laws.Window.{window_made}
use Rattle.report.proofs.report.show.Goals as goal

pub returns : goal.returns
returns c = window_made c.args.t.now c.args.from c.args.out.now c.report-size.ensures c.report-size.auto.out c.shown_of-shown.ensures
