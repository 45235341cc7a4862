-- `line::weave_line` meets its contract, a return for each word.
use mathlib.Core.Path.{sym, ◌∙◌}
use Rattle.report.specs.laws.Weave.{weave_plain, weave_mixed}
use Rattle.report.proofs.line.weave_line.Goals as goal

pub returns-then-is_plain : goal.returns-then-is_plain
returns-then-is_plain c = weave_plain c.args.t.now (sym c.if-is_plain.true ∙ c.is_plain.ensures) c.bytes.ensures

pub returns : goal.returns
returns c = weave_mixed c.args.t.now (sym c.if-is_plain.false ∙ c.is_plain.ensures) c.bytes-2.ensures
