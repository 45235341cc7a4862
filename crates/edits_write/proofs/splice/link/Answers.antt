-- `splice::link` meets its contract. Puts dart x into corner c.
use Rattle.edits.proofs.laws.Edge.{dart_link, link_past}
use mathlib.Core.Path.{◌∙◌, sym}
use Rattle.edits_write.proofs.splice.link.Goals as goal

pub returns-then-c-lt-DARTS : goal.returns-then-c-lt-DARTS
returns-then-c-lt-DARTS c = c.splice.ensures ∙ dart_link c.args.t.now c.args.x c.args.c c.lesser-w.result c.if-c-lt-DARTS.true c.lesser-w.ensures

pub returns : goal.returns
returns c = c.splice-2.ensures ∙ sym (link_past _ _ _ c.if-c-lt-DARTS.false)
