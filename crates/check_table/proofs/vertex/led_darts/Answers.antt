-- `vertex::led_darts` meets its contract, a return for each way in which the word is read.
use Rattle.check_reads.proofs.laws.Vertices.{read_none, read_alone, read_past, read_astray, read_cycle}
use Rattle.table.specs.laws.Vertices.{vertex_none, vertex_alone, vertex_astray, vertex_cycle}
use Rattle.table.specs.laws.Cycle.{CycleSays}
use Rattle.table.specs.Layout.{leaves}
use native.Mathlib.Omega.{arith}
use mathlib.Core.Path.{sym, ap, subst, ◌∙◌}
use Rattle.check_table.proofs.vertex.led_darts.Goals as goal

pub returns-then-word : goal.returns-then-word
returns-then-word g c = (vertex_none _ c.requires.0 _ (sym c.read-word.ensures.0 ∙ c.if-word.true), read_none c.args.t.now c.args.v c.read-word.ensures.0 c.read-word.ensures.1 c.if-word.true)

pub returns-then-word-2 : goal.returns-then-word-2
returns-then-word-2 g c = (vertex_alone _ c.requires.0 _ (sym c.read-word.ensures.0 ∙ c.if-word-2.true), read_alone c.args.t.now c.args.v c.read-word.ensures.0 c.read-word.ensures.1 c.if-word-2.true)

pub returns-then-w-ge-DARTS : goal.returns-then-w-ge-DARTS
returns-then-w-ge-DARTS g c = (
  vertex_astray _ c.requires.0 _ (λ q. c.if-word.false (c.read-word.ensures.0 ∙ q)) (λ q. c.if-word-2.false (c.read-word.ensures.0 ∙ q)) (λ a. let low = a.live.low in omega arith),
  read_past c.args.t.now c.args.v c.read-word.ensures.0 c.read-word.ensures.1 c.if-word.false c.if-word-2.false c.if-w-ge-DARTS.true,
)

pub returns-then-read-v : goal.returns-then-read-v
returns-then-read-v g c = (
  vertex_astray _ c.requires.0 _ (λ q. c.if-word.false (c.read-word.ensures.0 ∙ q)) (λ q. c.if-word-2.false (c.read-word.ensures.0 ∙ q))
      (λ a. c.if-read-v.true (c.read.ensures.0 ∙ ap (leaves c.args.t.now) c.read-word.ensures.0 ∙ a.here)),
  read_astray c.args.t.now c.args.v c.read-word.ensures.0 c.read-word.ensures.1 c.if-word.false c.if-word-2.false (omega arith) c.read.ensures.0 c.read.ensures.1 c.if-read-v.true,
)

pub returns : goal.returns
returns g c = (
  vertex_cycle c.args.t.now c.requires.0 c.args.v c.requires.1 (λ q. c.if-word.false (c.read-word.ensures.0 ∙ q)) (λ q. c.if-word-2.false (c.read-word.ensures.0 ∙ q)) (omega arith)
      (sym (c.read.ensures.0 ∙ ap (leaves c.args.t.now) c.read-word.ensures.0) ∙ c.if-read-v.false)
      (subst (λ w. CycleSays c.args.t.now w c.cycle.result) c.read-word.ensures.0 c.cycle.ensures.0),
  read_cycle c.args.t.now c.args.v c.read-word.ensures.0 c.read-word.ensures.1 c.if-word.false c.if-word-2.false (omega arith) c.read.ensures.0 c.read.ensures.1 c.if-read-v.false c.cycle.ensures.1,
)
