-- `dart::is_linked` meets its contract, a return for each word that is read.
use Rattle.check_reads.proofs.laws.Tests.{told_all, told_differs, told_same, told_past, told_low}
use Rattle.table.specs.Layout.{prev_word, leaves}
use mathlib.Core.Path.{sym, ap, ◌∙◌}
use native.Mathlib.Omega.{arith}
use Rattle.check_table.proofs.dart.is_linked.Goals as goal

pub returns-then-v-ge-VERTICES : goal.returns-then-v-ge-VERTICES
returns-then-v-ge-VERTICES g c = told_past c.read-v.ensures (omega arith)

pub returns-then-n-ge-DARTS : goal.returns-then-n-ge-DARTS
returns-then-n-ge-DARTS g c = told_low c.read-v.ensures (omega arith) (told_past c.read-n.ensures (omega arith))

pub returns-then-read-d : goal.returns-then-read-d
returns-then-read-d g c = told_low c.read-v.ensures (omega arith)
    (told_low c.read-n.ensures (omega arith)
    (told_differs (c.read.ensures.0 ∙ ap (prev_word c.args.t.now) c.read-n.ensures.0, c.read.ensures.1) c.if-read-d.true))

pub returns-then-read-v : goal.returns-then-read-v
returns-then-read-v g c = told_low c.read-v.ensures (omega arith)
    (told_low c.read-n.ensures (omega arith)
    (told_same (c.read.ensures.0 ∙ ap (prev_word c.args.t.now) c.read-n.ensures.0, c.read.ensures.1) c.if-read-d.false
    (told_differs (c.read-2.ensures.0 ∙ ap (leaves c.args.t.now) c.read-n.ensures.0, c.read-2.ensures.1) (λ q. c.if-read-v.true (q ∙ sym c.read-v.ensures.0)))))

pub returns : goal.returns
returns g c = told_low c.read-v.ensures (omega arith)
    (told_low c.read-n.ensures (omega arith)
    (told_same (c.read.ensures.0 ∙ ap (prev_word c.args.t.now) c.read-n.ensures.0, c.read.ensures.1) c.if-read-d.false
    (told_same (c.read-2.ensures.0 ∙ ap (leaves c.args.t.now) c.read-n.ensures.0, c.read-2.ensures.1) (c.if-read-v.false ∙ c.read-v.ensures.0) told_all)))
