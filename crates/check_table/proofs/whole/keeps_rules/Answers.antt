-- `whole::keeps_rules` meets its contract, a return for each way in which the check ends.
use Rattle.check_reads.proofs.laws.Whole.{length_reads, dart_reads, all_reads}
use Rattle.table.specs.laws.Reading.{adds_more}
use Rattle.table.specs.laws.Check.{good_yes, good_no}
use Rattle.table.specs.laws.Vertices.{counted_good, good_counted}
use Rattle.table.specs.laws.Counting.{counts_broken, counts_some}
use Rattle.table.specs.laws.Darts.{good_ruled}
use Rattle.table.specs.laws.Rotation.{case_yes, case_no}
use native.Mathlib.Omega.{arith}
use lib.ListN.{length}
use Rattle.table.specs.Layout.{words}
use mathlib.Core.Path.{◌≡◌, ◌∙◌, sym}
use Rattle.check_table.proofs.whole.keeps_rules.Goals as goal

pub returns-then-not-lengths_fit : goal.returns-then-not-lengths_fit
returns-then-not-lengths_fit g c = let size : length c.args.t.now ≡ words = omega arith in
    let wrong = case_no c.lengths_fit.ensures.0 c.if-not-lengths_fit.true in
    (good_no c.args.t.now (λ g. wrong g.lengths), rw (length_reads c.args.t.now size wrong) c.lengths_fit.ensures.1)

pub returns-in_default : goal.returns-in_default
returns-in_default g c = let size : length c.args.t.now ≡ words = omega arith in
    let fits = case_yes c.lengths_fit.ensures.0 c.if-not-lengths_fit.false in
    let broken = counts_broken c.live_darts.ensures.0 c.in_default.is in (
      good_no c.args.t.now (λ g. broken (good_ruled c.args.t.now g)),
      rw (dart_reads c.args.t.now size fits broken) (adds_more c.lengths_fit.ensures.1 c.live_darts.ensures.1),
    )

pub returns-in_default-all_led_darts : goal.returns-in_default-all_led_darts
returns-in_default-all_led_darts g c = let size : length c.args.t.now ≡ words = omega arith in
    let fits = case_yes c.lengths_fit.ensures.0 c.if-not-lengths_fit.false in
    let r = (counts_some _ c.live_darts.ensures.0 c.in-Some.is).1 in (
      good_no c.args.t.now (λ g. counts_broken c.all_led_darts.ensures.0 c.in_default-all_led_darts.is (good_counted c.args.t.now size r g).0),
      rw (all_reads c.args.t.now size fits r) (adds_more (adds_more c.lengths_fit.ensures.1 c.live_darts.ensures.1) c.all_led_darts.ensures.1),
    )

pub returns-then-led-live : goal.returns-then-led-live
returns-then-led-live g c = let size : length c.args.t.now ≡ words = omega arith in
    let fits = case_yes c.lengths_fit.ensures.0 c.if-not-lengths_fit.false in
    let live = counts_some _ c.live_darts.ensures.0 c.in-Some.is in
    let led = counts_some _ c.all_led_darts.ensures.0 c.in-Some-all_led_darts.is in (
      good_no c.args.t.now (λ g. c.if-led-live.true (led.0 ∙ (good_counted c.args.t.now size live.1 g).1 ∙ sym live.0)),
      rw (all_reads c.args.t.now size fits live.1) (adds_more (adds_more c.lengths_fit.ensures.1 c.live_darts.ensures.1) c.all_led_darts.ensures.1),
    )

pub returns : goal.returns
returns g c = let size : length c.args.t.now ≡ words = omega arith in
    let fits = case_yes c.lengths_fit.ensures.0 c.if-not-lengths_fit.false in
    let live = counts_some _ c.live_darts.ensures.0 c.in-Some.is in
    let led = counts_some _ c.all_led_darts.ensures.0 c.in-Some-all_led_darts.is in (
      good_yes c.args.t.now (counted_good c.args.t.now size live.1 fits led.1 (sym led.0 ∙ c.if-led-live.false ∙ live.0)),
      rw (all_reads c.args.t.now size fits live.1) (adds_more (adds_more c.lengths_fit.ensures.1 c.live_darts.ensures.1) c.all_led_darts.ensures.1),
    )
