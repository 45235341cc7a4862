-- A host's number goes through exactly if it is the one that ask answers now.
--     number_exactly, number_stale    a commit takes ask's number; every other is stale
--     ask_read                        the three answers are read in ask's number
--     Within                          the three answers, each within its bits
--     Numbered, asked_numbered        ask's answer has a number of 64 bits
use Rattle.std.specs.Prelude.{ℕ, ◌+◌, ◌*◌, ◌/◌, ◌<◌, ◌≡◌, refl, List, ◌↔◌, ℤ, pos, negsuc, Ok, Err, Option, None, Some}
use Rattle.std.proofs.Common.{arith, sym, ◌∙◌, ap}
use Rattle.table.specs.laws.Lawful.{good_lawful}
use Rattle.table.specs.declared.answer.Refusal.TheVariants.{StaleForecast}
use Rattle.tracing.proofs.laws.FaceCount.{faces_low}
use Rattle.edits.specs.Verdicts.{verdict}
use Rattle.edits.specs.Rules.{rule_of, rule_number, number_met, faces_read, rule_read}
use Rattle.edits.proofs.laws.Rules.{number_small}
use Rattle.edits.proofs.laws.Verdicts.{passed_good}
use Rattle.edits.proofs.laws.WrittenGood.{written_good}
use Rattle.edits.specs.declared.edit.Edit.{Edit}
use Rattle.edits.specs.declared.rule.Rule.{Rule}
use Rattle.edits.specs.declared.rule.Rule.TheVariants as rule
use Rattle.forecasts.specs.declared.forecast.Forecast.{Forecast}
use Rattle.forecasts.specs.Forecast.{forecast, ask, commit_verdict, Asked}
use Rattle.forecasts.specs.Number.{asked_code, forecast_in}
use Rattle.forecasts.proofs.laws.Forecast.{alike, ask_passes, asked_passes, commit_exactly, commit_stale}

-- the three answers, each within its bits; there is a rule
pub record Within (f : Forecast) : Type 0 where
  pub few_before : f.before < 65536
  pub few_after : f.after < 65536
  pub few_rules : f.rule < 5
  pub some_rule : 0 < f.rule

number_some : (r : Rule) → 0 < rule_number r
number_some rule.A = omega arith
number_some rule.B1 = omega arith
number_some rule.B2 = omega arith
number_some rule.E = omega arith

within : (t : List ℕ) (E : Edit) (r : Rule) → rule_of t E ≡ Some r → verdict t E ≡ Ok tt → Within (forecast t E)
unfolding forecast
within t E r q p =
    let old = faces_low (good_lawful t (passed_good t E p)) in
    let new = faces_low (good_lawful _ (written_good t E p)) in
    let met : number_met (rule_of t E) ≡ rule_number r = ap number_met q in
    let few = number_small r in
    let Some = number_some r in
    record { few_before = omega arith; few_after = omega arith; few_rules = omega arith; some_rule = omega arith }

-- so ask's answer has a number of 64 bits
pub record Numbered (a : Asked) : Type 0 where
  pub fits : (f : Forecast) → a ≡ Ok f → Within f

pub asked_numbered : (t : List ℕ) (E : Edit) (r : Rule) → rule_of t E ≡ Some r → {a : Asked} → a ≡ ask t E → Numbered a
asked_numbered t E r q e = record {
  fits = λ f h. let a = asked_passes t E (sym e ∙ h) in rw a.1 (within t E r q a.0);
}

-- what is read in a forecast's number is the forecast
forecast_read : (f : Forecast) → Within f → forecast_in (asked_code (Ok f)) ≡ f
forecast_read f w =
    let a = w.few_after in
    let r = w.few_rules in
    alike (forecast_in (asked_code (Ok f))) f (omega arith) (omega arith) (omega arith)

pub ask_read : (t : List ℕ) (E : Edit) (r : Rule) → rule_of t E ≡ Some r → (f : Forecast) → ask t E ≡ Ok f → forecast_in (asked_code (ask t E)) ≡ f
ask_read t E r q f e = rw e (forecast_read f ((asked_numbered t E r q {a = ask t E} refl).fits f e))

-- a number in which the forecast is read is its number
read_number : (z : ℤ) (f : Forecast) → Within f → f ≡ forecast_in z → z ≡ asked_code (Ok f)
read_number (pos x) f w e =
    let b : f.before ≡ x / 4294967296 = ap (λ g. g.before) e in
    let a : f.after ≡ faces_read x = ap (λ g. g.after) e in
    let r : f.rule ≡ rule_read x = ap (λ g. g.rule) e in
    let whole : x ≡ f.after + 65536 * f.rule + 4294967296 * f.before = omega arith in
    ap pos whole
read_number (negsuc n) f w e =
    let r : f.rule ≡ 0 = ap (λ g. g.rule) e in
    let s = w.some_rule in
    absurd (omega arith)

module _ (t : List ℕ) (E : Edit) (r : Rule) (q : rule_of t E ≡ Some r) (p : verdict t E ≡ Ok tt) where
  w : Within (forecast t E)
  w = within t E r q p

  -- ask's number is the one in which the forecast is read, and no other is
  told : asked_code (ask t E) ≡ asked_code (Ok (forecast t E))
  told = ap asked_code (ask_passes t E p)

  only : (z : ℤ) → forecast_in z ≡ forecast t E → z ≡ asked_code (ask t E)
  only z e = read_number z (forecast t E) w (sym e) ∙ sym told

  pub number_exactly : (z : ℤ) → (commit_verdict t E (forecast_in z) ≡ Ok tt) ↔ (z ≡ asked_code (ask t E))
  number_exactly z = (
    λ e. only z (asked_passes t E ((commit_exactly t E (forecast_in z)).0 e)).1,
    λ e. (commit_exactly t E (forecast_in z)).1 (ask_passes t E p ∙ ap Ok (sym (ap forecast_in (e ∙ told) ∙ forecast_read (forecast t E) w))),
  )

  pub number_stale : (z : ℤ) → ¬ (z ≡ asked_code (ask t E)) → commit_verdict t E (forecast_in z) ≡ Err StaleForecast
  number_stale z n = commit_stale t E (forecast_in z) p (λ e. n (only z e))
