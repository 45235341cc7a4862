-- The theorems of this crate, document 02, request b. Each is proved by the law of its name.
--     ask_foretells, ask_by_rule                   what the three answers are; how after comes of before by the rule
--     ask_refuses                                  ask declines exactly where the edit does, with its number
--     ask_read, same_rule                          a host reads the three answers in ask's number; a rule's number tells the rule
--     commit_exactly, commit_plain                 when a commit goes through; it is then the plain edit
--     commit_own, commit_stale, commit_declines    the edit's own number; 12; a declined commit changes nothing
--     ask_commit                                   a commit right after its ask goes through
--     number_exactly, number_stale                 which number a commit takes; every other is stale
use Rattle.std.specs.Prelude.{ℕ, ◌≡◌, List, ◌↔◌, ℤ, Ok, Err, Option, None, Some}
use Rattle.table.specs.Rotation.{rotation}
use Rattle.table.specs.declared.answer.Refusal.{Refusal}
use Rattle.table.specs.declared.answer.Refusal.TheVariants.{StaleForecast}
use Rattle.tracing.specs.Listing.{face_count}
use Rattle.surgery.specs.Change.{Changes}
use Rattle.edits.specs.Verdicts.{verdict}
use Rattle.edits.specs.Edits.{answer, edited}
use Rattle.edits.specs.Rules.{rule_of, rule_change, reply, rule_number, number_met}
use Rattle.edits.specs.declared.edit.Edit.{Edit}
use Rattle.edits.specs.declared.rule.Rule.{Rule}
use Rattle.forecasts.specs.declared.forecast.Forecast.{Forecast}
use Rattle.forecasts.specs.Forecast.{forecast, ask, commit_verdict, commit_reply, committed}
use Rattle.forecasts.specs.Number.{asked_code, forecast_in}
use Rattle.forecasts.proofs.laws.Forecast as law
use Rattle.forecasts.proofs.laws.Number as number

-- before is the number of walks that are listed now, after the face count that the plain edit answers, and the rule, by its number, the one that it answers
pub ask_foretells : (t : List ℕ) (E : Edit) (f : Forecast) → ask t E ≡ Ok f
    → (f.before ≡ face_count (rotation t)) × (answer t E ≡ Ok f.after) × (f.rule ≡ number_met (rule_of t E))
ask_foretells = law.ask_foretells

-- a rule's number tells the rule
pub same_rule : (r s : Rule) → rule_number r ≡ rule_number s → r ≡ s
same_rule = law.same_rule

-- after follows of before and the rule, so nothing has to be written to know it
pub ask_by_rule : (t : List ℕ) (E : Edit) (f : Forecast) (r : Rule) → ask t E ≡ Ok f → rule_of t E ≡ Some r
    → Changes (rule_change r) f.before f.after
ask_by_rule = law.ask_by_rule

-- "An edit that would be declined gives its own number": to ask, exactly then
pub ask_refuses : (t : List ℕ) (E : Edit) (r : Refusal) → (ask t E ≡ Err r) ↔ (answer t E ≡ Err r)
ask_refuses = law.ask_refuses

-- "to both": and to a commit, whatever its forecast
pub commit_own : (t : List ℕ) (E : Edit) (f : Forecast) (r : Refusal) → verdict t E ≡ Err r → commit_verdict t E f ≡ Err r
commit_own = law.commit_own

-- "12, stale forecast": wherever the edit would go through and one of the three answers is another now
pub commit_stale : (t : List ℕ) (E : Edit) (f : Forecast) → verdict t E ≡ Ok tt → ¬ (f ≡ forecast t E) → commit_verdict t E f ≡ Err StaleForecast
commit_stale = law.commit_stale

-- "does the edit exactly if the table as it now is would give the same three"
pub commit_exactly : (t : List ℕ) (E : Edit) (f : Forecast) → (commit_verdict t E f ≡ Ok tt) ↔ (ask t E ≡ Ok f)
commit_exactly = law.commit_exactly

-- "a commit that goes through has the effect and the answer of the plain edit on the present table"
pub commit_plain : (t : List ℕ) (E : Edit) (f : Forecast) → commit_verdict t E f ≡ Ok tt
    → (commit_reply t E f ≡ reply t E) × (committed t E f ≡ edited t E)
commit_plain = law.commit_plain

-- one that does not has changed nothing, and answers its number alone
pub commit_declines : (t : List ℕ) (E : Edit) (f : Forecast) (r : Refusal) → commit_verdict t E f ≡ Err r
    → (commit_reply t E f ≡ Err r) × (committed t E f ≡ t)
commit_declines = law.commit_declines

-- a commit right after its ask goes through
pub ask_commit : (t : List ℕ) (E : Edit) (f : Forecast) → ask t E ≡ Ok f → (commit_reply t E f ≡ reply t E) × (committed t E f ≡ edited t E)
ask_commit = law.ask_commit

-- a host reads the three answers in ask's number
pub ask_read : (t : List ℕ) (E : Edit) (r : Rule) → rule_of t E ≡ Some r → (f : Forecast) → ask t E ≡ Ok f → forecast_in (asked_code (ask t E)) ≡ f
ask_read = number.ask_read

-- of all numbers a commit takes the one that ask answers now, and "any other int64 is stale"
pub number_exactly : (t : List ℕ) (E : Edit) (r : Rule) → rule_of t E ≡ Some r → verdict t E ≡ Ok tt
    → (z : ℤ) → (commit_verdict t E (forecast_in z) ≡ Ok tt) ↔ (z ≡ asked_code (ask t E))
number_exactly = number.number_exactly

pub number_stale : (t : List ℕ) (E : Edit) (r : Rule) → rule_of t E ≡ Some r → verdict t E ≡ Ok tt
    → (z : ℤ) → ¬ (z ≡ asked_code (ask t E)) → commit_verdict t E (forecast_in z) ≡ Err StaleForecast
number_stale = number.number_stale
