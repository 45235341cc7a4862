-- A commit, as the code does it: it asks again, compares, writes as the plain edit does, and answers what the forecast told.
use Rattle.std.specs.Prelude.{ℕ, ◌≡◌, List, Ok, Err, Option, None, Some, Result}
use Rattle.std.proofs.Math.Path.{sym, ap}
use Rattle.std.proofs.Common.{◌∙◌}
use Rattle.table.specs.declared.answer.Refusal.{Refusal}
use Rattle.edits.specs.Verdicts.{verdict, Verdict}
use Rattle.edits.specs.Edits.{written}
use Rattle.edits.proofs.laws.Edits.{edited_passes}
use Rattle.edits.specs.Rules.{rule_of, rule_number, number_met}
use Rattle.edits.proofs.laws.Rules.{by_rule}
use Rattle.edits.specs.declared.edit.Edit.{Edit}
use Rattle.edits.specs.declared.rule.Rule.{Rule}
use Rattle.edits.specs.declared.rule.Reply.{Reply}
use Rattle.forecasts.specs.declared.forecast.Forecast.{Forecast}
use Rattle.forecasts.specs.Forecast.{forecast, ask, on_asked, commit_verdict, commit_reply, committed, Asked}
use Rattle.forecasts.proofs.laws.Forecast.{rule_numbered, numbered, asked_passes, commit_exactly, commit_plain, commit_declines}

-- the plain edit's reply, by the forecast
abbrev pub told_reply : Forecast → Reply
told_reply f = record { faces = f.after; rule = Some (rule_numbered f.rule) }

module _ (t : List ℕ) (E : Edit) (f : Forecast) where
  pub judges : {a : Asked} {v : Verdict} → a ≡ ask t E → v ≡ on_asked f a → v ≡ commit_verdict t E f
  unfolding commit_verdict
  judges e q = q ∙ ap (on_asked f) e

  pub may_edit : commit_verdict t E f ≡ Ok tt → verdict t E ≡ Ok tt
  may_edit p = (asked_passes t E ((commit_exactly t E f).0 p)).0

  pub was_refused : (r : Refusal) → commit_verdict t E f ≡ Err r → (Err r ≡ commit_reply t E f) × (t ≡ committed t E f)
  was_refused r p = let d = commit_declines t E f r p in (sym d.0, sym d.1)

  -- an edge's edit, which has a rule
  pub was_done : {r : Rule} → rule_of t E ≡ Some r → commit_verdict t E f ≡ Ok tt → {x : Reply} {u : List ℕ} → x ≡ told_reply f → u ≡ written t E
      → (Ok x ≡ commit_reply t E f) × (u ≡ committed t E f)
  unfolding forecast
  was_done {r} q p e w =
      let a = asked_passes t E ((commit_exactly t E f).0 p) in
      let d = commit_plain t E f p in
      let named : f.rule ≡ rule_number r = ap (λ g. g.rule) a.1 ∙ ap number_met q in
      let met : rule_numbered f.rule ≡ r = ap rule_numbered named ∙ numbered r in (
        ap Ok (e ∙ ap (λ m. record { faces = f.after; rule = Some m }) met) ∙ by_rule t E f.after r a.0 q (ap (λ g. g.after) a.1) ∙ sym d.0,
        w ∙ sym (edited_passes t E a.0) ∙ sym d.1,
      )
