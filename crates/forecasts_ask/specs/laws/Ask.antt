-- What ask answers, as the code finds it.
use Rattle.std.specs.Prelude.{ℕ, ◌≡◌, refl, List, Ok, Err, Option, None, Some}
use Rattle.std.proofs.Math.Path.{sym}
use Rattle.std.proofs.Common.{◌∙◌, ap}
use Rattle.table.specs.Rotation.{rotation}
use Rattle.table.specs.declared.answer.Refusal.{Refusal}
use Rattle.tracing.specs.Listing.{face_count}
use Rattle.edits.specs.Verdicts.{verdict}
use Rattle.edits.specs.Edits.{written}
use Rattle.edits.proofs.laws.Rules.{rule_changes}
use Rattle.edits.specs.Rules.{rule_of, faces_after, rule_number}
use Rattle.edits.specs.declared.edit.Edit.{Edit}
use Rattle.edits.specs.declared.rule.Rule.{Rule}
use Rattle.edits_rule.specs.laws.Rule.{after_is}
use Rattle.forecasts.specs.declared.forecast.Forecast.{Forecast}
use Rattle.forecasts.specs.Forecast.{forecast, ask, Asked}
use Rattle.forecasts.proofs.laws.Forecast.{ask_passes, ask_declines}

-- the three answers, by the face count before and the rule
abbrev pub foretold_by : ℕ → Rule → Forecast
foretold_by n r = record { before = n; after = faces_after n r; rule = rule_number r }

module _ (t : List ℕ) (E : Edit) where
  pub was_refused : (r : Refusal) → verdict t E ≡ Err r → Err r ≡ ask t E
  was_refused r p = sym (ask_declines t E r p)

  -- an edit that goes through, on a table of n faces, by rule r
  pub was_foretold : verdict t E ≡ Ok tt → {r : Rule} → rule_of t E ≡ Some r → {n : ℕ} → n ≡ face_count (rotation t)
      → {a : Asked} → a ≡ Ok (foretold_by n r) → a ≡ ask t E
  unfolding forecast
  was_foretold p {r} q {n} f h =
      let after : faces_after n r ≡ face_count (rotation (written t E)) = after_is n (face_count (rotation (written t E))) r (rw f (rule_changes t E r p q)) in
      h ∙ rw (after, f, q) (ap Ok refl) ∙ sym (ask_passes t E p)
