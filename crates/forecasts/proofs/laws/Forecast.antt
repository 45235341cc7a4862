-- What ask and commit answer where the edit goes through, where it is declined, and where the forecast is stale.
--     rule_numbered, numbered, same_rule                          a rule by its number
--     alike, same_is, is_same                                     the same three answers are the same forecast
--     ask_passes, ask_declines, asked_passes                      from the verdict to ask's answer, and back
--     ask_foretells, ask_by_rule, ask_refuses                     what ask answers
--     commit_plain, commit_declines, ask_commit                   what a commit answers and leaves, by its verdict; right after its ask
--     commit_own, commit_stale, commit_through, commit_exactly    its verdict, by the edit's own and by the forecast
--     asked_insertion, asked_turn, same_commit                    what is handed on
use Rattle.table.specs.Answers.{Answer}
use Rattle.std.specs.Prelude.{ℕ, ◌≡◌, refl, true, false, cond, List, ◌↔◌, eqb, ℤ, Ok, Err, Option, None, Some, Result}
use Rattle.std.proofs.Common.{arith, sym, ◌∙◌, ap₂, subst, SFits, to_z, of_z, to_z-of_z, eqb-true, eq-eqb}
use Rattle.std.proofs.Math.Path.{ap}
use Rattle.std.specs.Int.{w16}
use Rattle.orbits.proofs.laws.Truth.{truth, holds, fails, both_left, both_right}
use Rattle.table.specs.Rotation.{rotation}
use Rattle.table.specs.laws.Output.{done_declined}
use Rattle.table.specs.declared.answer.Refusal.{Refusal}
use Rattle.table.specs.declared.answer.Refusal.TheVariants.{StaleForecast}
use Rattle.tracing.specs.Listing.{face_count}
use Rattle.surgery.specs.Change.{Changes}
use Rattle.edits.specs.Verdicts.{verdict}
use Rattle.edits.specs.Edits.{answer, edited}
use Rattle.edits.specs.Rules.{rule_of, rule_change, reply, rule_number, number_met}
use Rattle.edits.proofs.laws.Verdicts.{never, judged, passed, declined}
use Rattle.edits.proofs.laws.Edits.{answer_passes, answer_declines}
use Rattle.edits.proofs.laws.Rules.{rule_changes}
use Rattle.edits.specs.declared.edit.Edit.{Edit}
use Rattle.edits.specs.declared.edit.Edit.TheVariants.{InsertEdge, TurnEdge}
use Rattle.edits.specs.declared.rule.Rule.{Rule}
use Rattle.edits.specs.declared.rule.Rule.TheVariants as rule
use Rattle.edits.specs.declared.rule.Reply.{Reply}
use Rattle.forecasts.specs.declared.forecast.Forecast.{Forecast}
use Rattle.forecasts.specs.Forecast.{forecast, ask, same_three, commit_verdict, commit_reply, committed, Asked}

unlike : {f : Forecast} {r : Refusal} → ◌≡◌ {A = Asked} (Err r) (Ok f) → ⊥
unlike e = let z : ◌≡◌ {A = ℕ} 0 1 = cc in omega arith

same_told : {f g : Forecast} → ◌≡◌ {A = Asked} (Ok f) (Ok g) → f ≡ g
same_told e = cc

same_refused : {r s : Refusal} → ◌≡◌ {A = Asked} (Err r) (Err s) → r ≡ s
same_refused e = cc

same_declined : {r s : Refusal} → ◌≡◌ {A = Answer} (Err r) (Err s) → r ≡ s
same_declined e = cc

-- a rule by its number

abbrev pub rule_numbered : ℕ → Rule
rule_numbered n = cond (eqb n 1) rule.A (cond (eqb n 2) rule.B1 (cond (eqb n 3) rule.B2 rule.E))

pub numbered : (r : Rule) → rule_numbered (rule_number r) ≡ r
numbered rule.A = refl
numbered rule.B1 = refl
numbered rule.B2 = refl
numbered rule.E = refl

pub same_rule : (r s : Rule) → rule_number r ≡ rule_number s → r ≡ s
same_rule r s e = sym (numbered r) ∙ ap rule_numbered e ∙ numbered s

-- the same three answers are the same forecast

pub alike : (f g : Forecast) → f.before ≡ g.before → f.after ≡ g.after → f.rule ≡ g.rule → f ≡ g
alike f g a b c =
    ap (λ x. made x f.after f.rule) a ∙ ap (λ x. made g.before x f.rule) b ∙ ap (λ x. made g.before g.after x) c
  where
    made : ℕ → ℕ → ℕ → Forecast
    made x y z = record { before = x; after = y; rule = z }

same_is : (f g : Forecast) → same_three f g ≡ true → f ≡ g
same_is f g e =
    let rest = both_right (eqb f.before g.before) _ e in
    alike f g (eqb-true _ _ (both_left (eqb f.before g.before) _ e)) (eqb-true _ _ (both_left (eqb f.after g.after) _ rest))
    (eqb-true _ _ (both_right (eqb f.after g.after) _ rest))

is_same : (f : Forecast) → same_three f f ≡ true
is_same f = rw (eq-eqb f.before f.before refl, eq-eqb f.after f.after refl, eq-eqb f.rule f.rule refl)

module _ (t : List ℕ) (E : Edit) where
  pub ask_passes : verdict t E ≡ Ok tt → ask t E ≡ Ok (forecast t E)
  unfolding ask
  ask_passes p = rw p

  pub ask_declines : (r : Refusal) → verdict t E ≡ Err r → ask t E ≡ Err r
  unfolding ask
  ask_declines r p = rw p

  pub asked_passes : {f : Forecast} → ask t E ≡ Ok f → (verdict t E ≡ Ok tt) × (f ≡ forecast t E)
  asked_passes e = elim (judged (verdict t E)) [
    | passed p ↦ (p, same_told (sym e ∙ ask_passes p))
    | declined r p ↦ absurd (unlike (sym (ask_declines r p) ∙ e))
  ]

  pub ask_foretells : (f : Forecast) → ask t E ≡ Ok f
      → (f.before ≡ face_count (rotation t)) × (answer t E ≡ Ok f.after) × (f.rule ≡ number_met (rule_of t E))
  unfolding forecast
  ask_foretells f e =
      let a = asked_passes e in
      (ap (λ g. g.before) a.1, answer_passes t E a.0 ∙ ap Ok (sym (ap (λ g. g.after) a.1)), ap (λ g. g.rule) a.1)

  pub ask_by_rule : (f : Forecast) (r : Rule) → ask t E ≡ Ok f → rule_of t E ≡ Some r → Changes (rule_change r) f.before f.after
  unfolding forecast
  ask_by_rule f r e q =
      let a = asked_passes e in
      rw a.1 (rule_changes t E r a.0 q)

  pub ask_refuses : (r : Refusal) → (ask t E ≡ Err r) ↔ (answer t E ≡ Err r)
  ask_refuses r = elim (judged (verdict t E)) [
    | passed p ↦ (λ e. absurd (unlike (sym e ∙ ask_passes p)), λ e. absurd (done_declined (sym e ∙ answer_passes t E p)))
    | declined s p ↦ (
      λ e. answer_declines t E s p ∙ ap Err (same_refused (sym (ask_declines s p) ∙ e)),
      λ e. ask_declines s p ∙ ap Err (same_declined (sym (answer_declines t E s p) ∙ e)),
    )
  ]

  module _ (f : Forecast) where
    pub commit_plain : commit_verdict t E f ≡ Ok tt → (commit_reply t E f ≡ reply t E) × (committed t E f ≡ edited t E)
    unfolding commit_reply committed
    commit_plain p = (rw p, rw p)

    pub commit_declines : (r : Refusal) → commit_verdict t E f ≡ Err r → (commit_reply t E f ≡ Err r) × (committed t E f ≡ t)
    unfolding commit_reply committed
    commit_declines r p = (rw p, rw p)

    pub commit_own : (r : Refusal) → verdict t E ≡ Err r → commit_verdict t E f ≡ Err r
    unfolding commit_verdict
    commit_own r p = rw (ask_declines r p)

    unlike_stale : verdict t E ≡ Ok tt → same_three f (forecast t E) ≡ false → commit_verdict t E f ≡ Err StaleForecast
    unfolding commit_verdict
    unlike_stale p q = rw (ask_passes p, q)

    like_passes : verdict t E ≡ Ok tt → same_three f (forecast t E) ≡ true → commit_verdict t E f ≡ Ok tt
    unfolding commit_verdict
    like_passes p q = rw (ask_passes p, q)

    pub commit_stale : verdict t E ≡ Ok tt → ¬ (f ≡ forecast t E) → commit_verdict t E f ≡ Err StaleForecast
    commit_stale p n = elim (truth (same_three f (forecast t E))) [
      | holds q ↦ absurd (n (same_is f (forecast t E) q))
      | fails q ↦ unlike_stale p q
    ]

    commit_through : commit_verdict t E f ≡ Ok tt → ask t E ≡ Ok f
    commit_through e = elim (judged (verdict t E)) [
      | passed p ↦ elim (truth (same_three f (forecast t E))) [
        | holds q ↦ ask_passes p ∙ ap Ok (sym (same_is f (forecast t E) q))
        | fails q ↦ absurd (never (sym (unlike_stale p q) ∙ e))
      ]
      | declined r p ↦ absurd (never (sym (commit_own r p) ∙ e))
    ]

    asked_commit : ask t E ≡ Ok f → commit_verdict t E f ≡ Ok tt
    asked_commit e =
        let a = asked_passes e in
        like_passes a.0 (subst (λ g. same_three f g ≡ true) a.1 (is_same f))

    pub commit_exactly : (commit_verdict t E f ≡ Ok tt) ↔ (ask t E ≡ Ok f)
    commit_exactly = (commit_through, asked_commit)

    pub ask_commit : ask t E ≡ Ok f → (commit_reply t E f ≡ reply t E) × (committed t E f ≡ edited t E)
    ask_commit e = commit_plain (asked_commit e)

-- turns, amounts and forecasts that are handed on keep their values
module _ (t : List ℕ) {a : Asked} where
  pub asked_insertion : (e c₁ c₂ : ℕ) (k : ℤ) (n : ℕ) → SFits w16 k → a ≡ ask t (InsertEdge e c₁ c₂ (to_z w16 (of_z w16 k)) n) → a ≡ ask t (InsertEdge e c₁ c₂ k n)
  asked_insertion e c₁ c₂ k n f q = q ∙ ap (λ z. ask t (InsertEdge e c₁ c₂ z n)) (to_z-of_z {w = w16} f)

  pub asked_turn : (e : ℕ) (k : ℤ) → SFits w16 k → a ≡ ask t (TurnEdge e (to_z w16 (of_z w16 k))) → a ≡ ask t (TurnEdge e k)
  asked_turn e k f q = q ∙ ap (λ z. ask t (TurnEdge e z)) (to_z-of_z {w = w16} f)

pub same_commit : (t u : List ℕ) (x : Result Reply Refusal) {E F : Edit} {f g : Forecast} → E ≡ F → f ≡ g → (x ≡ commit_reply t E f) × (u ≡ committed t E f)
    → (x ≡ commit_reply t F g) × (u ≡ committed t F g)
same_commit t u x e h p = (p.0 ∙ ap₂ (commit_reply t) e h, p.1 ∙ ap₂ (committed t) e h)
