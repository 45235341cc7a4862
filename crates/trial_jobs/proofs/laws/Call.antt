-- What the call for a trial job answers, and that each answer says why.
--     answer_many, answer_short, answer_done    13; 7; or the size
--     trial_many, trial_short, trial_never      13 and 7 exactly then; never anything else
--     Why, why                                  one of the three holds
use Rattle.table.specs.Answers.{Answer}
use Rattle.std.specs.Prelude.{ℕ, ◌<◌, ◌≤◌, ◌≡◌, ◌↔◌, ◌⊎◌, Ok, Err}
use Rattle.std.proofs.Common.{arith, sym, ◌∙◌, inl, inr, le-leb}
use Rattle.std.proofs.Math.Decide.{dec_lt}
use Rattle.std.proofs.lemmas.Bool.{lt-leb}
use Rattle.table.specs.Layout.{edges}
use Rattle.table.specs.laws.Output.{done_declined}
use Rattle.table.specs.declared.answer.Refusal.{Refusal}
use Rattle.table.specs.declared.answer.Refusal.TheVariants.{ShortSlice, ManyEdges}
use Rattle.trial_jobs.specs.Trial.{trial_size, trial_answer}

module _ (n room : ℕ) where
  pub answer_many : edges < n → trial_answer n room ≡ Err ManyEdges
  answer_many h = rw (lt-leb n edges h)

  pub answer_short : n ≤ edges → room < trial_size n → trial_answer n room ≡ Err ShortSlice
  answer_short h l = rw (le-leb n edges h, lt-leb (trial_size n) room l)

  pub answer_done : n ≤ edges → trial_size n ≤ room → trial_answer n room ≡ Ok (trial_size n)
  answer_done h l = rw (le-leb n edges h, le-leb (trial_size n) room l)

  -- one of the three holds
  data Why : Type 0 where
    many : edges < n → trial_answer n room ≡ Err ManyEdges → Why
    short : n ≤ edges → room < trial_size n → trial_answer n room ≡ Err ShortSlice → Why
    fits : n ≤ edges → trial_size n ≤ room → trial_answer n room ≡ Ok (trial_size n) → Why

  why : Why
  why = elim (dec_lt edges n) [
    | yes h ↦ many h (answer_many h)
    | no h ↦ elim (dec_lt room (trial_size n)) [
      | yes l ↦ short (omega arith) l (answer_short (omega arith) l)
      | no l ↦ fits (omega arith) (omega arith) (answer_done (omega arith) (omega arith))
    ]
  ]

  other : {A : Type 0} → ◌≡◌ {A = Answer} (Err ManyEdges) (Err ShortSlice) → A
  other e = absurd (let z : ◌≡◌ {A = ℕ} 0 1 = cc in omega arith)

  pub trial_many : (trial_answer n room ≡ Err ManyEdges) ↔ (edges < n)
  trial_many = (λ e. by e why, answer_many)
    where
      by : trial_answer n room ≡ Err ManyEdges → Why → edges < n
      by e (many h q) = h
      by e (short h l q) = other (sym e ∙ q)
      by e (fits h l q) = absurd (done_declined (sym e ∙ q))

  pub trial_short : (trial_answer n room ≡ Err ShortSlice) ↔ ((n ≤ edges) × (room < trial_size n))
  trial_short = (λ e. by e why, λ h. answer_short h.0 h.1)
    where
      by : trial_answer n room ≡ Err ShortSlice → Why → (n ≤ edges) × (room < trial_size n)
      by e (many h q) = other (sym q ∙ e)
      by e (short h l q) = (h, l)
      by e (fits h l q) = absurd (done_declined (sym e ∙ q))

  pub trial_never : (r : Refusal) → trial_answer n room ≡ Err r → (r ≡ ManyEdges) ⊎ (r ≡ ShortSlice)
  trial_never r e = by why
    where
      same : {x y : Refusal} → ◌≡◌ {A = Answer} (Err x) (Err y) → x ≡ y
      same e = cc

      by : Why → (r ≡ ManyEdges) ⊎ (r ≡ ShortSlice)
      by (many h q) = inl (same (sym e ∙ q))
      by (short h l q) = inr (same (sym e ∙ q))
      by (fits h l q) = absurd (done_declined (sym e ∙ q))
