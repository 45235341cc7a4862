-- Why the trial program makes what its arguments ask for: the job and the line.
--     decimals_job                                         the decimal texts of two numbers ask for their job
--     outcome_few, few_as                                  a job that is asked for has few edges
--     job_laid                                             the call that writes it goes through
--     laid_none, laid_pasted, laid_as                      a text at the front of a slice
--     one_empty                                            either the output or the message is empty
use Rattle.std.specs.Prelude.{ℕ, ◌≤◌, ◌≡◌, refl, Bool, true, false, cond, List, [], ◌⊎◌, eqb, length, Option, Some, None, Ok, Err}
use Rattle.std.proofs.Common.{arith, sym, ◌∙◌, ap, inl, inr, le-leb}
use Rattle.table.specs.Layout.{edges}
use Rattle.table.specs.Answers.{if_done, Answer}
use Rattle.table.specs.Output.{front}
use Rattle.table.specs.laws.Output.{done_same, sets_front}
use Rattle.text.specs.Decimal.{decimal}
use Rattle.text.specs.Paste.{Pasted}
use Rattle.text.specs.laws.Paste.{paste_sets}
use Rattle.arguments.specs.Arguments.{number_in}
use Rattle.arguments.specs.laws.Reading.{number_within, number_decimal}
use Rattle.trial_jobs.specs.Trial.{trial_bytes, trial_size, trial_answer, trial_out}
use Rattle.trial_jobs.proofs.laws.Size.{trial_size_lem}
use Rattle.trial.specs.Program.{start_most, arguments, Outcome, with_start, outcome, output_of, message, Laid, Few}
use Rattle.trial.specs.declared.Misuse.TheVariants.{Usage}

-- the decimal texts of two numbers
pub decimals_job : (start n : ℕ) → start ≤ start_most → n ≤ edges → outcome arguments (decimal start) (decimal n) ≡ Ok (record { start = start; edges = n })
unfolding outcome
decimals_job start n h l = rw (number_decimal start start_most h, number_decimal n edges l)

-- a job that is asked for has few edges
pub outcome_few : (count : ℕ) (first second : List ℕ) → Few (outcome count first second)
unfolding outcome
outcome_few count first second = by (eqb count arguments) (number_in first start_most) (number_in second edges) (number_within second edges)
  where
    by : (b : Bool) (p q : Option ℕ) → ((n : ℕ) → q ≡ Some n → n ≤ edges) → Few (cond b (with_start p q) (Err Usage))
    by false p q h = tt
    by true None q h = tt
    by true (Some start) None h = tt
    by true (Some start) (Some n) h = h n refl

pub few_as : {o p : Outcome} → o ≡ p → Few o → Few p
few_as e h = rw e at h

-- the call that writes the job goes through

module _ (start n : ℕ) (out : List ℕ) (few : n ≤ edges) (room : trial_size edges ≤ length out)
    {a : Answer} {out' : List ℕ} (s : (a ≡ trial_answer n (length out)) × (out' ≡ trial_out start n out)) where
  goes_through : trial_answer n (length out) ≡ Ok (trial_size n)
  goes_through = rw (le-leb n edges few, le-leb (trial_size n) (length out) (omega arith))

  pub job_laid : {size : ℕ} → a ≡ Ok size → Laid (trial_bytes start n) out size out'
  job_laid e = record {
    all = done_same (sym goes_through ∙ sym s.0 ∙ e) ∙ sym (trial_size_lem start n);
    bytes = s.1 ∙ ap (λ x. if_done x (front (trial_bytes start n) out) out) goes_through;
  }

-- a text at the front of a slice

pub laid_none : (text out : List ℕ) → text ≡ [] → Laid text out 0 out
laid_none text out e = rw e (record { all = refl; bytes = refl })

pub laid_pasted : {text out : List ℕ} {size : ℕ} {out' : List ℕ} → length text ≤ length out → Pasted 0 0 out text size out' → Laid text out size out'
laid_pasted {text} {out} h p = record { all = let end = p.end in omega arith; bytes = p.shows ∙ paste_sets 0 out text ∙ sets_front text out h }

-- the same text in other words
pub laid_as : {text out : List ℕ} {size : ℕ} {out' : List ℕ} → Laid text out size out' → {text' : List ℕ} → text ≡ text' → Laid text' out size out'
laid_as k e = rw (← e) k

-- what goes to one place or to the other

pub one_empty : (o : Outcome) → (output_of o ≡ []) ⊎ (message o ≡ [])
unfolding message
one_empty (Ok o) = inr refl
one_empty (Err m) = inl refl
