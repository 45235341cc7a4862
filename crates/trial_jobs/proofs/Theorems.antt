-- The theorems of this crate, document 02, request f. Each is proved by the law of its name.
use Rattle.std.specs.Prelude.{ℕ, ◌<◌, ◌≤◌, ◌≡◌, ◌↔◌, ◌⊎◌, Err}
use Rattle.table.specs.Layout.{edges}
use Rattle.table.specs.declared.answer.Refusal.{Refusal}
use Rattle.table.specs.declared.answer.Refusal.TheVariants.{ShortSlice, ManyEdges}
use Rattle.trial_jobs.specs.Trial.{trial_size, trial_answer}
use Rattle.trial_jobs.specs.TrialLaws.{TrialLaws}
use Rattle.trial_jobs.proofs.laws.Call as call
use Rattle.trial_jobs.proofs.laws.Theorem as theorem

-- for every starting number and every N up to 1,024: what is written is read back, every record is accepted, the mesh after it is as drawn, and
-- the third demand holds of it
pub trial_laws : (start n : ℕ) → n ≤ edges → TrialLaws start n
trial_laws = theorem.trial_laws

-- "Turned away: 13, N above 1,024; otherwise 7 for an output shorter than 32 + 10N bytes, and never anything else."
pub trial_many : (n room : ℕ) → (trial_answer n room ≡ Err ManyEdges) ↔ (edges < n)
trial_many = call.trial_many

pub trial_short : (n room : ℕ) → (trial_answer n room ≡ Err ShortSlice) ↔ ((n ≤ edges) × (room < trial_size n))
trial_short = call.trial_short

pub trial_never : (n room : ℕ) (r : Refusal) → trial_answer n room ≡ Err r → (r ≡ ManyEdges) ⊎ (r ≡ ShortSlice)
trial_never = call.trial_never
