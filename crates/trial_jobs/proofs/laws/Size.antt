-- How long a trial job is, written out, and that its arguments are 16-bit words.
use Rattle.std.specs.Prelude.{ℕ, zero, suc, ◌*◌, ◌≡◌, refl, length}
use Rattle.std.proofs.Common.{arith, mul-suc, ◌∙◌, ap, length-append}
use mathlib.Core.List.{List, [], ◌∷◌, ◌++◌, flat_map}
use Rattle.table.specs.Empty.{empty_table}
use Rattle.table.specs.laws.Flat.{flat_append, flat_one}
use Rattle.edits.specs.declared.edit.Edit.{Edit}
use Rattle.edits.specs.declared.edit.Edit.TheVariants.{AddVertex}
use Rattle.runs.specs.Run.{run}
use Rattle.records_write.specs.Encoding.{record_of, job_of, Sixteen, AllSixteen, none, one_more}
use Rattle.trial_jobs.specs.Trial.{additions, insertion_on, trial_job, trial_bytes, trial_size}

-- one record more
job_last : (Es : List Edit) (E : Edit) → job_of (Es ++ (E ∷ [])) ≡ job_of Es ++ record_of E
job_last Es E = flat_append record_of Es (E ∷ []) ∙ ap (λ l. job_of Es ++ l) (flat_one record_of E)

pub additions_last : (v : ℕ) → job_of (additions (suc v)) ≡ job_of (additions v) ++ record_of (AddVertex v)
unfolding additions
additions_last v = job_last (additions v) (AddVertex v)

pub bytes_last : (start e : ℕ) → trial_bytes start (suc e) ≡ trial_bytes start e ++ record_of (insertion_on (run empty_table (trial_job start e)) start e)
unfolding trial_job
bytes_last start e = job_last (trial_job start e) (insertion_on (run empty_table (trial_job start e)) start e)

additions_size : (v : ℕ) → length (job_of (additions v)) ≡ 4 * v
unfolding additions flat_map
additions_size zero = refl
additions_size (suc v) = let r = additions_size v in rw (additions_last v, length-append, mul-suc) (omega arith)

pub trial_size_lem : (start n : ℕ) → length (trial_bytes start n) ≡ trial_size n
unfolding trial_job
trial_size_lem start zero = additions_size 8
trial_size_lem start (suc e) = let r = trial_size_lem start e in rw (bytes_last start e, length-append, mul-suc) (omega arith)

pub sixteen_last : (Es : List Edit) (E : Edit) → AllSixteen Es → Sixteen E → AllSixteen (Es ++ (E ∷ []))
sixteen_last [] E none h = one_more h none
sixteen_last (F ∷ Es) E (one_more q k) h = one_more q (sixteen_last Es E k h)
