-- What holds of every trial job: a field for each clause. It holds for every starting number and every number of edges up to 1,024 (`Theorems`).
use Rattle.std.specs.Prelude.{ℕ, ◌*◌, ◌<◌, ◌≡◌, true, List, [], ◌∷◌, ◌++◌, ◌↔◌, length, Ok}
use Rattle.table.specs.Empty.{empty_table}
use Rattle.table.specs.Rotation.{Rotation, rotation}
use Rattle.tracing.specs.Met.{edge_count}
use Rattle.edits.specs.Verdicts.{verdict}
use Rattle.edits.specs.declared.edit.Edit.{Edit}
use Rattle.surface.specs.Counts.{vertex_count}
use Rattle.runs.specs.Run.{run}
use Rattle.runs.specs.RunLaws.{RunLaws}
use Rattle.records.specs.declared.records.Stop.TheVariants.{End}
use Rattle.records.specs.Reading.{reading}
use Rattle.records.specs.Blocks.{printed}
use Rattle.trial_jobs.specs.Trial.{trial_job, trial_bytes, trial_size}

module _ (start n : ℕ) where
  -- the mesh that the job leaves
  abbrev R : Rotation
  R = rotation (run empty_table (trial_job start n))

  pub record TrialLaws : Type 0 where
    -- what is written is as long as the call says, and reading it gives the edits back: no mark is bad and no record cut
    pub size : length (trial_bytes start n) ≡ trial_size n
    pub read : reading (trial_bytes start n) ≡ record { edits = trial_job start n; taken = trial_size n; stop = End }
    -- "Every record made so is accepted when run from the empty mesh": wherever it stands in the job
    pub accepted : (front : List Edit) (E : Edit) (back : List Edit) → trial_job start n ≡ front ++ E ∷ back → verdict (run empty_table front) E ≡ Ok tt
    -- so the job program prints no "no" line for it
    pub silent : printed empty_table 1 (trial_bytes start n) ≡ []
    -- after it the mesh has vertices 0 to 7 and edges 0 to N-1, and no others
    pub which_vertices : (v : ℕ) → (R.there v ≡ true) ↔ (v < 8)
    pub which_edges : (e : ℕ) → (R.live (2 * e) ≡ true) ↔ (e < n)
    pub vertex_number : vertex_count R ≡ 8
    pub edge_number : edge_count R ≡ n
    -- the third demand, all of it
    pub demand : RunLaws empty_table (trial_job start n)
