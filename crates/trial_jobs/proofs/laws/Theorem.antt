-- What holds of every trial job, by the mesh that its edits leave one after the other.
--     trial_laws                     what holds of every trial job
--     SoFar, made                    the mesh after n edges, and that every record was accepted
--     ready                          the next edge can be inserted
--     run_last                       one edit more
--     Added, added                   the mesh after the vertices
--     whole_read, nothing_printed    the job's bytes are read whole, and no line is printed
use Prim.Native.Nat.{ℕ, zero, suc, ◌+◌, ◌*◌, ◌<◌, ◌≤◌}
use native.Mathlib.Omega.{arith}
use Rattle.std.specs.Prelude.{◌≡◌, refl, false, List, [], ◌∷◌, ◌++◌, ℤ, pos, ◌-ℤ◌}
use Rattle.std.proofs.Common.{sym, ◌∙◌, subst, lt-ltb, ltb-true}
use Rattle.std.proofs.Math.Path.{ap}
use Rattle.table.specs.Layout.{edges}
use Rattle.table.specs.Empty.{empty_table}
use Rattle.edits.specs.Turns.{overturned}
use Rattle.edits.specs.Edits.{edited}
use Rattle.edits.specs.declared.edit.Edit.{Edit}
use Rattle.edits.specs.declared.edit.Edit.TheVariants.{AddVertex}
use Rattle.runs.specs.Run.{run}
use Rattle.runs.proofs.laws.Run.{run_append, run_one}
use Rattle.runs.proofs.Theorems.{empty_run_laws}
use Rattle.records.specs.declared.records.Stop.TheVariants.{End}
use Rattle.records.specs.Lines.{stop_line}
use Rattle.records.specs.Reading.{reading}
use Rattle.records.specs.Blocks.{printed_by, printed}
use Rattle.records_write.specs.Encoding.{SignedWord, AllSixteen, none}
use Rattle.records_write.proofs.laws.Encoding.{job_read}
use Rattle.trial_jobs.specs.Trial.{first_vertex, second_vertex, turns_drawn, corner_at, insertion_on, additions, trial_job, trial_bytes, trial_size, draw, state}
use Rattle.trial_jobs.specs.TrialLaws.{TrialLaws}
use Rattle.trial_jobs.proofs.laws.Corners.{at_word}
use Rattle.trial_jobs.proofs.laws.Numbered.{Numbered, numbered_empty, numbered_vertex, vertex_passes, vertex_numbered, numbered_vertices, numbered_edges}
use Rattle.trial_jobs.proofs.laws.Inserting.{Planned, corner_there, insertion_passes, insertion_numbered}
use Rattle.trial_jobs.proofs.laws.Passing as passing
use Rattle.trial_jobs.proofs.laws.Passing.{Passing, passing_last, passing_at, passing_silent}
use Rattle.trial_jobs.proofs.laws.Size.{trial_size_lem, sixteen_last}

-- a corner is a 16-bit word
corner_word : {t : List ℕ} {e : ℕ} → Numbered t 8 e → (v : ℕ) → v < 8 → corner_at t v < 65536
corner_word {t} s v l = at_word t v s.good (numbered_vertex s v l).0 (corner_there s v l)

-- turns of -1, 0 and 1
record FewTurns (k : ℤ) : Type 0 where
  few : overturned k ≡ false
  word : SignedWord k

few_turns_lem : (n : ℕ) → n < 3 → FewTurns (pos n -ℤ pos 1)
few_turns_lem zero h = record { few = refl; word = omega arith }
few_turns_lem (suc zero) h = record { few = refl; word = omega arith }
few_turns_lem (suc (suc zero)) h = record { few = refl; word = omega arith }
few_turns_lem (suc (suc (suc n))) h = absurd (omega arith)

-- one edit more
pub run_last : (t : List ℕ) (Es : List Edit) (E : Edit) → run t (Es ++ (E ∷ [])) ≡ edited (run t Es) E
run_last t Es E = run_append t Es (E ∷ []) ∙ run_one (run t Es) E

-- the vertices
record Added (v : ℕ) : Type 0 where
  mesh : Numbered (run empty_table (additions v)) v 0
  pass : Passing empty_table (additions v)
  sixteen : AllSixteen (additions v)

added : (v : ℕ) → v ≤ 8 → Added v
unfolding additions run
added zero h = record { mesh = numbered_empty; pass = passing.none; sixteen = none }
added (suc v) h =
    let r = added v (omega arith) in
    record {
      mesh = rw (run_last empty_table (additions v) (AddVertex v)) (vertex_numbered r.mesh (omega arith));
      pass = passing_last empty_table (additions v) (AddVertex v) r.pass (vertex_passes r.mesh (omega arith));
      sixteen = sixteen_last (additions v) (AddVertex v) r.sixteen (omega arith);
    }

module _ (start : ℕ) where
  abbrev after : ℕ → List ℕ
  after n = run empty_table (trial_job start n)

  turns : (e : ℕ) → FewTurns (turns_drawn start e)
  turns e = few_turns_lem (draw 3 (state start (3 * e + 3))) (omega arith)

  -- the edges
  pub record SoFar (n : ℕ) : Type 0 where
    pub mesh : Numbered (after n) 8 n
    pub pass : Passing empty_table (trial_job start n)
    pub sixteen : AllSixteen (trial_job start n)

  pub ready : {e : ℕ} → Numbered (after e) 8 e → e < edges → Planned (after e) e (first_vertex start e) (second_vertex start e) (turns_drawn start e)
  ready {e} s h = record { mesh = s; low = h; first_low = omega arith; second_low = omega arith; few = (turns e).few }

  pub made : (n : ℕ) → n ≤ edges → SoFar n
  unfolding trial_job
  made zero h = let r = added 8 (omega arith) in record { mesh = r.mesh; pass = r.pass; sixteen = r.sixteen }
  made (suc e) h =
      let m = made e (omega arith) in
      let r = ready m.mesh (omega arith) in
      let E = insertion_on (after e) start e in
      record {
        mesh = rw (run_last empty_table (trial_job start e) E) (insertion_numbered r);
        pass = passing_last empty_table (trial_job start e) E m.pass (insertion_passes r);
        sixteen = sixteen_last (trial_job start e) E m.sixteen
            (omega arith, corner_word m.mesh (first_vertex start e) (omega arith), corner_word m.mesh (second_vertex start e) (omega arith), (turns e).word, omega arith);
      }

  module _ (n : ℕ) (h : n ≤ edges) where
    m : SoFar n
    m = made n h

    whole_read : reading (trial_bytes start n) ≡ record { edits = trial_job start n; taken = trial_size n; stop = End }
    whole_read = job_read (trial_job start n) m.sixteen ∙ ap (λ k. record { edits = trial_job start n; taken = k; stop = End }) (trial_size_lem start n)

    nothing_printed : printed empty_table 1 (trial_bytes start n) ≡ []
    unfolding printed stop_line
    nothing_printed = ap (printed_by empty_table 1) whole_read ∙ rw (passing_silent empty_table 1 (trial_job start n) m.pass)

    pub trial_laws : TrialLaws start n
    trial_laws = record {
      size = trial_size_lem start n;
      read = whole_read;
      accepted = λ front E back q. passing_at empty_table front E back (subst (Passing empty_table) q m.pass);
      silent = nothing_printed;
      which_vertices = λ v. (λ e. ltb-true v 8 (sym (m.mesh.there v) ∙ e), λ l. m.mesh.there v ∙ lt-ltb v 8 l);
      which_edges = λ e. (
        λ q. let l = ltb-true (2 * e) (2 * n) (sym (m.mesh.live (2 * e)) ∙ q) in omega arith,
        λ l. m.mesh.live (2 * e) ∙ lt-ltb (2 * e) (2 * n) (omega arith),
      );
      vertex_number = numbered_vertices m.mesh (omega arith);
      edge_number = numbered_edges m.mesh h;
      demand = empty_run_laws (trial_job start n);
    }
