-- The end of the job program: the last line, the report, a window at a time, and all that was handed over.
--     line_room, line_handed                                     the last line has room, and all of it is handed over
--     Showing                                                    the loop that prints the report, a window at a time
--     start_good, read_good                                      the table is good at the start; after the reading
--     ended_early, handed_low, ended_whole                       the ends of the program
use Rattle.std.specs.Prelude.{ℕ, ◌+◌, ◌≤◌, ◌<◌, ◌^◌, ◌≡◌, refl, Bool, true, false, List, take}
use Rattle.std.proofs.Common.{arith, sym, ◌∙◌, ap, length-take-le, eq-eqb}
use Rattle.std.proofs.Math.ListN.{length, length-append}
use Rattle.orbits.proofs.laws.Truth.{clash}
use Rattle.table.specs.Layout.{words}
use Rattle.table.specs.Good.{Good}
use Rattle.table.specs.Empty.{empty_table, emptied}
use Rattle.table.specs.laws.Empty.{empty_good}
use Rattle.text.specs.laws.Paste.{pasted_length}
use Rattle.report_lines.specs.Lines.{report}
use Rattle.records.specs.declared.records.Stop.{Stop}
use Rattle.runs.specs.Run.{run}
use Rattle.runs.proofs.laws.Theorem.{run_good}
use Rattle.records.specs.Reading.{reading}
use Rattle.records.specs.laws.Reading.{reading_bounds}
use Rattle.records.specs.Lines.{stop_line}
use Rattle.records.specs.laws.Lines.{lines_few, stop_few}
use Rattle.records.specs.Blocks.{printed}
use Rattle.job.specs.declared.Progress.{Progress}
use Rattle.job.specs.Job.{fine, output, Read, Ended}
use Rattle.text.specs.Paste.{Pasted}

-- the last line has room, and all of it is handed over
module _ (next : ℕ) (stop : Stop) (line : List ℕ) {size : ℕ} {line' : List ℕ} (h : next < 2 ^ 64) (e : length line ≡ 64)
    (p : Pasted 0 0 line (stop_line next stop) size line') where
  pub line_room : size ≤ length line'
  line_room =
      let few = stop_few next stop h in
      let end = p.end in
      rw (pasted_length p) (omega arith)

  pub line_handed : {bytes : ℕ} → bytes ≡ length (take size line') → bytes ≡ length (stop_line next stop)
  line_handed f = let all = f ∙ length-take-le size line' line_room in let end = p.end in omega arith

-- the loop that prints the report: its first `from` bytes are handed over
pub record Showing (t out : List ℕ) (from : ℕ) : Type 0 where
  pub within : from ≤ length (report t)
  pub buffer : 65536 ≡ length out

-- the whole program, over a table t₁ that is filled first
module _ (t₁ : List ℕ) {t₀ : List ℕ} (h : length t₁ ≡ words) (s : t₀ ≡ emptied t₁) where
  -- "It starts from the empty mesh"
  start : t₀ ≡ empty_table
  start = s ∙ rw (eq-eqb (length t₁) words h)

  pub start_good : Good t₀
  start_good = rw start empty_good

  module _ {t : List ℕ} {p : Progress} (k : Read t₀ t p) where
    pub read_good : Good t
    read_good = rw k.table (run_good t₀ (reading k.input).edits start_good)

    -- how many bytes the output has
    output_size : length (output empty_table k.input) ≡ p.printed + length (stop_line p.next p.stop) + length (report t)
    unfolding printed
    output_size =
        let said = k.printed in
        let Es = (reading k.input).edits in
        let stop : length (stop_line (1 + length Es) (reading k.input).stop) ≡ length (stop_line p.next p.stop) = rw (k.next, k.stop) in
        let after : length (report (run t₀ Es)) ≡ length (report t) = rw k.table in
        rw (← start) (simp length-append (omega arith))

    -- the program's end, after so many bytes were handed over
    ended : {bytes : ℕ} {f : Bool} → bytes ≤ p.printed + length (stop_line p.next p.stop) + length (report t)
        → (f ≡ true → (bytes ≡ p.printed + length (stop_line p.next p.stop) + length (report t)) × (fine p.state ≡ true))
        → Ended empty_table t (record { fine = f; came = p.came; read = p.read; printed = bytes })
    ended m w = record {
      input = k.input;
      all = k.all;
      table = k.table ∙ ap (λ x. run x (reading k.input).edits) start;
      most = rw output_size m;
      whole = λ e. (w e).0 ∙ sym output_size;
      over = λ e. k.over (w e).1;
    }

    pub ended_early : Ended empty_table t (record { fine = false; came = p.came; read = p.read; printed = p.printed })
    ended_early = ended (omega arith) (λ e. absurd (clash e refl))

    module _ {line : ℕ} (a : line ≡ length (stop_line p.next p.stop)) where
      -- the numbers of bytes can be added
      pub handed_low : p.printed + line ≤ 2 ^ 63
      handed_low =
          let bounds = reading_bounds k.input in
          let within = bounds.within in
          let some = bounds.some in
          let all = k.all in
          let low = k.low in
          let next = k.next in
          let said = k.printed in
          let short = lines_few t₀ 1 (reading k.input).edits (omega arith) in
          let few = stop_few p.next p.stop (omega arith) in
          omega arith

      pub ended_line : Ended empty_table t (record { fine = false; came = p.came; read = p.read; printed = p.printed + line })
      ended_line = ended (omega arith) (λ e. absurd (clash e refl))

      pub ended_whole : {lines : ℕ} {f : Bool} → fine p.state ≡ true → (f ≡ true → lines ≡ length (report t)) → lines ≤ length (report t)
          → Ended empty_table t (record { fine = f; came = p.came; read = p.read; printed = p.printed + line + lines })
      ended_whole f b m = ended (omega arith) (λ e. let rest = b e in (omega arith, f))
