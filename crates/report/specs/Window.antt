-- The report, a part at a time: what is written next, where the first bytes are written.
use Rattle.std.specs.Prelude.{ℕ, List, length, take, drop}
use Rattle.report.specs.declared.report.Window.{Window}
use Rattle.report_lines.specs.Lines.{report}

-- the bytes of the report on t after the first `from`, at most n
abbrev pub window_text : ℕ → ℕ → List ℕ → List ℕ
window_text from n t = take n (drop from (report t))

abbrev pub window_of : ℕ → ℕ → List ℕ → Window
window_of from n t = record { shown = length (window_text from n t); size = length (report t) }
