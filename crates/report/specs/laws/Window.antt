-- The report, a part at a time, as the code makes it.
use Rattle.std.specs.Prelude.{ℕ, ◌-◌, ◌<◌, ◌^◌, min, ◌≡◌, List, length, drop}
use Rattle.std.proofs.Common.{sym, ◌∙◌, ap, ap₂, length-take, length-drop}
use Rattle.std.proofs.lemmas.List.Edits.{sets}
use Rattle.text.specs.Paste.{paste}
use Rattle.text.specs.laws.Paste.{window_shows}
use Rattle.report_lines.specs.Lines.{report}
use Rattle.report.specs.Window.{window_text, window_of}

module _ (t : List ℕ) (from : ℕ) (out : List ℕ) where
  pub window_size : length (window_text from (length out) t) ≡ min (length out) (length (report t) - from)
  window_size = length-take (length out) (drop from (report t)) ∙ ap (min (length out)) (length-drop from (report t))

  pub window_made : {size shown room : ℕ} {out' : List ℕ}
      → (size ≡ length (report t)) × (out' ≡ paste from 0 out (report t)) × (size < 2 ^ 31) → room ≡ length out → shown ≡ min room (size - from)
      → (record { shown = shown; size = size } ≡ window_of from (length out) t) × (out' ≡ sets out 0 (window_text from (length out) t)) × (size < 2 ^ 31)
  window_made (a, p, l) h e =
      (ap₂ (λ k n. record { shown = k; size = n }) (e ∙ ap₂ (λ r n. min r (n - from)) h a ∙ sym window_size) a, p ∙ window_shows from out (report t), l)
