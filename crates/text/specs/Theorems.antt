-- The theorems of this crate. Each is proved by the law of its name.
use Rattle.std.specs.Prelude.{ℕ, ◌+◌, ◌<◌, ◌≤◌, ◌≡◌, ◌≢◌, get_or, length, take, drop, List}
use Rattle.text.specs.Decimal.{decimal, value, digit}
use Rattle.text.specs.Paste.{paste}
use Rattle.std.proofs.lemmas.List.Edits.{sets}
use Rattle.text.specs.laws.Decimal as decimal
use Rattle.text.specs.laws.Paste as paste

pub decimal_value : (n : ℕ) → value (decimal n) ≡ n
decimal_value = decimal.decimal_value

-- no zero in front, unless the number is 0
pub decimal_leads : (n : ℕ) → n ≢ 0 → get_or (decimal n) 0 0 ≢ digit 0
decimal_leads = decimal.decimal_leads

-- after the whole text, index i of the window holds the text's element from + i
pub window_holds : (from : ℕ) (out text : List ℕ) (i : ℕ) → i < length out → from + i < length text
    → get_or (paste from 0 out text) i 0 ≡ get_or text (from + i) 0
window_holds = paste.window_holds

-- and where the text has ended, what it held
pub window_keeps : (from : ℕ) (out text : List ℕ) (i : ℕ) → length text ≤ from + i → get_or (paste from 0 out text) i 0 ≡ get_or out i 0
window_keeps = paste.window_keeps

-- what a window shows of the text stands at its front, and the rest is kept
pub window_shows : (from : ℕ) (out text : List ℕ) → paste from 0 out text ≡ sets out 0 (take (length out) (drop from text))
window_shows = paste.window_shows
