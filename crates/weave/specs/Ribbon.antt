-- Document 01, "Runs of edits": "A ribbon's edges are those its steps are on; they turn the same way if their turns, zeros left out, are
-- all positive or all negative."
use Rattle.std.specs.Prelude.{ℕ, ◌/◌, ◌<◌, ◌≡◌, Bool, true, false, ◌||◌, List, [], ◌∷◌, ◌≢◌}
use Rattle.table.specs.Rotation.{rotation, live?}
use Rattle.tracing.specs.Walk.{walk}
use Rattle.tracing.specs.Listing.{has}
use Rattle.weave.specs.Letters.{unturned, positive, negative, word_of}

-- does one of these pass
unfoldable pub some : (ℕ → Bool) → List ℕ → Bool
some q [] = false
some q (x ∷ l) = q x || some q l

-- is an edge of positive turns among those of these steps; one of negative turns
abbrev pub some_positive : List ℕ → List ℕ → Bool
some_positive t l = some (λ x. positive (word_of t x)) l

abbrev pub some_negative : List ℕ → List ℕ → Bool
some_negative t l = some (λ x. negative (word_of t x)) l

-- "A ribbon's edges are those its steps are on; they turn the same way if their turns, zeros left out, are all positive or all negative."
pub data SameWay (t : List ℕ) (s : ℕ) : Type 0 where
  all_positive : ((x : ℕ) → has x (walk (rotation t) s) ≡ true → word_of t x ≢ unturned → unturned < word_of t x) → SameWay t s
  all_negative : ((x : ℕ) → has x (walk (rotation t) s) ≡ true → word_of t x ≢ unturned → word_of t x < unturned) → SameWay t s

-- document 02, i: the weave is not plain. Some ribbon, here the one through a step on a live dart, has turned edges that do not all turn the same way.
pub record Mixed (t : List ℕ) : Type 0 where
  pub on : ℕ
  pub live : live? t (on / 2) ≡ true
  pub ways : ¬ SameWay t on
