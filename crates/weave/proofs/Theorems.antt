-- The theorems of this crate, document 01, "Over and under". Each is proved by the law of its name.
use Rattle.std.specs.Prelude.{ℕ, ◌%◌, ◌<◌, ◌/◌, ◌≡◌, List, length, true, false, ◌↔◌}
use Rattle.table.specs.Good.{Good}
use Rattle.tracing.specs.Step.{steps, mirror}
use Rattle.weave.specs.Letters.{letters, alternates, plain}
use Rattle.weave.specs.Ribbon.{SameWay, Mixed}
use Rattle.table.specs.Rotation.{rotation, live?}
use Rattle.tracing.specs.Walk.{walk}
use Rattle.tracing.specs.Listing.{has}
use Rattle.weave.proofs.laws.Ribbon as ribbon
use Rattle.weave.proofs.laws.Sense as sense

-- the number of a ribbon's letters is even
pub letters_even : (t : List ℕ) (g : Good t) (s : ℕ) (low : s < steps) → length (letters t s) % 2 ≡ 0
letters_even = ribbon.letters_even

-- a ribbon alternates exactly if its turned edges all turn the same way
pub alternates_iff : (t : List ℕ) (g : Good t) (s : ℕ) (low : s < steps) → (alternates t s ≡ true) ↔ SameWay t s
alternates_iff = ribbon.alternates_iff

-- alternating does not depend on the step that names the ribbon
pub alternates_named : (t : List ℕ) (g : Good t) → (s x : ℕ) → s < steps → has x (walk (rotation t) s) ≡ true → alternates t s ≡ alternates t x
alternates_named = sense.alternates_named

-- nor on the sense in which its face is traced
pub alternates_mirror : (t : List ℕ) (g : Good t) → (s : ℕ) → s < steps → alternates t s ≡ alternates t (mirror (rotation t) s)
alternates_mirror = sense.alternates_mirror

-- a weave is plain exactly if the ribbon through every live step alternates
pub plain_iff : (t : List ℕ) (g : Good t) → (plain t ≡ true) ↔ ((s : ℕ) → live? t (s / 2) ≡ true → alternates t s ≡ true)
plain_iff = sense.plain_iff

-- "all its ribbons alternate": the edges of each turn the same way
pub plain_same : (t : List ℕ) (g : Good t) → (plain t ≡ true) ↔ ((s : ℕ) → live? t (s / 2) ≡ true → SameWay t s)
plain_same = sense.plain_same

-- and not plain exactly if there is one whose turned edges do not
pub mixed_iff : (t : List ℕ) (g : Good t) → (plain t ≡ false) ↔ Mixed t
mixed_iff = sense.mixed_iff

-- a mesh without ribbons, where no dart is live, is plain
pub bare_plain : (t : List ℕ) (g : Good t) → ((d : ℕ) → live? t d ≡ false) → plain t ≡ true
bare_plain = sense.bare_plain
