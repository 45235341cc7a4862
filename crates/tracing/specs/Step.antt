-- One step of a walk, its mirror and its corner, document 01, "Corners and walks", over a rotation system.
-- A step is the word 2d+t of the listing: dart d with trace type t. The laws hold for every word, also of a dart that is not live.
use Rattle.std.specs.Prelude.{ℕ, ◌+◌, ◌-◌, ◌*◌, ◌/◌, ◌%◌, eqb, cond}
use Rattle.table.specs.Layout.{rev}
use Rattle.table.specs.Rotation.{Rotation}

-- the step words: two types for each dart
abbrev pub steps : ℕ
steps = 4096

-- "let t' be t plus the turns of d's edge, mod 2"
unfoldable pub step_type : Rotation → ℕ → ℕ
step_type R s = (s + R.turns (s / 2)) % 2

-- around a dart's vertex: "the next dart after" it with type 0, "the one before it" with type 1
unfoldable pub around : Rotation → ℕ → ℕ → ℕ
around R t d = cond (eqb t 0) (2 * R.next d) (2 * R.prev d + 1)

-- "go to the next dart after the reverse of d if t' is 0, to the one before it if t' is 1; the new type is t'"
unfoldable pub step : Rotation → ℕ → ℕ
step R s = around R (step_type R s) (rev (s / 2))

-- "Step (d, 0) meets corner d; step (d, 1) meets the corner of the dart next after d"
unfoldable pub corner : Rotation → ℕ → ℕ
corner R s = cond (eqb (s % 2) 0) (s / 2) (R.next (s / 2))

-- the other sense at the same corner: (d, 0) and (previous of d, 1)
unfoldable pub mirror : Rotation → ℕ → ℕ
mirror R s = around R (1 - s % 2) (s / 2)

-- the same way along the edge, from its other end: the step after it is the mirror of s
unfoldable pub back : Rotation → ℕ → ℕ
back R s = 2 * rev (s / 2) + (1 - step_type R s)

-- the step by the same dart with the other type: 2d and 2d+1 are exchanged
abbrev pub other_type : ℕ → ℕ
other_type s = rev s
