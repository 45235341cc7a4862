-- Where a crossing sits, document 02, e: one coordinate in whole sixteenths, and the remainder of its division.
use Rattle.std.specs.Prelude.{ℕ, ◌+◌, ◌-◌, ◌*◌, ◌/◌, ◌%◌, cond, eqb, ℤ, pos, negsuc, ◌+ℤ◌, ◌-ℤ◌, ◌*ℤ◌}
use Rattle.weave.specs.Letters.{over, under}
use Rattle.wholepath_places.specs.declared.between.Place.{Place}

-- z / m, "rounded towards minus infinity"
unfoldable pub floored : ℤ → ℕ → ℤ
floored (pos k) m = pos (k / m)
floored (negsuc k) m = negsuc (k / m)

-- "and the remainder", from 0 to m - 1
unfoldable pub remainder : ℤ → ℕ → ℕ
remainder (pos k) m = k % m
remainder (negsuc k) m = m - 1 - k % m

-- (2j+1)(b-a)
abbrev pub share : ℕ → ℤ → ℤ → ℤ
share j a b = pos (2 * j + 1) *ℤ (b -ℤ a)

-- "With n crossings on an edge, crossing j .. sits, per coordinate with ends a and b, at a plus (2j+1)(b-a)/(2n), rounded towards minus infinity"
unfoldable pub sits : ℕ → ℕ → ℤ → ℤ → ℤ
sits n j a b = a +ℤ floored (share j a b) (2 * n)

-- "and the remainder, 0 to 2n-1, is given with it"
unfoldable pub remains : ℕ → ℕ → ℤ → ℤ → ℕ
remains n j a b = remainder (share j a b) (2 * n)

unfoldable pub place_of : ℕ → ℕ → ℤ → ℤ → Place
place_of n j a b = record { word = sits n j a b; rest = remains n j a b }

-- "The lift is then added over and taken off under."
unfoldable pub lifted : ℕ → ℤ → ℤ → ℤ
lifted letter z l = cond (eqb letter over) (z +ℤ l) (cond (eqb letter under) (z -ℤ l) z)

unfoldable pub lifted_place : ℕ → ℕ → ℕ → ℤ → ℤ → ℤ → Place
lifted_place letter n j a b l = record { word = lifted letter (sits n j a b) l; rest = remains n j a b }
