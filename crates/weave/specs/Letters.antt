-- The letters of a step and of a ribbon, alternating ribbons and plain weaves, document 01, "Over and under".
-- A letter is the byte that is written for it.
--     over, under                                  the letters O and U
--     unturned, positive, negative                 the word of an edge without turns; the two hands
--     crossings                                    how many crossings an edge has
--     letter, letter_at, crossed                   the letter from a type; that of crossing j; those of n crossings
--     word_of                                       the word of a step's edge
--     letters_on, step_letters, letters            the letters of a step on an edge; of a step; of the ribbon through a step
--     alternating, alternates, neighbours_differ   cyclic neighbours differ; the ribbon alternates; each differs from the one after it
--     plain, every                                 all ribbons alternate; a test holds of each
use Rattle.std.specs.Prelude.{ℕ, zero, suc, ◌+◌, ◌-◌, ◌*◌, ◌/◌, ◌%◌, Bool, true, not, ◌&&◌, cond, List, [], ◌∷◌, eqb, ltb}
use Rattle.table.specs.Layout.{darts, edge_of, edge_word}
use Rattle.table.specs.Rotation.{rotation}
use Rattle.tracing.specs.Walk.{walk}
use Rattle.tracing.specs.Listing.{gather, starts}

-- "over (O)", "under (U)"
abbrev pub over : ℕ
over = 79

abbrev pub under : ℕ
under = 85

-- "its turns plus 100": the word of an edge without turns
abbrev pub unturned : ℕ
unturned = 100

-- the two hands: positive and negative turns
abbrev pub positive : ℕ → Bool
positive w = ltb unturned w

abbrev pub negative : ℕ → Bool
negative w = ltb w unturned

-- "An edge with turns k has |k| crossings."
unfoldable pub crossings : ℕ → ℕ
crossings w = w - unturned + (unturned - w)

-- "With positive k the strand goes over (O) where the type goes from 0 to 1, else under (U); with negative k the letters are exchanged."
unfoldable pub letter : Bool → ℕ → ℕ
letter hand t = cond hand (cond (eqb t 0) over under) (cond (eqb t 0) under over)

-- the letter of crossing j, from 0 on: "the type flips at each one"
unfoldable pub letter_at : ℕ → ℕ → ℕ → ℕ
letter_at w kind j = letter (positive w) ((kind + j) % 2)

-- "Along a step the type flips at each one": n crossings, the first of them from type t
unfoldable pub crossed : Bool → ℕ → ℕ → List ℕ
crossed hand t zero = []
crossed hand t (suc n) = letter hand t ∷ crossed hand (1 - t) n

-- the letters of a step of type t on an edge of word w; whichever way the edge is travelled, "the hand stays"
unfoldable pub letters_on : ℕ → ℕ → List ℕ
letters_on w t = crossed (positive w) t (crossings w)

-- "A step is on its dart's edge": the word of that edge
abbrev pub word_of : List ℕ → ℕ → ℕ
word_of t s = edge_word t (edge_of (s / 2))

unfoldable pub step_letters : List ℕ → ℕ → List ℕ
step_letters t s = letters_on (word_of t s) (s % 2)

-- the letters of the ribbon through step s, in the order of travel from it
unfoldable pub letters : List ℕ → ℕ → List ℕ
letters t s = gather (step_letters t) (walk (rotation t) s)

-- x, then these letters, then the last one: each differs from the one after it
unfoldable pub neighbours_differ : ℕ → ℕ → List ℕ → Bool
neighbours_differ last x [] = not (eqb x last)
neighbours_differ last x (y ∷ l) = not (eqb x y) && neighbours_differ last y l

-- "It alternates if cyclic neighbours among its letters differ; none counts as alternating."
unfoldable pub alternating : List ℕ → Bool
alternating [] = true
alternating (x ∷ l) = neighbours_differ x x l

unfoldable pub alternates : List ℕ → ℕ → Bool
alternates t s = alternating (letters t s)

unfoldable pub every : (ℕ → Bool) → List ℕ → Bool
every q [] = true
every q (x ∷ l) = q x && every q l

-- "A weave is plain if all its ribbons alternate": "a ribbon is a walk with at least one step", so the listed walks that start at a dart
unfoldable pub plain : List ℕ → Bool
plain t = every (λ d. alternates t (2 * d)) (starts (rotation t) darts)
