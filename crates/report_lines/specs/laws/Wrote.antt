-- A piece of text that was written, with a bound on its length: places stay far below the limit of a machine word.
--     Wrote                                                        a text stands from a place on; it has at most so many bytes
--     wrote_none, wrote_then, wrote_as                             no text; one after another; in other words
--     wrote_most, wrote_length                                     a wider bound; the slice keeps its size
--     short, number_wrote, field_wrote, signed_wrote               a text of known length; a number; a space and a number
--     parts_most, steps_most, walk_most, walks_most, lones_most    the bounds for parts, steps, walks and empty walks
use Rattle.std.specs.Prelude.{ℕ, ◌+◌, ◌*◌, ◌<◌, ◌≤◌, ◌^◌, ◌≡◌, List, [], ◌∷◌, ◌++◌, ℤ, length}
use Rattle.std.proofs.Common.{arith, sym, ap, SFits, to_z, of_z, to_z-of_z}
use Rattle.std.specs.Int.{w32}
use Rattle.table.specs.Layout.{vertices, darts}
use Rattle.text.specs.laws.Paste.{paste_none, pasted_then, pasted_as, pasted_length}
use Rattle.text.specs.Decimal.{decimal, integer}
use Rattle.text.specs.laws.Decimal.{decimal_few}
use Rattle.text.specs.laws.Sign.{integer_few}
use Rattle.report_lines.specs.Lines.{space}
use Rattle.tracing.specs.Step.{steps}
use Rattle.text.specs.Paste.{Pasted}

-- the text stands from place `at` on; it has at most so many bytes
pub record Wrote (most from at : ℕ) (out text : List ℕ) (r : ℕ) (out' : List ℕ) : Type 0 where
  pub pasted : Pasted from at out text r out'
  pub near : r ≤ at + most

-- bounds: 512 parts, 4,096 steps, 2,048 walks that start at a dart, 512 empty ones
abbrev pub parts_most : ℕ
parts_most = vertices * 40

abbrev pub steps_most : ℕ
steps_most = steps * 142

abbrev pub walk_most : ℕ
walk_most = steps_most + 47

abbrev pub walks_most : ℕ
walks_most = darts * walk_most

abbrev pub lones_most : ℕ
lones_most = vertices * 50

-- one piece after another
module _ {most from at : ℕ} {out a : List ℕ} {r : ℕ} {out' : List ℕ} (p : Wrote most from at out a r out') where
  pub wrote_then : {more : ℕ} {b : List ℕ} {r' : ℕ} {out'' : List ℕ} → Wrote more from r out' b r' out'' → Wrote (most + more) from at out (a ++ b) r' out''
  wrote_then q = record { pasted = pasted_then p.pasted q.pasted; near = let m = p.near in let n = q.near in omega arith }

  pub wrote_as : {b : List ℕ} → a ≡ b → Wrote most from at out b r out'
  wrote_as e = rw (← e) p

  -- a wider bound
  pub wrote_most : (more : ℕ) → most ≤ more → Wrote more from at out a r out'
  wrote_most more h = record { pasted = p.pasted; near = let n = p.near in omega arith }

  pub wrote_length : length out' ≡ length out
  wrote_length = pasted_length p.pasted

-- nothing
pub wrote_none : (from at : ℕ) (out : List ℕ) → Wrote 0 from at out [] at out
wrote_none from at out = record { pasted = record { end = omega arith; shows = sym (paste_none from at out) }; near = omega arith }

-- a text of known length
pub short : {from at : ℕ} {out text : List ℕ} {r : ℕ} {out' : List ℕ} (most : ℕ) → Pasted from at out text r out' → length text ≤ most → Wrote most from at out text r out'
short most p h = record { pasted = p; near = let e = p.end in omega arith }

-- a number of any word
pub number_wrote : {from at n r : ℕ} {out out' : List ℕ} → n < 2 ^ 64 → Pasted from at out (decimal n) r out' → Wrote 20 from at out (decimal n) r out'
number_wrote {n = n} h p = short 20 p (decimal_few n h)

-- a space and a number

pub field_wrote : {from at n r r' : ℕ} {out out' out'' : List ℕ} → n < 2 ^ 64 → Pasted from at out (space ∷ []) r out' → Pasted from r out' (decimal n) r' out''
    → Wrote 21 from at out (space ∷ decimal n) r' out''
field_wrote {n = n} h p q = short 21 (pasted_then p q) (let few = decimal_few n h in omega arith)

pub signed_wrote : {from at r r' : ℕ} {z : ℤ} {out out' out'' : List ℕ} → SFits w32 z → Pasted from at out (space ∷ []) r out'
    → Pasted from r out' (integer (to_z w32 (of_z w32 z))) r' out'' → Wrote 12 from at out (space ∷ integer z) r' out''
signed_wrote h p q =
    short 12 (pasted_as (pasted_then p q) (ap (λ y. space ∷ integer y) (to_z-of_z h))) (let few = integer_few h in omega arith)
