-- Tests one after the other; a refusal's number is small; a code that is handed on keeps its value.
--     LetThrough, let_through              where tests let a call through, the first holds and the rest let it through
--     number_low                           a refusal's number is below 100
--     handed_on                            a code of 64 bits keeps its value
--     number_fits, minus_fits, minus_is    minus a refusal's number in the machine is the refusal's code
use Rattle.std.specs.Prelude.{◌<◌, ◌^◌, ℕ, zero, suc, ◌≡◌, refl, ℤ, pos, neg_ℤ, ◌-ℤ◌, Bool, true, false}
use Rattle.std.proofs.Common.{◌∙◌, ap, to_z, of_z, SFits, to_z-of_z, arith}
use Rattle.std.specs.Int.{w64}
use Rattle.std.proofs.Math.Facts.{to_z_pos}
use Rattle.std.specs.Int.Signed.{mag}
use Rattle.std.proofs.Math.IntN.{+ℤ_idl}
use Rattle.table.specs.Answers.{number_of, refusal_code, unless}
use Rattle.table.specs.declared.answer.Refusal.{Refusal}
use Rattle.table.specs.declared.answer.Refusal.TheVariants.{Torn, NoSuchName, Taken, Absent, Joined, Overturned, ShortSlice, ManyTurns, Far, BadMark, CutRecord, StaleForecast, ManyEdges}

-- where tests let a call through, the first of them holds and the others let it through
pub record LetThrough {A : Type 0} (test : Bool) (x y : A) : Type 0 where
  pub held : test ≡ true
  pub rest : x ≡ y

pub let_through : {A : Type 0} (test : Bool) {refusal rest y : A} → (refusal ≡ y → ⊥) → unless test refusal rest ≡ y → LetThrough test rest y
let_through true n e = record { held = refl; rest = e }
let_through false n e = absurd (n e)

-- a refusal's number has at most two digits
pub number_low : (r : Refusal) → number_of r < 100
number_low Torn = omega arith
number_low NoSuchName = omega arith
number_low Taken = omega arith
number_low Absent = omega arith
number_low Joined = omega arith
number_low Overturned = omega arith
number_low ShortSlice = omega arith
number_low ManyTurns = omega arith
number_low Far = omega arith
number_low BadMark = omega arith
number_low CutRecord = omega arith
number_low StaleForecast = omega arith
number_low ManyEdges = omega arith

-- a code that is handed on keeps its value
pub handed_on : {z c : ℤ} → mag z < 2 ^ 63 → z ≡ c → to_z w64 (of_z w64 z) ≡ c
handed_on h e = to_z-of_z {w = w64} (record { sfits = h }) ∙ e

-- minus a refusal's number, as the machine works it out
module _ {n : ℕ} (r : Refusal) (e : n ≡ number_of r) where
  low : n < 100
  low = rw e (number_low r)

  pub number_fits : SFits w64 (pos n)
  number_fits = let h = low in record { sfits = omega arith }

  minus : to_z w64 0 -ℤ to_z w64 n ≡ neg_ℤ (pos n)
  minus = let h = low in rw (to_z_pos w64 {n = n} (omega arith), to_z_pos w64 {n = 0} (omega arith)) (+ℤ_idl (neg_ℤ (pos n)))

  few : (k : ℕ) → k < 100 → mag (neg_ℤ (pos k)) < 2 ^ 63
  few zero l = omega arith
  few (suc k) l = omega arith

  pub minus_fits : SFits w64 (to_z w64 0 -ℤ to_z w64 n)
  minus_fits = record { sfits = rw minus (few n low) }

  pub minus_is : to_z w64 (of_z w64 (to_z w64 0 -ℤ to_z w64 n)) ≡ refusal_code r
  minus_is = to_z-of_z {w = w64} minus_fits ∙ minus ∙ ap (λ k. neg_ℤ (pos k)) e
