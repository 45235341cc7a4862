-- Turns as edge words: "for each edge, 0 if not live, else its turns plus 100; turns run from -99 to 99".
--     overturned_low, overturned_high                       turns below -99 or above 99 are overturned
--     FewTurns, in_range, few_range                         turns in range, and their word
--     word_fits, amount_fits, sum_fits, hundred_fits        the sums fit 32 bits
--     settle_word, settle_amount, settle, settle_hundred    so the machine's sums are the sums
--     word_over, word_in, few_word                          the word after a turn: 0 where it would pass 99
--     hundred                                               an edge without turns has the word 100
--     inserted_word, turned_some                            the word of an inserted or turned edge is a live one's
--     amount_on                                             an amount that is handed on keeps its value
use Rattle.std.specs.Prelude.{ℕ, suc, ◌≤◌, ◌<◌, ◌^◌, ◌≡◌, refl, true, false, cond, ◌≢◌, ℤ, pos, negsuc, nat_abs, ◌+ℤ◌, ◌-ℤ◌}
use Rattle.std.proofs.Common.{arith, sym, ◌∙◌, ap, ap₂, SFits, to_z, of_z, to_z-of_z, lt-ltb, le-ltb, ltb-true, ltb-false}
use Rattle.std.proofs.Math.IntN.{+ℤ_idl}
use Rattle.std.specs.Int.Signed.{lt_z, mag}
use Rattle.std.specs.Int.{w16, w32}
use Rattle.std.proofs.Math.Facts.{to_z_pos}
use Rattle.orbits.proofs.laws.Truth.{clash}
use Rattle.table.specs.laws.Signed.{difference, below, above, mag_sum}
use Rattle.edits.specs.Turns.{turns_in, overturned, word_for, turned_word}
use Rattle.table.specs.Layout.{edge_word_most}

-- the tests that the code makes
pub overturned_low : (z : ℤ) → lt_z z (negsuc 98) ≡ true → overturned z ≡ true
overturned_low (pos n) e = absurd (clash e refl)
overturned_low (negsuc n) e = let h = ltb-true 98 n e in lt-ltb 99 (suc n) (omega arith)

pub overturned_high : (z : ℤ) → lt_z (pos 99) z ≡ true → overturned z ≡ true
overturned_high (pos n) e = e
overturned_high (negsuc n) e = absurd (clash e refl)

-- turns in range: their word is from 1 to 199, and their sum with 100 is not negative
pub record FewTurns (z : ℤ) : Type 0 where
  pub few : overturned z ≡ false
  pub plus_hundred : z +ℤ pos 100 ≡ pos (word_for z)
  pub some : 1 ≤ word_for z
  pub most : word_for z ≤ edge_word_most

pub in_range : (z : ℤ) → lt_z z (negsuc 98) ≡ false → lt_z (pos 99) z ≡ false → FewTurns z
in_range (pos n) e f =
    let h = ltb-false 99 n f in
    record { few = f; plus_hundred = refl; some = omega arith; most = omega arith }
in_range (negsuc n) e f =
    let h = ltb-false 98 n e in
    elim (difference 100 (suc n)) [
      | below b q ↦ absurd (omega arith)
      | above b q ↦ record {
        few = le-ltb 99 (suc n) (omega arith);
        plus_hundred = q ∙ ap pos (sym (ap nat_abs q));
        some = rw q (omega arith);
        most = rw q (omega arith);
      }
    ]

-- the same, from the definition
pub few_range : (z : ℤ) → overturned z ≡ false → FewTurns z
few_range (pos n) e = in_range (pos n) refl e
few_range (negsuc n) e = let h = ltb-false 99 (suc n) e in in_range (negsuc n) (le-ltb 98 n (omega arith)) refl

-- the sum of a word's turns and an amount fits 32 bits, step by step
module _ (w : ℕ) (a : ℤ) (h : w < 2 ^ 16) (l : mag a < 2 ^ 15) where
  pub word_fits : SFits w32 (pos w -ℤ pos 100)
  word_fits = let m = mag_sum (pos w) (negsuc 99) in record { sfits = omega arith }

  pub amount_fits : SFits w32 a
  amount_fits = record { sfits = omega arith }

  pub sum_fits : SFits w32 (turns_in w +ℤ a)
  sum_fits =
      let m = mag_sum (pos w) (negsuc 99) in
      let n = mag_sum (pos w -ℤ pos 100) a in
      record { sfits = omega arith }

  -- so the machine's sum is the sum
  pub settle_word : to_z w32 (of_z w32 (to_z w32 w -ℤ pos 100)) ≡ turns_in w
  settle_word = ap (λ z. to_z w32 (of_z w32 (z -ℤ pos 100))) (to_z_pos w32 {n = w} (omega arith)) ∙ to_z-of_z {w = w32} word_fits

  pub settle_amount : SFits w16 a → to_z w32 (of_z w32 (to_z w16 (of_z w16 a))) ≡ a
  settle_amount f = ap (λ z. to_z w32 (of_z w32 z)) (to_z-of_z {w = w16} f) ∙ to_z-of_z {w = w32} amount_fits

  pub settle : SFits w16 a → to_z w32 (of_z w32 (to_z w32 (of_z w32 (to_z w32 w -ℤ pos 100)) +ℤ to_z w32 (of_z w32 (to_z w16 (of_z w16 a))))) ≡ turns_in w +ℤ a
  settle f = ap (λ z. to_z w32 (of_z w32 z)) (ap₂ ◌+ℤ◌ settle_word (settle_amount f)) ∙ to_z-of_z {w = w32} sum_fits

-- a hundred more fits, too
pub hundred_fits : (z : ℤ) → FewTurns z → SFits w32 (z +ℤ pos 100)
hundred_fits z r = rw r.plus_hundred (record { sfits = let m = r.most in omega arith })

pub settle_hundred : (y z : ℤ) → y ≡ z → FewTurns z → to_z w32 (of_z w32 (y +ℤ pos 100)) ≡ pos (word_for z)
settle_hundred y z e r = ap (λ x. to_z w32 (of_z w32 (x +ℤ pos 100))) e ∙ to_z-of_z {w = w32} (hundred_fits z r) ∙ r.plus_hundred

-- the word of turns that pass 99, and of those that do not
module _ (w : ℕ) (a : ℤ) where
  pub word_over : overturned (turns_in w +ℤ a) ≡ true → 0 ≡ turned_word w a
  word_over e = sym (ap (λ b. cond b 0 (word_for (turns_in w +ℤ a))) e)

  pub word_in : overturned (turns_in w +ℤ a) ≡ false → word_for (turns_in w +ℤ a) ≡ turned_word w a
  word_in e = sym (ap (λ b. cond b 0 (word_for (turns_in w +ℤ a))) e)

  pub few_word : overturned (turns_in w +ℤ a) ≡ false → turned_word w a ≢ 0
  few_word e z = let s = (few_range (turns_in w +ℤ a) e).some in let q = word_in e ∙ z in omega (arith, s, q)

-- an edge with no turns has the word 100
pub hundred : (k : ℤ) → turns_in 100 +ℤ k ≡ k
hundred k = +ℤ_idl k

-- an amount that is handed on keeps its value
pub amount_on : (w : ℕ) (a : ℤ) {r : ℕ} → SFits w16 a → r ≡ turned_word w (to_z w16 (of_z w16 a)) → r ≡ turned_word w a
amount_on w a f e = e ∙ ap (turned_word w) (to_z-of_z {w = w16} f)

-- a word of turns in range is a live edge's
pub turned_some : (w : ℕ) (a : ℤ) → overturned (turns_in w +ℤ a) ≡ false → (turned_word w a ≢ 0) × (turned_word w a ≤ edge_word_most)
turned_some w a e =
    let r = few_range (turns_in w +ℤ a) e in
    let q = word_in w a e in
    let s = r.some in
    let m = r.most in
    (λ z. omega (arith, q), omega (arith, q))

pub inserted_word : (k : ℤ) → overturned k ≡ false → (turned_word 100 k ≢ 0) × (turned_word 100 k ≤ edge_word_most)
inserted_word k e = turned_some 100 k (ap overturned (hundred k) ∙ e)
