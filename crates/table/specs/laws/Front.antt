-- Words stored one after the other into a slice: what a loop that writes text knows at its head.
use Rattle.std.specs.Prelude.{ℕ, zero, suc, ◌+◌, ◌<◌, ◌≤◌, ◌≡◌, refl, List, [], ◌++◌, length}
use Rattle.std.proofs.Common.{arith, ◌∙◌, ap, length-append}
use Rattle.std.proofs.Math.Decide.{ℕ_discrete}
use Rattle.std.proofs.lemmas.List.Edits.{sets}
use Rattle.std.proofs.Math.Seq.{length-sets}
use Rattle.table.specs.laws.Output.{sets_append}

-- a text that grows by parts leaves room for the next part
grows : (f g : ℕ → List ℕ) → ((n : ℕ) → f (suc n) ≡ f n ++ g n) → (m n : ℕ) → n ≤ m → length (f n) ≤ length (f m)
grows f g e zero n h = let z : n ≡ 0 = omega arith in rw z (omega arith)
grows f g e (suc m) n h = elim (ℕ_discrete n (suc m)) [
  | yes q ↦ rw q (omega arith)
  | no q ↦ let less = grows f g e m n (omega arith) in rw (e m, length-append) (omega arith)
]

pub next_room : (f g : ℕ → List ℕ) → ((n : ℕ) → f (suc n) ≡ f n ++ g n) → (m n : ℕ) → n < m → length (f n) + length (g n) ≤ length (f m)
next_room f g e m n h =
    let less = grows f g e m (suc n) h in
    let size : length (f (suc n)) ≡ length (f n) + length (g n) = ap length (e n) ∙ length-append (f n) (g n) in
    omega arith

-- words stored after words
pub record Front (a out₀ : List ℕ) (start at : ℕ) (out : List ℕ) : Type 0 where
  pub end : at ≡ start + length a
  pub size : length out ≡ length out₀
  pub words : out ≡ sets out₀ start a

pub front_none : (out : List ℕ) (start : ℕ) → Front [] out start start out
front_none out start = record { end = omega arith; size = refl; words = refl }

pub front_more : {a out₀ : List ℕ} {start at : ℕ} {out : List ℕ} (b : List ℕ) {r : ℕ} {out' : List ℕ}
    → Front a out₀ start at out → r ≡ at + length b → out' ≡ sets out at b
    → Front (a ++ b) out₀ start r out'
front_more {a} {out₀} {start} {at} {out} b k e w =
    let end = k.end in
    record {
      end = rw length-append (omega arith);
      size = ap length w ∙ length-sets out at b ∙ k.size;
      words = w ∙ rw (sets_append out₀ start a b, ← k.words, ← k.end);
    }
