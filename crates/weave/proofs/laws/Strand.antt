-- A strand: crossings of given hands, over which the type flips from one to the next. If their number is even, so that the strand closes,
-- its letters alternate exactly if the hands are all the same.
--     strand, among                                  the letters of crossings of these hands; is a hand among them
--     strand_alternates                              closed, it alternates exactly if not both hands are among them
--     strand_parity, strand_append, strand_length    from the same type; one strand after another; as many letters as hands
--     crossed_strand                                 the crossings of one edge are a strand of one hand
--     among_append                                   the hands of two strands
--     unanimous, differ_hands                        all hands agree; neighbours' letters differ exactly then
use Rattle.std.specs.Prelude.{ℕ, zero, suc, ◌+◌, ◌-◌, ◌%◌, ◌≡◌, Bool, not, ◌&&◌, ◌||◌, List, [], ◌∷◌, ◌++◌, eqb, length, replicate}
use Rattle.std.proofs.Common.{arith, sym, ◌∙◌, ap, ap₂}
use Rattle.std.proofs.Math.Path.{refl}
use Rattle.std.proofs.Math.Bool.{true, false, and-true, and-false, or_assoc}
use Rattle.std.specs.Bool.{beq}
use Rattle.tracing.proofs.laws.Step.{type?, is_zero, is_one}
use Rattle.weave.specs.Letters.{letter, crossed, neighbours_differ, alternating}

-- the letters of crossings of these hands, the first of them from the type of n's parity
unfoldable pub strand : ℕ → List Bool → List ℕ
strand n [] = []
strand n (h ∷ hs) = letter h (n % 2) ∷ strand (suc n) hs

-- is a crossing of this hand among them
unfoldable pub among : Bool → List Bool → Bool
among b [] = false
among b (h ∷ hs) = beq b h || among b hs

-- laws

pub strand_parity : (m n : ℕ) (hs : List Bool) → m % 2 ≡ n % 2 → strand m hs ≡ strand n hs
unfolding strand
strand_parity m n [] e = refl
strand_parity m n (h ∷ hs) e = ap₂ (λ t l. letter h t ∷ l) e (strand_parity (suc m) (suc n) hs (omega arith))

pub strand_append : (n : ℕ) (a b : List Bool) → strand n (a ++ b) ≡ strand n a ++ strand (n + length a) b
unfolding strand
strand_append n [] b = strand_parity n (n + 0) b (omega arith)
strand_append n (h ∷ a) b =
    ap (λ l. letter h (n % 2) ∷ l) (strand_append (suc n) a b ∙ ap (λ l. strand (suc n) a ++ l) (strand_parity (suc n + length a) (n + suc (length a)) b (omega arith)))

pub strand_length : (n : ℕ) (hs : List Bool) → length (strand n hs) ≡ length hs
unfolding strand
strand_length n [] = refl
strand_length n (h ∷ hs) = ap suc (strand_length (suc n) hs)

pub crossed_strand : (h : Bool) (t n k : ℕ) → t ≡ k % 2 → crossed h t n ≡ strand k (replicate n h)
unfolding crossed strand
crossed_strand h t zero k e = refl
crossed_strand h t (suc n) k e = ap₂ (λ x l. letter h x ∷ l) e (crossed_strand h (1 - t) n (suc k) (omega arith))

pub among_append : (b : Bool) (l m : List Bool) → among b (l ++ m) ≡ (among b l || among b m)
unfolding among
among_append b [] m = refl
among_append b (h ∷ l) m = ap (λ x. beq b h || x) (among_append b l m) ∙ sym (or_assoc (beq b h) (among b l) (among b m))

-- letters of neighbouring crossings differ exactly if the hands agree
letter_flip : (h y : Bool) (n : ℕ) → not (eqb (letter h (n % 2)) (letter y (suc n % 2))) ≡ beq h y
letter_flip h y n = elim (type? n) [
  | is_zero e ↦ let o : suc n % 2 ≡ 1 = omega arith in rw (e, o) (rising h y)
  | is_one e ↦ let o : suc n % 2 ≡ 0 = omega arith in rw (e, o) (falling h y)
]
  where
    rising : (h y : Bool) → not (eqb (letter h 0) (letter y 1)) ≡ beq h y
    rising true true = unfold letter in refl
    rising true false = unfold letter in refl
    rising false true = unfold letter in refl
    rising false false = unfold letter in refl

    falling : (h y : Bool) → not (eqb (letter h 1) (letter y 0)) ≡ beq h y
    falling true true = unfold letter in refl
    falling true false = unfold letter in refl
    falling false true = unfold letter in refl
    falling false false = unfold letter in refl

-- do all these hands agree with h
unanimous : Bool → List Bool → Bool
unanimous h [] = true
unanimous h (y ∷ l) = beq h y && unanimous h l

unanimous_among : (h : Bool) (l : List Bool) → unanimous h l ≡ not (among (not h) l)
unfolding unanimous among
unanimous_among true [] = refl
unanimous_among false [] = refl
unanimous_among true (true ∷ l) = unanimous_among true l
unanimous_among true (false ∷ l) = refl
unanimous_among false (true ∷ l) = refl
unanimous_among false (false ∷ l) = unanimous_among false l

-- from h over these hands to the last one, neighbours agree: then all agree
neighbours : (last h y : Bool) (u : Bool → Bool) → (beq h y && (beq y last && u y)) ≡ (beq h last && (beq h y && u h))
neighbours last true true u = refl
neighbours last true false u = sym (and-false (beq true last))
neighbours last false true u = sym (and-false (beq false last))
neighbours last false false u = refl

differ_hands : (last h : Bool) (n u : ℕ) (hs : List Bool) → u % 2 ≡ (suc n + length hs) % 2
    → neighbours_differ (letter last (u % 2)) (letter h (n % 2)) (strand (suc n) hs) ≡ (beq h last && unanimous h hs)
unfolding neighbours_differ strand unanimous
differ_hands last h n u [] e =
    let next : u % 2 ≡ suc n % 2 = omega arith in
    rw next (letter_flip h last n ∙ sym (and-true (beq h last)))
differ_hands last h n u (y ∷ hs) e =
    ap₂ ◌&&◌ (letter_flip h y n) (differ_hands last y (suc n) u hs (omega arith)) ∙ neighbours last h y (λ b. unanimous b hs)

-- "all positive or all negative": not some of each
pub strand_alternates : (n : ℕ) (hs : List Bool) → length hs % 2 ≡ 0 → alternating (strand n hs) ≡ not (among true hs && among false hs)
unfolding alternating strand among
strand_alternates n [] e = refl
strand_alternates n (true ∷ hs) e = differ_hands true true n n hs (omega arith) ∙ unanimous_among true hs
strand_alternates n (false ∷ hs) e =
    differ_hands false false n n hs (omega arith) ∙ unanimous_among false hs ∙ ap not (sym (and-true (among true hs)))
