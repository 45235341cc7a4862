-- The crossings of one step, as the code writes them: the letter at each, and those before it.
--     EdgeWord, edge_read                                            r is the word of the edge that a step is on
--     crossings_few, crossings_low, crossings_high                   the crossings of a live edge: at most 99, by its hand
--     rising_over, rising_under, falling_under, falling_over         the four ways to cross
--     letters_at, letters_length, crossed_length                     letter j of a step; how many there are
--     LetterRoom, Lettered                                           room for a step's letters; they are written
--     Crossing                                                       the loop that writes them
--     crossing_none, crossing_more, crossing_within, crossing_all    it begins, goes on, has room, ends
use Rattle.std.specs.Prelude.{ℕ, zero, suc, ◌+◌, ◌-◌, ◌/◌, ◌%◌, ◌<◌, ◌≤◌, ◌≡◌, refl, Bool, List, [], ◌∷◌, ◌++◌, ◌≢◌, length, get_or, set}
use native.Mathlib.Omega.{arith}
use Rattle.std.proofs.Common.{add-one, ◌∙◌, ap, lt-ltb, le-ltb}
use Rattle.std.proofs.lemmas.List.Edits.{sets}
use Rattle.table.specs.laws.Rotation.{live_yes}
use Rattle.tracing_walks.specs.laws.Stands.{Stands, near, stands_dart}
use Rattle.weave.specs.Letters.{over, under, unturned, positive, crossings, letter, crossed, letters_on, word_of, letter_at}
use Rattle.table.specs.laws.Front.{Front, front_none, front_more}
use Rattle.table.specs.Layout.{edge_word_most}

-- r is the word of the edge that s is on
pub record EdgeWord (t : List ℕ) (s r : ℕ) : Type 0 where
  pub word : r ≡ word_of t s
  pub some : 1 ≤ r
  pub most : r ≤ edge_word_most

pub edge_read : {t : List ℕ} {s : ℕ} → Stands t s → EdgeWord t s (word_of t s)
edge_read {t} {s} h =
    let n = near (stands_dart h) in
    let on = (live_yes t (s / 2) h.live).on in
    record { word = refl; some = omega arith; most = n.edge }

-- a live edge has at most 99 crossings
pub crossings_few : {w : ℕ} → 1 ≤ w → w ≤ edge_word_most → crossings w ≤ 99
unfolding crossings
crossings_few h l = omega arith

pub crossings_low : {w : ℕ} → w < unturned → unturned - w ≡ crossings w
unfolding crossings
crossings_low h = omega arith

pub crossings_high : {w : ℕ} → unturned ≤ w → w - unturned ≡ crossings w
unfolding crossings
crossings_high h = omega arith

-- the four ways to cross
module _ (w kind j : ℕ) where
  pub rising_over : kind % 2 ≡ j % 2 → unturned < w → over ≡ letter_at w kind j
  unfolding letter_at letter
  rising_over e h = let even : (kind + j) % 2 ≡ 0 = omega arith in rw (lt-ltb unturned w h, even)

  pub rising_under : kind % 2 ≡ j % 2 → w ≤ unturned → under ≡ letter_at w kind j
  unfolding letter_at letter
  rising_under e h = let even : (kind + j) % 2 ≡ 0 = omega arith in rw (le-ltb unturned w h, even)

  pub falling_under : kind % 2 ≢ j % 2 → unturned < w → under ≡ letter_at w kind j
  unfolding letter_at letter
  falling_under e h = let odd : (kind + j) % 2 ≡ 1 = omega arith in rw (lt-ltb unturned w h, odd)

  pub falling_over : kind % 2 ≢ j % 2 → w ≤ unturned → over ≡ letter_at w kind j
  unfolding letter_at letter
  falling_over e h = let odd : (kind + j) % 2 ≡ 1 = omega arith in rw (le-ltb unturned w h, odd)

pub crossed_length : (h : Bool) (k n : ℕ) → length (crossed h k n) ≡ n
unfolding crossed
crossed_length h k zero = refl
crossed_length h k (suc n) = ap suc (crossed_length h (1 - k) n)

pub letters_length : (w kind : ℕ) → length (letters_on w kind) ≡ crossings w
unfolding letters_on
letters_length w kind = crossed_length (positive w) kind (crossings w)

-- one crossing more
crossed_more : (h : Bool) (k n : ℕ) → k < 2 → crossed h k (suc n) ≡ crossed h k n ++ (letter h ((k + n) % 2) ∷ [])
unfolding crossed
crossed_more h k zero l = let e : k ≡ (k + 0) % 2 = omega arith in ap (λ x. letter h x ∷ []) e
crossed_more h k (suc n) l =
    let e : (1 - k + n) % 2 ≡ (k + suc n) % 2 = omega arith in
    ap (λ m. letter h k ∷ m) (crossed_more h (1 - k) n (omega arith) ∙ ap (λ x. crossed h (1 - k) n ++ (letter h x ∷ [])) e)

-- letter j of the step is the one at crossing j
crossed_at : (h : Bool) (k n j : ℕ) → k < 2 → j < n → get_or (crossed h k n) j 0 ≡ letter h ((k + j) % 2)
unfolding crossed
crossed_at h k zero j l m = absurd (omega arith)
crossed_at h k (suc n) zero l m = let e : k ≡ (k + 0) % 2 = omega arith in ap (letter h) e
crossed_at h k (suc n) (suc j) l m =
    let e : (1 - k + j) % 2 ≡ (k + suc j) % 2 = omega arith in
    crossed_at h (1 - k) n j (omega arith) (omega arith) ∙ ap (letter h) e

pub letters_at : (w kind j : ℕ) → kind < 2 → j < crossings w → get_or (letters_on w kind) j 0 ≡ letter_at w kind j
unfolding letters_on letter_at
letters_at w kind j l h = crossed_at (positive w) kind (crossings w) j l h

-- a step of type `kind` on a live edge of word w, and room for its letters from `start` on
pub record LetterRoom (w kind start size : ℕ) : Type 0 where
  pub type : kind < 2
  pub few : crossings w ≤ 99
  pub room : start + crossings w ≤ size

pub record Lettered (w kind start : ℕ) (out : List ℕ) (r : ℕ) (out' : List ℕ) : Type 0 where
  pub end : r ≡ start + length (letters_on w kind)
  pub text : out' ≡ sets out start (letters_on w kind)

-- the loop that writes them
pub record Crossing (w kind start n j : ℕ) (out₀ out : List ℕ) : Type 0 where
  pub fits : LetterRoom w kind start (length out₀)
  pub all : n ≡ crossings w
  pub most : j ≤ n
  pub front : Front (crossed (positive w) kind j) out₀ start (start + j) out

pub crossing_none : {w kind start n : ℕ} {out : List ℕ} → LetterRoom w kind start (length out) → n ≡ crossings w → Crossing w kind start n 0 out out
unfolding crossed
crossing_none {start = start} {out = out} h e = record { fits = h; all = e; most = omega arith; front = let z : start ≡ start + 0 = omega arith in rw (← z) (front_none out start) }

pub crossing_more : {w kind start n j x : ℕ} {out₀ out : List ℕ} → Crossing w kind start n j out₀ out → j < n → x ≡ letter_at w kind j
    → Crossing w kind start n (j + 1) out₀ (set out (start + j) x)
unfolding letter_at
crossing_more {w} {kind} {start} {n} {j} {x} {out₀} {out} k h e = record {
  fits = k.fits;
  all = k.all;
  most = omega arith;
  front = rw (add-one, crossed_more (positive w) kind j k.fits.type) (front_more (letter (positive w) ((kind + j) % 2) ∷ []) k.front (omega arith) (ap (set out (start + j)) e));
}

pub crossing_within : {w kind start n j : ℕ} {out₀ out : List ℕ} → Crossing w kind start n j out₀ out → j < n → start + j < length out
crossing_within k h = let room = k.fits.room in let size = k.front.size in let all = k.all in omega arith

pub crossing_all : {w kind start n j : ℕ} {out₀ out : List ℕ} → Crossing w kind start n j out₀ out → n ≤ j → Lettered w kind start out₀ (start + n) out
unfolding letters_on
crossing_all {w} {kind} {start} {n} {j} {out₀} k h =
    let all = k.all in
    let most = k.most in
    let end : j ≡ crossings w = omega arith in
    let size = crossed_length (positive w) kind (crossings w) in
    record { end = omega arith; text = rw end at k.front.words }
