-- A slice as a window on a text: `from` is the place in the text where the slice begins.
-- What is written at a place that the slice does not show changes nothing.
--     put_before, put_in, put_length                       one byte, before the window, in it
--     paste_none, paste_one, paste_append, paste_length    a text: no byte, one, two texts
--     paste_sets                                           at the beginning of the text the stores are plain
--     window_holds, window_keeps, window_shows             what a window shows after the whole text
--     sets_front, front_text, sets_ahead                   a text at the front of a slice
--     pasted_then, pasted_as, pasted_length                one text after another; in other words; the slice keeps its size
use Rattle.std.specs.Prelude.{ℕ, suc, ◌+◌, ◌-◌, ◌<◌, ◌≤◌, min, ◌≡◌, refl, List, [], ◌∷◌, ◌++◌, ◌≢◌, length, get_or, set, take, drop}
use Rattle.std.proofs.Common.{arith, zero-add, add-zero, sym, ◌∙◌, ap, length-append, length-set, length-take, length-drop, get_or-set_same, get_or-set_other, get_or-take, get_or-drop, ext_get_or, le-leb}
use Rattle.std.proofs.Math.Decide.{dec_lt, ℕ_discrete}
use Rattle.std.proofs.Math.Nat.{sub-zero}
use Rattle.std.proofs.Math.ListN.{get_or-append}
use Rattle.std.proofs.lemmas.List.Edits.{sets, sets-eq}
use Rattle.std.proofs.Math.Seq.{length-sets, take-append_seam}
use Rattle.std.proofs.lemmas.Bool.{lt-leb}
use Rattle.text.specs.Paste.{put, paste, Pasted}

-- one byte

module _ (from at : ℕ) (out : List ℕ) (b : ℕ) where
  pub put_before : at < from → put from at out b ≡ out
  unfolding put
  put_before h = rw (lt-leb from at h)

  pub put_in : from ≤ at → put from at out b ≡ set out (at - from) b
  unfolding put
  put_in h = rw (le-leb from at h)

  pub put_length : length (put from at out b) ≡ length out
  put_length = elim (dec_lt at from) [
    | yes h ↦ ap length (put_before h)
    | no h ↦ ap length (put_in (omega arith)) ∙ length-set out (at - from) b
  ]

  put_same : (i : ℕ) → i < length out → from + i ≡ at → get_or (put from at out b) i 0 ≡ b
  put_same i h e =
      let here : at - from ≡ i = omega arith in
      rw (put_in (omega arith), here) (get_or-set_same out i b 0 h)

  put_other : (i : ℕ) → from + i ≢ at → get_or (put from at out b) i 0 ≡ get_or out i 0
  put_other i e = elim (dec_lt at from) [
    | yes h ↦ ap (λ l. get_or l i 0) (put_before h)
    | no h ↦ let off : i ≢ at - from = λ q. e (omega arith) in rw (put_in (omega arith)) (get_or-set_other out (at - from) i b 0 off)
  ]

-- a text

pub paste_none : (from at : ℕ) (out : List ℕ) → paste from at out [] ≡ out
unfolding paste
paste_none from at out = refl

pub paste_one : (from at : ℕ) (out : List ℕ) (b : ℕ) → paste from at out (b ∷ []) ≡ put from at out b
unfolding paste
paste_one from at out b = refl

pub paste_append : (from at : ℕ) (out a b : List ℕ) → paste from at out (a ++ b) ≡ paste from (at + length a) (paste from at out a) b
unfolding paste
paste_append from at out [] b = rw add-zero
paste_append from at out (x ∷ a) b =
    let e : suc at + length a ≡ at + suc (length a) = omega arith in
    paste_append from (suc at) (put from at out x) a b ∙ ap (λ k. paste from k (paste from (suc at) (put from at out x) a) b) e

pub paste_length : (from at : ℕ) (out text : List ℕ) → length (paste from at out text) ≡ length out
unfolding paste
paste_length from at out [] = refl
paste_length from at out (b ∷ text) = paste_length from (suc at) (put from at out b) text ∙ put_length from at out b

-- a window at the beginning of the text: plain stores
pub paste_sets : (at : ℕ) (out text : List ℕ) → paste 0 at out text ≡ sets out at text
unfolding paste
paste_sets at out [] = refl
paste_sets at out (b ∷ text) =
    paste_sets (suc at) (put 0 at out b) text ∙ ap (λ l. sets l (suc at) text) (put_in 0 at out b (omega arith) ∙ rw sub-zero)

-- what the window shows of a text that begins at place `at`

paste_ahead : (from at : ℕ) (out text : List ℕ) (i : ℕ) → from + i < at → get_or (paste from at out text) i 0 ≡ get_or out i 0
unfolding paste
paste_ahead from at out [] i h = refl
paste_ahead from at out (b ∷ text) i h =
    paste_ahead from (suc at) (put from at out b) text i (omega arith) ∙ put_other from at out b i (omega arith)

paste_within : (from at : ℕ) (out text : List ℕ) (i : ℕ) → i < length out → at ≤ from + i → from + i < at + length text
    → get_or (paste from at out text) i 0 ≡ get_or text (from + i - at) 0
unfolding paste
paste_within from at out [] i l h m = absurd (omega arith)
paste_within from at out (b ∷ text) i l h m = elim (ℕ_discrete (from + i) at) [
  | yes e ↦
      let first : from + i - at ≡ 0 = omega arith in
      rw first (paste_ahead from (suc at) (put from at out b) text i (omega arith) ∙ put_same from at out b i l e)
  | no e ↦
      let later : from + i - at ≡ suc (from + i - suc at) = omega arith in
      let size : i < length (put from at out b) = rw put_length l in
      rw later (paste_within from (suc at) (put from at out b) text i size (omega arith) (omega arith))
]

paste_behind : (from at : ℕ) (out text : List ℕ) (i : ℕ) → at + length text ≤ from + i → get_or (paste from at out text) i 0 ≡ get_or out i 0
unfolding paste
paste_behind from at out [] i h = refl
paste_behind from at out (b ∷ text) i h =
    paste_behind from (suc at) (put from at out b) text i (omega arith) ∙ put_other from at out b i (omega arith)

-- after the whole text, index i of the window holds the text's element from + i
pub window_holds : (from : ℕ) (out text : List ℕ) (i : ℕ) → i < length out → from + i < length text
    → get_or (paste from 0 out text) i 0 ≡ get_or text (from + i) 0
window_holds from out text i l h = paste_within from 0 out text i l (omega arith) (omega arith) ∙ rw sub-zero

-- and where the text has ended, what it held
pub window_keeps : (from : ℕ) (out text : List ℕ) (i : ℕ) → length text ≤ from + i → get_or (paste from 0 out text) i 0 ≡ get_or out i 0
window_keeps from out text i h = paste_behind from 0 out text i (omega arith)

-- a text at the front of a slice
pub sets_front : (out text : List ℕ) → length text ≤ length out → sets out 0 text ≡ text ++ drop (length text) out
sets_front out text h = sets-eq text out 0 (rw zero-add h) ∙ ap (λ k. text ++ drop k out) (zero-add (length text))

pub front_text : (out text : List ℕ) → length text ≤ length out → take (length text) (sets out 0 text) ≡ text
front_text out text h = ap (take (length text)) (sets_front out text h) ∙ take-append_seam text (drop (length text) out)

pub sets_ahead : (l : List ℕ) (i : ℕ) (vs : List ℕ) (j : ℕ) → i + length vs ≤ j → get_or (sets l i vs) j 0 ≡ get_or l j 0
sets_ahead l i [] j h = refl
sets_ahead l i (v ∷ vs) j h = sets_ahead (set l i v) (suc i) vs j (omega arith) ∙ get_or-set_other l i j v 0 (omega arith)

-- what a window shows of the text stands at its front, and the rest is kept
pub window_shows : (from : ℕ) (out text : List ℕ) → paste from 0 out text ≡ sets out 0 (take (length out) (drop from text))
window_shows from out text =
    let shown = take (length out) (drop from text) in
    let size : length shown ≡ min (length out) (length text - from) =
    length-take (length out) (drop from text) ∙ ap (min (length out)) (length-drop from text) in
    ext_get_or 0 (paste from 0 out text) (sets out 0 shown) (paste_length from 0 out text ∙ sym (length-sets out 0 shown)) (λ i l.
    let long = paste_length from 0 out text in
    elim (dec_lt (from + i) (length text)) [
      | yes h ↦
          window_holds from out text i (omega arith) h
          ∙ sym (ap (λ x. get_or x i 0) (sets_front out shown (omega arith))
          ∙ get_or-append shown (drop (length shown) out) 0 i (omega arith)
          ∙ get_or-take (length out) (drop from text) i 0 (omega arith)
          ∙ get_or-drop from text i 0)
      | no h ↦ window_keeps from out text i (omega arith) ∙ sym (sets_ahead out 0 shown i (omega arith))
    ])

-- one text after another
module _ {from at : ℕ} {out a : List ℕ} {r : ℕ} {out' : List ℕ} (p : Pasted from at out a r out') where
  pub pasted_then : {b : List ℕ} {r' : ℕ} {out'' : List ℕ} → Pasted from r out' b r' out'' → Pasted from at out (a ++ b) r' out''
  pasted_then {b} q = record {
    end = let s = q.end in let e = p.end in rw length-append (omega arith);
    shows = q.shows ∙ rw (p.end, p.shows) (sym (paste_append from at out a b));
  }

  -- the same text in other words
  pub pasted_as : {b : List ℕ} → a ≡ b → Pasted from at out b r out'
  pasted_as e = rw (← e) p

  pub pasted_length : length out' ≡ length out
  pasted_length = ap length p.shows ∙ paste_length from at out a
