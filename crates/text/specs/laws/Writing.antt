-- What the code that writes knows in its loops.
--     Copying                                                      the loop that writes the bytes of a text
--     copying_none, copying_more, copying_all                      it begins, goes on, ends
--     Spelled                                                      the digits of a number at the end of the array
--     Spelling                                                     the loop that finds them, from the last on
--     spelling_none, spelling_room, spelling_more, spelling_all    it begins, has room, goes on, ends
use Rattle.std.specs.Prelude.{ℕ, suc, ◌+◌, ◌-◌, ◌/◌, ◌%◌, ◌^◌, ◌<◌, ◌≤◌, ◌≡◌, refl, List, [], ◌∷◌, ◌++◌, length, get_or, set, take, drop}
use Rattle.std.proofs.Common.{arith, add-one, sym, ◌∙◌, ap, append_assoc, length-set, length-append, drop_of_length-le, take-suc, take_all, length-take-le, drop-cons, drop-set-lt, get_or-set_same}
use Rattle.text.specs.Paste.{put, paste, Pasted}
use Rattle.text.specs.laws.Paste.{put_length, paste_none, paste_one, paste_append}
use Rattle.text.specs.Decimal.{digit, decimal}
use Rattle.text.specs.laws.Decimal.{decimal_low, decimal_high, decimal_some, decimal_few}

-- the loop that writes the bytes of s: the first i stand
pub record Copying (from at : ℕ) (s : List ℕ) (i : ℕ) (out₀ out : List ℕ) : Type 0 where
  pub most : i ≤ length s
  pub size : length out ≡ length out₀
  pub shows : out ≡ paste from at out₀ (take i s)

pub copying_none : (from at : ℕ) (s out : List ℕ) → Copying from at s 0 out out
copying_none from at s out = record { most = omega arith; size = refl; shows = sym (paste_none from at out) }

pub copying_more : {from at : ℕ} {s : List ℕ} {i : ℕ} {out₀ out out' : List ℕ} → Copying from at s i out₀ out → i < length s
    → out' ≡ put from (at + i) out (get_or s i 0) → Copying from at s (i + 1) out₀ out'
copying_more {from} {at} {s} {i} {out₀} {out} k h e = record {
  most = omega arith;
  size = ap length e ∙ put_length from (at + i) out (get_or s i 0) ∙ k.size;
  shows =
      rw (add-one, take-suc s i 0 h, paste_append from at out₀ (take i s) (get_or s i 0 ∷ []), length-take-le i s k.most, ← k.shows)
      (e ∙ sym (paste_one from (at + i) out (get_or s i 0)));
}

pub copying_all : {from at : ℕ} {s : List ℕ} {i : ℕ} {out₀ out : List ℕ} → Copying from at s i out₀ out → length s ≤ i → Pasted from at out₀ s (at + i) out
copying_all {from} {at} {s} {i} {out₀} k h = let most = k.most in record {
  end = omega arith;
  shows = k.shows ∙ ap (paste from at out₀) (take_all i s h);
}

-- the digits of n at the end of the array, from index r on
pub record Spelled (n r : ℕ) (digits : List ℕ) : Type 0 where
  pub start : r < 20
  pub size : length digits ≡ 20
  pub text : drop r digits ≡ decimal n

-- the loop that finds them: those after index i stand, and those of `rest` go before them
pub record Spelling (n i rest : ℕ) (digits : List ℕ) : Type 0 where
  pub low : i < 20
  pub size : length digits ≡ 20
  pub room : length (decimal rest) ≤ suc i
  pub text : decimal n ≡ decimal rest ++ drop (suc i) digits

append_none : (l : List ℕ) → l ≡ l ++ []
append_none [] = refl
append_none (x ∷ l) = ap (λ m. x ∷ m) (append_none l)

pub spelling_none : {n : ℕ} {digits : List ℕ} → n < 2 ^ 64 → length digits ≡ 20 → Spelling n 19 n digits
spelling_none {n} {digits} h e = record {
  low = omega arith;
  size = e;
  room = decimal_few n h;
  text = append_none (decimal n) ∙ ap (λ l. decimal n ++ l) (sym (drop_of_length-le digits {i = 20} (omega arith)));
}

-- a number of two digits or more leaves room
pub spelling_room : {n i rest : ℕ} {digits : List ℕ} → Spelling n i rest digits → 10 ≤ rest → 1 ≤ i
spelling_room {rest = rest} k h =
    let some = decimal_some (rest / 10) in
    let size : length (decimal rest) ≡ length (decimal (rest / 10)) + 1 = ap length (decimal_high rest h) ∙ length-append (decimal (rest / 10)) (digit (rest % 10) ∷ []) in
    let room = k.room in
    omega arith

last_digit : (digits : List ℕ) (i d : ℕ) → i < length digits → drop i (set digits i d) ≡ d ∷ drop (suc i) digits
last_digit digits i d h =
    drop-cons (set digits i d) i 0 (rw length-set h)
    ∙ ap (λ x. x ∷ drop (suc i) (set digits i d)) (get_or-set_same digits i d 0 h)
    ∙ ap (λ l. d ∷ l) (drop-set-lt (suc i) digits i d (omega arith))

pub spelling_more : {n i rest d : ℕ} {digits : List ℕ} → Spelling n i rest digits → 10 ≤ rest → d ≡ digit (rest % 10)
    → Spelling n (i - 1) (rest / 10) (set digits i d)
spelling_more {n} {i} {rest} {d} {digits} k h e =
    let one = spelling_room k h in
    let low = k.low in
    let here : suc (i - 1) ≡ i = omega arith in
    let size : length (decimal rest) ≡ length (decimal (rest / 10)) + 1 = ap length (decimal_high rest h) ∙ length-append (decimal (rest / 10)) (digit (rest % 10) ∷ []) in
    let room = k.room in
    let full = k.size in
    let within : i < length digits = omega arith in
    record {
      low = omega arith;
      size = rw length-set k.size;
      room = omega arith;
      text =
          rw (
            here,
            last_digit digits i d within,
            e,
          ) (k.text ∙ ap (λ l. l ++ drop (suc i) digits) (decimal_high rest h) ∙ append_assoc (decimal (rest / 10)) (digit (rest % 10) ∷ []) (drop (suc i) digits));
    }

pub spelling_all : {n i rest d : ℕ} {digits : List ℕ} → Spelling n i rest digits → rest < 10 → d ≡ digit rest → Spelled n i (set digits i d)
spelling_all {n} {i} {rest} {d} {digits} k h e =
    let full = k.size in
    let low = k.low in
    let within : i < length digits = omega arith in
    record {
      start = k.low;
      size = rw length-set k.size;
      text = rw (last_digit digits i d within, e) (sym (k.text ∙ ap (λ l. l ++ drop (suc i) digits) (decimal_low rest h)));
    }
