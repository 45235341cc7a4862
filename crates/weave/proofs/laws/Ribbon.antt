-- A ribbon's letters are those of one strand, which closes: their number is even, and a ribbon alternates exactly if its turned edges turn the same way.
--     letters_even                                                      a ribbon has an even number of letters
--     alternates_iff, alternates_same, same_alternates                  it alternates exactly if its turned edges turn the same way
--     alternates_hands                                                  or: if it does not have edges of both hands
--     crossings_parity                                                  an edge word has the parity of its crossings
--     some_append, SomePasses, some_passes, passes_some, none_passes    whether some member of a list passes a test
--     hands_on, hands_along                                             the hands of an edge's crossings; of those along some steps
--     Strung, strung                                                    the letters of the first n steps are those of one strand
--     walk_strand, walk_closes                                          so are the ribbon's, and the strand closes
use Rattle.std.specs.Prelude.{ℕ, zero, suc, ◌+◌, ◌-◌, ◌%◌, ◌<◌, ◌≡◌, refl, Bool, ◌&&◌, ◌||◌, List, [], ◌∷◌, ◌++◌, ◌↔◌, ltb, length, replicate}
use Rattle.std.proofs.Common.{arith, sym, ◌∙◌, ap, append_assoc, append-nil, length-append, lt-ltb, le-ltb, ltb-true, ltb-false}
use Rattle.std.proofs.Math.Decide.{ℕ_discrete}
use Rattle.std.proofs.Math.Path.{ap₂}
use Rattle.std.proofs.Math.Bool.{true, false, not, or_assoc, or-true}
use Rattle.std.specs.Bool.{beq}
use Rattle.std.proofs.lemmas.List.{length-replicate}
use Rattle.orbits.proofs.laws.Truth.{truth, holds, fails, clash, false_unless, not_both, both}
use Rattle.orbits.specs.Iterate.{iter}
use Rattle.table.specs.Good.{Good}
use Rattle.table.specs.Rotation.{rotation, turns_of}
use Rattle.table.specs.laws.Lawful.{good_lawful}
use Rattle.tracing.specs.Step.{steps, step, step_type}
use Rattle.tracing.proofs.laws.Step.{step_type_lem}
use Rattle.tracing.specs.Walk.{walk}
use Rattle.tracing.proofs.laws.Walk.{iterates, walk_run, walk_period, walk_period_le}
use Rattle.tracing.specs.Listing.{gather, has}
use Rattle.tracing.proofs.laws.Listing.{gather_one, gather_append}
use Rattle.tracing.proofs.laws.Has.{has_empty, has_cons, here, later, has_head, has_tail}
use Rattle.weave.specs.Letters.{unturned, positive, negative, crossings, letters_on, word_of, step_letters, letters, alternates}
use Rattle.weave.proofs.laws.Strand.{strand, strand_parity, strand_append, strand_length, crossed_strand, among, among_append, strand_alternates}
use Rattle.weave.specs.Ribbon.{some, some_positive, some_negative, SameWay, all_positive, all_negative}

pub some_append : (q : ℕ → Bool) (a b : List ℕ) → some q (a ++ b) ≡ (some q a || some q b)
unfolding some
some_append q [] b = refl
some_append q (x ∷ a) b = ap (λ y. q x || y) (some_append q a b) ∙ sym (or_assoc (q x) (some q a) (some q b))

-- a member that passes
pub record SomePasses (q : ℕ → Bool) (l : List ℕ) : Type 0 where
  pub at : ℕ
  pub among : has at l ≡ true
  pub pass : q at ≡ true

pub some_passes : (q : ℕ → Bool) (l : List ℕ) → some q l ≡ true → SomePasses q l
unfolding some
some_passes q [] e = absurd (clash e refl)
some_passes q (x ∷ l) e = elim (truth (q x)) [
  | holds p ↦ record { at = x; among = has_head l refl; pass = p }
  | fails p ↦
      let r = some_passes q l (rw p at e) in
      record { at = r.at; among = has_tail r.at x l r.among; pass = r.pass }
]

pub passes_some : (q : ℕ → Bool) (l : List ℕ) (x : ℕ) → has x l ≡ true → q x ≡ true → some q l ≡ true
unfolding some
passes_some q [] x h e = absurd (has_empty x h)
passes_some q (y ∷ l) x h e = elim (has_cons x y l h) [
  | here p ↦ rw (← p, e)
  | later r ↦ rw (passes_some q l x r e) (or-true (q y))
]

-- where none of them passes, no member does
pub none_passes : (q : ℕ → Bool) (l : List ℕ) (x : ℕ) → some q l ≡ false → has x l ≡ true → q x ≡ false
none_passes q l x n h = false_unless (q x) (λ e. clash (passes_some q l x h e) n)

-- the hands of an edge's crossings, and of those along some steps

hands_on : ℕ → List Bool
hands_on w = replicate (crossings w) (positive w)

hands_along : List ℕ → List ℕ → List Bool
hands_along t [] = []
hands_along t (x ∷ l) = hands_on (word_of t x) ++ hands_along t l

hands_append : (t a b : List ℕ) → hands_along t (a ++ b) ≡ hands_along t a ++ hands_along t b
unfolding hands_along
hands_append t [] b = refl
hands_append t (x ∷ a) b =
    ap (λ l. hands_on (word_of t x) ++ l) (hands_append t a b) ∙ sym (append_assoc (hands_on (word_of t x)) (hands_along t a) (hands_along t b))

hands_one : (t : List ℕ) (x : ℕ) → hands_along t (x ∷ []) ≡ hands_on (word_of t x)
unfolding hands_along
hands_one t x = append-nil (hands_on (word_of t x))

-- 100 is even: the word has the parity of its crossings
pub crossings_parity : (w n : ℕ) → (n + w) % 2 ≡ (n + crossings w) % 2
unfolding crossings
crossings_parity w n = omega arith

carried : (x n w : ℕ) → x % 2 ≡ n % 2 → (x + w) % 2 ≡ (n + w) % 2
carried x n w e = omega arith

one_hand : (b h : Bool) (n : ℕ) → beq b h ≡ false → among b (replicate n h) ≡ false
unfolding among
one_hand b h zero e = refl
one_hand b h (suc n) e = rw e (one_hand b h n e)

hand_positive : (w : ℕ) → among true (hands_on w) ≡ positive w
unfolding hands_on crossings among
hand_positive w = elim (truth (ltb unturned w)) [
  | holds e ↦
      let h = ltb-true unturned w e in
      let some : w - unturned + (unturned - w) ≡ suc (w - 101) = omega arith in
      rw (some, e)
  | fails e ↦ rw e (one_hand true false (w - unturned + (unturned - w)) refl)
]

hand_negative : (w : ℕ) → among false (hands_on w) ≡ negative w
unfolding hands_on crossings among
hand_negative w = elim (truth (ltb unturned w)) [
  | holds e ↦
      let h = ltb-true unturned w e in
      rw (e, le-ltb w unturned (omega arith)) (one_hand false true (w - unturned + (unturned - w)) refl)
  | fails e ↦
      let h = ltb-false unturned w e in
      elim (ℕ_discrete w unturned) [
        | yes q ↦ rw q
        | no q ↦
            let some : w - unturned + (unturned - w) ≡ suc (99 - w) = omega arith in
            rw (e, some, lt-ltb w unturned (omega arith))
      ]
]

among_along : (t : List ℕ) (b : Bool) (q : ℕ → Bool) → ((w : ℕ) → among b (hands_on w) ≡ q w) → (l : List ℕ)
    → among b (hands_along t l) ≡ some (λ x. q (word_of t x)) l
unfolding hands_along some among
among_along t b q e [] = refl
among_along t b q e (x ∷ l) =
    among_append b (hands_on (word_of t x)) (hands_along t l) ∙ ap₂ ◌||◌ (e (word_of t x)) (among_along t b q e l)

step_strand : (t : List ℕ) (s : ℕ) → step_letters t s ≡ strand s (hands_on (word_of t s))
unfolding step_letters letters_on hands_on
step_strand t s = crossed_strand (positive (word_of t s)) (s % 2) (crossings (word_of t s)) s refl

hands_length : (w : ℕ) → length (hands_on w) ≡ crossings w
unfolding hands_on
hands_length w = length-replicate (crossings w) (positive w)

-- "let t' be t plus the turns of d's edge, mod 2"
step_turned : (t : List ℕ) (s : ℕ) → step (rotation t) s % 2 ≡ (s + word_of t s) % 2
unfolding step_type turns_of
step_turned t s = step_type_lem (rotation t) s

-- the letters of the first n steps from s are those of one strand, and the next step has the type after it
record Strung (t : List ℕ) (s n : ℕ) : Type 0 where
  text : gather (step_letters t) (iterates (step (rotation t)) s n) ≡ strand s (hands_along t (iterates (step (rotation t)) s n))
  type : iter (step (rotation t)) n s % 2 ≡ (s + length (hands_along t (iterates (step (rotation t)) s n))) % 2

strung : (t : List ℕ) (s n : ℕ) → Strung t s n
unfolding iterates gather strand hands_along iter
strung t s zero = record { text = refl; type = omega arith }
strung t s (suc n) =
    let f = step (rotation t) in
    let x = iter f n s in
    let before = strung t s n in
    let hands : hands_along t (iterates f s (suc n)) ≡ hands_along t (iterates f s n) ++ hands_on (word_of t x) =
    hands_append t (iterates f s n) (x ∷ []) ∙ ap (λ l. hands_along t (iterates f s n) ++ l) (hands_one t x) in
    let w = word_of t x in
    let size : length (hands_along t (iterates f s (suc n))) ≡ length (hands_along t (iterates f s n)) + crossings w =
    ap length hands ∙ length-append (hands_along t (iterates f s n)) (hands_on w) ∙ ap (λ k. length (hands_along t (iterates f s n)) + k) (hands_length w) in
    let m = s + length (hands_along t (iterates f s n)) in
    let type : x % 2 ≡ m % 2 = before.type in
    let sum : m + crossings w ≡ s + length (hands_along t (iterates f s (suc n))) = omega arith in
    record {
      text = gather_append (step_letters t) (iterates f s n) (x ∷ [])
          ∙ ap₂ ◌++◌ before.text (gather_one (step_letters t) x ∙ step_strand t x ∙ strand_parity x m (hands_on w) type)
          ∙ sym (strand_append s (hands_along t (iterates f s n)) (hands_on w))
          ∙ ap (strand s) (sym hands);
      type = step_turned t x ∙ carried x m w type ∙ crossings_parity w m ∙ ap (λ k. k % 2) sum;
    }

-- the walk closes at its starting type
module _ (t : List ℕ) (g : Good t) (s : ℕ) (low : s < steps) where
  walk_strand : letters t s ≡ strand s (hands_along t (walk (rotation t) s))
  unfolding letters
  walk_strand =
      let L = good_lawful t g in
      let p = walk_period (rotation t) L s low in
      rw (walk_run (rotation t) s p (walk_period_le (rotation t) L s low p)) (strung t s p.steps).text

  walk_closes : length (hands_along t (walk (rotation t) s)) % 2 ≡ 0
  walk_closes =
      let L = good_lawful t g in
      let p = walk_period (rotation t) L s low in
      let type = (strung t s p.steps).type in
      let back : s % 2 ≡ iter (step (rotation t)) p.steps s % 2 = ap (λ k. k % 2) (sym p.back) in
      rw (walk_run (rotation t) s p (walk_period_le (rotation t) L s low p)) (omega arith)

  -- the number of letters of a ribbon is even
  pub letters_even : length (letters t s) % 2 ≡ 0
  letters_even = rw (walk_strand, strand_length s (hands_along t (walk (rotation t) s))) walk_closes

  -- a ribbon alternates exactly if it does not have edges of both hands
  pub alternates_hands : alternates t s ≡ not (some_positive t (walk (rotation t) s) && some_negative t (walk (rotation t) s))
  unfolding alternates
  alternates_hands =
      rw walk_strand
      (strand_alternates s (hands_along t (walk (rotation t) s)) walk_closes
      ∙ ap₂ (λ a b. not (a && b)) (among_along t true positive hand_positive (walk (rotation t) s)) (among_along t false negative hand_negative (walk (rotation t) s)))

  pub alternates_same : alternates t s ≡ true → SameWay t s
  alternates_same e = elim (truth (some_positive t (walk (rotation t) s))) [
    | fails p ↦ all_negative (λ x h n. elim (truth (positive (word_of t x))) [
      | holds q ↦ absurd (clash (passes_some (λ y. positive (word_of t y)) (walk (rotation t) s) x h q) p)
      | fails q ↦ let l = ltb-false unturned (word_of t x) q in omega arith
    ])
    | holds p ↦ all_positive (λ x h n. elim (truth (negative (word_of t x))) [
      | holds q ↦ absurd (clash (sym alternates_hands ∙ e) (ap not (both p (passes_some (λ y. negative (word_of t y)) (walk (rotation t) s) x h q))))
      | fails q ↦ let l = ltb-false (word_of t x) unturned q in omega arith
    ])
  ]

  pub same_alternates : SameWay t s → alternates t s ≡ true
  same_alternates (all_positive p) = alternates_hands ∙ ap not (not_both (some_positive t (walk (rotation t) s)) (some_negative t (walk (rotation t) s)) (λ a b.
      let r = some_passes (λ y. negative (word_of t y)) (walk (rotation t) s) b in
      let l = ltb-true (word_of t r.at) unturned r.pass in
      let m = p r.at r.among (omega arith) in
      omega arith))
  same_alternates (all_negative p) = alternates_hands ∙ ap not (not_both (some_positive t (walk (rotation t) s)) (some_negative t (walk (rotation t) s)) (λ a b.
      let r = some_passes (λ y. positive (word_of t y)) (walk (rotation t) s) a in
      let l = ltb-true unturned (word_of t r.at) r.pass in
      let m = p r.at r.among (omega arith) in
      omega arith))

  -- "a ribbon alternates exactly if its turned edges all turn the same way"
  pub alternates_iff : (alternates t s ≡ true) ↔ SameWay t s
  alternates_iff = (alternates_same, same_alternates)
