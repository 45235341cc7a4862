-- Membership in a list of numbers, as a Boolean, and in what is gathered from a list.
--     has_empty, Cons, has_cons, has_head, has_tail    a member of x ∷ l
--     Either, has_parts, has_left, has_right           a member of two lists, one after the other
--     Source, has_gathered, has_gather                 a member of what is gathered comes from a member
--     Image, has_mapped, has_map                       a member of what a function makes of each
--     count_in_append, count_in_map, count_in_few      how many members pass a test
--     times_none, times_gather, times_gather_none      how often a number is gathered
--     count_single                                     a test that exactly one number passes counts 1
use Rattle.std.specs.Prelude.{ℕ, suc, ◌+◌, ◌<◌, ◌≤◌, ◌≡◌, refl, Bool, true, false, List, [], ◌∷◌, ◌++◌, map, ◌≢◌, eqb, length}
use Rattle.std.proofs.Common.{arith, sym, ◌∙◌, ap, eq-eqb, ne_eqb}
use Rattle.std.proofs.Math.Decide.{ℕ_discrete}
use Rattle.orbits.proofs.laws.Truth.{clash, false_unless}
use Rattle.orbits.specs.Count.{more_if, count}
use Rattle.orbits.proofs.laws.Count.{count_one, count_none}
use Rattle.tracing.specs.Listing.{has, gather}
use Rattle.tracing.proofs.laws.Listing.{has_here, has_there}
use Rattle.tracing.specs.Met.{count_in, times}

has_nil : (c : ℕ) → has c [] ≡ false
unfolding has
has_nil c = refl

pub has_empty : (c : ℕ) → has c [] ≡ true → ⊥
has_empty c e = clash e (has_nil c)

-- a member of x ∷ l
pub data Cons (c x : ℕ) (l : List ℕ) : Type 0 where
  here : c ≡ x → Cons c x l
  later : has c l ≡ true → Cons c x l

pub has_cons : (c x : ℕ) (l : List ℕ) → has c (x ∷ l) ≡ true → Cons c x l
has_cons c x l e = elim (ℕ_discrete c x) [
  | yes q ↦ here q
  | no q ↦ later (sym (has_there c x l q) ∙ e)
]

pub has_head : {c x : ℕ} (l : List ℕ) → c ≡ x → has c (x ∷ l) ≡ true
has_head {c} {x} l e = rw e (has_here x l)

pub has_tail : (c x : ℕ) (l : List ℕ) → has c l ≡ true → has c (x ∷ l) ≡ true
has_tail c x l e = elim (ℕ_discrete c x) [
  | yes q ↦ has_head l q
  | no q ↦ has_there c x l q ∙ e
]

pub data Either (c : ℕ) (a b : List ℕ) : Type 0 where
  left : has c a ≡ true → Either c a b
  right : has c b ≡ true → Either c a b

pub has_parts : (c : ℕ) (a b : List ℕ) → has c (a ++ b) ≡ true → Either c a b
has_parts c [] b e = right e
has_parts c (x ∷ a) b e = elim (has_cons c x (a ++ b) e) [
  | here q ↦ left (has_head a q)
  | later h ↦ elim (has_parts c a b h) [
    | left p ↦ left (has_tail c x a p)
    | right p ↦ right p
  ]
]

pub has_left : (c : ℕ) (a b : List ℕ) → has c a ≡ true → has c (a ++ b) ≡ true
has_left c [] b e = absurd (has_empty c e)
has_left c (x ∷ a) b e = elim (has_cons c x a e) [
  | here q ↦ has_head (a ++ b) q
  | later h ↦ has_tail c x (a ++ b) (has_left c a b h)
]

pub has_right : (c : ℕ) (a b : List ℕ) → has c b ≡ true → has c (a ++ b) ≡ true
has_right c [] b e = e
has_right c (x ∷ a) b e = has_tail c x (a ++ b) (has_right c a b e)

-- a member of what is gathered comes from a member
pub record Source (f : ℕ → List ℕ) (l : List ℕ) (c : ℕ) : Type 0 where
  pub at : ℕ
  pub among : has at l ≡ true
  pub gives : has c (f at) ≡ true

pub has_gathered : (f : ℕ → List ℕ) (l : List ℕ) (c : ℕ) → has c (gather f l) ≡ true → Source f l c
unfolding gather
has_gathered f [] c e = absurd (has_empty c e)
has_gathered f (x ∷ l) c e = elim (has_parts c (f x) (gather f l) e) [
  | left h ↦ record { at = x; among = has_here x l; gives = h }
  | right h ↦
      let s = has_gathered f l c h in
      record { at = s.at; among = has_tail s.at x l s.among; gives = s.gives }
]

pub has_gather : (f : ℕ → List ℕ) (l : List ℕ) (a c : ℕ) → has a l ≡ true → has c (f a) ≡ true → has c (gather f l) ≡ true
unfolding gather
has_gather f [] a c h e = absurd (has_empty a h)
has_gather f (x ∷ l) a c h e = elim (has_cons a x l h) [
  | here q ↦ has_left c (f x) (gather f l) (rw q at e)
  | later t ↦ has_right c (f x) (gather f l) (has_gather f l a c t e)
]

pub count_in_append : (q : ℕ → Bool) (a b : List ℕ) → count_in q (a ++ b) ≡ count_in q a + count_in q b
unfolding count_in
count_in_append q [] b = omega arith
count_in_append q (x ∷ a) b = rw (count_in_append q a b) (add (q x) (count_in q a) (count_in q b))
  where
    add : (t : Bool) (k l : ℕ) → more_if t (k + l) ≡ more_if t k + l
    add true k l = omega arith
    add false k l = refl

pub count_in_map : (q : ℕ → Bool) (f : ℕ → ℕ) (l : List ℕ) → count_in q (map f l) ≡ count_in (λ x. q (f x)) l
unfolding count_in
count_in_map q f [] = refl
count_in_map q f (x ∷ l) = rw (count_in_map q f l)

pub count_in_few : (q : ℕ → Bool) (l : List ℕ) → count_in q l ≤ length l
unfolding count_in
count_in_few q [] = omega arith
count_in_few q (x ∷ l) = one (q x) (count_in_few q l)
  where
    one : (b : Bool) {n m : ℕ} → n ≤ m → more_if b n ≤ suc m
    one true h = omega arith
    one false h = omega arith

-- a member of what a function makes of each
pub record Image (f : ℕ → ℕ) (l : List ℕ) (c : ℕ) : Type 0 where
  pub at : ℕ
  pub among : has at l ≡ true
  pub gives : f at ≡ c

pub has_mapped : (f : ℕ → ℕ) (l : List ℕ) (c : ℕ) → has c (map f l) ≡ true → Image f l c
has_mapped f [] c e = absurd (has_empty c e)
has_mapped f (x ∷ l) c e = elim (has_cons c (f x) (map f l) e) [
  | here q ↦ record { at = x; among = has_here x l; gives = sym q }
  | later h ↦
      let s = has_mapped f l c h in
      record { at = s.at; among = has_tail s.at x l s.among; gives = s.gives }
]

pub has_map : (f : ℕ → ℕ) (l : List ℕ) (x : ℕ) → has x l ≡ true → has (f x) (map f l) ≡ true
has_map f [] x e = absurd (has_empty x e)
has_map f (y ∷ l) x e = elim (has_cons x y l e) [
  | here q ↦ has_head (map f l) (ap f q)
  | later h ↦ has_tail (f x) (f y) (map f l) (has_map f l x h)
]

pub times_none : (x : ℕ) (l : List ℕ) → has x l ≡ false → times x l ≡ 0
unfolding count_in
times_none x [] e = refl
times_none x (y ∷ l) e = elim (ℕ_discrete x y) [
  | yes q ↦ absurd (clash (has_head l q) e)
  | no q ↦ rw (ne_eqb x y q) (times_none x l (sym (has_there x y l q) ∙ e))
]

-- a number that exactly one member a gives, and once, is gathered as often as a stands in the list
pub times_gather : (f : ℕ → List ℕ) (c a : ℕ) (l : List ℕ) → times c (f a) ≡ 1 → ((x : ℕ) → has x l ≡ true → x ≢ a → times c (f x) ≡ 0)
    → times c (gather f l) ≡ times a l
unfolding gather count_in
times_gather f c a [] one other = refl
times_gather f c a (x ∷ l) one other =
    let rest = times_gather f c a l one (λ y h. other y (has_tail y x l h)) in
    count_in_append (λ y. eqb c y) (f x) (gather f l) ∙ (elim (ℕ_discrete x a) [
      | yes q ↦
          let here : times c (f x) ≡ 1 = rw q one in
          rw (here, rest, eq-eqb a x (sym q)) (omega arith)
      | no q ↦
          let none : times c (f x) ≡ 0 = other x (has_here x l) q in
          rw (none, rest, ne_eqb a x (λ e. q (sym e))) (omega arith)
    ])

-- a number that no member gives is not gathered
pub times_gather_none : (f : ℕ → List ℕ) (c : ℕ) (l : List ℕ) → ((x : ℕ) → has x l ≡ true → times c (f x) ≡ 0) → times c (gather f l) ≡ 0
unfolding gather count_in
times_gather_none f c [] none = refl
times_gather_none f c (x ∷ l) none =
    count_in_append (λ y. eqb c y) (f x) (gather f l)
    ∙ rw (none x (has_here x l), times_gather_none f c l (λ y h. none y (has_tail y x l h)))

-- a test that exactly one number passes
pub count_single : (p : ℕ → Bool) (n a : ℕ) → a < n → p a ≡ true → ((i : ℕ) → i < n → p i ≡ true → i ≡ a) → count p n ≡ 1
count_single p n a h t only =
    count_one p (λ i. false) a n h t refl (λ i l d. false_unless (p i) (λ e. d (only i l e)))
    ∙ ap suc (count_none (λ i. false) n (λ i l. refl))
