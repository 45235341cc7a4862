-- What the tests of a table's rotation system tell: live darts, vertices that are there or isolated, next and previous as words.
-- A test and what it says are kept together as one of two cases.
--     Case                                            a Boolean that says whether P holds: yes with P, or no without
--     eq_case, le_case, lt_case                       the tests of numbers
--     case_yes, case_no, case_says, case_denies       from the Boolean to P and back
--     case_map, same_case                             cases of equivalent properties
--     live_yes, yes_live, live_case, not_live         the test of a live dart
--     next_dart_live, prev_dart_live                  next and previous of a live dart are its words
--     next_dart_dead, prev_dart_dead                  a dart that is not live is its own
--     there_yes, there_word, alone_yes, alone_word    a live vertex, an isolated one, by its word
use Rattle.std.specs.Prelude.{ℕ, ◌≤◌, ◌<◌, ◌≡◌, refl, Bool, true, false, not, List, ◌≢◌, eqb, leb, ltb}
use Rattle.std.proofs.Common.{sym, ◌∙◌}
use borrow.Author.Tests.{leb-true, ltb-true, eqb-true, eqb-false, le-leb, lt-ltb, eq-eqb, ne_eqb, not-true}
use Rattle.orbits.proofs.laws.Truth.{clash, both, both_left, both_right}
use Rattle.table.specs.Layout.{vertices, darts, nothing, isolated, next_word, prev_word, edge_word, vertex_word, edge_of, Live}
use Rattle.table.specs.Rotation.{live?, next_dart, prev_dart, there?, alone?}

not_yes : (b : Bool) → b ≡ false → not b ≡ true
not_yes b p = rw p

-- a Boolean that says whether P holds is one of two cases
pub data Case (b : Bool) (P : Type 0) : Type 0 where
  holds : b ≡ true → P → Case b P
  fails : b ≡ false → (P → ⊥) → Case b P

case_of : {b : Bool} {P : Type 0} → (b ≡ true → P) → (P → b ≡ true) → (c : Bool) → b ≡ c → Case b P
case_of f g true e = holds e (f e)
case_of f g false e = fails e (λ p. clash (g p) e)

pub eq_case : (a b : ℕ) → Case (eqb a b) (a ≡ b)
eq_case a b = case_of (eqb-true a b) (eq-eqb a b) (eqb a b) refl

pub le_case : (a b : ℕ) → Case (leb a b) (a ≤ b)
le_case a b = case_of (leb-true a b) (le-leb a b) (leb a b) refl

pub lt_case : (a b : ℕ) → Case (ltb a b) (a < b)
lt_case a b = case_of (ltb-true a b) (lt-ltb a b) (ltb a b) refl

-- two Booleans that say the same are the same
pub same_case : {a b : Bool} {P Q : Type 0} → (P → Q) → (Q → P) → Case a P → Case b Q → a ≡ b
same_case f g (holds p x) (holds q y) = p ∙ sym q
same_case f g (holds p x) (fails q n) = absurd (n (f x))
same_case f g (fails p n) (holds q y) = absurd (n (g y))
same_case f g (fails p n) (fails q m) = p ∙ sym q

module _ (t : List ℕ) where
  pub live_yes : (d : ℕ) → live? t d ≡ true → Live t d
  unfolding live?
  live_yes d e =
      record {
        low = ltb-true d darts (both_left (ltb d darts) _ e);
        on = eqb-false (edge_word t (edge_of d)) 0 (not-true _ (both_right (ltb d darts) _ e));
      }

  pub yes_live : (d : ℕ) → Live t d → live? t d ≡ true
  unfolding live?
  yes_live d l =
      both (lt-ltb d darts l.low) (not_yes _ (ne_eqb (edge_word t (edge_of d)) 0 l.on))

  pub live_case : (d : ℕ) → Case (live? t d) (Live t d)
  live_case d = case_of (live_yes d) (yes_live d) (live? t d) refl

  pub next_dart_live : (d : ℕ) → live? t d ≡ true → next_dart t d ≡ next_word t d
  unfolding next_dart
  next_dart_live d e = rw e

  pub prev_dart_live : (d : ℕ) → live? t d ≡ true → prev_dart t d ≡ prev_word t d
  unfolding prev_dart
  prev_dart_live d e = rw e

  pub next_dart_dead : (d : ℕ) → live? t d ≡ false → next_dart t d ≡ d
  unfolding next_dart
  next_dart_dead d e = rw e

  pub prev_dart_dead : (d : ℕ) → live? t d ≡ false → prev_dart t d ≡ d
  unfolding prev_dart
  prev_dart_dead d e = rw e

  pub there_yes : (v : ℕ) → v < vertices → vertex_word t v ≢ nothing → there? t v ≡ true
  unfolding there?
  there_yes v l n = both (lt-ltb v vertices l) (not_yes _ (ne_eqb (vertex_word t v) nothing n))

  pub there_word : (v : ℕ) → there? t v ≡ true → (v < vertices) × (vertex_word t v ≢ nothing)
  unfolding there?
  there_word v e =
      (ltb-true v vertices (both_left (ltb v vertices) _ e), eqb-false (vertex_word t v) nothing (not-true _ (both_right (ltb v vertices) _ e)))

  pub alone_yes : (v : ℕ) → v < vertices → vertex_word t v ≡ isolated → alone? t v ≡ true
  unfolding alone?
  alone_yes v l p = both (lt-ltb v vertices l) (eq-eqb (vertex_word t v) isolated p)

  pub alone_word : (v : ℕ) → alone? t v ≡ true → (v < vertices) × (vertex_word t v ≡ isolated)
  unfolding alone?
  alone_word v e =
      (ltb-true v vertices (both_left (ltb v vertices) _ e), eqb-true (vertex_word t v) isolated (both_right (ltb v vertices) _ e))

  pub not_live : (d : ℕ) → (Live t d → ⊥) → live? t d ≡ false
  not_live d n = elim (live_case d) [
    | holds e l ↦ absurd (n l)
    | fails e m ↦ e
  ]

-- what a Boolean that was seen tells
pub case_yes : {b : Bool} {P : Type 0} → Case b P → b ≡ true → P
case_yes (holds e p) t = p
case_yes (fails e n) t = absurd (clash t e)

pub case_no : {b : Bool} {P : Type 0} → Case b P → b ≡ false → P → ⊥
case_no (holds e p) f x = clash e f
case_no (fails e n) f x = n x

pub case_says : {b : Bool} {P : Type 0} → Case b P → P → b ≡ true
case_says (holds e p) x = e
case_says (fails e n) x = absurd (n x)

pub case_denies : {b : Bool} {P : Type 0} → Case b P → (P → ⊥) → b ≡ false
case_denies (holds e p) n = absurd (n p)
case_denies (fails e m) n = e

pub case_map : {b : Bool} {P Q : Type 0} → (P → Q) → (Q → P) → Case b P → Case b Q
case_map f g (holds e p) = holds e (f p)
case_map f g (fails e n) = fails e (λ q. n (g q))
