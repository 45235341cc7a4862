-- How the listing is put together, dart by dart and vertex by vertex, as its definitions say.
-- A listed face is named by the corner that its walk starts at: a dart, or 32,768+v for an isolated vertex v.
--     gather_none, gather_one, gather_append        what is gathered from no member, from one, from two lists
--     has_here, has_there                           a list has its first member; another number is sought in the rest
--     starts_zero, starts_suc                       the starts below 0, and below one dart more
--     fresh_dead, fresh_met, fresh_start            a dart is no start if not live or met already, else it is one
--     alones_zero, alones_suc, lone_yes, lone_no    the isolated vertices in the same way
--     written_walk, written_lone, written_some      the words of a walk; of an empty one; there is always one
use Rattle.std.specs.Prelude.{ℕ, zero, suc, ◌*◌, ◌<◌, ◌≡◌, true, false, List, [], ◌∷◌, ◌++◌, ltb, length}
use Rattle.std.proofs.Common.{arith, sym, append_assoc, append-nil, eq-eqb, ne_eqb, lt-ltb, le-ltb}
use Rattle.std.proofs.Math.Path.{refl}
use Rattle.table.specs.Rotation.{Rotation}
use Rattle.orbits.proofs.laws.Truth.{truth, holds, fails}
use Rattle.tracing.specs.Walk.{walk}
use Rattle.tracing.specs.Listing.{has, gather, met_by, fresh, starts, lone, alones, lone_corner, walk_text}
use Rattle.table.specs.Layout.{lone_at}

-- laws

pub gather_one : (f : ℕ → List ℕ) (x : ℕ) → gather f (x ∷ []) ≡ f x
unfolding gather
gather_one f x = append-nil (f x)

pub gather_none : (f : ℕ → List ℕ) → gather f [] ≡ []
unfolding gather
gather_none f = refl

pub gather_append : (f : ℕ → List ℕ) (a b : List ℕ) → gather f (a ++ b) ≡ gather f a ++ gather f b
unfolding gather
gather_append f [] b = refl
gather_append f (x ∷ a) b = rw (gather_append f a b) (sym (append_assoc (f x) (gather f a) (gather f b)))

pub has_here : (c : ℕ) (l : List ℕ) → has c (c ∷ l) ≡ true
unfolding has
has_here c l = rw (eq-eqb c c refl, has)

pub has_there : (c x : ℕ) (l : List ℕ) → (c ≡ x → ⊥) → has c (x ∷ l) ≡ has c l
unfolding has
has_there c x l n = rw (ne_eqb c x n, has)

module _ (R : Rotation) where
  pub starts_zero : starts R zero ≡ []
  unfolding starts
  starts_zero = refl

  pub starts_suc : (d : ℕ) → starts R (suc d) ≡ starts R d ++ fresh R (starts R d) d
  unfolding starts
  starts_suc d = refl

  pub alones_zero : alones R zero ≡ []
  unfolding alones
  alones_zero = refl

  pub alones_suc : (v : ℕ) → alones R (suc v) ≡ alones R v ++ lone R v
  unfolding alones
  alones_suc v = refl

  pub lone_yes : (v : ℕ) → R.alone v ≡ true → lone R v ≡ v ∷ []
  unfolding lone
  lone_yes v e = rw e

  pub lone_no : (v : ℕ) → R.alone v ≡ false → lone R v ≡ []
  unfolding lone
  lone_no v e = rw e

  pub fresh_dead : (before : List ℕ) (d : ℕ) → R.live d ≡ false → fresh R before d ≡ []
  unfolding fresh
  fresh_dead before d e = rw (e, fresh)

  pub fresh_met : (before : List ℕ) (d : ℕ) → has d (met_by R before) ≡ true → fresh R before d ≡ []
  unfolding fresh
  fresh_met before d e = elim (truth (R.live d)) [
    | holds l ↦ rw (l, fresh, e)
    | fails l ↦ fresh_dead before d l
  ]

  pub fresh_start : (before : List ℕ) (d : ℕ) → R.live d ≡ true → has d (met_by R before) ≡ false → fresh R before d ≡ d ∷ []
  unfolding fresh
  fresh_start before d e m = rw (e, fresh, m)

  pub written_walk : (c : ℕ) → c < lone_at → walk_text R c ≡ length (walk R (2 * c)) ∷ walk R (2 * c)
  unfolding walk_text
  written_walk c h = rw (lt-ltb c lone_at h, walk_text)

  pub written_lone : (v : ℕ) → walk_text R (lone_corner v) ≡ 0 ∷ lone_corner v ∷ []
  unfolding walk_text
  written_lone v = rw (le-ltb (lone_corner v) lone_at (omega arith), walk_text)

  pub written_some : (c : ℕ) → 0 < length (walk_text R c)
  unfolding walk_text
  written_some c = elim (truth (ltb c lone_at)) [
    | holds e ↦ rw (e, walk_text) (omega arith)
    | fails e ↦ rw (e, walk_text) (omega arith)
  ]
