-- The listed ribbons, judged one after the other: what the loop over the darts knows.
--     all_alternate                      do the ribbons from these darts on alternate
--     Judged, judged_none, judged_one    the ribbon listed from dart d on is judged: there is none, or one
--     Judging                            the loop over the darts: the ribbons listed so far alternate
--     judging_none, judging_more         it begins, goes on
--     judging_dead                       a block without a live edge is passed over
--     judging_no, judging_all            it ends with a mixed weave; with a plain one
--     JudgedTo                           what a block of darts ends with: a mixed weave, or the loop goes on behind it
use Rattle.std.specs.Prelude.{ℕ, zero, suc, ◌+◌, ◌*◌, ◌<◌, ◌≤◌, ◌≡◌, refl, Bool, true, false, ◌&&◌, Some, None, List, [], ◌∷◌, ◌++◌}
use Rattle.std.proofs.Common.{arith, add-one, sym, ◌∙◌, ap}
use Rattle.std.proofs.Math.Decide.{ℕ_discrete}
use Rattle.std.proofs.Math.Bool.{and-true, and_assoc}
use Rattle.orbits.proofs.laws.Truth.{clash, false_unless, both_left}
use Rattle.table.specs.Layout.{darts}
use Rattle.table.specs.laws.Blocks.{edge_blocks, DeadBlock, dead_dart, block_on}
use Rattle.table.specs.Good.{Good}
use Rattle.table.specs.Rotation.{rotation}
use Rattle.tracing.specs.Listing.{starts, fresh, met_by}
use Rattle.tracing.proofs.laws.Listing.{starts_suc}
use Rattle.tracing_walks.specs.laws.Marks.{mark, unmarked}
use Rattle.tracing_walks.specs.laws.Size.{Looked, unmet, looked_marks, looked_dead, no_walk, one_walk, Seen, seen_none, seen_more, unmet_fresh}
use Rattle.weave.specs.Letters.{alternates, every, plain}

-- do the ribbons from these darts on alternate
abbrev pub all_alternate : List ℕ → List ℕ → Bool
all_alternate t ds = every (λ d. alternates t (2 * d)) ds

every_append : (q : ℕ → Bool) (a b : List ℕ) → every q (a ++ b) ≡ (every q a && every q b)
unfolding every
every_append q [] b = refl
every_append q (x ∷ a) b = ap (λ y. q x && y) (every_append q a b) ∙ sym (and_assoc (q x) (every q a) (every q b))

-- the ribbon from dart d on, if one is listed there, has been judged and its corners marked
pub record Judged (t : List ℕ) (d : ℕ) (m : List ℕ) (r : Bool) (m' : List ℕ) : Type 0 where
  pub marks : m' ≡ mark m (met_by (rotation t) (unmet t m d))
  pub verdict : r ≡ all_alternate t (unmet t m d)

pub judged_none : {t : List ℕ} {d : ℕ} {m : List ℕ} {m' : List ℕ} → Looked t d m None m' → Judged t d m true m'
unfolding every
judged_none (no_walk u) = record { marks = looked_marks (no_walk u); verdict = rw u refl }

pub judged_one : {t : List ℕ} {d : ℕ} {m : List ℕ} {n : ℕ} {m' : List ℕ} {b : Bool} → Looked t d m (Some n) m' → b ≡ alternates t (2 * d) → Judged t d m b m'
unfolding every
judged_one {t} {d} (one_walk h u k) f = record { marks = looked_marks (one_walk h u k); verdict = rw u (f ∙ sym (and-true (alternates t (2 * d)))) }

-- the loop over the darts: the ribbons listed below d alternate
pub record Judging (t : List ℕ) (d : ℕ) (m : List ℕ) : Type 0 where
  pub seen : Seen t d m
  pub all : all_alternate t (starts (rotation t) d) ≡ true

pub judging_none : {t : List ℕ} → Good t → Judging t 0 unmarked
unfolding starts every
judging_none g = record { seen = seen_none g; all = refl }

-- one dart more
judged_starts : {t : List ℕ} {d : ℕ} {m : List ℕ} {b : Bool} {m' : List ℕ} → Judging t d m → d < darts → Judged t d m b m'
    → all_alternate t (starts (rotation t) (suc d)) ≡ b
judged_starts {t} {d} k h j =
    let R = rotation t in
    rw (starts_suc R d, every_append (λ a. alternates t (2 * a)) (starts R d) (fresh R (starts R d) d), k.all, ← unmet_fresh k.seen h) (sym j.verdict)

pub judging_more : {t : List ℕ} {d : ℕ} {m : List ℕ} {b : Bool} {m' : List ℕ} → Judging t d m → d < darts → Judged t d m b m' → b ≡ true → Judging t (d + 1) m'
judging_more k h j e = record { seen = seen_more k.seen h j.marks; all = rw add-one (judged_starts k h j ∙ e) }

-- one that does not alternate is among those listed
starts_below : (t : List ℕ) (n m : ℕ) → n ≤ m → all_alternate t (starts (rotation t) m) ≡ true → all_alternate t (starts (rotation t) n) ≡ true
starts_below t n zero h e = let z : n ≡ 0 = omega arith in rw z e
starts_below t n (suc m) h e = elim (ℕ_discrete n (suc m)) [
  | yes q ↦ rw q e
  | no q ↦
      let R = rotation t in
      starts_below t n m (omega arith) (both_left _ _ (sym (every_append (λ a. alternates t (2 * a)) (starts R m) (fresh R (starts R m) m)) ∙ (rw (starts_suc R m) at e)))
]

pub judging_no : {t : List ℕ} {d : ℕ} {m : List ℕ} {b : Bool} {m' : List ℕ} → Judging t d m → d < darts → Judged t d m b m' → b ≡ false → false ≡ plain t
unfolding plain
judging_no {t} {d} k h j e =
    sym (false_unless (plain t) (λ p. clash (starts_below t (suc d) darts h p) (judged_starts k h j ∙ e)))

-- no ribbon is listed from a block without a live edge on
pub judging_dead : {t : List ℕ} (b : ℕ) {m : List ℕ} → b < edge_blocks → DeadBlock t b → Judging t (64 * b) m → Judging t (64 * b + 64) m
judging_dead {t} b {m} h k = block_on (λ d. Judging t d m) (64 * b) 64 (λ i l c.
    judging_more c (omega arith) (judged_none (looked_dead t (64 * b + i) m (dead_dart t b k i l))) refl)

-- the ribbons listed below d alternate, or the weave is mixed
pub record JudgedTo (t : List ℕ) (d : ℕ) (r : Bool) (m : List ℕ) : Type 0 where
  pub goes_on : r ≡ true → Judging t d m
  pub mixed : r ≡ false → false ≡ plain t

pub judging_all : {t : List ℕ} {m : List ℕ} → Judging t 2048 m → true ≡ plain t
unfolding plain
judging_all k = sym k.all
