-- Small cases, computed. Four numbers, none of which moves, with the mirror 0 ↔ 1, 2 ↔ 3: four orbits, two faces. The
-- mirrored exchange at 0 and 2 joins faces, again at 0 and 2 it parts them, and at 0 and 1 it keeps their number. So the
-- hypotheses of the general statements can be met, and the numbers are the computed ones.
--     all, stay, flip                        the four numbers; the map that moves none; the mirror
--     joined                                 the map after the exchange at 0 and 2
--     two_faces, one_face                    the hypotheses on mirrors are met by both maps
--     four_orbits, two_orbits                their orbits, counted
--     two_faces_counted, one_face_counted    their faces, counted
--     joins, parts, keeps                    the exchange joins two orbits with their mirrors, parts them, keeps their number
--     parts_counted, keeps_counted           the orbits after it, counted
--     half, back_in_two                      the bound on periods, met with equality
--     taken_out, taken_out_counted           a number taken out of its orbit
--     own_face                               a face of two fixed numbers
--     pair_joins, pair_parts                 the exchange without the mirror
use Rattle.std.specs.Prelude.{◌≡◌, refl, ◌≢◌, Bool, true, ℕ, zero, suc, ◌*◌, ◌<◌, ◌≤◌}
use Rattle.std.proofs.Common.{sym, arith}
use Rattle.orbits.specs.Count.{count}
use Rattle.orbits.proofs.laws.Count.{without}
use Rattle.orbits.specs.Iterate.{iter}
use Rattle.orbits.proofs.laws.Iterate.{Period}
use Rattle.orbits.specs.Reach.{Reach, reaches}
use Rattle.orbits.specs.Classes.{classes, head, least}
use Rattle.orbits.specs.Exchange.{tr, exch, exch2}
use Rattle.orbits.specs.Orbits.{orbits, World, On}
use Rattle.orbits.proofs.laws.Exchange.{exch_world, exch_less}
use Rattle.orbits.proofs.laws.ExchangeParts.{exch_more}
use Rattle.orbits.specs.Mirror.{Mirror}
use Rattle.orbits.proofs.laws.Mirror.{mirror_world, period_half}
use Rattle.orbits.specs.Faces.{face_classes, faced}
use Rattle.orbits.proofs.laws.MirrorExchange.{exch2_mirror, exch2_less, exch2_more, exch2_same}
use Rattle.orbits.proofs.laws.Alone.{reach_alone}
use Rattle.orbits.proofs.laws.PassThrough.{faces_alone, pass_out_orbits}

all : ℕ → Bool
all i = true

stay : ℕ → ℕ
stay i = i

flip : ℕ → ℕ
flip zero = 1
flip (suc zero) = 0
flip (suc (suc zero)) = 3
flip (suc (suc (suc n))) = 2

-- what holds at 0, 1, 2 and 3 holds below 4
below_four : (P : ℕ → Type 0) → P 0 → P 1 → P 2 → P 3 → (i : ℕ) → i < 4 → P i
below_four P a b c d zero h = a
below_four P a b c d (suc zero) h = b
below_four P a b c d (suc (suc zero)) h = c
below_four P a b c d (suc (suc (suc zero))) h = d
below_four P a b c d (suc (suc (suc (suc n)))) h = absurd (over h)
  where
    over : suc (suc (suc (suc n))) < 4 → ⊥
    over h = omega arith

on : (i : ℕ) → i < 4 → On 4 all i
unfolding all
on i h = record { lt = h; on = refl }

flip_apart : (i : ℕ) → i < 4 → flip i ≢ i
unfolding flip
flip_apart = below_four (λ i. flip i ≢ i) (λ e. omega arith) (λ e. omega arith) (λ e. omega arith) (λ e. omega arith)

flip_twice : (i : ℕ) → i < 4 → flip (flip i) ≡ i
unfolding flip
flip_twice = below_four (λ i. flip (flip i) ≡ i) refl refl refl refl

two_faces : Mirror 4 stay flip all
unfolding stay flip all
two_faces = record {
  fwd = λ i h. h;
  inv = λ i h. refl;
  low = below_four (λ i. flip i < 4) (omega arith) (omega arith) (omega arith) (omega arith);
  twice = flip_twice;
  turn = flip_twice;
  keep = λ i h. refl;
  still = λ i o. flip_apart i o.lt;
  cross = λ i o e. flip_apart i o.lt (sym e);
}

-- 0 ↔ 2, 1 ↔ 3
joined : ℕ → ℕ
joined = exch2 stay flip 0 2

one_face : Mirror 4 joined flip all
unfolding joined
one_face = exch2_mirror two_faces (on 0 (omega arith)) (on 2 (omega arith))

four_orbits : orbits stay 4 all ≡ 4
unfolding orbits classes head least reaches count iter stay all
four_orbits = refl

two_orbits : orbits joined 4 all ≡ 2
unfolding orbits classes head least reaches count iter joined exch2 exch tr stay flip all
two_orbits = refl

two_faces_counted : face_classes stay flip 4 all ≡ 2
unfolding face_classes faced classes head least reaches count iter stay flip all
two_faces_counted = refl

one_face_counted : face_classes joined flip 4 all ≡ 1
unfolding face_classes faced classes head least reaches count iter joined exch2 exch tr stay flip all
one_face_counted = refl

-- 0 reaches nothing else while nothing moves
alone : (j : ℕ) → j ≢ 0 → ¬ Reach stay 0 j
unfolding stay
alone j d r = d (reach_alone refl r)

joins : orbits stay 4 all ≡ suc (suc (orbits joined 4 all))
unfolding joined flip
joins = exch2_less two_faces (on 0 (omega arith)) (on 2 (omega arith)) (alone 2 (omega arith)) (alone 3 (omega arith))

-- 0 then reaches 2 in one step, and the exchange at 0 and 2 undoes the first
there : Reach joined 0 2
unfolding iter joined exch2 exch tr stay flip
there = record { steps = 1; lands = refl }

parts : orbits (exch2 joined flip 0 2) 4 all ≡ suc (suc (orbits joined 4 all))
parts = exch2_more one_face (on 0 (omega arith)) (on 2 (omega arith)) (omega arith) there

parts_counted : orbits (exch2 joined flip 0 2) 4 all ≡ 4
unfolding orbits classes head least reaches count iter joined exch2 exch tr stay flip all
parts_counted = refl

-- 1 is on the mirror of the orbit of 0, and is not the opposite of 0, which is 3: the exchange gives 0 ↔ 3, 1 ↔ 2
mirrored_there : Reach joined 0 (flip 1)
unfolding iter flip
mirrored_there = record { steps = 0; lands = refl }

keeps : orbits (exch2 joined flip 0 1) 4 all ≡ orbits joined 4 all
keeps = exch2_same one_face (on 0 (omega arith)) (on 1 (omega arith)) mirrored_there

keeps_moves : exch2 joined flip 0 1 0 ≡ 3
unfolding joined exch2 exch tr stay flip
keeps_moves = refl

keeps_counted : orbits (exch2 joined flip 0 1) 4 all ≡ 2
unfolding orbits classes head least reaches count iter joined exch2 exch tr stay flip all
keeps_counted = refl

-- the bound on periods is met with equality: 0 comes back after two steps, and four numbers are live
half : (p : Period joined 0) → 2 * p.steps ≤ 4
unfolding count all
half p = period_half one_face (on 0 (omega arith)) p

back_in_two : iter joined 2 0 ≡ 0
unfolding iter joined exch2 exch tr stay flip
back_in_two = refl

-- 2 comes after 0: taken out, 0 and the orbit of 1 and 3 are left
next : joined 0 ≡ 2
unfolding joined exch2 exch tr stay flip
next = refl

taken_out : orbits (exch joined 0 2) 4 (without all 2) ≡ orbits joined 4 all
taken_out = pass_out_orbits (mirror_world one_face) (on 0 (omega arith)) next (omega arith)

taken_out_counted : orbits (exch joined 0 2) 4 (without all 2) ≡ 2
unfolding orbits classes head least reaches count iter without joined exch2 exch tr stay flip all
taken_out_counted = refl

-- 0 and its mirror 1 are fixed: a face of their own
own_face : face_classes stay flip 4 all ≡ suc (face_classes stay flip 4 (without (without all 0) 1))
unfolding stay flip
own_face = faces_alone two_faces (on 0 (omega arith)) refl

-- without the mirror: 0 and 1 exchanged, and exchanged again
pair_joins : orbits stay 4 all ≡ suc (orbits (exch stay 0 1) 4 all)
pair_joins = exch_less (mirror_world two_faces) (on 0 (omega arith)) (on 1 (omega arith)) (alone 1 (omega arith))

pair_world : World 4 (exch stay 0 1) all
pair_world = exch_world (mirror_world two_faces) (on 0 (omega arith)) (on 1 (omega arith))

pair_there : Reach (exch stay 0 1) 0 1
unfolding iter exch tr stay
pair_there = record { steps = 1; lands = refl }

pair_parts : orbits (exch (exch stay 0 1) 0 1) 4 all ≡ suc (orbits (exch stay 0 1) 4 all)
pair_parts = exch_more pair_world (on 0 (omega arith)) (on 1 (omega arith)) (omega arith) pair_there
