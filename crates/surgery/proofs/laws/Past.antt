-- Tracing past an edge has the faces of tracing without it, in the whole and in each part.
--     faces_of                                        the number of faces in a part of the places
--     Parts, whole_parts                              a part with the edge, and the same part without it
--     Inside, Outside, Level                          the edge's steps are in the part; none is; one of the two
--     inside_whole, level_in, level_out, own_level    they are in the whole; what the three say of each other and of its four steps
--     near_on, far_on                                 its two sides are places of the part
--     through_mirror                                  tracing past the edge has the same mirror
--     past_follows, past_faces, past_reach            it has as many faces as tracing without the edge, and the same orbits
use Rattle.std.specs.Prelude.{◌≡◌, ◌↔◌, Bool, true, false, ℕ, ◌+◌, ◌-◌, ◌*◌, ◌/◌, ◌<◌}
use Rattle.std.proofs.Common.{sym, ◌∙◌, ap, arith}
use Rattle.table.specs.Layout.{edge_of, rev}
use Rattle.table.specs.Rotation.{Rotation, Lawful}
use Rattle.orbits.proofs.laws.Swap.{position, at_left, at_right, off}
use Rattle.orbits.specs.Reach.{Reach}
use Rattle.orbits.specs.Orbits.{World, On}
use Rattle.orbits.proofs.laws.Orbits.{reach_live}
use Rattle.orbits.specs.Mirror.{Mirror}
use Rattle.orbits.proofs.laws.Mirror.{mirror_world, mirror_part}
use Rattle.orbits.proofs.laws.MirrorExchange.{exch2_mirror}
use Rattle.orbits.specs.Faces.{face_classes}
use Rattle.orbits.specs.Follow.{Follows}
use Rattle.orbits.proofs.laws.Follow.{faces_follow, reach_follow}
use Rattle.tracing.proofs.laws.Place.{places, trace, flip, on, trace_low, on_step}
use Rattle.tracing.proofs.laws.Mirrored.{Part, whole, mirrored}
use Rattle.surgery.specs.Without.{Without}
use Rattle.surgery.proofs.laws.Exchanged.{exchanged_is, exchanged_keeps}
use Rattle.surgery.proofs.laws.TwoSides.{near, far}
use Rattle.surgery.proofs.laws.Through.{parity_low, through, through_exchanged, near_low, far_low, near_back, far_back, own_four}
use Rattle.surgery.proofs.laws.Seat.{seat, passed_over}
use Rattle.surgery.proofs.laws.SeatFollows.{seat_follows}
use Rattle.surgery.specs.Change.{parity}

abbrev pub faces_of : Rotation → (ℕ → Bool) → ℕ
faces_of R P = face_classes (trace R) (flip R) places P

-- P a part with the edge, P' the same part without it: each place is in P' exactly if its seat is in P
pub record Parts (R : Rotation) (e : ℕ) (R' : Rotation) (P P' : ℕ → Bool) : Type 0 where
  pub before : Part R P
  pub after : Part R' P'
  pub seats : (s : ℕ) → On places (on R') s → P' s ≡ P (seat R e s)

-- the edge's steps are in the part
pub record Inside (R : Rotation) (e : ℕ) (P : ℕ → Bool) : Type 0 where
  pub near_in : P (near e) ≡ true
  pub far_in : P (far R e) ≡ true

-- none is
pub record Outside (R : Rotation) (e : ℕ) (P : ℕ → Bool) : Type 0 where
  pub near_out : P (near e) ≡ false
  pub far_out : P (far R e) ≡ false

-- all or none
pub record Level (R : Rotation) (e : ℕ) (P : ℕ → Bool) : Type 0 where
  pub both_sides : P (near e) ≡ P (far R e)

pub level_in : {R : Rotation} {e : ℕ} {P : ℕ → Bool} → Inside R e P → Level R e P
level_in i = record { both_sides = i.near_in ∙ sym i.far_in }

pub level_out : {R : Rotation} {e : ℕ} {P : ℕ → Bool} → Outside R e P → Level R e P
level_out i = record { both_sides = i.near_out ∙ sym i.far_out }

-- one map follows another: so it does on a part of each
follows_part : {M N : ℕ} {g f : ℕ → ℕ} {on live P P' marked : ℕ → Bool} {φ : ℕ → ℕ} → Follows M N g f on live marked φ → World N f P
    → ((i : ℕ) → On N P i → live i ≡ true) → ((j : ℕ) → On M P' j → on j ≡ true) → ((j : ℕ) → On M on j → P' j ≡ P (φ j))
    → Follows M N g f P' P marked φ
follows_part {M} {N} {on = on} {live = live} {P = P} {P' = P'} S U within within' fit = record {
  lives = λ j o. record { lt = (S.lives j (up j o)).lt; on = sym (fit j (up j o)) ∙ o.on };
  mark = λ j o. S.mark j (up j o);
  one = λ i j o p. S.one i j (up i o) (up j p);
  skip = λ j o. S.skip j (up j o);
  meet = λ i o.
      let m = S.meet i (record { lt = o.lt; on = within i o }) in
      record { to = m.to; low = m.low; pass = fit m.to (record { lt = m.low; on = m.pass }) ∙ reach_live U o.lt m.pair ∙ o.on; pair = m.pair };
}
  where
    up : (j : ℕ) → On M P' j → On M on j
    up j o = record { lt = o.lt; on = within' j o }

module _ {R : Rotation} {e : ℕ} (L : Lawful R) (live : R.live (2 * e) ≡ true) where
  pub inside_whole : Inside R e (on R)
  inside_whole =
      let low = L.dart_low (2 * e) live in
      let bit = parity_low R e in
      let first : near e / 2 ≡ 2 * e = omega arith in
      let second : far R e / 2 ≡ rev (2 * e) = omega arith in
      record {
        near_in = on_step R (near e) (omega arith) ∙ rw first live;
        far_in = on_step R (far R e) (omega arith) ∙ rw second (L.live_rev (2 * e) ∙ live);
      }

  pub near_on : {P : ℕ → Bool} → Inside R e P → On places P (near e)
  near_on i = record { lt = near_low R L e live; on = i.near_in }

  pub far_on : {P : ℕ → Bool} → Inside R e P → On places P (far R e)
  far_on i = record { lt = far_low R L e live; on = i.far_in }

  module _ {P : ℕ → Bool} (K : Part R P) (level : Level R e P) where
    -- the edge's steps are in the part, or none is
    pub own_level : (s : ℕ) → edge_of (s / 2) ≡ e → P s ≡ P (near e)
    own_level s q = elim (position (near e) (far R e) s) [
      | at_left z ↦ ap P z
      | at_right z ↦ ap P z ∙ sym level.both_sides
      | off a b ↦ elim (position (4 * e + 2 + (1 - parity R e)) (near e + 1) s) [
        | at_left z ↦ ap P (z ∙ sym (near_back R L e live)) ∙ opposite (near e) (near_low R L e live)
        | at_right z ↦ ap P (z ∙ sym (far_back R L e live)) ∙ opposite (far R e) (far_low R L e live) ∙ sym level.both_sides
        | off c d ↦ absurd (own_four R L e live s a b c d q)
      ]
    ]
      where
        opposite : (x : ℕ) → x < places → P (flip R (trace R x)) ≡ P x
        opposite x h = K.flipped (trace R x) (trace_low R L x h) ∙ K.traced x h

    pub through_mirror : Mirror places (through R e) (flip R) P
    through_mirror =
        let E = mirrored R L (on R) (whole R L) in
        let X = through_exchanged R L e live in
        mirror_part (rw (exchanged_is X) at (exch2_mirror E (near_on inside_whole) (far_on inside_whole))) P
        (exchanged_keeps E (near_low R L e live) (far_low R L e live) X P K.traced K.flipped level.both_sides) K.flipped
        (λ s o. K.within s o.lt o.on)

pub whole_parts : {R R' : Rotation} {e : ℕ} → Lawful R → Lawful R' → Without R e R' → Parts R e R' (on R) (on R')
whole_parts {R} {R'} L L' W = record {
  before = whole R L;
  after = whole R' L';
  seats = λ s o. o.on ∙ sym ((seat_follows L L' W).lives s o).on;
}

module _ {R R' : Rotation} {e : ℕ} (L : Lawful R) (L' : Lawful R') (W : Without R e R') {P P' : ℕ → Bool} (K : Parts R e R' P P') where
  pub past_follows : World places (through R e) P → Follows places places (trace R') (through R e) P' P (passed_over R e R') (seat R e)
  past_follows U =
      follows_part (seat_follows L L' W) U (λ i o. K.before.within i o.lt o.on) (λ j o. K.after.within j o.lt o.on) K.seats

  pub past_faces : Mirror places (through R e) (flip R) P → faces_of R' P' ≡ face_classes (through R e) (flip R) places P
  past_faces G = faces_follow (mirrored R' L' P' K.after) G (past_follows (mirror_world G))

  pub past_reach : Mirror places (through R e) (flip R) P → {i j : ℕ} → On places P' i → On places P' j
      → Reach (trace R') i j ↔ Reach (through R e) (seat R e i) (seat R e j)
  past_reach G = reach_follow (mirror_world (mirrored R' L' P' K.after)) (mirror_world G) (past_follows (mirror_world G))
