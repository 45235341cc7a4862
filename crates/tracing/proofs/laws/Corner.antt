-- Corner words, the face that a corner is on and its type there, document 01, "Corners and walks" and "Counts".
-- Two corners are on one face exactly if their places are on one orbit of tracing or on mirror orbits; their types agree in the first case alone.
--     Typed, typed                                 a corner's type, by the sense in which its listed walk meets it
--     MeetingCase, meeting_case                    two corners: same type, other type, or apart, by the orbits of their places
--     present_dart, present_lone, present_means    when a corner is there
--     face_of_lone, type_of_lone                   the corner of an isolated vertex is its own face, of type 0
--     place_on                                     the place of a corner that is there is there
--     both_ways                                    a place and its mirror are not on one orbit
--     corner_met                                   every corner of a live dart is met by a listed walk
--     face_by                                      a listed walk's step at a corner tells its face and its type
--     Home, Compared, TypeAt                       the listed walk a corner is on; two types compared; the first step at a corner
use Rattle.std.specs.Prelude.{ℕ, ◌+◌, ◌-◌, ◌*◌, ◌/◌, ◌%◌, ◌<◌, ◌≤◌, ◌≡◌, Bool, false, ◌≢◌, eqb}
use Rattle.std.proofs.Common.{arith, ◌∙◌}
use Rattle.std.proofs.Math.Decide.{ℕ_discrete, dec_lt}
use Rattle.std.proofs.Math.Path.{sym, ap}
use Rattle.std.proofs.Math.Bool.{true}
use mathlib.Core.List.{List, [], ◌∷◌, map}
use borrow.Author.Tests.{eq-eqb, ne_eqb, eqb-true, lt-ltb, le-ltb}
use Rattle.table.specs.Layout.{darts, lone_at}
use Rattle.table.specs.Rotation.{Rotation, Lawful}
use Rattle.orbits.proofs.laws.Truth.{Truth, truth, holds, fails, clash}
use Rattle.orbits.specs.Reach.{Reach}
use Rattle.orbits.proofs.laws.Reach.{reach_here, reach_trans, reach_sym}
use Rattle.orbits.specs.Orbits.{On}
use Rattle.orbits.proofs.laws.Orbits.{reach_on}
use Rattle.orbits.specs.Mirror.{Mirror}
use Rattle.orbits.proofs.laws.Mirror.{mirror_world, mirror_reach, no_self}
use Rattle.orbits.specs.Faces.{Face}
use Rattle.orbits.proofs.laws.Faces.{face_flip, face_trans}
use Rattle.tracing.specs.declared.meeting.Meeting.TheVariants.{Apart, SameType, OtherType}
use Rattle.tracing.specs.Step.{steps, corner, mirror}
use Rattle.tracing.proofs.laws.Step.{mirror_type}
use Rattle.tracing.proofs.laws.Place.{places, trace, flip, on, flip_step, on_step, on_still}
use Rattle.tracing.specs.Walk.{walk, corners}
use Rattle.tracing.specs.Listing.{has, met_by, starts}
use Rattle.tracing.proofs.laws.Listing.{has_here}
use Rattle.tracing.proofs.laws.Has.{has_empty, has_cons, here, later, has_tail, has_gather, has_map}
use Rattle.tracing.proofs.laws.Mirrored.{whole, mirrored as tracing-mirror}
use Rattle.tracing.proofs.laws.Meets.{AtCorner, at_corner, plain, turned, has_walk, has_corners, corners_has}
use Rattle.tracing.proofs.laws.Starts.{start?, start_live, StartBelow, has_start, start_has}
use Rattle.tracing.proofs.laws.Cover.{covered, starts_one, lone_apart, lones_apart}
use Rattle.tracing.proofs.laws.FaceCount.{place_of, place_dart, place_lone}
use Rattle.tracing.specs.Corner.{present, face_among, face_of, type_among, type_of, meeting_by, meeting_of, Present, at_dart, at_lone}

-- the face of a corner, and its type by the sense in which the walk meets it
pub data Typed (R : Rotation) (c : ℕ) : Type 0 where
  type_zero : type_of R c ≡ 0 → Reach (trace R) (place_of (face_of R c)) (place_of c) → Typed R c
  type_one : type_of R c ≡ 1 → Reach (trace R) (place_of (face_of R c)) (flip R (place_of c)) → Typed R c

pub data MeetingCase (R : Rotation) (c c' : ℕ) : Type 0 where
  same : meeting_of R c c' ≡ SameType → Reach (trace R) (place_of c) (place_of c') → MeetingCase R c c'
  opposite : meeting_of R c c' ≡ OtherType → Reach (trace R) (place_of c) (flip R (place_of c')) → MeetingCase R c c'
  apart : meeting_of R c c' ≡ Apart → (Face (trace R) (flip R) (place_of c) (place_of c') → ⊥) → MeetingCase R c c'

-- the first step at corner c of a list, with its type
record TypeAt (R : Rotation) (c : ℕ) (l : List ℕ) : Type 0 where
  step : ℕ
  among : has step l ≡ true
  meets : corner R step ≡ c
  type : type_among R c l ≡ step % 2

module _ (R : Rotation) where
  pub present_dart : (c : ℕ) → c < lone_at → present R c ≡ R.live c
  unfolding present
  present_dart c h = rw (lt-ltb c lone_at h)

  pub present_lone : (c : ℕ) → lone_at ≤ c → present R c ≡ R.alone (c - lone_at)
  unfolding present
  present_lone c h = rw (le-ltb c lone_at h)

  face_of_dart : (c : ℕ) → c < lone_at → face_of R c ≡ face_among R c (starts R darts)
  unfolding face_of
  face_of_dart c h = rw (lt-ltb c lone_at h, face_of)

  pub face_of_lone : (c : ℕ) → lone_at ≤ c → face_of R c ≡ c
  unfolding face_of
  face_of_lone c h = rw (le-ltb c lone_at h, face_of)

  type_of_dart : (c : ℕ) → c < lone_at → type_of R c ≡ type_among R c (walk R (2 * face_of R c))
  unfolding type_of
  type_of_dart c h = rw (lt-ltb c lone_at h, type_of)

  pub type_of_lone : (c : ℕ) → lone_at ≤ c → type_of R c ≡ 0
  unfolding type_of
  type_of_lone c h = rw (le-ltb c lone_at h, type_of)

  -- the one start whose walk meets c
  face_among_is : (c a : ℕ) (l : List ℕ) → has a l ≡ true → has c (corners R (2 * a)) ≡ true
      → ((x : ℕ) → has x l ≡ true → has c (corners R (2 * x)) ≡ true → x ≡ a) → face_among R c l ≡ a
  unfolding face_among
  face_among_is c a [] h e one = absurd (has_empty a h)
  face_among_is c a (x ∷ l) h e one = elim (truth (has c (corners R (2 * x)))) [
    | holds m ↦ rw (m, face_among) (one x (has_here x l) m)
    | fails m ↦ elim (has_cons a x l h) [
      | here q ↦ absurd (clash e (rw q m))
      | later t ↦ rw (m, face_among) (face_among_is c a l t e (λ y k. one y (has_tail y x l k)))
    ]
  ]

  -- a step at c gives the type
  type_at : (c : ℕ) (l : List ℕ) → has c (map (corner R) l) ≡ true → TypeAt R c l
  unfolding type_among
  type_at c [] e = absurd (has_empty c e)
  type_at c (s ∷ l) e = elim (truth (eqb (corner R s) c)) [
    | holds m ↦ record { step = s; among = has_here s l; meets = eqb-true (corner R s) c m; type = rw (m, type_among) }
    | fails m ↦ elim (has_cons c (corner R s) (map (corner R) l) e) [
      | here q ↦ absurd (clash (eq-eqb (corner R s) c (sym q)) m)
      | later h ↦
          let t = type_at c l h in
          record { step = t.step; among = has_tail t.step s l t.among; meets = t.meets; type = rw (m, type_among) t.type }
    ]
  ]

  meeting_by_lem : (c c' : ℕ) (a b : Bool) → eqb (face_of R c) (face_of R c') ≡ a → eqb (type_of R c) (type_of R c') ≡ b → meeting_of R c c' ≡ meeting_by a b
  unfolding meeting_of
  meeting_by_lem c c' a b p q = rw (p, q)

  meeting_off : (c c' : ℕ) → face_of R c ≢ face_of R c' → Truth (eqb (type_of R c) (type_of R c')) → meeting_of R c c' ≡ Apart
  meeting_off c c' n (holds b) = meeting_by_lem c c' false true (ne_eqb _ _ n) b
  meeting_off c c' n (fails b) = meeting_by_lem c c' false false (ne_eqb _ _ n) b

  pub present_means : Lawful R → (c : ℕ) → present R c ≡ true → Present R c
  present_means L c e = elim (dec_lt c lone_at) [
    | yes h ↦ let l = sym (present_dart c h) ∙ e in at_dart (L.dart_low c l) l
    | no h ↦
        let a = sym (present_lone c (omega arith)) ∙ e in
        at_lone (c - lone_at) (L.there_low (c - lone_at) (L.alone_there (c - lone_at) a)) (omega arith) a
  ]

-- the listed walk that a dart's corner is on
record Home (R : Rotation) (c : ℕ) : Type 0 where
  at : ℕ
  low : at < darts
  start : start? R at ≡ true
  is : face_of R c ≡ at
  face : Face (trace R) (flip R) (2 * at) (2 * c)

-- how the types of two corners on one face compare
data Compared (R : Rotation) (c c' : ℕ) : Type 0 where
  equal : type_of R c ≡ type_of R c' → Reach (trace R) (place_of c) (place_of c') → Compared R c c'
  unequal : type_of R c ≢ type_of R c' → Reach (trace R) (place_of c) (flip R (place_of c')) → Compared R c c'

module _ (R : Rotation) (L : Lawful R) where
  home : (c : ℕ) → R.live c ≡ true → Home R c
  home c l =
      let E = tracing-mirror R L (on R) (whole R L) in
      let k = covered R L c l in
      let low = L.dart_low c l in
      let at_low = k.low in
      let meets : has c (corners R (2 * k.at)) ≡ true = corners_has R L (2 * k.at) c (omega arith) low k.face in
      record {
        at = k.at;
        low = k.low;
        start = k.start;
        face = k.face;
        is = face_of_dart R c (omega arith) ∙ face_among_is R c k.at (starts R darts) (start_has R darts k.at at_low k.start) meets (λ x h e.
            let b = has_start R darts x h in
            let b-low = b.low in
            starts_one R L x k.at b-low at_low b.start k.start
            (face_trans E (omega arith) (omega arith) (has_corners R L (2 * x) c (omega arith) low e) (face_flip E (omega arith) (omega arith) k.face)));
      }

  typed_dart : (c : ℕ) → c < darts → R.live c ≡ true → Typed R c
  unfolding corners
  typed_dart c low l =
      let k = home c l in
      let at_low = k.low in
      let is = k.is in
      let meets : has c (corners R (2 * face_of R c)) ≡ true = rw is (corners_has R L (2 * k.at) c (omega arith) low k.face) in
      let s = type_at R c (walk R (2 * face_of R c)) meets in
      let r : Reach (trace R) (2 * face_of R c) s.step = has_walk R L (2 * face_of R c) s.step (omega arith) s.among in
      let from : place_of (face_of R c) ≡ 2 * face_of R c = place_dart (face_of R c) (omega arith) in
      let to : place_of c ≡ 2 * c = place_dart c (omega arith) in
      let type = type_of_dart R c (omega arith) ∙ s.type in
      elim (at_corner R L c s.step s.meets) [
        | plain q ↦ type_zero (type ∙ omega arith) (rw (from, to) (rw q at r))
        | turned q ↦
            let odd = mirror_type R (2 * c) in
            let turn : flip R (2 * c) ≡ s.step = flip_step R (2 * c) (omega arith) ∙ sym q in
            type_one (type ∙ ap (λ n. n % 2) q ∙ odd ∙ omega arith) (rw (from, to, turn) r)
      ]

  pub typed : (c : ℕ) → Present R c → Typed R c
  typed c (at_dart low l) = typed_dart c low l
  typed c (at_lone v low q a) = type_zero (type_of_lone R c (omega arith)) (rw (face_of_lone R c (omega arith)) reach_here)

  pub place_on : (c : ℕ) → Present R c → On places (on R) (place_of c)
  place_on c (at_dart low l) =
      let half : 2 * c / 2 ≡ c = omega arith in
      rw (place_dart c (omega arith)) (record { lt = omega arith; on = rw (on_step R (2 * c) (omega arith), half) l })
  place_on c (at_lone v low q a) =
      let half : (2 * (darts + v) - steps) / 2 ≡ v = omega arith in
      rw (q, place_lone v) (record { lt = omega arith; on = rw (on_still R (2 * (darts + v)) (omega arith), half) a })

  -- corners on one face have one listed walk
  one_face : (c c' : ℕ) → Present R c → Present R c' → Face (trace R) (flip R) (place_of c) (place_of c') → face_of R c ≡ face_of R c'
  one_face c c' (at_dart low l) (at_dart low' l') f =
      let E = tracing-mirror R L (on R) (whole R L) in
      let k = home c l in
      let k' = home c' l' in
      let a = k.low in
      let b = k'.low in
      let g : Face (trace R) (flip R) (2 * c) (2 * c') = rw (place_dart c (omega arith), place_dart c' (omega arith)) at f in
      k.is
      ∙ starts_one R L k.at k'.at a b k.start k'.start
      (face_trans E (omega arith) (omega arith) k.face (face_trans E (omega arith) (omega arith) g (face_flip E (omega arith) (omega arith) k'.face)))
      ∙ sym k'.is
  one_face c c' (at_dart low l) (at_lone v low' q a) f =
      absurd (lone_apart R L c (darts + v) low (omega arith) (rw (place_dart c (omega arith), q, place_lone v) at f))
  one_face c c' (at_lone v low q a) (at_dart low' l) f =
      let E = tracing-mirror R L (on R) (whole R L) in
      let g : Face (trace R) (flip R) (2 * (darts + v)) (2 * c') = rw (q, place_lone v, place_dart c' (omega arith)) at f in
      absurd (lone_apart R L c' (darts + v) low' (omega arith) (face_flip E (omega arith) (omega arith) g))
  one_face c c' (at_lone v low q a) (at_lone v' low' q' a') f =
      let g : Face (trace R) (flip R) (2 * (darts + v)) (2 * (darts + v')) = rw (q, place_lone v, q', place_lone v') at f in
      let e = lones_apart R L (darts + v) (darts + v') (omega arith) (omega arith) g in
      ap (face_of R) (omega arith)

  -- along one orbit and to the other sense of the same
  pub both_ways : (x y : ℕ) → On places (on R) x → Reach (trace R) x y → Reach (trace R) x (flip R y) → ⊥
  both_ways x y o r s =
      let E = tracing-mirror R L (on R) (whole R L) in
      no_self E (reach_on (mirror_world E) o r) (reach_trans (reach_sym (mirror_world E).perm o.lt r) s)

  face_low : (c : ℕ) → Present R c → place_of (face_of R c) < places
  face_low c (at_dart low l) =
      let k = home c l in
      let b = k.low in
      rw (k.is, place_dart k.at (omega arith)) (omega arith)
  face_low c (at_lone v low q a) = rw (face_of_lone R c (omega arith)) (place_on c (at_lone v low q a)).lt

  compared : (c c' : ℕ) → Present R c → Present R c' → face_of R c ≡ face_of R c' → Typed R c → Typed R c' → Compared R c c'
  compared c c' p p' e s s' = go s s'
    where
      E : Mirror places (trace R) (flip R) (on R)
      E = tracing-mirror R L (on R) (whole R L)

      -- from where the one corner's walk meets it, to where the other's does
      across : {x y : ℕ} → Reach (trace R) (place_of (face_of R c)) x → Reach (trace R) (place_of (face_of R c')) y → Reach (trace R) x y
      across r r' = reach_trans (reach_sym (mirror_world E).perm (face_low c p) r) (rw e r')

      low : place_of c < places
      low = (place_on c p).lt

      low' : place_of c' < places
      low' = (place_on c' p').lt

      turn : {y : ℕ} → Reach (trace R) (flip R (place_of c)) y → Reach (trace R) (place_of c) (flip R y)
      turn r = rw (E.twice (place_of c) low) at (mirror_reach E (E.low (place_of c) low) r)

      go : Typed R c → Typed R c' → Compared R c c'
      go (type_zero t r) (type_zero t' r') = equal (t ∙ sym t') (across r r')
      go (type_zero t r) (type_one t' r') = unequal (λ z. omega arith) (across r r')
      go (type_one t r) (type_zero t' r') = unequal (λ z. omega arith) (turn (across r r'))
      go (type_one t r) (type_one t' r') = equal (t ∙ sym t') (rw (E.twice (place_of c') low') at (turn (across r r')))

  pub meeting_case : (c c' : ℕ) → Present R c → Present R c' → MeetingCase R c c'
  meeting_case c c' p p' = elim (ℕ_discrete (face_of R c) (face_of R c')) [
    | yes e ↦ elim (compared c c' p p' e (typed c p) (typed c' p')) [
      | equal t r ↦ same (meeting_by_lem R c c' true true (eq-eqb _ _ e) (eq-eqb _ _ t)) r
      | unequal t r ↦ opposite (meeting_by_lem R c c' true false (eq-eqb _ _ e) (ne_eqb _ _ t)) r
    ]
    | no n ↦ apart (meeting_off R c c' n (truth (eqb (type_of R c) (type_of R c')))) (λ f. n (one_face c c' p p' f))
  ]

  -- every corner of a dart is met by a listed walk
  pub corner_met : (c : ℕ) → R.live c ≡ true → has c (met_by R (starts R darts)) ≡ true
  corner_met c l =
      let k = covered R L c l in
      let low = k.low in
      has_gather (λ d. corners R (2 * d)) (starts R darts) k.at c (start_has R darts k.at low k.start)
      (corners_has R L (2 * k.at) c (omega arith) (L.dart_low c l) k.face)

  -- a listed walk's step at a corner tells its face and its type
  pub face_by : (c a x : ℕ) → R.live c ≡ true → has a (starts R darts) ≡ true → has x (walk R (2 * a)) ≡ true → corner R x ≡ c
      → (face_of R c ≡ a) × (type_of R c ≡ x % 2)
  unfolding corners
  face_by c a x l i j q = (is, type (typed_dart c low l) (at_corner R L c x q))
    where
      E : Mirror places (trace R) (flip R) (on R)
      E = tracing-mirror R L (on R) (whole R L)

      low : c < darts
      low = L.dart_low c l

      b : StartBelow R darts a
      b = has_start R darts a i

      is : face_of R c ≡ a
      is =
          let k = home c l in
          let at_low = k.low in
          let a-low = b.low in
          let met = has_corners R L (2 * a) c (omega arith) low (rw q at (has_map (corner R) (walk R (2 * a)) x j)) in
          let c-low = low in
          let one = face_trans E (omega arith) (omega arith) met (face_flip E (omega arith) (omega arith) k.face) in
          k.is ∙ sym (starts_one R L a k.at a-low at_low b.start k.start one)

      from : place_of (face_of R c) ≡ 2 * a
      from = let a-low = b.low in rw is (place_dart a (omega arith))

      to : place_of c ≡ 2 * c
      to = place_dart c (omega (arith, low))

      here : On places (on R) (2 * a)
      here = let a-low = b.low in rw (place_dart a (omega arith)) at (place_on a (at_dart a-low (start_live R a b.start)))

      along_x : Reach (trace R) (2 * a) x
      along_x = let a-low = b.low in has_walk R L (2 * a) x (omega arith) j

      turn : flip R (2 * c) ≡ mirror R (2 * c)
      turn = flip_step R (2 * c) (omega (arith, low))

      type : Typed R c → AtCorner R c x → type_of R c ≡ x % 2
      type (type_zero z r) (plain y) = omega (arith, z, y)
      type (type_zero z r) (turned y) = absurd (both_ways (2 * a) (2 * c) here (rw (from, to) at r) (rw turn (rw y at along_x)))
      type (type_one z r) (plain y) = absurd (both_ways (2 * a) (2 * c) here (rw y at along_x) (rw (from, to) at r))
      type (type_one z r) (turned y) = let odd = mirror_type R (2 * c) in omega (arith, z, y, odd)
