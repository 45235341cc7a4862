-- How the two sides of an edge lie: on different faces, on one walk by both darts, or by the same dart twice, document 01, "Edits".
-- With x = (2e, 0) and y = (2e+1, the turns' parity): by both darts exactly if y is on the orbit of x, by the same dart exactly if its mirror is.
--     across                                                  y, the step by the second dart, of the turns' parity
--     SidesCase, sides_case                                   the three ways, with where y lies from x
--     sides_both, sides_same, sides_two                       and back: where y lies tells the way
--     sides_met, sides_met_lem                                the same from how the corners of x and y meet, and from y's type
--     again_flip, flip_again                                  passing the same dart again is reaching the mirror of y
--     TwoSides, two_sides                                     the two listed steps on a live edge
--     listed_once, reach_times                                a step is listed at most once; along a walk all are listed alike
--     keep_yes, keep_no, keep_length, keep_times, keep_has    the members of a list that pass a test
use Rattle.std.specs.Prelude.{ℕ, zero, suc, ◌+◌, ◌*◌, ◌/◌, ◌%◌, ◌<◌, ◌≤◌, ◌≡◌, Bool, true, false, List, [], ◌∷◌, ◌≢◌, eqb, length}
use Rattle.std.proofs.Common.{arith, sym, ◌∙◌}
use Rattle.std.proofs.Math.Decide.{ℕ_discrete}
use Rattle.std.proofs.Math.Path.{refl, ap}
use borrow.Author.Tests.{eq-eqb, ne_eqb, eqb-true}
use Rattle.table.specs.Layout.{rev}
use Rattle.table.specs.Rotation.{Rotation, Lawful}
use Rattle.orbits.proofs.laws.Truth.{truth, holds, fails, clash}
use Rattle.orbits.specs.Count.{more_if}
use Rattle.orbits.specs.Reach.{Reach}
use Rattle.orbits.proofs.laws.Reach.{reach_here, reach_trans, reach_sym, reach_ind}
use Rattle.orbits.specs.Orbits.{On}
use Rattle.orbits.proofs.laws.Mirror.{mirror_world}
use Rattle.orbits.specs.Faces.{Face, along, mirrored}
use Rattle.tracing.specs.declared.meeting.Sides.{Sides}
use Rattle.tracing.specs.declared.meeting.Sides.TheVariants.{TwoFaces, BothDarts, SameDart}
use Rattle.tracing.specs.declared.meeting.Meeting.{Meeting}
use Rattle.tracing.specs.declared.meeting.Meeting.TheVariants.{Apart, SameType, OtherType}
use Rattle.tracing.specs.Step.{steps, step, corner, mirror, back}
use Rattle.tracing.proofs.laws.Step.{type?, is_zero, is_one, step_live, step_word, mirror_type, back_back, back_dart, corner_live}
use Rattle.tracing.proofs.laws.Place.{places, trace, flip, on, flip_step, flip_flip}
use Rattle.tracing.specs.Walk.{walk}
use Rattle.tracing.specs.Listing.{has}
use Rattle.tracing.proofs.laws.Listing.{has_here}
use Rattle.tracing.proofs.laws.Has.{has_empty, has_cons, has_head, here, later, has_tail}
use Rattle.tracing.specs.Met.{count_in, times, listed_steps, on_edge}
use Rattle.tracing.proofs.laws.Mirrored.{whole, mirrored as tracing-mirror}
use Rattle.tracing.proofs.laws.Meets.{has_walk, walk_has, trace_reach, at_corner, plain, turned}
use Rattle.tracing.proofs.laws.Once.{step_on}
use Rattle.tracing.proofs.laws.Corner.{both_ways, meeting_case, same, opposite, apart}
use Rattle.tracing.proofs.laws.FaceCount.{place_of, place_dart}
use Rattle.tracing.specs.Corner.{at_dart, meeting_of}
use Rattle.tracing.proofs.laws.Twice.{sense, this, other, step_times, one_way}
use Rattle.tracing.proofs.laws.Edges.{edge_twice, back_edge}
use Rattle.tracing.proofs.laws.EdgeSteps.{four, itself, way_back, other_type_lem, other_back, back_flip, again_all, across_all}
use Rattle.tracing.specs.Sides.{keep, sides_by, sides_of}

-- the step by the edge's second dart that goes on as (2e, 0) would from the other end: its type is the parity of the turns
abbrev pub across : Rotation → ℕ → ℕ
across R e = 4 * e + 2 + R.turns (2 * e) % 2

pub data SidesCase (R : Rotation) (e : ℕ) : Type 0 where
  both_darts : sides_of R e ≡ BothDarts → Reach (trace R) (4 * e) (across R e) → SidesCase R e
  same_dart : sides_of R e ≡ SameDart → Reach (trace R) (4 * e) (flip R (across R e)) → SidesCase R e
  two_faces : sides_of R e ≡ TwoFaces → (Face (trace R) (flip R) (4 * e) (across R e) → ⊥) → SidesCase R e

-- the same by how the corners of x and of y meet, y being of this type
abbrev pub sides_met : Meeting → ℕ → Sides
sides_met Apart k = TwoFaces
sides_met SameType zero = BothDarts
sides_met SameType (suc k) = SameDart
sides_met OtherType zero = SameDart
sides_met OtherType (suc k) = BothDarts

-- laws of keep

keep_yes : (q : ℕ → Bool) (x : ℕ) (l : List ℕ) → q x ≡ true → keep q (x ∷ l) ≡ x ∷ keep q l
unfolding keep
keep_yes q x l e = rw (e, keep)

keep_no : (q : ℕ → Bool) (x : ℕ) (l : List ℕ) → q x ≡ false → keep q (x ∷ l) ≡ keep q l
unfolding keep
keep_no q x l e = rw (e, keep)

keep_length : (q : ℕ → Bool) (l : List ℕ) → length (keep q l) ≡ count_in q l
unfolding keep count_in
keep_length q [] = refl
keep_length q (x ∷ l) = elim (truth (q x)) [
  | holds e ↦ rw (e, keep) (ap suc (keep_length q l))
  | fails e ↦ rw (e, keep) (keep_length q l)
]

keep_times : (q : ℕ → Bool) (x : ℕ) (l : List ℕ) → times x (keep q l) ≤ times x l
unfolding keep count_in
keep_times q x [] = omega arith
keep_times q x (y ∷ l) =
    let less = keep_times q x l in
    elim (truth (q y)) [
      | holds e ↦ rw (e, keep) (mono (eqb x y) less)
      | fails e ↦ rw (e, keep) (skip (eqb x y) less)
    ]
  where
    mono : (b : Bool) {m n : ℕ} → m ≤ n → more_if b m ≤ more_if b n
    mono true h = omega arith
    mono false h = h

    skip : (b : Bool) {m n : ℕ} → m ≤ n → m ≤ more_if b n
    skip true h = omega arith
    skip false h = h

record KeptStep (q : ℕ → Bool) (l : List ℕ) (x : ℕ) : Type 0 where
  among : has x l ≡ true
  pass : q x ≡ true

keep_has : (q : ℕ → Bool) (x : ℕ) (l : List ℕ) → has x (keep q l) ≡ true → KeptStep q l x
unfolding keep
keep_has q x [] h = absurd (has_empty x h)
keep_has q x (y ∷ l) h = elim (truth (q y)) [
  | holds e ↦ elim (has_cons x y (keep q l) (sym (ap (has x) (keep_yes q y l e)) ∙ h)) [
    | here z ↦ record { among = has_head l z; pass = rw z e }
    | later z ↦
        let k = keep_has q x l z in
        record { among = has_tail x y l k.among; pass = k.pass }
  ]
  | fails e ↦
      let k = keep_has q x l (sym (ap (has x) (keep_no q y l e)) ∙ h) in
      record { among = has_tail x y l k.among; pass = k.pass }
]

times_some : (x : ℕ) (l : List ℕ) → has x l ≡ true → 0 < times x l
unfolding count_in
times_some x [] h = absurd (has_empty x h)
times_some x (y ∷ l) h = elim (has_cons x y l h) [
  | here q ↦ rw (eq-eqb x y q) (omega arith)
  | later t ↦ let some = times_some x l t in up (eqb x y) some
]
  where
    up : (b : Bool) {n : ℕ} → 0 < n → 0 < more_if b n
    up true h = omega arith
    up false h = h

-- a list of two
record Pair (l : List ℕ) : Type 0 where
  one : ℕ
  two : ℕ
  is : l ≡ one ∷ two ∷ []

pair : (l : List ℕ) → length l ≡ 2 → Pair l
pair [] h = absurd (omega arith)
pair (x ∷ []) h = absurd (omega arith)
pair (x ∷ y ∷ []) h = record { one = x; two = y; is = refl }
pair (x ∷ y ∷ z ∷ l) h = absurd (omega arith)

module _ (R : Rotation) where
  sides_by_off : (s s' : ℕ) → has s' (walk R s) ≡ false → sides_by R (s ∷ s' ∷ []) ≡ TwoFaces
  unfolding sides_by
  sides_by_off s s' e = rw (e, sides_by)

  sides_by_same : (s s' : ℕ) → has s' (walk R s) ≡ true → s / 2 ≡ s' / 2 → sides_by R (s ∷ s' ∷ []) ≡ SameDart
  unfolding sides_by
  sides_by_same s s' e d = rw (e, sides_by, eq-eqb (s / 2) (s' / 2) d)

  sides_by_both : (s s' : ℕ) → has s' (walk R s) ≡ true → s / 2 ≢ s' / 2 → sides_by R (s ∷ s' ∷ []) ≡ BothDarts
  unfolding sides_by
  sides_by_both s s' e d = rw (e, sides_by, ne_eqb (s / 2) (s' / 2) d)

-- a step that is listed as s is
record SamePair (R : Rotation) (s w : ℕ) : Type 0 where
  low : w < steps
  live : R.live (w / 2) ≡ true
  same : times w (listed_steps R) ≡ times s (listed_steps R)

-- the two sides of a live edge
record TwoSides (R : Rotation) (e : ℕ) : Type 0 where
  one : ℕ
  two : ℕ
  is : sides_of R e ≡ sides_by R (one ∷ two ∷ [])
  apart : two ≢ one
  edge : one / 4 ≡ e
  edge' : two / 4 ≡ e
  listed : times one (listed_steps R) ≡ 1
  listed' : times two (listed_steps R) ≡ 1

module _ (R : Rotation) (L : Lawful R) where
  edge_steps : (e s : ℕ) → R.live (2 * e) ≡ true → s / 4 ≡ e → (s < steps) × (R.live (s / 2) ≡ true)
  edge_steps e s l h =
      let low = L.dart_low (2 * e) l in
      (omega arith, live (ℕ_discrete (s / 2) (2 * e)))
    where
      live : Dec (s / 2 ≡ 2 * e) → R.live (s / 2) ≡ true
      live (yes q) = rw q l
      live (no q) = let r : rev (2 * e) ≡ s / 2 = let a : s / 2 / 2 ≡ s / 4 = omega arith in omega arith in rw (← r) (L.live_rev (2 * e) ∙ l)

  -- a step is listed at most once
  listed_once : (x : ℕ) → x < steps → R.live (x / 2) ≡ true → has x (listed_steps R) ≡ true → times x (listed_steps R) ≡ 1
  listed_once x h l e = elim (sense R L x h l) [
    | this p q ↦ p
    | other p q ↦ let some = times_some x (listed_steps R) e in absurd (omega arith)
  ]

  two_sides : (e : ℕ) → R.live (2 * e) ≡ true → TwoSides R e
  unfolding sides_of count_in
  two_sides e l =
      let sides = keep (on_edge e) (listed_steps R) in
      let p = pair sides (keep_length (on_edge e) (listed_steps R) ∙ edge_twice R L e l) in
      let first = keep_has (on_edge e) p.one (listed_steps R) (ap (has p.one) p.is ∙ has_here p.one (p.two ∷ [])) in
      let second = keep_has (on_edge e) p.two (listed_steps R)
      (ap (has p.two) p.is ∙ has_tail p.two p.one (p.two ∷ []) (has_here p.two [])) in
      let edge = eqb-true (p.one / 4) e first.pass in
      let edge' = eqb-true (p.two / 4) e second.pass in
      let a = edge_steps e p.one l edge in
      let b = edge_steps e p.two l edge' in
      let listed = listed_once p.one a.0 a.1 first.among in
      record {
        one = p.one;
        two = p.two;
        is = ap (sides_by R) p.is;
        apart = λ q.
            let most : times p.one sides ≤ times p.one (listed_steps R) = keep_times (on_edge e) p.one (listed_steps R) in
            let double : times p.one sides ≡ 2 = ap (times p.one) p.is ∙ rw (eq-eqb p.one p.one refl, eq-eqb p.one p.two (sym q)) in
            omega arith;
        edge = edge;
        edge' = edge';
        listed = listed;
        listed' = listed_once p.two b.0 b.1 second.among;
      }

  -- along a walk, steps are listed or not alike
  reach_times : (s w : ℕ) → s < steps → R.live (s / 2) ≡ true → Reach (trace R) s w → times w (listed_steps R) ≡ times s (listed_steps R)
  reach_times s w h l r =
      let all = reach_ind (step R) (SamePair R s) s (record { low = h; live = l; same = refl }) (λ k q b.
      record {
        low = step_word R L k b.low;
        live = step_live R L k ∙ b.live;
        same = step_times R L k b.low b.live ∙ b.same;
      }) w (trace_reach R L h r).reach in
      all.same

  -- the step `across` is the way back from the other type of (2e, 0)
  across_back : (e : ℕ) → across R e ≡ back R (rev (4 * e))
  across_back e =
      let z : rev (4 * e) ≡ 4 * e + 1 = omega arith in
      let b = back_edge R L e 1 (omega arith) in
      rw z (elim (type? (R.turns (2 * e))) [ is_zero q ↦ omega arith | is_one q ↦ omega arith ])

  across_low : (e : ℕ) → 4 * e < steps → across R e < steps
  across_low e h = elim (type? (R.turns (2 * e))) [ is_zero q ↦ omega arith | is_one q ↦ omega arith ]

  mirror_again : (e : ℕ) → 4 * e < steps → Reach (trace R) (flip R (across R e)) (rev (4 * e))
  mirror_again e h =
      let home : back R (across R e) ≡ rev (4 * e) = ap (back R) (across_back e) ∙ back_back R L (rev (4 * e)) in
      rw home at (back_flip R L (across R e) (across_low e h))

  -- passing the same dart again is reaching the mirror of `across`
  pub again_flip : (e : ℕ) → 4 * e < steps → Reach (trace R) (4 * e) (rev (4 * e)) → Reach (trace R) (4 * e) (flip R (across R e))
  again_flip e h r =
      let E = tracing-mirror R L (on R) (whole R L) in
      let low = across_low e h in
      reach_trans r (reach_sym (mirror_world E).perm (E.low (across R e) (omega arith)) (mirror_again e h))

  pub flip_again : (e : ℕ) → 4 * e < steps → Reach (trace R) (4 * e) (flip R (across R e)) → Reach (trace R) (4 * e) (rev (4 * e))
  flip_again e h r = reach_trans r (mirror_again e h)

  pub sides_case : (e : ℕ) → R.live (2 * e) ≡ true → SidesCase R e
  sides_case e l = elim (four R one two (k.edge ∙ sym k.edge')) [
    | itself q ↦ absurd (k.apart q)
    | way_back q ↦ absurd (unlisted (rw (q, back_back R L one) reach_here))
    | other_type_lem q ↦ elim (truth (has two (walk R one))) [
      | holds m ↦ same_dart (k.is ∙ sides_by_same R one two m (sym (ap (λ s. s / 2) q ∙ omega arith)))
          (again_flip e low (again_all R L one (4 * e) on_low to_first (rw q at (has_walk R L one two on_low m))))
      | fails m ↦ two_faces (k.is ∙ sides_by_off R one two m) (none_type q m)
    ]
    | other_back q ↦ elim (truth (has two (walk R one))) [
      | holds m ↦ both_darts (k.is ∙ sides_by_both R one two m (other_dart q))
          (rw (across_back e) (across_all R L one (4 * e) on_low to_first (rw q at (has_walk R L one two on_low m))))
      | fails m ↦ two_faces (k.is ∙ sides_by_off R one two m) (none_back q m)
    ]
  ]
    where
      k : TwoSides R e
      k = two_sides e l

      one : ℕ
      one = k.one

      two : ℕ
      two = k.two

      low : 4 * e < steps
      low = let d = L.dart_low (2 * e) l in omega arith

      on_low : one < steps
      on_low = (edge_steps e one l k.edge).0

      on_low' : two < steps
      on_low' = (edge_steps e two l k.edge').0

      to_first : one / 4 ≡ 4 * e / 4
      to_first = k.edge ∙ omega arith

      -- the way back of a listed step is not on a listed walk
      unlisted : Reach (trace R) one (back R two) → ⊥
      unlisted r =
          let a = reach_times one (back R two) on_low (edge_steps e one l k.edge).1 r in
          let b = one_way R L two on_low' (edge_steps e two l k.edge').1 in
          let c = k.listed in
          let d = k.listed' in
          omega arith

      other_dart : two ≡ back R (rev one) → one / 2 ≢ two / 2
      other_dart q z =
          let d : two / 2 ≡ rev (one / 2) = ap (λ s. s / 2) q ∙ back_dart R (rev one) ∙ ap rev (omega arith) in
          omega arith

      none_type : two ≡ rev one → has two (walk R one) ≡ false → Face (trace R) (flip R) (4 * e) (across R e) → ⊥
      none_type q m (along r) = unlisted (rw q (across_all R L (4 * e) one low (sym to_first) (rw (across_back e) at r)))
      none_type q m (mirrored r) = clash (walk_has R L one two on_low (rw q (again_all R L (4 * e) one low (sym to_first) (flip_again e low r)))) m

      none_back : two ≡ back R (rev one) → has two (walk R one) ≡ false → Face (trace R) (flip R) (4 * e) (across R e) → ⊥
      none_back q m (along r) = clash (walk_has R L one two on_low (rw q (across_all R L (4 * e) one low (sym to_first) (rw (across_back e) at r)))) m
      none_back q m (mirrored r) =
          let turn : back R two ≡ rev one = ap (back R) q ∙ back_back R L (rev one) in
          unlisted (rw turn (again_all R L (4 * e) one low (sym to_first) (flip_again e low r)))

  first_on : (e : ℕ) → R.live (2 * e) ≡ true → On places (on R) (4 * e)
  first_on e l =
      let low = L.dart_low (2 * e) l in
      let half : 4 * e / 2 ≡ 2 * e = omega arith in
      step_on R L (4 * e) (omega arith) (rw half l)

  -- the three cases, the other way round

  pub sides_both : (e : ℕ) → R.live (2 * e) ≡ true → Reach (trace R) (4 * e) (across R e) → sides_of R e ≡ BothDarts
  sides_both e l r = elim (sides_case e l) [
    | both_darts q s ↦ q
    | same_dart q s ↦ absurd (both_ways R L (4 * e) (across R e) (first_on e l) r s)
    | two_faces q n ↦ absurd (n (along r))
  ]

  pub sides_same : (e : ℕ) → R.live (2 * e) ≡ true → Reach (trace R) (4 * e) (flip R (across R e)) → sides_of R e ≡ SameDart
  sides_same e l r = elim (sides_case e l) [
    | both_darts q s ↦ absurd (both_ways R L (4 * e) (across R e) (first_on e l) s r)
    | same_dart q s ↦ q
    | two_faces q n ↦ absurd (n (mirrored r))
  ]

  pub sides_two : (e : ℕ) → R.live (2 * e) ≡ true → (Face (trace R) (flip R) (4 * e) (across R e) → ⊥) → sides_of R e ≡ TwoFaces
  sides_two e l n = elim (sides_case e l) [
    | both_darts q s ↦ absurd (n (along s))
    | same_dart q s ↦ absurd (n (mirrored s))
    | two_faces q m ↦ q
  ]

  -- how the corners of the two sides meet tells how the sides lie: here c is the corner of `across`

  sides_plain : (e c : ℕ) → R.live (2 * e) ≡ true → R.live c ≡ true → across R e ≡ 2 * c → sides_of R e ≡ sides_met (meeting_of R (2 * e) c) 0
  sides_plain e c l m q =
      let low = L.dart_low (2 * e) l in
      let c-low = L.dart_low c m in
      let from : place_of (2 * e) ≡ 4 * e = place_dart (2 * e) (omega arith) ∙ omega arith in
      let to : place_of c ≡ across R e = place_dart c (omega arith) ∙ sym q in
      elim (meeting_case R L (2 * e) c (at_dart low l) (at_dart c-low m)) [
        | same z r ↦ rw z (sides_both e l (rw (from, to) at r))
        | opposite z r ↦ rw z (sides_same e l (rw (from, to) at r))
        | apart z n ↦ rw z (sides_two e l (λ f. n (rw (from, to) f)))
      ]

  sides_turned : (e c : ℕ) → R.live (2 * e) ≡ true → R.live c ≡ true → across R e ≡ mirror R (2 * c) → sides_of R e ≡ sides_met (meeting_of R (2 * e) c) 1
  sides_turned e c l m q =
      let low = L.dart_low (2 * e) l in
      let c-low = L.dart_low c m in
      let from : place_of (2 * e) ≡ 4 * e = place_dart (2 * e) (omega arith) ∙ omega arith in
      let to : place_of c ≡ 2 * c = place_dart c (omega arith) in
      let there : flip R (2 * c) ≡ across R e = flip_step R (2 * c) (omega arith) ∙ sym q in
      let back : flip R (across R e) ≡ 2 * c = ap (flip R) (sym there) ∙ flip_flip R L (2 * c) in
      elim (meeting_case R L (2 * e) c (at_dart low l) (at_dart c-low m)) [
        | same z r ↦ rw z (sides_same e l (rw back (rw (from, to) at r)))
        | opposite z r ↦ rw z (sides_both e l (rw (from, to, there) at r))
        | apart z n ↦ rw z (sides_two e l (λ f. n (rw (from, to) (other_way there back f))))
      ]
    where
      other_way : flip R (2 * c) ≡ across R e → flip R (across R e) ≡ 2 * c → Face (trace R) (flip R) (4 * e) (across R e) → Face (trace R) (flip R) (4 * e) (2 * c)
      other_way t b (along r) = mirrored (rw t r)
      other_way t b (mirrored r) = along (rw b at r)

  pub sides_met_lem : (e : ℕ) → R.live (2 * e) ≡ true → sides_of R e ≡ sides_met (meeting_of R (2 * e) (corner R (across R e))) (R.turns (2 * e) % 2)
  sides_met_lem e l =
      let low = L.dart_low (2 * e) l in
      let y-low = across_low e (omega arith) in
      let other : across R e / 2 ≡ rev (2 * e) = omega arith in
      let m : R.live (corner R (across R e)) ≡ true = corner_live R L (across R e) ∙ rw other (L.live_rev (2 * e) ∙ l) in
      elim (at_corner R L (corner R (across R e)) (across R e) refl) [
        | plain q ↦
            let even : R.turns (2 * e) % 2 ≡ 0 = omega arith in
            sides_plain e (corner R (across R e)) l m q ∙ ap (sides_met (meeting_of R (2 * e) (corner R (across R e)))) (sym even)
        | turned q ↦
            let t = mirror_type R (2 * corner R (across R e)) in
            let odd : R.turns (2 * e) % 2 ≡ 1 = omega (arith, q, t) in
            sides_turned e (corner R (across R e)) l m q ∙ ap (sides_met (meeting_of R (2 * e) (corner R (across R e)))) (sym odd)
      ]
