-- The listed walks meet every corner exactly once. A walk passes no step twice, and never a step and its mirror.
--     dart_corner_once, lone_corner_once             the listed walks meet each corner exactly once
--     walk_once, corners_once                        a walk passes a step at most once, and meets a corner at most once
--     Listed, listed_face                            a listed face is a start or an isolated vertex
--     corners_of_dart, corners_of_lone, corners_low  the corners of a listed face
--     step_on, start_step                            a step on a live dart is a place that is there; a start's step is on one
--     run_count                                      how many steps of a run pass a test
--     start_once, lone_once                          a start is listed once, and so is an isolated vertex
use Prim.Native.Nat.{ℕ, zero, suc, ◌+◌, ◌*◌, ◌/◌, ◌<◌, ◌≤◌}
use native.Mathlib.Omega.{arith}
use Rattle.std.specs.Prelude.{◌≡◌, refl, Bool, true, false, ◌&&◌}
use Rattle.std.proofs.Math.Path.{sym, ap, ap₂}
use Rattle.std.proofs.Common.{◌∙◌, eq-eqb, eqb-true, lt-ltb, le-ltb}
use mathlib.Core.List.{[], ◌∷◌, map}
use Rattle.std.proofs.Math.Dec.{eqb}
use Rattle.table.specs.Layout.{vertices, darts, lone_at}
use Rattle.table.specs.Rotation.{Rotation, Lawful}
use Rattle.orbits.proofs.laws.Truth.{both, both_right, false_unless, not_both}
use Rattle.orbits.specs.Count.{count, more_if}
use Rattle.orbits.proofs.laws.Count.{count_none}
use Rattle.orbits.specs.Iterate.{iter}
use Rattle.orbits.proofs.laws.Iterate.{Period, period_apart}
use Rattle.orbits.specs.Reach.{Reach}
use Rattle.orbits.proofs.laws.Reach.{reach_trans, reach_sym}
use Rattle.orbits.specs.Orbits.{On}
use Rattle.orbits.proofs.laws.Orbits.{reach_on}
use Rattle.orbits.proofs.laws.Mirror.{mirror_world, no_self}
use Rattle.orbits.proofs.laws.Faces.{face_flip, face_trans}
use Rattle.tracing.specs.Step.{steps, step, mirror, corner}
use Rattle.tracing.proofs.laws.Step.{corner_dart}
use Rattle.tracing.proofs.laws.Place.{places, trace, flip, on, flip_step, on_step}
use Rattle.tracing.specs.Walk.{walk, corners}
use Rattle.tracing.proofs.laws.Walk.{iterates, walk_run, walk_period, walk_period_le, step_inj}
use Rattle.tracing.specs.Listing.{has, starts, alones, lone_corner, faces}
use Rattle.tracing.proofs.laws.Has.{has_empty, has_cons, here, later, has_parts, left, right, has_mapped, count_in_append, count_in_map, times_none, times_gather, count_single}
use Rattle.tracing.specs.Met.{count_in, times, corners_of, listed_corners}
use Rattle.tracing.proofs.laws.Mirrored.{whole, mirrored as tracing-mirror}
use Rattle.tracing.proofs.laws.Meets.{at_corner, plain, turned, has_run, has_walk, has_corners, corners_has, step_reach, trace_reach}
use Rattle.tracing.proofs.laws.Starts.{start?, start_live, has_start, starts_count, alones_count, lone_there}
use Rattle.tracing.proofs.laws.Cover.{covered, starts_one}

pub run_count : (q : ℕ → Bool) (f : ℕ → ℕ) (s n : ℕ) → count_in q (iterates f s n) ≡ count (λ k. q (iter f k s)) n
unfolding iterates count count_in
run_count q f s zero = refl
run_count q f s (suc n) =
    count_in_append q (iterates f s n) (iter f n s ∷ [])
    ∙ rw (run_count q f s n) (last (q (iter f n s)) (count (λ k. q (iter f k s)) n))
  where
    last : (b : Bool) (k : ℕ) → k + more_if b 0 ≡ more_if b k
    last true k = omega arith
    last false k = omega arith

module _ (R : Rotation) (L : Lawful R) where
  pub step_on : (s : ℕ) → s < steps → R.live (s / 2) ≡ true → On places (on R) s
  step_on s h l = record { lt = omega arith; on = on_step R s h ∙ l }

  -- a walk passes a step at most once
  pub walk_once : (s x : ℕ) → s < steps → has x (walk R s) ≡ true → times x (walk R s) ≡ 1
  walk_once s x h e =
      let p = walk_period R L s h in
      let w = walk_run R s p (walk_period_le R L s h p) in
      let k = has_run (step R) s x p.steps (rw w at e) in
      ap (times x) w ∙ run_count (λ y. eqb x y) (step R) s p.steps
      ∙ count_single (λ j. eqb x (iter (step R) j s)) p.steps k.steps k.few (eq-eqb x _ (sym k.lands))
      (λ i l t. period_apart (step_inj R L) h p i k.steps l k.few (sym (eqb-true x _ t) ∙ sym k.lands))

  -- it does not pass both senses at a corner
  walk_free : (s c i j : ℕ) → s < steps → c < darts → R.live (s / 2) ≡ true → iter (step R) i s ≡ 2 * c → iter (step R) j s ≡ mirror R (2 * c) → ⊥
  walk_free s c i j h l live p q =
      let E = tracing-mirror R L (on R) (whole R L) in
      let I = (mirror_world E).perm in
      let there = step_reach R L h (record { steps = i; lands = p }) in
      let turn : flip R (2 * c) ≡ mirror R (2 * c) = flip_step R (2 * c) (omega arith) in
      let over : Reach (trace R) s (flip R (2 * c)) = rw turn (step_reach R L h (record { steps = j; lands = q })) in
      no_self E (reach_on (mirror_world E) (step_on s h live) there) (reach_trans (reach_sym I (omega arith) there) over)

  -- a walk meets a corner at most once
  pub corners_once : (s c : ℕ) → s < steps → c < darts → R.live (s / 2) ≡ true → has c (corners R s) ≡ true → times c (corners R s) ≡ 1
  unfolding corners
  corners_once s c h low live e =
      let p = walk_period R L s h in
      let w = walk_run R s p (walk_period_le R L s h p) in
      let m = has_mapped (corner R) (walk R s) c e in
      let k = has_run (step R) s m.at p.steps (sym (ap (has m.at) w) ∙ m.among) in
      count_in_map (λ y. eqb c y) (corner R) (walk R s)
      ∙ ap (count_in (λ x. eqb c (corner R x))) w
      ∙ run_count (λ x. eqb c (corner R x)) (step R) s p.steps
      ∙ count_single (λ j. eqb c (corner R (iter (step R) j s))) p.steps k.steps k.few
      (eq-eqb c _ (sym (ap (corner R) k.lands ∙ m.gives)))
      (λ i l t. same p i k.steps l k.few (sym (eqb-true c _ t)) (ap (corner R) k.lands ∙ m.gives))
    where
      same : (p : Period (step R) s) (i j : ℕ) → i < p.steps → j < p.steps → corner R (iter (step R) i s) ≡ c → corner R (iter (step R) j s) ≡ c → i ≡ j
      same p i j a b u v = elim (at_corner R L c (iter (step R) i s) u) [
        | plain x ↦ elim (at_corner R L c (iter (step R) j s) v) [
          | plain y ↦ period_apart (step_inj R L) h p i j a b (x ∙ sym y)
          | turned y ↦ absurd (walk_free s c i j h low live x y)
        ]
        | turned x ↦ elim (at_corner R L c (iter (step R) j s) v) [
          | plain y ↦ absurd (walk_free s c j i h low live y x)
          | turned y ↦ period_apart (step_inj R L) h p i j a b (x ∙ sym y)
        ]
      ]

  -- a start is listed once, and so is an isolated vertex

  faces_times : (c : ℕ)
      → times c (faces R) ≡ count (λ d. start? R d && eqb c d) darts + count (λ v. R.alone v && eqb c (lone_corner v)) vertices
  unfolding faces
  faces_times c =
      count_in_append (λ y. eqb c y) (starts R darts) (map lone_corner (alones R vertices))
      ∙ ap₂ ◌+◌ (starts_count R (λ y. eqb c y) darts)
      (count_in_map (λ y. eqb c y) lone_corner (alones R vertices) ∙ alones_count R (λ v. eqb c (lone_corner v)) vertices)

  start_once : (a : ℕ) → a < darts → start? R a ≡ true → times a (faces R) ≡ 1
  start_once a h s =
      let one : count (λ d. start? R d && eqb a d) darts ≡ 1 =
      count_single (λ d. start? R d && eqb a d) darts a h (both s (eq-eqb a a refl))
      (λ i l t. sym (eqb-true a i (both_right (start? R i) (eqb a i) t))) in
      let none : count (λ v. R.alone v && eqb a (lone_corner v)) vertices ≡ 0 =
      count_none (λ v. R.alone v && eqb a (lone_corner v)) vertices
      (λ v l. not_both (R.alone v) (eqb a (lone_corner v)) (λ p q. let e = eqb-true a (lone_corner v) q in omega arith)) in
      faces_times a ∙ ap₂ ◌+◌ one none

  lone_once : (v : ℕ) → v < vertices → R.alone v ≡ true → times (lone_corner v) (faces R) ≡ 1
  lone_once v h s =
      let c = lone_corner v in
      let none : count (λ d. start? R d && eqb c d) darts ≡ 0 =
      count_none (λ d. start? R d && eqb c d) darts
      (λ d l. not_both (start? R d) (eqb c d) (λ p q. let e = eqb-true c d q in omega arith)) in
      let one : count (λ u. R.alone u && eqb c (lone_corner u)) vertices ≡ 1 =
      count_single (λ u. R.alone u && eqb c (lone_corner u)) vertices v h (both s (eq-eqb c c refl))
      (λ u l t. let e = eqb-true c (lone_corner u) (both_right (R.alone u) (eqb c (lone_corner u)) t) in omega arith) in
      faces_times c ∙ ap₂ ◌+◌ none one

  -- a listed face is a start or an isolated vertex
  pub data Listed (c : ℕ) : Type 0 where
    from_dart : c < darts → start? R c ≡ true → Listed c
    from_lone : (v : ℕ) → v < vertices → R.alone v ≡ true → c ≡ lone_corner v → Listed c

  pub listed_face : (c : ℕ) → has c (faces R) ≡ true → Listed c
  unfolding faces
  listed_face c e = elim (has_parts c (starts R darts) (map lone_corner (alones R vertices)) e) [
    | left h ↦ let b = has_start R darts c h in from_dart b.low b.start
    | right h ↦
        let i = has_mapped lone_corner (alones R vertices) c h in
        let a = lone_there R vertices i.at i.among in
        from_lone i.at (L.there_low i.at (L.alone_there i.at a)) a (sym i.gives)
  ]

  pub corners_of_dart : (c : ℕ) → c < lone_at → corners_of R c ≡ corners R (2 * c)
  unfolding corners_of
  corners_of_dart c h = rw (lt-ltb c lone_at h, corners_of)

  pub corners_of_lone : (c : ℕ) → lone_at ≤ c → corners_of R c ≡ c ∷ []
  unfolding corners_of
  corners_of_lone c h = rw (le-ltb c lone_at h, corners_of)

  pub start_step : (a : ℕ) → start? R a ≡ true → R.live (2 * a / 2) ≡ true
  start_step a s = let half : 2 * a / 2 ≡ a = omega arith in rw half (start_live R a s)

  -- the corners of a walk are darts
  pub corners_low : (s c : ℕ) → s < steps → has c (corners R s) ≡ true → c < darts
  unfolding corners
  corners_low s c h e =
      let m = has_mapped (corner R) (walk R s) c e in
      let r = has_walk R L s m.at h m.among in
      rw (← m.gives) (corner_dart R L m.at (trace_reach R L h r).low)

  -- "wherever corner d has not been met": each corner of a live dart is met exactly once
  pub dart_corner_once : (c : ℕ) → R.live c ≡ true → times c (listed_corners R) ≡ 1
  unfolding listed_corners
  dart_corner_once c l =
      let E = tracing-mirror R L (on R) (whole R L) in
      let k = covered R L c l in
      let at_low = k.low in
      let low = L.dart_low c l in
      let step_low : 2 * k.at < steps = omega arith in
      let mine : times c (corners_of R k.at) ≡ 1 =
      ap (times c) (corners_of_dart k.at (omega arith))
      ∙ corners_once (2 * k.at) c step_low low (start_step k.at k.start) (corners_has R L (2 * k.at) c step_low low k.face) in
      times_gather (corners_of R) c k.at (faces R) mine (λ x h d. elim (listed_face x h) [
        | from_dart xl s ↦
            ap (times c) (corners_of_dart x (omega arith))
            ∙ times_none c (corners R (2 * x)) (false_unless (has c (corners R (2 * x))) (λ e.
            d (starts_one R L x k.at xl at_low s k.start
            (face_trans E (omega arith) (omega arith) (has_corners R L (2 * x) c (omega arith) low e) (face_flip E (omega arith) (omega arith) k.face)))))
        | from_lone v vl a q ↦
            ap (times c) (corners_of_lone x (omega arith))
            ∙ times_none c (x ∷ []) (false_unless (has c (x ∷ [])) (λ e. elim (has_cons c x [] e) [ here r ↦ omega arith | later r ↦ has_empty c r ]))
      ])
      ∙ start_once k.at at_low k.start

  -- and so is the corner of an isolated vertex
  pub lone_corner_once : (v : ℕ) → R.alone v ≡ true → times (lone_corner v) (listed_corners R) ≡ 1
  unfolding listed_corners count_in
  lone_corner_once v a =
      let c = lone_corner v in
      let low = L.there_low v (L.alone_there v a) in
      let mine : times c (corners_of R c) ≡ 1 = ap (times c) (corners_of_lone c (omega arith)) ∙ rw (eq-eqb c c refl) in
      times_gather (corners_of R) c c (faces R) mine (λ x h d. elim (listed_face x h) [
        | from_dart xl s ↦
            ap (times c) (corners_of_dart x (omega arith))
            ∙ times_none c (corners R (2 * x)) (false_unless (has c (corners R (2 * x))) (λ e.
            let below = corners_low (2 * x) c (omega arith) e in omega arith))
        | from_lone u ul b q ↦
            ap (times c) (corners_of_lone x (omega arith))
            ∙ times_none c (x ∷ []) (false_unless (has c (x ∷ [])) (λ e. elim (has_cons c x [] e) [ here r ↦ d (sym r) | later r ↦ has_empty c r ]))
      ])
      ∙ lone_once v low a
