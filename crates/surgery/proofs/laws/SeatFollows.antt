-- Tracing without an edge follows tracing past it: from the seat of a place, past the edge's own steps, to the seat of the next.
--     seat_follows         so they have the same orbits
--     seat_flip            the mirror of a place lies on the orbit of the mirror of its seat: and the same faces
use Rattle.std.specs.Prelude.{◌≡◌, refl, ◌≢◌, ◌⊎◌, true, false, ℕ, ◌+◌, ◌-◌, ◌*◌, ◌/◌, ◌%◌, ◌<◌, ◌≤◌}
use Rattle.std.proofs.Common.{sym, ◌∙◌, ap, inl, inr, ⊎_elim, arith}
use Rattle.std.proofs.Math.Decide.{ℕ_discrete}
use Rattle.table.specs.Layout.{darts, vertices, edge_of, rev}
use Rattle.table.specs.Rotation.{Rotation, Lawful}
use Rattle.orbits.proofs.laws.Truth.{truth, holds, fails, false_unless}
use Rattle.orbits.specs.Count.{Partner}
use Rattle.orbits.specs.Iterate.{Inj}
use Rattle.orbits.specs.Reach.{Reach}
use Rattle.orbits.proofs.laws.Reach.{reach_here, reach_step, reach_one, reach_sym, reach_ind}
use Rattle.orbits.specs.Orbits.{On}
use Rattle.orbits.specs.Follow.{Skip, land, Follows}
use Rattle.tracing.specs.Step.{steps, step_type, other_type}
use Rattle.tracing.proofs.laws.Step.{Type?, is_zero, is_one, type?, step_word, mirror_word}
use Rattle.tracing.proofs.laws.Place.{places, trace, flip, on, is_step_lem, is_still, place, trace_step, trace_still, flip_step, flip_still, rev_vertex, on_step, on_still}
use Rattle.surgery.proofs.laws.Spin.{spin, spin_live, spin_from, spin_reach, step_type?, trace_spin, flip_spin, other_type_lem}
use Rattle.surgery.specs.Without.{Without}
use Rattle.surgery.proofs.laws.Without.{apart_other, here_both, kept, not_own, were, spin_skip, alone_stays, bare_edge, filled, full}
use Rattle.surgery.proofs.laws.Through.{through, through_other}
use Rattle.surgery.proofs.laws.Seat.{dart_at, seat, passed_over, Seated, a_step, a_vertex, a_bare, seated}
use Rattle.surgery.proofs.laws.Seat.{seat_step, seat_vertex, seat_bare, dart_at_own, dart_at_from, taken_other, taken_bare, halves, past, skip_around, reach_around, skip_bare, same_type}

dart_step : {t : ℕ} (d : ℕ) → d < darts → Type? t → 2 * d + t < steps
dart_step d h (is_zero z) = omega arith
dart_step d h (is_one z) = omega arith

-- the still place of type t of a vertex
still_halves : (v t : ℕ) → Type? t → ((steps + 2 * v + t - steps) / 2 ≡ v) × ((steps + 2 * v + t) % 2 ≡ t) × (v < vertices → steps + 2 * v + t < places)
still_halves v t (is_zero z) = (omega arith, omega arith, λ h. omega arith)
still_halves v t (is_one z) = (omega arith, omega arith, λ h. omega arith)

-- past the edge, a place leads to the seat of a place that is there
abbrev Meets : Rotation → ℕ → Rotation → ℕ → Type 0
Meets R e R' i = Partner (λ i j. Reach (through R e) i (seat R e j)) (on R') places i

module _ {R R' : Rotation} {e : ℕ} (L : Lawful R) (L' : Lawful R') (W : Without R e R') where
  own_low : {t : ℕ} → Type? t → (d : ℕ) → edge_of d ≡ e → 2 * d + t < steps
  own_low T d q = dart_step d (L.dart_low d (here_both L L' W d q)) T

  -- a still place is no step of the edge
  still_other : (s : ℕ) → steps ≤ s → edge_of (s / 2) ≢ e
  still_other s h q = let l = L.dart_low (2 * e) W.here in omega arith

  seat_on : (s : ℕ) → s < places → Seated R e R' s → On places (on R) (seat R e s)
  seat_on s b (a_step h l q) = rw q (record { lt = b; on = on_step R s h ∙ were L L' W (s / 2) l })
  seat_on s b (a_vertex h a q) = rw q (record { lt = b; on = on_still R s h ∙ a })
  seat_on s b (a_bare h d o v a p q) =
      let low = own_low (type? s) d o in
      rw q (record { lt = omega arith; on = on_step R (2 * d + s % 2) low ∙ rw (halves d (s % 2) (type? s)).0 (here_both L L' W d o) })

  seat_taken : (s : ℕ) → Seated R e R' s → passed_over R e R' (seat R e s) ≡ true
  seat_taken s (a_step h l q) = rw q (taken_other R e R' s (s / 2) refl (apart_other e (s / 2) (not_own L L' W (s / 2) l)))
  seat_taken s (a_vertex h a q) = rw q (taken_other R e R' s (s / 2) refl (apart_other e (s / 2) (still_other s h)))
  seat_taken s (a_bare h d o v a p q) = rw q (taken_bare R e R' (2 * d + s % 2) d (halves d (s % 2) (type? s)).0 a p)

  -- a step of another edge, and a vertex, is not at a step of the edge
  off_step : (s d k : ℕ) → R'.live (s / 2) ≡ true → edge_of d ≡ e → s ≢ 2 * d + k % 2
  off_step s d k l o q = let n = not_own L L' W (s / 2) l in omega arith

  off_still : (s d k : ℕ) → steps ≤ s → edge_of d ≡ e → s ≢ 2 * d + k % 2
  off_still s d k h o q = let low = own_low (type? k) d o in omega arith

  seat_one : (i j : ℕ) → Seated R e R' i → Seated R e R' j → seat R e i ≡ seat R e j → i ≡ j
  seat_one i j (a_step h l q) (a_step n m r) z = sym q ∙ z ∙ r
  seat_one i j (a_step h l q) (a_vertex n b r) z = sym q ∙ z ∙ r
  seat_one i j (a_step h l q) (a_bare n k p w b t r) z = absurd (off_step i k j l p (sym q ∙ z ∙ r))
  seat_one i j (a_vertex h a q) (a_step n m r) z = sym q ∙ z ∙ r
  seat_one i j (a_vertex h a q) (a_vertex n b r) z = sym q ∙ z ∙ r
  seat_one i j (a_vertex h a q) (a_bare n k p w b t r) z = absurd (off_still i k j h p (sym q ∙ z ∙ r))
  seat_one i j (a_bare h d o v a p q) (a_step n m r) z = absurd (off_step j d i m o (sym r ∙ sym z ∙ q))
  seat_one i j (a_bare h d o v a p q) (a_vertex n b r) z = absurd (off_still j d i n o (sym r ∙ sym z ∙ q))
  seat_one i j (a_bare h d o v a p q) (a_bare n k s w b t r) z =
      let same : 2 * d + i % 2 ≡ 2 * k + j % 2 = sym q ∙ z ∙ r in
      let dart : d ≡ k = omega arith in
      let vertex : (i - steps) / 2 ≡ (j - steps) / 2 = sym v ∙ ap R.from dart ∙ w in
      omega arith

  seat_skip : (s : ℕ) → s < places → Seated R e R' s → Skip (through R e) (passed_over R e R') (seat R e s) (seat R e (trace R' s))
  seat_skip s b (a_step h l q) =
      let t = step_type R' s in
      let T = step_type? R' s in
      let l' : R'.live (rev (s / 2)) ≡ true = L'.live_rev (s / 2) ∙ l in
      let n = not_own L L' W (s / 2) l in
      let goes = trace_spin R' s h in
      let came : through R e s ≡ 2 * spin R t (rev (s / 2)) + t =
      through_other R e s n ∙ trace_spin R s h ∙ rw (same_type L L' W s l) in
      rw (q, seat_step R e (trace R' s) (rw (trace_step R' s h) (step_word R' L' s h)), goes)
      (skip_around L L' W T (spin_skip L L' W T (rev (s / 2)) (omega arith)) (full L L' W (rev (s / 2)) l') s came)
  seat_skip s b (a_vertex h a q) =
      rw (trace_still R' s h, q)
      (land (taken_other R e R' s (s / 2) refl (apart_other e (s / 2) (still_other s h))) (through_other R e s (still_other s h) ∙ trace_still R s h))
  seat_skip s b (a_bare h d o v a p q) = rw (trace_still R' s h, q) (skip_bare L L' W (type? s) d o a p)

  -- from a step of the edge: to the vertex that it bares, or to the first dart of another edge
  pub meet_bare : {t : ℕ} → Type? t → (d : ℕ) → edge_of d ≡ e → R'.alone (R.from d) ≡ true
      → Reach (through R e) (2 * d + t) (2 * dart_at R e (R.from d) + t)
  meet_bare {t} T d o a =
      (reach_ind (spin R t) On-way d (record { live = here_both L L' W d o; from = refl; way = reach_here }) step (dart_at R e v)
      (spin_reach L T d (dart_at R e v) (here_both L L' W d o) (here_both L L' W (dart_at R e v) (dart_at_own R e v)) (sym (dart_at_from R e d v o refl)))
      ).way
    where
      v : ℕ
      v = R.from d

      On-way : ℕ → Type 0
      On-way k = record { live : R.live k ≡ true; from : R.from k ≡ v; way : Reach (through R e) (2 * d + t) (2 * k + t) }

      step : (k : ℕ) → Reach (spin R t) d k → On-way k → On-way (spin R t k)
      step k r w = record {
        live = spin_live L T k ∙ w.live;
        from = spin_from L T k ∙ w.from;
        way = rw (← (past L L' W T k (bare_edge L L' W k (rw w.from a) w.live))) (reach_step w.way);
      }

  meet_full : {t : ℕ} → Type? t → (d : ℕ) → edge_of d ≡ e → R'.alone (R.from d) ≡ false → Meets R e R' (2 * d + t)
  meet_full {t} T d o f =
      let k = filled L L' W d (here_both L L' W d o) f in
      ⊎_elim (λ m. m) (λ w. found k.0 k.1 w.1)
      (reach_ind (spin R t) Way d (inr (here_both L L' W d o, reach_here)) step k.0
      (spin_reach L T d k.0 (here_both L L' W d o) (were L L' W k.0 k.1) (sym k.2)))
    where
      Way : ℕ → Type 0
      Way k = Meets R e R' (2 * d + t) ⊎ ((R.live k ≡ true) × Reach (through R e) (2 * d + t) (2 * k + t))

      found : (k : ℕ) → R'.live k ≡ true → Reach (through R e) (2 * d + t) (2 * k + t) → Meets R e R' (2 * d + t)
      found k l r =
          let low = dart_step k (L'.dart_low k l) T in
          record {
            to = 2 * k + t;
            low = omega arith;
            pass = on_step R' (2 * k + t) low ∙ rw (halves k t T).0 l;
            pair = rw (seat_step R e (2 * k + t) low) r;
          }

      step : (k : ℕ) → Reach (spin R t) d k → Way k → Way (spin R t k)
      step k r (inl m) = inl m
      step k r (inr w) = elim (ℕ_discrete (edge_of k) e) [
        | yes q ↦ inr (spin_live L T k ∙ w.0, rw (← (past L L' W T k q)) (reach_step w.1))
        | no n ↦ inl (found k (kept L L' W k n ∙ w.0) w.1)
      ]

  seat_meet : (i : ℕ) → On places (on R) i → Meets R e R' i
  seat_meet i o = elim (place i) [
    | is_still h ↦
        let a : R.alone ((i - steps) / 2) ≡ true = rw (on_still R i h) at o.on in
        record { to = i; low = o.lt; pass = on_still R' i h ∙ alone_stays L L' W ((i - steps) / 2) a; pair = rw (seat_vertex R e i h a) reach_here }
    | is_step_lem h ↦
        let l : R.live (i / 2) ≡ true = rw (on_step R i h) at o.on in
        elim (ℕ_discrete (edge_of (i / 2)) e) [
          | no n ↦ record { to = i; low = o.lt; pass = on_step R' i h ∙ kept L L' W (i / 2) n ∙ l; pair = rw (seat_step R e i h) reach_here }
          | yes q ↦
              let step : i ≡ 2 * (i / 2) + i % 2 = omega arith in
              rw step (own_meet (type? i) (i / 2) q)
        ]
  ]
    where
      own_meet : {t : ℕ} → Type? t → (d : ℕ) → edge_of d ≡ e → Meets R e R' (2 * d + t)
      own_meet {t} T d q = elim (truth (R'.alone (R.from d))) [
        | fails f ↦ meet_full T d q f
        | holds a ↦
            let low = L.there_low (R.from d) (L.from_there d (here_both L L' W d q)) in
            let p = still_halves (R.from d) t T in
            let bare : R.alone (R.from d) ≡ false = false_unless _ (λ b. L.alone_bare (R.from d) d b (here_both L L' W d q) refl) in
            let s = steps + 2 * R.from d + t in
            let h : steps ≤ s = omega arith in
            record {
              to = s;
              low = p.2 low;
              pass = on_still R' s h ∙ rw p.0 a;
              pair = rw (seat_bare R e s h (rw p.0 bare), p.0, p.1) (meet_bare T d q a);
            }
      ]

  pub seat_follows : Follows places places (trace R') (through R e) (on R') (on R) (passed_over R e R') (seat R e)
  seat_follows = record {
    lives = λ s o. seat_on s o.lt (seated L L' W s o);
    mark = λ s o. seat_taken s (seated L L' W s o);
    one = λ i j o p. seat_one i j (seated L L' W i o) (seated L L' W j p);
    skip = λ s o. seat_skip s o.lt (seated L L' W s o);
    meet = seat_meet;
  }

  pub seat_flip : Inj places (through R e) → (s : ℕ) → On places (on R') s → Reach (through R e) (seat R e (flip R' s)) (flip R (seat R e s))
  seat_flip I s o = by (seated L L' W s o)
    where
      by : Seated R e R' s → Reach (through R e) (seat R e (flip R' s)) (flip R (seat R e s))
      by (a_step h l q) =
          let T = other_type_lem (type? s) in
          let n = not_own L L' W (s / 2) l in
          let low = mirror_word R L s h in
          let w : flip R s < places = rw (flip_step R s h) (omega arith) in
          let here : Reach (through R e) (flip R s) (flip R' s) = rw (flip_spin R s h, flip_spin R' s h) (reach_around L L' W T (spin_skip L L' W T (s / 2) n)) in
          rw (q, seat_step R e (flip R' s) (rw (flip_step R' s h) (mirror_word R' L' s h))) (reach_sym I w here)
      by (a_vertex h a q) = rw (q, flip_still R' s h, flip_still R s h, seat_vertex R e (other_type s) (omega arith) (rw (rev_vertex s h) a)) reach_here
      by (a_bare h d x v a p q) =
          let T = type? s in
          let low = own_low T d x in
          let f : R.alone ((s - steps) / 2) ≡ false = false_unless _ (λ b. L.alone_bare ((s - steps) / 2) d b (here_both L L' W d x) v) in
          let half = halves d (s % 2) T in
          let dart : dart_at R e ((s - steps) / 2) ≡ d = ap (dart_at R e) (sym v) ∙ p in
          let type : other_type s % 2 ≡ 1 - s % 2 = omega arith in
          rw (q, flip_still R' s h, seat_bare R e (other_type s) (omega arith) (rw (rev_vertex s h) f), rev_vertex s h, dart, type, flip_spin R (2 * d + s % 2) low, half.0, half.1)
          (rw (← (past L L' W (other_type_lem T) d x)) (reach_one (2 * d + (1 - s % 2))))
