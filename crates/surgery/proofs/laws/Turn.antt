-- An edge turned. An even amount changes no walk. An odd amount exchanges where the edge's first dart leads with type 0 and with type 1.
-- Its two sides on different faces: one face less. On one walk by the same dart twice, one face more. By both darts: as many faces.
--     turned_on                          the same places
--     turn_even                          the same tracing, so the same faces
--     turn_less, turn_more, turn_same    an odd amount, in a part that has the edge
use Rattle.std.specs.Prelude.{◌≡◌, refl, Bool, true, ℕ, suc, ◌+◌, ◌-◌, ◌*◌, ◌/◌, ◌%◌, ◌<◌}
use Rattle.std.proofs.Common.{sym, ◌∙◌, ap, arith}
use Rattle.std.proofs.Math.Path.{fun_ext}
use Rattle.std.proofs.Math.Decide.{ℕ_discrete}
use Rattle.table.specs.Layout.{edge_of, rev}
use Rattle.table.specs.Rotation.{Rotation, Lawful}
use Rattle.orbits.specs.Reach.{Reach}
use Rattle.orbits.proofs.laws.Reach.{reach_step, reach_trans, reach_back}
use Rattle.orbits.specs.Orbits.{On}
use Rattle.orbits.specs.Mirror.{Mirror}
use Rattle.orbits.proofs.laws.Mirror.{mirror_world, mirror_next}
use Rattle.orbits.specs.Exchange.{exch2}
use Rattle.orbits.specs.Faces.{Face, along, mirrored}
use Rattle.orbits.proofs.laws.FaceExchange.{faces_less, faces_more, faces_same}
use Rattle.tracing.specs.Step.{steps}
use Rattle.tracing.proofs.laws.Step.{is_zero, is_one}
use Rattle.tracing.proofs.laws.Place.{places, trace, flip, on, place, is_step_lem, is_still, on_step, on_still, flip_flip}
use Rattle.tracing.proofs.laws.Mirrored.{Part, mirrored as tracing-mirror}
use Rattle.surgery.proofs.laws.Spin.{other_type_lem}
use Rattle.surgery.proofs.laws.Alike.{alike_around, alike_flip, alike_trace}
use Rattle.surgery.proofs.laws.Exchanged.{Exchanged, exchanged_is}
use Rattle.surgery.proofs.laws.TwoSides.{near, far}
use Rattle.surgery.proofs.laws.Through.{parity_low, parity_type, far_low, own_four, trace_near, trace_far, trace_near_back, trace_far_back, near_back, far_back, far_back_back}
use Rattle.surgery.proofs.laws.Past.{faces_of, Inside, level_in, own_level, near_on}
use Rattle.surgery.specs.Turn.{Turned}
use Rattle.surgery.specs.Change.{parity}

module _ {R R₁ : Rotation} {e : ℕ} (L : Lawful R) (L₁ : Lawful R₁) (W : Turned R e R₁) where
  pub turned_on : on R₁ ≡ on R
  turned_on = fun_ext (λ s. elim (place s) [
    | is_step_lem h ↦ rw (on_step R₁ s h, on_step R s h) (W.live (s / 2))
    | is_still h ↦ rw (on_still R₁ s h, on_still R s h) (W.alone ((s - steps) / 2))
  ])

  pub turn_even : parity R₁ e ≡ parity R e → trace R₁ ≡ trace R
  turn_even q = fun_ext (λ s. alike_trace L L₁ W.next s (elim (ℕ_discrete (edge_of (s / 2)) e) [
    | yes o ↦ own (s / 2) o
    | no n ↦ W.turns (s / 2) n
  ]))
    where
      own : (d : ℕ) → edge_of d ≡ e → R₁.turns d % 2 ≡ R.turns d % 2
      own d o = elim (ℕ_discrete d (2 * e)) [
        | yes z ↦ rw z q
        | no n ↦
            let z : d ≡ rev (2 * e) = omega arith in
            rw (z, L₁.turns_rev (2 * e), L.turns_rev (2 * e)) q
      ]

  module _ (odd : parity R₁ e ≡ 1 - parity R e) where
    here₁ : R₁.live (2 * e) ≡ true
    here₁ = W.live (2 * e) ∙ W.here

    turned_exchanged : Exchanged (trace R) (flip R) (trace R₁) (near e) (near e + 1) (4 * e + 2 + (1 - parity R e)) (far R e)
    turned_exchanged =
        let bit = parity_low R e in
        let p = parity_type R e in
        let again : 1 - parity R₁ e ≡ parity R e = omega arith in
        record {
          over = near_back R L e W.here;
          home = far_back_back R L e W.here;
          x_u = omega arith;
          x_v = omega arith;
          y_u = omega arith;
          y_v = omega arith;
          at_x = trace_near R₁ L₁ e here₁ ∙ rw odd (alike_around L L₁ W.next (other_type_lem p) (2 * e + 1)) ∙ sym (trace_far_back R L e W.here);
          at_y = trace_far_back R₁ L₁ e here₁ ∙ rw again (alike_around L L₁ W.next p (2 * e + 1)) ∙ sym (trace_near R L e W.here);
          at_u = (rw odd at (trace_far R₁ L₁ e here₁)) ∙ alike_around L L₁ W.next (is_zero refl) (2 * e) ∙ sym (trace_far R L e W.here);
          at_v = (rw again at (trace_near_back R₁ L₁ e here₁)) ∙ alike_around L L₁ W.next (is_one refl) (2 * e) ∙ sym (trace_near_back R L e W.here);
          beside = λ s a b c d. alike_trace L L₁ W.next s (W.turns (s / 2) (own_four R L e W.here s a d c b));
        }

    turned_is : exch2 (trace R) (flip R) (near e) (near e + 1) ≡ trace R₁
    turned_is = exchanged_is turned_exchanged

    module _ {P : ℕ → Bool} (K : Part R P) where
      E : Mirror places (trace R) (flip R) P
      E = tracing-mirror R L P K

      second_low : near e + 1 < places
      second_low = let l = L.dart_low (2 * e) W.here in omega arith

      module _ (i : Inside R e P) where
        second_on : On places P (near e + 1)
        second_on = record { lt = second_low; on = own_level L W.here K (level_in i) (near e + 1) (omega arith) ∙ i.near_in }

        -- where the step by the first dart with type 1 lies
        second_next : trace R (near e + 1) ≡ flip R (far R e)
        second_next = rw (far_back R L e W.here) at (mirror_next E (far R e) (far_low R L e W.here))

        second_flip : flip R (near e + 1) ≡ trace R (far R e)
        second_flip = ap (flip R) (sym (far_back R L e W.here)) ∙ flip_flip R L (trace R (far R e))

        to_second : Reach (trace R) (near e) (flip R (far R e)) → Reach (trace R) (near e) (near e + 1)
        to_second r = reach_trans (rw (← second_next) at r) (reach_back (mirror_world E).perm (near e + 1) second_low)

        from_second : Reach (trace R) (near e) (near e + 1) → Reach (trace R) (near e) (flip R (far R e))
        from_second r = rw second_next at (reach_step r)

        to_flip : Reach (trace R) (near e) (far R e) → Reach (trace R) (near e) (flip R (near e + 1))
        to_flip r = rw second_flip (reach_step r)

        from_flip : Reach (trace R) (near e) (flip R (near e + 1)) → Reach (trace R) (near e) (far R e)
        from_flip r = reach_trans (rw second_flip at r) (reach_back (mirror_world E).perm (far R e) (far_low R L e W.here))

        pub turn_less : ¬ Face (trace R) (flip R) (near e) (far R e) → faces_of R P ≡ suc (faces_of R₁ P)
        turn_less n =
            rw (alike_flip L L₁ W.next, ← turned_is)
            (faces_less E (near_on L W.here i) second_on (λ r. n (mirrored (from_second r))) (λ r. n (along (from_flip r))))

        pub turn_more : Reach (trace R) (near e) (flip R (far R e)) → faces_of R₁ P ≡ suc (faces_of R P)
        turn_more r = rw (alike_flip L L₁ W.next, ← turned_is) (faces_more E (near_on L W.here i) second_on (omega arith) (to_second r))

        pub turn_same : Reach (trace R) (near e) (far R e) → faces_of R₁ P ≡ faces_of R P
        turn_same r = rw (alike_flip L L₁ W.next, ← turned_is) (faces_same E (near_on L W.here i) second_on (to_flip r))
