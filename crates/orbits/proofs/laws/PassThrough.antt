-- Points put into an orbit, or taken out. A number that f fixes is alone in its orbit (`Alone`). One that has a predecessor is taken
-- out by the exchange of the values at the two: the other orbits, and what is left of this one, stay.
--     faces_alone, alone_mirror                 a fixed number with its mirror: without the two one face less, and the mirror stays
--     pass_out, pass_out_world                  f s = z: the map that goes from s straight to f z follows f on the other numbers
--     pass_out_orbits                           so without z it has as many orbits as f
use Rattle.std.specs.Prelude.{◌≡◌, refl, ◌≢◌, Bool, true, false, ℕ, suc, ◌<◌}
use Rattle.std.proofs.Common.{sym, ◌∙◌, ap, arith}
use Rattle.std.proofs.Math.Decide.{ℕ_discrete}
use Rattle.orbits.proofs.laws.Truth.{clash}
use Rattle.orbits.proofs.laws.Count.{without, without_at, without_other, without_on}
use Rattle.orbits.proofs.laws.Reach.{reach_here, reach_one, reach_sym}
use Rattle.orbits.specs.Orbits.{orbits, World, On}
use Rattle.orbits.proofs.laws.Orbits.{reach_on}
use Rattle.orbits.specs.Exchange.{exch}
use Rattle.orbits.proofs.laws.Exchange.{exch_left, exch_right, exch_off, exch_world}
use Rattle.orbits.proofs.laws.Swap.{position, at_left, at_right, off}
use Rattle.orbits.specs.Mirror.{Mirror}
use Rattle.orbits.proofs.laws.Alone.{alone_world, orbits_alone}
use Rattle.orbits.proofs.laws.Mirror.{mirror_world, mirror_part, mirror_on, mirror_next}
use Rattle.orbits.specs.Faces.{face_classes}
use Rattle.orbits.proofs.laws.Faces.{orbits_pair}
use Rattle.orbits.specs.Follow.{land, pass, Follows}
use Rattle.orbits.proofs.laws.Follow.{orbits_follow}

-- a fixed number and its mirror, which is fixed too: a face of their own
module _ {N : ℕ} {f m : ℕ → ℕ} {live : ℕ → Bool} {z : ℕ} (E : Mirror N f m live) (o : On N live z) (e : f z ≡ z) where
  mirror_fixed : f (m z) ≡ m z
  mirror_fixed = ap (λ k. f (m k)) (sym e) ∙ mirror_next E z o.lt

  alone_part : World N f (without (without live z) (m z))
  alone_part = alone_world (alone_world (mirror_world E) o.lt e) (E.low z o.lt) mirror_fixed

  mirror_there : On N (without live z) (m z)
  mirror_there = record { lt = E.low z o.lt; on = without_other live z (m z) (E.still z o) ∙ (mirror_on E o).on }

  -- taken out together
  z_out : without (without live z) (m z) z ≡ false
  z_out = without_other (without live z) (m z) z (λ q. E.still z o (sym q)) ∙ without_at live z

  kept : (i : ℕ) → i ≢ z → i ≢ m z → without (without live z) (m z) i ≡ live i
  kept i p q = without_other (without live z) (m z) i q ∙ without_other live z i p

  pub alone_mirror : Mirror N f m (without (without live z) (m z))
  alone_mirror = mirror_part E (without (without live z) (m z)) alone_part.inv keep (λ i p.
      without_on live z i (without_on (without live z) (m z) i p.on))
    where
      keep : (i : ℕ) → i < N → without (without live z) (m z) (m i) ≡ without (without live z) (m z) i
      keep i h = elim (position z (m z) i) [
        | at_left q ↦ rw q (without_at (without live z) (m z) ∙ sym z_out)
        | at_right q ↦ rw (q, E.twice z o.lt) (z_out ∙ sym (without_at (without live z) (m z)))
        | off p q ↦
            kept (m i) (λ r. q (sym (E.twice i h) ∙ ap m r)) (λ r. p (sym (E.twice i h) ∙ ap m r ∙ E.twice z o.lt))
            ∙ E.keep i h ∙ sym (kept i p q)
      ]

  pub faces_alone : face_classes f m N live ≡ suc (face_classes f m N (without (without live z) (m z)))
  faces_alone =
      omega (
        arith,
        orbits_pair E,
        orbits_pair alone_mirror,
        orbits_alone (mirror_world E) o e,
        orbits_alone (alone_world (mirror_world E) o.lt e) mirror_there mirror_fixed,
      )

module _ {N : ℕ} {f : ℕ → ℕ} {live : ℕ → Bool} {s z : ℕ} (W : World N f live) (o : On N live s) (e : f s ≡ z) (d : s ≢ z) where
  target : On N live z
  target = rw e at (reach_on W o (reach_one s))

  pub pass_out_world : World N (exch f s z) (without live z)
  pass_out_world = alone_world (exch_world W o target) target.lt (exch_right f s z ∙ e)

  pub pass_out : Follows N N (exch f s z) f (without live z) live (without live z) (λ i. i)
  pass_out = record {
    lives = λ i p. record { lt = p.lt; on = without_on live z i p.on };
    mark = λ i p. p.on;
    one = λ i j p q e. e;
    skip = λ i p. elim (ℕ_discrete i s) [
      | yes q ↦ rw (q, exch_left f s z) (pass {i = s} (rw e (without_at live z)) (land (stays z target (λ r. d (W.perm.inj s z o.lt target.lt (e ∙ sym r)))) (ap f e)))
      | no q ↦
          let there : On N live i = record { lt = p.lt; on = without_on live z i p.on } in
          let other : i ≢ z = λ r. clash p.on (rw r (without_at live z)) in
          rw (exch_off f s z i q other) (land (stays i there (λ r. q (W.perm.inj i s p.lt o.lt (r ∙ sym e)))) refl)
    ];
    meet = λ i p. elim (ℕ_discrete i z) [
      | yes q ↦ record { to = s; low = o.lt; pass = without_other live z s d ∙ o.on; pair = rw (q, ← e) (reach_sym W.perm o.lt (reach_one s)) }
      | no q ↦ record { to = i; low = p.lt; pass = without_other live z i q ∙ p.on; pair = reach_here }
    ];
  }
    where
      stays : (i : ℕ) → On N live i → f i ≢ z → without live z (f i) ≡ true
      stays i p r = without_other live z (f i) r ∙ W.inv i p.lt ∙ p.on

  pub pass_out_orbits : orbits (exch f s z) N (without live z) ≡ orbits f N live
  pass_out_orbits = orbits_follow pass_out_world W pass_out
