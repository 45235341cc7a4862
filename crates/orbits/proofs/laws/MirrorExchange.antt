-- The mirrored exchange: the values of f at x and y are exchanged, and those at their opposites m (f x) and m (f y). The
-- mirror is then a mirror of the new map. The number of orbits changes by -2, +2 or 0, as y lies to the orbit of x.
--     exch2_at, exch2_left, exch2_right, exch2_undo    the values of the exchange
--     exch2_back, exch2_world                          it changes nothing where y is the opposite of x; it is injective where f is
--     exch2_mirror                                     the mirror stays
--     exch2_less                                       y neither on the orbit of x nor on its mirror: two orbits less
--     exch2_more                                       y on the orbit of x, and not x: two orbits more
--     exch2_same, mirror_apart                         y on the mirror of the orbit of x, and so not on the orbit: as many orbits
--     less_joins, more_parts, same_parts               what the second of the two exchanges does to the orbits that the first leaves
use Rattle.std.specs.Prelude.{◌≡◌, refl, ◌≢◌, Bool}
use Rattle.std.proofs.Math.Path.{sym, ap, ap₂}
use Rattle.std.proofs.Common.{◌∙◌}
use Prim.Native.Nat.{ℕ, suc, ◌<◌}
use Rattle.std.proofs.Math.Decide.{ℕ_discrete}
use Rattle.orbits.specs.Reach.{Reach}
use Rattle.orbits.proofs.laws.Reach.{reach_here, reach_trans, reach_sym}
use Rattle.orbits.specs.Exchange.{tr, exch, tr2, exch2}
use Rattle.orbits.proofs.laws.Swap.{tr_left, tr_right, tr_off, tr_twice, tr_keeps, position, at_left, at_right, off}
use Rattle.orbits.proofs.laws.Merge.{Join, inside, across, back, Merge}
use Rattle.orbits.specs.Orbits.{orbits, World, On}
use Rattle.orbits.proofs.laws.Exchange.{exch_exch, exch_swap, exch_world, exch_outside, exch_joins, exch_less}
use Rattle.orbits.proofs.laws.ExchangeParts.{exch_parts, exch_more}
use Rattle.orbits.specs.Mirror.{Mirror}
use Rattle.orbits.proofs.laws.Mirror.{mirror_world, mirror_reach, mirror_unreach, opposite_low, opposite_on, opposite_inj, opposite_apart, opposite_reach, no_self}

pub exch2_at : (f m : ℕ → ℕ) (x y i : ℕ) → exch2 f m x y i ≡ f (tr2 f m x y i)
unfolding exch2 exch tr2
exch2_at f m x y i = refl

pub exch2_undo : (f m : ℕ → ℕ) (x y k : ℕ) → exch2 f m x y (tr (m (f x)) (m (f y)) (tr x y k)) ≡ f k
unfolding exch2 exch
exch2_undo f m x y k = ap (λ j. f (tr x y j)) (tr_twice (m (f x)) (m (f y)) (tr x y k)) ∙ ap f (tr_twice x y k)

module _ {N : ℕ} {f m : ℕ → ℕ} {live : ℕ → Bool} (E : Mirror N f m live) {x y : ℕ} (a : On N live x) (b : On N live y) where
  pub exch2_world : World N (exch2 f m x y) live
  unfolding exch2
  exch2_world = exch_world (exch_world (mirror_world E) a b) (opposite_on E a) (opposite_on E b)

  -- where y is the opposite of x nothing changes
  pub exch2_back : y ≡ m (f x) → exch2 f m x y ≡ f
  unfolding exch2
  exch2_back e =
      ap₂ (exch (exch f x y)) (sym e) (ap (λ k. m (f k)) e ∙ E.turn x a.lt) ∙ exch_swap (exch f x y) y x ∙ exch_exch f x y

  -- else the four numbers are apart, and it is plain where each of them goes
  x_off : y ≢ m (f x) → x ≢ m (f y)
  x_off c e = c (sym (ap (λ k. m (f k)) e ∙ E.turn y b.lt))

  tr2_left : y ≢ m (f x) → tr2 f m x y x ≡ y
  unfolding tr2
  tr2_left c = ap (tr x y) (tr_off (m (f x)) (m (f y)) x (opposite_apart E a) (x_off c)) ∙ tr_left x y

  tr2_right : y ≢ m (f x) → tr2 f m x y y ≡ x
  unfolding tr2
  tr2_right c = ap (tr x y) (tr_off (m (f x)) (m (f y)) y c (opposite_apart E b)) ∙ tr_right x y

  tr2_over : y ≢ m (f x) → tr2 f m x y (m (f x)) ≡ m (f y)
  unfolding tr2
  tr2_over c = ap (tr x y) (tr_left (m (f x)) (m (f y))) ∙ tr_off x y (m (f y)) (λ z. x_off c (sym z)) (λ z. opposite_apart E b (sym z))

  tr2_home : y ≢ m (f x) → tr2 f m x y (m (f y)) ≡ m (f x)
  unfolding tr2
  tr2_home c = ap (tr x y) (tr_right (m (f x)) (m (f y))) ∙ tr_off x y (m (f x)) (λ z. opposite_apart E a (sym z)) (λ z. c (sym z))

  tr2_off : (i : ℕ) → i ≢ x → i ≢ y → i ≢ m (f x) → i ≢ m (f y) → tr2 f m x y i ≡ i
  unfolding tr2
  tr2_off i p q r s = ap (tr x y) (tr_off (m (f x)) (m (f y)) i r s) ∙ tr_off x y i p q

  pub tr2_low : (i : ℕ) → i < N → tr2 f m x y i < N
  unfolding tr2
  tr2_low i h =
      tr_keeps (λ k. k < N) x y (tr (m (f x)) (m (f y)) i) a.lt b.lt
      (tr_keeps (λ k. k < N) (m (f x)) (m (f y)) i (opposite_low E a.lt) (opposite_low E b.lt) h)

  pub exch2_left : y ≢ m (f x) → exch2 f m x y x ≡ f y
  exch2_left c = exch2_at f m x y x ∙ ap f (tr2_left c)

  pub exch2_right : y ≢ m (f x) → exch2 f m x y y ≡ f x
  exch2_right c = exch2_at f m x y y ∙ ap f (tr2_right c)

  -- the opposite of an exchanged number is the exchanged opposite
  opposite_tr : (u v k : ℕ) → u < N → v < N → k < N → m (f (tr u v k)) ≡ tr (m (f u)) (m (f v)) (m (f k))
  opposite_tr u v k h l n = elim (position u v k) [
    | at_left e ↦ rw (e, tr_left u v, tr_left (m (f u)) (m (f v)))
    | at_right e ↦ rw (e, tr_right u v, tr_right (m (f u)) (m (f v)))
    | off d e ↦
        rw (tr_off u v k d e) (sym (tr_off (m (f u)) (m (f v)) (m (f k)) (λ z. d (opposite_inj E n h z)) (λ z. e (opposite_inj E n l z))))
  ]

  opposite_exch2 : (i : ℕ) → i < N → m (exch2 f m x y i) ≡ tr (m (f x)) (m (f y)) (tr x y (m (f i)))
  unfolding tr2
  opposite_exch2 i h =
      let u = opposite_low E a.lt in
      let v = opposite_low E b.lt in
      let low : tr (m (f x)) (m (f y)) i < N = tr_keeps (λ k. k < N) (m (f x)) (m (f y)) i u v h in
      ap m (exch2_at f m x y i)
      ∙ opposite_tr x y (tr (m (f x)) (m (f y)) i) a.lt b.lt low
      ∙ ap (tr (m (f x)) (m (f y))) (opposite_tr (m (f x)) (m (f y)) i u v h)
      ∙ ap₂ (λ p q. tr (m (f x)) (m (f y)) (tr p q (m (f i)))) (E.turn x a.lt) (E.turn y b.lt)

  exch2_turn : (i : ℕ) → i < N → m (exch2 f m x y (m (exch2 f m x y i))) ≡ i
  exch2_turn i h = ap (λ k. m (exch2 f m x y k)) (opposite_exch2 i h) ∙ ap m (exch2_undo f m x y (m (f i))) ∙ E.turn i h

  -- no number goes to its opposite
  tr2_clear : y ≢ m (f x) → (i : ℕ) → On N live i → tr2 f m x y i ≢ m (f i)
  tr2_clear c i o q = elim (position (m (f x)) (m (f y)) i) [
    | at_left e ↦ x_off c (sym (sym (tr2_over c) ∙ meet e ∙ E.turn x a.lt))
    | at_right e ↦ c (sym (sym (tr2_home c) ∙ meet e ∙ E.turn y b.lt))
    | off d e ↦ elim (position x y i) [
      | at_left s ↦ c (sym (tr2_left c) ∙ meet s)
      | at_right s ↦ x_off c (sym (tr2_right c) ∙ meet s)
      | off s t ↦ opposite_apart E o (sym (tr2_off i s t d e) ∙ q)
    ]
  ]
    where
      meet : {k : ℕ} → i ≡ k → tr2 f m x y k ≡ m (f k)
      meet e = rw e at q

  exch2_cross : (i : ℕ) → On N live i → exch2 f m x y i ≢ m i
  exch2_cross i o e = elim (ℕ_discrete y (m (f x))) [
    | yes s ↦ E.cross i o ((rw (exch2_back s) at e))
    | no c ↦
        tr2_clear c i o
        (opposite_inj E (tr2_low i o.lt) (opposite_low E o.lt)
        (ap m (sym (exch2_at f m x y i) ∙ e) ∙ E.twice i o.lt ∙ sym (E.turn i o.lt)))
  ]

  pub exch2_mirror : Mirror N (exch2 f m x y) m live
  exch2_mirror = record {
    fwd = exch2_world.perm.fwd;
    inv = exch2_world.inv;
    low = E.low;
    twice = E.twice;
    turn = exch2_turn;
    keep = E.keep;
    still = E.still;
    cross = exch2_cross;
  }

  -- the opposite of x, on the mirror of its orbit, is not on its orbit; nor is it where x's orbit has y
  opposite_off : ¬ Reach f (m (f x)) x
  opposite_off r =
      let I = (mirror_world E).perm in
      let low = opposite_low E a.lt in
      no_self E a (reach_trans (reach_sym I low r) (opposite_reach E a.lt))

  -- the opposite of x with y: then x with the mirror of y
  opposite_meets : Reach f (m (f x)) y → Reach f x (m y)
  opposite_meets r =
      let I = (mirror_world E).perm in
      let low = opposite_low E a.lt in
      mirror_unreach E a.lt (E.low y b.lt)
      (rw (← (E.twice y b.lt)) at (reach_trans (reach_sym I low (opposite_reach E a.lt)) r))

  module _ (apart : ¬ Reach f x y) (mapart : ¬ Reach f x (m y)) where
    second_apart : ¬ Reach (exch f x y) (m (f x)) (m (f y))
    second_apart r = by ((exch_joins (mirror_world E).perm a.lt b.lt apart).into _ _ (opposite_low E a.lt) (opposite_low E b.lt) r)
      where
        by : Join (Reach f) x y (m (f x)) (m (f y)) → ⊥
        by (inside r) =
            let I = (mirror_world E).perm in
            apart (mirror_unreach E a.lt b.lt
            (reach_trans (reach_sym I (opposite_low E a.lt) (opposite_reach E a.lt)) (reach_trans r (opposite_reach E b.lt))))
        by (across p q) = opposite_off p
        by (back p q) = mapart (opposite_meets p)

    -- the second exchange joins too
    pub less_joins : Merge N (Reach (exch f x y)) (Reach (exch2 f m x y)) (m (f x)) (m (f y))
    unfolding exch2
    less_joins = exch_joins (exch_world (mirror_world E) a b).perm (opposite_low E a.lt) (opposite_low E b.lt) second_apart

    pub exch2_less : orbits f N live ≡ suc (suc (orbits (exch2 f m x y) N live))
    unfolding exch2
    exch2_less =
        let W = mirror_world E in
        exch_less W a b apart ∙ ap suc (exch_less (exch_world W a b) (opposite_on E a) (opposite_on E b) second_apart)

  module _ (d : x ≢ y) (r : Reach f x y) where
    -- the orbit of the opposites has neither x nor y, so the first exchange leaves it
    second_along : Reach (exch f x y) (m (f x)) (m (f y))
    second_along =
        let I = (mirror_world E).perm in
        exch_outside opposite_off (λ s. opposite_off (reach_trans s (reach_sym I a.lt r)))
        (reach_trans (opposite_reach E a.lt) (reach_trans (mirror_reach E a.lt r) (reach_sym I (opposite_low E b.lt) (opposite_reach E b.lt))))

    opposites_differ : m (f x) ≢ m (f y)
    opposites_differ e = d (opposite_inj E a.lt b.lt e)

    -- the second exchange parts too
    pub more_parts : Merge N (Reach (exch2 f m x y)) (Reach (exch f x y)) (m (f x)) (m (f y))
    unfolding exch2
    more_parts = exch_parts (exch_world (mirror_world E) a b).perm (opposite_low E a.lt) (opposite_low E b.lt) opposites_differ second_along

    pub exch2_more : orbits (exch2 f m x y) N live ≡ suc (suc (orbits f N live))
    unfolding exch2
    exch2_more =
        let W = mirror_world E in
        exch_more (exch_world W a b) (opposite_on E a) (opposite_on E b) opposites_differ second_along ∙ ap suc (exch_more W a b d r)

  module _ (r : Reach f x (m y)) where
    pub mirror_apart : ¬ Reach f x y
    mirror_apart s = no_self E b (reach_trans (reach_sym (mirror_world E).perm a.lt s) r)

    -- the first exchange joins the two orbits, so the opposites are then on one
    second_joined : Reach (exch f x y) (m (f x)) (m (f y))
    second_joined =
        let I = (mirror_world E).perm in
        (exch_joins I a.lt b.lt mirror_apart).onto _ _ (opposite_low E a.lt) (opposite_low E b.lt)
        (back (reach_trans (opposite_reach E a.lt) (rw (E.twice y b.lt) at (mirror_reach E a.lt r)))
        (reach_trans r (reach_sym I (opposite_low E b.lt) (opposite_reach E b.lt))))

    opposites_apart : m (f x) ≢ m (f y)
    opposites_apart e = mirror_apart (rw (opposite_inj E a.lt b.lt e) reach_here)

    -- the second exchange parts what the first has joined
    pub same_parts : Merge N (Reach (exch2 f m x y)) (Reach (exch f x y)) (m (f x)) (m (f y))
    unfolding exch2
    same_parts = exch_parts (exch_world (mirror_world E) a b).perm (opposite_low E a.lt) (opposite_low E b.lt) opposites_apart second_joined

    pub exch2_same : orbits (exch2 f m x y) N live ≡ orbits f N live
    unfolding exch2
    exch2_same =
        let W = mirror_world E in
        exch_more (exch_world W a b) (opposite_on E a) (opposite_on E b) opposites_apart second_joined ∙ sym (exch_less W a b mirror_apart)
