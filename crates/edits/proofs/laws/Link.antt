-- A dart put on its seat: the rules of the darts hold again.
--     linked_grown                      the rules hold with the dart more, and the rest is as before
--     linked_seat                       where the dart stands: its vertex, and the dart after it
--     linked_held                       the rules of the darts, with x among them
--     linked_next                       with x left out again, the next darts are those of before
--     next_x, next_p, next_other        the next words after the writes; so for "previous" and the vertex left
--     old_step, old_reach, new_cycle    the darts of a vertex are still one cycle
--     smallest_here, smallest_new       the vertex words are still the smallest darts
use Rattle.std.specs.Prelude.{ℕ, ◌<◌, ◌≡◌, Bool, true, false, List, ◌≢◌}
use Rattle.std.proofs.Common.{arith, sym, ◌∙◌, ap}
use Rattle.std.proofs.Math.Decide.{ℕ_discrete}
use Rattle.orbits.proofs.laws.Truth.{clash, truth, holds, fails}
use Rattle.orbits.specs.Reach.{Reach}
use Rattle.orbits.proofs.laws.Reach.{reach_here, reach_one, reach_trans, reach_by}
use Rattle.table.specs.Layout.{vertices, darts, nothing, isolated, next_word, prev_word, leaves, edge_word, vertex_word}
use Rattle.table.specs.laws.Writes.{upd, upd_at, upd_off}
use Rattle.surgery.specs.Without.{bypass}
use Rattle.surgery.proofs.laws.Bypass.{bypass_self, bypass_into, bypass_off}
use Rattle.edits.proofs.laws.Held.{Held, SmallestIn, next_in, next_in_lem, next_out_lem}
use Rattle.edits.proofs.laws.Splice.{Reads}
use Rattle.edits.proofs.laws.Grown.{plus, plus_new, plus_old, Plus, new, old, plus_case, Grown}
use Rattle.edits.proofs.laws.Seat.{Seat, among, alone, Foremost}

module _ (t u : List ℕ) (L : ℕ → Bool) (H : Held t L) (x d p v w : ℕ) (free : L x ≡ false) (low : x < darts) (seat : Seat t L x d p v) (foremost : Foremost t L x v w)
    (r : Reads u (upd (upd (next_word t) x d) p x) (upd (upd (prev_word t) d x) x p) (upd (leaves t) x v) (edge_word t) (upd (vertex_word t) v w)) where
  not_x : (j : ℕ) → L j ≡ true → j ≢ x
  not_x j e q = clash (rw q at e) free

  grow : (j : ℕ) → L j ≡ true → plus L x j ≡ true
  grow j e = plus_old L x j (not_x j e) ∙ e

  plus_low : (j : ℕ) → plus L x j ≡ true → j < darts
  plus_low j e = elim (plus_case L x j e) [ new a ↦ rw a low | old n a ↦ H.low j a ]

  -- the neighbours: x itself, or old darts of v

  d_in : plus L x d ≡ true
  d_in = elim seat [ among o b a ↦ grow d o | alone e f n ↦ rw e (plus_new L x) ]

  p_in : plus L x p ≡ true
  p_in = elim seat [ among o b a ↦ grow p (rw (← b) (H.prev_live d o)) | alone e f n ↦ rw f (plus_new L x) ]

  d_new : p ≡ x → d ≡ x
  d_new q = elim seat [ among o b a ↦ absurd (not_x p (rw (← b) (H.prev_live d o)) q) | alone e f n ↦ e ]

  p_new : d ≡ x → p ≡ x
  p_new q = elim seat [ among o b a ↦ absurd (not_x d o q) | alone e f n ↦ f ]

  p_next : L p ≡ true → next_word t p ≡ d
  p_next l = elim seat [ among o b a ↦ rw (← b) (H.next_prev d o) | alone e f n ↦ absurd (not_x p l f) ]

  d_prev : L d ≡ true → prev_word t d ≡ p
  d_prev l = elim seat [ among o b a ↦ b | alone e f n ↦ absurd (not_x d l e) ]

  d_at : L d ≡ true → leaves t d ≡ v
  d_at l = elim seat [ among o b a ↦ a | alone e f n ↦ absurd (not_x d l e) ]

  -- where v has a dart, they are old
  d_old : (k : ℕ) → L k ≡ true → leaves t k ≡ v → L d ≡ true
  d_old k l q = elim seat [ among o b a ↦ o | alone e f n ↦ absurd (n k l q) ]

  p_old : (k : ℕ) → L k ≡ true → leaves t k ≡ v → L p ≡ true
  p_old k l q = let o = d_old k l q in rw (← d_prev o) (H.prev_live d o)

  p_at : L p ≡ true → leaves t p ≡ v
  p_at l = let e = p_next l in sym (H.next_leaves p l) ∙ ap (leaves t) e ∙ d_at (rw e at (H.next_live p l))

  -- the words

  next_x : next_word u x ≡ d
  next_x = r.next_is x low ∙ elim (ℕ_discrete p x) [
    | yes q ↦ rw q (upd_at _ x x) ∙ sym (d_new q)
    | no n ↦ upd_off _ p x x (λ q. n (sym q)) ∙ upd_at (next_word t) x d
  ]

  next_p : next_word u p ≡ x
  next_p = r.next_is p (plus_low p p_in) ∙ upd_at _ p x

  next_other : (j : ℕ) → j < darts → j ≢ x → j ≢ p → next_word u j ≡ next_word t j
  next_other j h n m = r.next_is j h ∙ upd_off _ p x j m ∙ upd_off (next_word t) x d j n

  prev_d : prev_word u d ≡ x
  prev_d = r.prev_is d (plus_low d d_in) ∙ elim (ℕ_discrete d x) [
    | yes q ↦ rw q (upd_at _ x p) ∙ p_new q
    | no n ↦ upd_off _ x p d n ∙ upd_at (prev_word t) d x
  ]

  prev_x : prev_word u x ≡ p
  prev_x = r.prev_is x low ∙ upd_at _ x p

  prev_other : (j : ℕ) → j < darts → j ≢ x → j ≢ d → prev_word u j ≡ prev_word t j
  prev_other j h n m = r.prev_is j h ∙ upd_off _ x p j n ∙ upd_off (prev_word t) d x j m

  leaves_x : leaves u x ≡ v
  leaves_x = r.from_is x low ∙ upd_at (leaves t) x v

  leaves_other : (j : ℕ) → j < darts → j ≢ x → leaves u j ≡ leaves t j
  leaves_other j h n = r.from_is j h ∙ upd_off (leaves t) x v j n

  leaves_old : (j : ℕ) → L j ≡ true → leaves u j ≡ leaves t j
  leaves_old j e = leaves_other j (H.low j e) (not_x j e)

  d_here : leaves u d ≡ v
  d_here = elim (plus_case L x d d_in) [ new a ↦ rw a leaves_x | old n a ↦ leaves_old d a ∙ d_at a ]

  p_here : leaves u p ≡ v
  p_here = elim (plus_case L x p p_in) [ new a ↦ rw a leaves_x | old n a ↦ leaves_old p a ∙ p_at a ]

  vertex_v : vertex_word u v ≡ w
  vertex_v = r.vertex_is v foremost.v_low ∙ upd_at (vertex_word t) v w

  vertex_other : (j : ℕ) → j < vertices → j ≢ v → vertex_word u j ≡ vertex_word t j
  vertex_other j h n = r.vertex_is j h ∙ upd_off (vertex_word t) v w j n

  w_low : w < darts
  w_low = elim foremost.w_in [ new a ↦ rw a low | old n a ↦ H.low w a ]

  -- an old step is a step still, or two by way of x
  old_step : (j : ℕ) → L j ≡ true → Reach (next_word u) j (next_word t j)
  old_step j e = elim (ℕ_discrete j p) [
    | yes q ↦ rw (q, p_next (rw q at e)) (rw (next_p, next_x) at (reach_trans (reach_one {f = next_word u} p) (reach_one (next_word u p))))
    | no n ↦ rw (next_other j (H.low j e) (not_x j e) n) at (reach_one {f = next_word u} j)
  ]

  old_reach : (j k : ℕ) → L j ≡ true → Reach (next_word t) j k → Reach (next_word u) j k
  old_reach = reach_by (λ i. L i ≡ true) H.next_live old_step

  new_cycle : (j k : ℕ) → Plus L x j → Plus L x k → leaves u j ≡ leaves u k → Reach (next_word u) j k
  new_cycle j k (new a) (new b) e = rw (a, b) reach_here
  new_cycle j k (new a) (old n b) e =
      let s : leaves t k ≡ v = sym (leaves_old k b) ∙ sym e ∙ ap (leaves u) a ∙ leaves_x in
      let o = d_old k b s in
      rw a (reach_trans (rw next_x at (reach_one {f = next_word u} x)) (old_reach d k o (H.one_cycle d k o b (d_at o ∙ sym s))))
  new_cycle j k (old n a) (new b) e =
      let s : leaves t j ≡ v = sym (leaves_old j a) ∙ e ∙ ap (leaves u) b ∙ leaves_x in
      let o = p_old j a s in
      rw b (reach_trans (old_reach j p a (H.one_cycle j p a o (s ∙ sym (p_at o)))) (rw next_p at (reach_one {f = next_word u} p)))
  new_cycle j k (old n a) (old m b) e = old_reach j k a (H.one_cycle j k a b (sym (leaves_old j a) ∙ e ∙ leaves_old k b))

  next_new : (j : ℕ) → Plus L x j → plus L x (next_word u j) ≡ true
  next_new j (new a) = rw (a, next_x) d_in
  next_new j (old n a) = elim (ℕ_discrete j p) [
    | yes q ↦ rw (q, next_p) (plus_new L x)
    | no m ↦ rw (next_other j (H.low j a) n m) (grow _ (H.next_live j a))
  ]

  prev_new : (j : ℕ) → Plus L x j → plus L x (prev_word u j) ≡ true
  prev_new j (new a) = rw (a, prev_x) p_in
  prev_new j (old n a) = elim (ℕ_discrete j d) [
    | yes q ↦ rw (q, prev_d) (plus_new L x)
    | no m ↦ rw (prev_other j (H.low j a) n m) (grow _ (H.prev_live j a))
  ]

  prev_next_new : (j : ℕ) → Plus L x j → prev_word u (next_word u j) ≡ j
  prev_next_new j (new a) = rw (a, next_x) prev_d
  prev_next_new j (old n a) = elim (ℕ_discrete j p) [
    | yes q ↦ rw (q, next_p) prev_x
    | no m ↦
        let l = H.next_live j a in
        rw (next_other j (H.low j a) n m)
        (prev_other (next_word t j) (H.low _ l) (not_x _ l) (λ q. m (sym (H.prev_next j a) ∙ ap (prev_word t) q ∙ d_prev (rw q at l))) ∙ H.prev_next j a)
  ]

  next_prev_new : (j : ℕ) → Plus L x j → next_word u (prev_word u j) ≡ j
  next_prev_new j (new a) = rw (a, prev_x) next_p
  next_prev_new j (old n a) = elim (ℕ_discrete j d) [
    | yes q ↦ rw (q, prev_d) next_x
    | no m ↦
        let l = H.prev_live j a in
        rw (prev_other j (H.low j a) n m)
        (next_other (prev_word t j) (H.low _ l) (not_x _ l) (λ q. m (sym (H.next_prev j a) ∙ ap (next_word t) q ∙ p_next (rw q at l))) ∙ H.next_prev j a)
  ]

  leaves_new : (j : ℕ) → Plus L x j → leaves u (next_word u j) ≡ leaves u j
  leaves_new j (new a) = rw (a, next_x) (d_here ∙ sym leaves_x)
  leaves_new j (old n a) = elim (ℕ_discrete j p) [
    | yes q ↦ rw (q, next_p) (leaves_x ∙ sym p_here)
    | no m ↦ rw (next_other j (H.low j a) n m) (leaves_old _ (H.next_live j a) ∙ H.next_leaves j a ∙ sym (leaves_old j a))
  ]

  leaves_low_new : (j : ℕ) → Plus L x j → leaves u j < vertices
  leaves_low_new j (new a) = rw (a, leaves_x) foremost.v_low
  leaves_low_new j (old n a) = rw (leaves_old j a) (H.leaves_low j a)

  vertex_live_new : (j : ℕ) → j < vertices → (j ≢ v → vertex_word t j ≢ nothing) → vertex_word u j ≢ nothing
  vertex_live_new j h n = elim (ℕ_discrete j v) [
    | yes q ↦ λ z. let e : w ≡ nothing = sym vertex_v ∙ ap (vertex_word u) (sym q) ∙ z in let l = w_low in omega arith
    | no m ↦ rw (vertex_other j h m) (n m)
  ]

  leaves_live_new : (j : ℕ) → Plus L x j → vertex_word u (leaves u j) ≢ nothing
  leaves_live_new j (new a) = vertex_live_new (leaves u j) (leaves_low_new j (new a)) (λ m. absurd (m (ap (leaves u) a ∙ leaves_x)))
  leaves_live_new j (old n a) = vertex_live_new (leaves u j) (leaves_low_new j (old n a)) (λ m. rw (leaves_old j a) (H.leaves_live j a))

  alone_new : (b : ℕ) → b < vertices → vertex_word u b ≡ isolated → (j : ℕ) → Plus L x j → leaves u j ≢ b
  alone_new b h i j c q = elim (ℕ_discrete b v) [
    | yes s ↦ let e : w ≡ isolated = sym vertex_v ∙ ap (vertex_word u) (sym s) ∙ i in let l = w_low in omega arith
    | no m ↦ elsewhere c m
  ]
    where
      elsewhere : Plus L x j → b ≢ v → ⊥
      elsewhere (new a) m = m (sym q ∙ ap (leaves u) a ∙ leaves_x)
      elsewhere (old n a) m = H.alone b h (sym (vertex_other b h m) ∙ i) j a (sym (leaves_old j a) ∙ q)

  smallest_here : SmallestIn u (plus L x) v w
  smallest_here = record {
    live = elim foremost.w_in [ new a ↦ rw a (plus_new L x) | old n a ↦ grow w a ];
    here = elim foremost.w_in [ new a ↦ rw a leaves_x | old n a ↦ leaves_old w a ∙ foremost.w_here a ];
    least = λ k l q. elim (plus_case L x k l) [
      | new a ↦ rw a foremost.w_new
      | old n a ↦ foremost.w_least k a (sym (leaves_old k a) ∙ q)
    ];
  }

  smallest_new : (b : ℕ) → b < vertices → vertex_word u b ≢ nothing → vertex_word u b ≢ isolated → SmallestIn u (plus L x) b (vertex_word u b)
  smallest_new b h n i = elim (ℕ_discrete b v) [
    | yes s ↦ rw (s, vertex_v) smallest_here
    | no m ↦
        let same = vertex_other b h m in
        let o = H.smallest b h (rw same at n) (rw same at i) in
        rw same (record {
          live = grow _ o.live;
          here = leaves_old _ o.live ∙ o.here;
          least = λ k l q. elim (plus_case L x k l) [
            | new a ↦ absurd (m (sym q ∙ ap (leaves u) a ∙ leaves_x))
            | old z a ↦ o.least k a (sym (leaves_old k a) ∙ q)
          ];
        })
  ]

  linked_held : Held u (plus L x)
  linked_held = record {
    size = r.size;
    low = λ j e. elim (plus_case L x j e) [ new a ↦ rw a low | old n a ↦ H.low j a ];
    bare = λ j h e.
        let n : j ≢ x = λ q. clash (rw q (plus_new L x)) e in
        let b = H.bare j h (sym (plus_old L x j n) ∙ e) in
        record {
          next_none = next_other j h n (λ q. clash (rw q p_in) e) ∙ b.next_none;
          prev_none = prev_other j h n (λ q. clash (rw q d_in) e) ∙ b.prev_none;
          leaves_none = leaves_other j h n ∙ b.leaves_none;
        };
    leaves_low = λ j e. leaves_low_new j (plus_case L x j e);
    leaves_live = λ j e. leaves_live_new j (plus_case L x j e);
    next_live = λ j e. next_new j (plus_case L x j e);
    prev_live = λ j e. prev_new j (plus_case L x j e);
    prev_next = λ j e. prev_next_new j (plus_case L x j e);
    next_prev = λ j e. next_prev_new j (plus_case L x j e);
    next_leaves = λ j e. leaves_new j (plus_case L x j e);
    one_cycle = λ j k e f. new_cycle j k (plus_case L x j e) (plus_case L x k f);
    alone = λ b h i j e. alone_new b h i j (plus_case L x j e);
    smallest = smallest_new;
  }

  linked_next : (j : ℕ) → next_in t L j ≡ bypass (next_in u (plus L x)) x j
  linked_next j = elim (ℕ_discrete j x) [
    | yes q ↦ rw q (next_out_lem t L x free ∙ sym (bypass_self (next_in u (plus L x)) x))
    | no n ↦ elim (truth (L j)) [
      | fails f ↦
          let e = next_out_lem u (plus L x) j (plus_old L x j n ∙ f) in
          next_out_lem t L j f ∙ sym (bypass_off (next_in u (plus L x)) x j n (rw e n) ∙ e)
      | holds l ↦ elim (ℕ_discrete j p) [
        | yes q ↦
            let o : L p ≡ true = rw q at l in
            let e : next_in u (plus L x) p ≡ x = next_in_lem u (plus L x) p p_in ∙ next_p in
            rw q (next_in_lem t L p o ∙ p_next o ∙ sym (bypass_into (next_in u (plus L x)) x p (not_x p o) e ∙ next_in_lem u (plus L x) x (plus_new L x) ∙ next_x))
        | no m ↦
            let e : next_in u (plus L x) j ≡ next_word t j = next_in_lem u (plus L x) j (grow j l) ∙ next_other j (H.low j l) n m in
            next_in_lem t L j l ∙ sym (bypass_off (next_in u (plus L x)) x j n (rw e (not_x _ (H.next_live j l))) ∙ e)
      ]
    ]
  ]

  -- where x stands
  pub linked_seat : (leaves u x ≡ v) × (next_word u x ≡ d)
  linked_seat = (leaves_x, next_x)

  pub linked_grown : Grown t u L x
  linked_grown = record {
    held = linked_held;
    next = linked_next;
    from = leaves_other;
    edge = r.edge_is;
    there = λ b h. elim (ℕ_discrete b v) [
      | yes q ↦ (
        λ z. let e : w ≡ nothing = sym vertex_v ∙ ap (vertex_word u) (sym q) ∙ z in let l = w_low in absurd (omega arith),
        λ z. absurd (foremost.v_there (ap (vertex_word t) (sym q) ∙ z)),
      )
      | no m ↦ let e = vertex_other b h m in (λ z. sym e ∙ z, λ z. e ∙ z)
    ];
  }
