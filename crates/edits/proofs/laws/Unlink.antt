-- A dart taken out of its vertex's cycle. The rules of the darts hold again, for the darts that are left.
--     Shrunk                                                   a table with dart x less: the rules hold, the rest is as before
--     out_shrunk                                               the writes that take x out leave such a table
--     Sought, sought                                           what the search from dart d finds: the first dart that leaves v, or none
--     seek_here, seek_on                                       the search ends at a dart of v, or goes on
--     Seeking                                                  the loop of the search
--     seeking_none, seeking_more, seeking_here, seeking_all    it begins, goes on, finds one, finds none
--     unlink_last                                              the last write gives the table without x
--     Left                                                     a dart that is left: live, and not x
--     next_left, prev_left, prev_next_left, next_prev_left     next and previous among those
--     Way, way_step, left_reach, left_cycle                    the darts left at a vertex are still one cycle
--     After, word_after                                        the vertex word: the smallest dart left, or isolated
--     smallest_left, alone_left, live_left                     so the rules of vertex words hold
--     out_held, out_next                                       the rules of the darts left; their next darts
use Rattle.std.specs.Prelude.{ℕ, zero, suc, ◌+◌, ◌-◌, ◌≤◌, ◌<◌, ◌≡◌, refl, Bool, true, false, List, ◌≢◌, ◌↔◌}
use native.Mathlib.Omega.{arith}
use Rattle.std.proofs.Math.Decide.{ℕ_discrete, dec_lt}
use Rattle.std.proofs.Common.{add-one, ◌∙◌, eq-eqb, ne_eqb}
use Rattle.std.proofs.Math.Path.{sym, ap}
use Rattle.orbits.proofs.laws.Truth.{clash, truth, holds, fails}
use Rattle.orbits.proofs.laws.Count.{without, without_at, without_other, without_on}
use Rattle.orbits.specs.Reach.{Reach}
use Rattle.orbits.proofs.laws.Reach.{reach_here, reach_step, reach_ind}
use Rattle.table.specs.Layout.{vertices, edges, darts, nothing, isolated, next_word, prev_word, leaves, edge_word, vertex_word}
use Rattle.table.specs.Writes.{set_vertex}
use Rattle.table.specs.laws.Writes.{upd, upd_at, upd_off}
use Rattle.surgery.specs.Without.{bypass}
use Rattle.surgery.proofs.laws.Bypass.{bypass_self, bypass_into, bypass_off}
use Rattle.edits.proofs.laws.Held.{Held, SmallestIn, next_in, next_in_lem, next_out_lem}
use Rattle.edits.proofs.laws.Splice.{Reads}
use Rattle.edits.specs.Edge.{seek, successor, taken, unlink}

pub data Sought (t : List ℕ) (v d k w : ℕ) : Type 0 where
  found : w < d + k → d ≤ w → leaves t w ≡ v → ((j : ℕ) → d ≤ j → j < w → leaves t j ≢ v) → Sought t v d k w
  none : w ≡ isolated → ((j : ℕ) → d ≤ j → j < d + k → leaves t j ≢ v) → Sought t v d k w

pub seek_here : (t : List ℕ) (v d k : ℕ) → leaves t d ≡ v → seek t v d (suc k) ≡ d
unfolding seek
seek_here t v d k e = rw (eq-eqb (leaves t d) v e, seek)

pub seek_on : (t : List ℕ) (v d k : ℕ) → leaves t d ≢ v → seek t v d (suc k) ≡ seek t v (suc d) k
unfolding seek
seek_on t v d k n = rw (ne_eqb (leaves t d) v n, seek)

pub sought : (t : List ℕ) (v d k : ℕ) → Sought t v d k (seek t v d k)
unfolding seek
sought t v d zero = none refl (λ j h l. absurd (past j h l))
  where
    past : (j : ℕ) → d ≤ j → j < d + 0 → ⊥
    past j h l = omega arith
sought t v d (suc k) = elim (ℕ_discrete (leaves t d) v) [
  | yes e ↦ rw (seek_here t v d k e) (found (omega arith) (omega arith) e (λ j h l. absurd (between j h l)))
  | no n ↦ rw (seek_on t v d k n) (later n (sought t v (suc d) k))
]
  where
    between : (j : ℕ) → d ≤ j → j < d → ⊥
    between j h l = omega arith

    later : {w : ℕ} → leaves t d ≢ v → Sought t v (suc d) k w → Sought t v d (suc k) w
    later n (found a b e least) = found (omega arith) (omega arith) e (λ j h l. elim (ℕ_discrete j d) [
      | yes q ↦ rw q n
      | no m ↦ least j (omega arith) l
    ])
    later n (none e out) = none e (λ j h l. elim (ℕ_discrete j d) [
      | yes q ↦ rw q n
      | no m ↦ out j (omega arith) (omega arith)
    ])

-- the last of the writes, once the word is known
pub unlink_last : (t u : List ℕ) (x w : ℕ) → u ≡ taken t x → w ≡ successor u (leaves t x) x (vertex_word t (leaves t x)) → set_vertex u (leaves t x) w ≡ unlink t x
unlink_last t u x w e f = rw (f, e)

-- t with dart x less: the rules hold, and the rotation and the words are those of t with x left out
pub record Shrunk (t u : List ℕ) (L : ℕ → Bool) (x : ℕ) : Type 0 where
  pub held : Held u (without L x)
  pub next : (d : ℕ) → next_in u (without L x) d ≡ bypass (next_in t L) x d
  pub from : (d : ℕ) → d < darts → d ≢ x → leaves u d ≡ leaves t d
  pub edge : (e : ℕ) → e < edges → edge_word u e ≡ edge_word t e
  pub there : (v : ℕ) → v < vertices → (vertex_word u v ≡ nothing) ↔ (vertex_word t v ≡ nothing)

-- x is out: n comes next after p, and v's word is w
module _ (t u : List ℕ) (L : ℕ → Bool) (H : Held t L) (x n p v w : ℕ) (on : L x ≡ true) (after : next_word t x ≡ n) (before : prev_word t x ≡ p) (at : leaves t x ≡ v)
    (r : Reads u (upd (upd (next_word t) p n) x nothing) (upd (upd (prev_word t) n p) x nothing) (upd (leaves t) x nothing) (edge_word t) (upd (vertex_word t) v w))
    (kept : vertex_word t v ≢ x → w ≡ vertex_word t v) (moved : vertex_word t v ≡ x → Sought u v x (darts - x) w) where
  low : x < darts
  low = H.low x on

  n_on : L n ≡ true
  n_on = rw (← after) (H.next_live x on)

  p_on : L p ≡ true
  p_on = rw (← before) (H.prev_live x on)

  v_low : v < vertices
  v_low = rw (← at) (H.leaves_low x on)

  p_next : next_word t p ≡ x
  p_next = rw (← before) (H.next_prev x on)

  n_prev : prev_word t n ≡ x
  n_prev = rw (← after) (H.prev_next x on)

  -- what comes after x, or before it, is x itself or neither
  alone_both : p ≢ x → n ≢ x
  alone_both m q = m (sym before ∙ ap (prev_word t) (sym q) ∙ n_prev)

  both_alone : n ≢ x → p ≢ x
  both_alone m q = m (sym after ∙ ap (next_word t) (sym q) ∙ p_next)

  next_p : p ≢ x → next_word u p ≡ n
  next_p m = r.next_is p (H.low p p_on) ∙ upd_off _ x nothing p m ∙ upd_at (next_word t) p n

  next_other : (j : ℕ) → j < darts → j ≢ x → j ≢ p → next_word u j ≡ next_word t j
  next_other j h a b = r.next_is j h ∙ upd_off _ x nothing j a ∙ upd_off (next_word t) p n j b

  prev_n : n ≢ x → prev_word u n ≡ p
  prev_n m = r.prev_is n (H.low n n_on) ∙ upd_off _ x nothing n m ∙ upd_at (prev_word t) n p

  prev_other : (j : ℕ) → j < darts → j ≢ x → j ≢ n → prev_word u j ≡ prev_word t j
  prev_other j h a b = r.prev_is j h ∙ upd_off _ x nothing j a ∙ upd_off (prev_word t) n p j b

  leaves_x : leaves u x ≡ nothing
  leaves_x = r.from_is x low ∙ upd_at (leaves t) x nothing

  leaves_other : (j : ℕ) → j < darts → j ≢ x → leaves u j ≡ leaves t j
  leaves_other j h a = r.from_is j h ∙ upd_off (leaves t) x nothing j a

  vertex_v : vertex_word u v ≡ w
  vertex_v = r.vertex_is v v_low ∙ upd_at (vertex_word t) v w

  vertex_other : (j : ℕ) → j < vertices → j ≢ v → vertex_word u j ≡ vertex_word t j
  vertex_other j h a = r.vertex_is j h ∙ upd_off (vertex_word t) v w j a

  -- a dart that is left
  record Left (j : ℕ) : Type 0 where
    live : L j ≡ true
    other : j ≢ x

  left_of : (j : ℕ) → without L x j ≡ true → Left j
  left_of j e = record { live = without_on L x j e; other = λ q. clash (rw q at e) (without_at L x) }

  of_left : (j : ℕ) → Left j → without L x j ≡ true
  of_left j l = without_other L x j l.other ∙ l.live

  left_low : (j : ℕ) → Left j → j < darts
  left_low j l = H.low j l.live

  leaves_left : (j : ℕ) → Left j → leaves u j ≡ leaves t j
  leaves_left j l = leaves_other j (left_low j l) l.other

  next_left : (j : ℕ) → Left j → Left (next_word u j)
  next_left j l = elim (ℕ_discrete j p) [
    | yes q ↦
        let m : p ≢ x = rw q at l.other in
        rw (q, next_p m) (record { live = n_on; other = alone_both m })
    | no a ↦ rw (next_other j (left_low j l) l.other a) (record {
      live = H.next_live j l.live;
      other = λ q. a (sym (H.prev_next j l.live) ∙ ap (prev_word t) q ∙ before);
    })
  ]

  prev_left : (j : ℕ) → Left j → Left (prev_word u j)
  prev_left j l = elim (ℕ_discrete j n) [
    | yes q ↦
        let m : n ≢ x = rw q at l.other in
        rw (q, prev_n m) (record { live = p_on; other = both_alone m })
    | no a ↦ rw (prev_other j (left_low j l) l.other a) (record {
      live = H.prev_live j l.live;
      other = λ q. a (sym (H.next_prev j l.live) ∙ ap (next_word t) q ∙ after);
    })
  ]

  prev_next_left : (j : ℕ) → Left j → prev_word u (next_word u j) ≡ j
  prev_next_left j l = elim (ℕ_discrete j p) [
    | yes q ↦
        let m : p ≢ x = rw q at l.other in
        rw (q, next_p m) (prev_n (alone_both m))
    | no a ↦
        let s = next_other j (left_low j l) l.other a in
        let k : Left (next_word t j) = rw s at (next_left j l) in
        rw s (prev_other (next_word t j) (left_low _ k) k.other (λ q. l.other (sym (H.prev_next j l.live) ∙ ap (prev_word t) q ∙ n_prev)) ∙ H.prev_next j l.live)
  ]

  next_prev_left : (j : ℕ) → Left j → next_word u (prev_word u j) ≡ j
  next_prev_left j l = elim (ℕ_discrete j n) [
    | yes q ↦
        let m : n ≢ x = rw q at l.other in
        rw (q, prev_n m) (next_p (both_alone m))
    | no a ↦
        let s = prev_other j (left_low j l) l.other a in
        let k : Left (prev_word t j) = rw s at (prev_left j l) in
        rw s (next_other (prev_word t j) (left_low _ k) k.other (λ q. l.other (sym (H.next_prev j l.live) ∙ ap (next_word t) q ∙ p_next)) ∙ H.next_prev j l.live)
  ]

  next_leaves_left : (j : ℕ) → Left j → leaves u (next_word u j) ≡ leaves u j
  next_leaves_left j l = elim (ℕ_discrete j p) [
    | yes q ↦
        let m : p ≢ x = rw q at l.other in
        let k : Left n = record { live = n_on; other = alone_both m } in
        let round : leaves t n ≡ leaves t p = ap (leaves t) (sym after) ∙ H.next_leaves x on ∙ ap (leaves t) (sym p_next) ∙ H.next_leaves p p_on in
        rw (q, next_p m) (leaves_left n k ∙ round ∙ sym (leaves_other p (H.low p p_on) m))
    | no a ↦
        let s = next_other j (left_low j l) l.other a in
        let k : Left (next_word t j) = rw s at (next_left j l) in
        rw s (leaves_left _ k ∙ H.next_leaves j l.live ∙ sym (leaves_left j l))
  ]

  -- along the old cycle: at a dart that is left, or at x, where p was passed just before
  data Way (j k : ℕ) : Type 0 where
    here : Left k → Reach (next_word u) j k → Way j k
    passing : k ≡ x → p ≢ x → Reach (next_word u) j p → Way j k

  way_step : (j k : ℕ) → Way j k → Way j (next_word t k)
  way_step j k (here l c) = elim (ℕ_discrete k p) [
    | yes q ↦ passing (ap (next_word t) q ∙ p_next) (rw q at l.other) (rw q at c)
    | no a ↦
        let s = next_other k (left_low k l) l.other a in
        here (rw s at (next_left k l)) (rw s at (reach_step c))
  ]
  way_step j k (passing q m c) =
      here (rw (q, after) (record { live = n_on; other = alone_both m })) (rw (q, after) (rw (next_p m) at (reach_step c)))

  left_reach : (j k : ℕ) → Left j → Left k → Reach (next_word t) j k → Reach (next_word u) j k
  left_reach j k l m c = arrive (reach_ind (next_word t) (Way j) j (here l reach_here) (λ i s o. way_step j i o) k c)
    where
      arrive : Way j k → Reach (next_word u) j k
      arrive (here _ s) = s
      arrive (passing q _ _) = absurd (m.other q)

  left_cycle : (j k : ℕ) → Left j → Left k → leaves u j ≡ leaves u k → Reach (next_word u) j k
  left_cycle j k l m e = left_reach j k l m (H.one_cycle j k l.live m.live (sym (leaves_left j l) ∙ e ∙ leaves_left k m))

  -- v's word before is its smallest dart
  old_smallest : SmallestIn t L v (vertex_word t v)
  old_smallest = H.smallest v v_low (rw at at (H.leaves_live x on)) (λ i. H.alone v v_low i x on at)

  -- what the search found: the smallest dart that is left, or that none is
  data After : Type 0 where
    leads : SmallestIn u (without L x) v w → w < darts → After
    bared : w ≡ isolated → ((j : ℕ) → Left j → leaves u j ≢ v) → After

  word_after : After
  word_after = elim (ℕ_discrete (vertex_word t v) x) [
    | no a ↦
        let s = old_smallest in
        let l : Left (vertex_word t v) = record { live = s.live; other = a } in
        leads (rw (kept a) (record {
          live = of_left _ l;
          here = leaves_left _ l ∙ s.here;
          least = λ k e q. let m = left_of k e in s.least k m.live (sym (leaves_left k m) ∙ q);
        })) (rw (kept a) (H.low _ s.live))
    | yes a ↦ from_search a (moved a)
  ]
    where
      above : vertex_word t v ≡ x → (j : ℕ) → Left j → leaves u j ≡ v → x ≤ j
      above a j l q = rw a at (old_smallest.least j l.live (sym (leaves_left j l) ∙ q))

      leaving : (j : ℕ) → j < darts → leaves u j ≡ v → Left j
      leaving j h q =
          let m : j ≢ x = λ s. let z : nothing ≡ v = sym leaves_x ∙ ap (leaves u) (sym s) ∙ q in let l = v_low in omega arith in
          record {
            live = elim (truth (L j)) [
              | holds e ↦ e
              | fails f ↦ let z = sym (H.bare j h f).leaves_none ∙ sym (leaves_other j h m) ∙ q in let l = v_low in absurd (omega (arith, z))
            ];
            other = m;
          }

      from_search : vertex_word t v ≡ x → Sought u v x (darts - x) w → After
      from_search a (found h b q least) =
          let h-low = low in
          let l = leaving w (omega arith) q in
          leads (record {
            live = of_left w l;
            here = q;
            least = λ k e s.
                let m = left_of k e in
                let up = above a k m s in
                elim (dec_lt k w) [
                  | yes c ↦ absurd (least k up c s)
                  | no c ↦ omega arith
                ];
          }) (left_low w l)
      from_search a (none e out) = bared e (λ j l q. let up = above a j l q in let d = left_low j l in out j up (omega arith) q)

  smallest_left : (b : ℕ) → b < vertices → vertex_word u b ≢ nothing → vertex_word u b ≢ isolated → SmallestIn u (without L x) b (vertex_word u b)
  smallest_left b h c i = elim (ℕ_discrete b v) [
    | yes s ↦ rw (s, vertex_v) (here_word word_after (λ z. i (ap (vertex_word u) s ∙ vertex_v ∙ z)))
    | no m ↦
        let same = vertex_other b h m in
        let o = H.smallest b h (rw same at c) (rw same at i) in
        let l : Left (vertex_word t b) = record { live = o.live; other = λ q. m (sym o.here ∙ ap (leaves t) q ∙ at) } in
        rw same (record {
          live = of_left _ l;
          here = leaves_left _ l ∙ o.here;
          least = λ k e q. let f = left_of k e in o.least k f.live (sym (leaves_left k f) ∙ q);
        })
  ]
    where
      here_word : After → w ≢ isolated → SmallestIn u (without L x) v w
      here_word (leads s _) _ = s
      here_word (bared e _) z = absurd (z e)

  alone_left : (b : ℕ) → b < vertices → vertex_word u b ≡ isolated → (j : ℕ) → Left j → leaves u j ≢ b
  alone_left b h i j l q = elim (ℕ_discrete b v) [
    | yes s ↦ here_none word_after (sym vertex_v ∙ ap (vertex_word u) (sym s) ∙ i) (q ∙ s)
    | no m ↦ H.alone b h (sym (vertex_other b h m) ∙ i) j l.live (sym (leaves_left j l) ∙ q)
  ]
    where
      here_none : After → w ≡ isolated → leaves u j ≡ v → ⊥
      here_none (leads _ d) e _ = omega arith
      here_none (bared _ out) e q = out j l q

  live_left : (j : ℕ) → Left j → vertex_word u (leaves u j) ≢ nothing
  live_left j l z = elim (ℕ_discrete (leaves t j) v) [
    | yes s ↦ here_some word_after (sym vertex_v ∙ ap (vertex_word u) (sym s ∙ sym (leaves_left j l)) ∙ z)
    | no m ↦ H.leaves_live j l.live (sym (vertex_other (leaves t j) (H.leaves_low j l.live) m) ∙ ap (vertex_word u) (sym (leaves_left j l)) ∙ z)
  ]
    where
      here_some : After → w ≡ nothing → ⊥
      here_some (leads _ d) e = omega arith
      here_some (bared i _) e = omega arith

  out_held : Held u (without L x)
  out_held = record {
    size = r.size;
    low = λ j e. H.low j (without_on L x j e);
    bare = λ j h e. elim (ℕ_discrete j x) [
      | yes q ↦ rw q (record {
        next_none = r.next_is x low ∙ upd_at _ x nothing;
        prev_none = r.prev_is x low ∙ upd_at _ x nothing;
        leaves_none = leaves_x;
      })
      | no a ↦
          let off : L j ≡ false = sym (without_other L x j a) ∙ e in
          let b = H.bare j h off in
          record {
            next_none = next_other j h a (λ q. clash (rw q p_on) off) ∙ b.next_none;
            prev_none = prev_other j h a (λ q. clash (rw q n_on) off) ∙ b.prev_none;
            leaves_none = leaves_other j h a ∙ b.leaves_none;
          }
    ];
    leaves_low = λ j e. let l = left_of j e in rw (leaves_left j l) (H.leaves_low j l.live);
    leaves_live = λ j e. live_left j (left_of j e);
    next_live = λ j e. of_left _ (next_left j (left_of j e));
    prev_live = λ j e. of_left _ (prev_left j (left_of j e));
    prev_next = λ j e. prev_next_left j (left_of j e);
    next_prev = λ j e. next_prev_left j (left_of j e);
    next_leaves = λ j e. next_leaves_left j (left_of j e);
    one_cycle = λ j k e f. left_cycle j k (left_of j e) (left_of k f);
    alone = λ b h i j e. alone_left b h i j (left_of j e);
    smallest = smallest_left;
  }

  out_next : (j : ℕ) → next_in u (without L x) j ≡ bypass (next_in t L) x j
  out_next j = elim (ℕ_discrete j x) [
    | yes q ↦ rw q (next_out_lem u (without L x) x (without_at L x) ∙ sym (bypass_self (next_in t L) x))
    | no a ↦ elim (truth (L j)) [
      | fails f ↦
          let e = next_out_lem t L j f in
          next_out_lem u (without L x) j (without_other L x j a ∙ f) ∙ sym (bypass_off (next_in t L) x j a (rw e a) ∙ e)
      | holds l ↦
          let left : Left j = record { live = l; other = a } in
          let s = next_in_lem u (without L x) j (of_left j left) in
          elim (ℕ_discrete j p) [
            | yes q ↦
                let m : p ≢ x = rw q at a in
                let e : next_in t L j ≡ x = next_in_lem t L j l ∙ ap (next_word t) q ∙ p_next in
                s ∙ ap (next_word u) q ∙ next_p m ∙ sym (bypass_into (next_in t L) x j a e ∙ next_in_lem t L x on ∙ after)
            | no b ↦
                let e = next_in_lem t L j l in
                let n-x : next_word t j ≢ x = λ q. b (sym (H.prev_next j l) ∙ ap (prev_word t) q ∙ before) in
                s ∙ next_other j (H.low j l) a b ∙ sym (bypass_off (next_in t L) x j a (rw e n-x) ∙ e)
          ]
    ]
  ]

  pub out_shrunk : Shrunk t u L x
  out_shrunk = record {
    held = out_held;
    next = out_next;
    from = leaves_other;
    edge = r.edge_is;
    there = λ b h. elim (ℕ_discrete b v) [
      | yes q ↦ (
        λ z. absurd (word_there word_after (sym vertex_v ∙ ap (vertex_word u) (sym q) ∙ z)),
        λ z. absurd (rw at at (H.leaves_live x on) (ap (vertex_word t) (sym q) ∙ z)),
      )
      | no m ↦ let e = vertex_other b h m in (λ z. sym e ∙ z, λ z. e ∙ z)
    ];
  }
    where
      word_there : After → w ≡ nothing → ⊥
      word_there (leads _ d) e = omega arith
      word_there (bared i _) e = omega arith

-- The search's loop: nothing before d was found.
pub record Seeking (t : List ℕ) (v x d : ℕ) : Type 0 where
  pub from : x ≤ d
  pub low : d ≤ darts
  pub same : seek t v x (darts - x) ≡ seek t v d (darts - d)

module _ (t : List ℕ) (v x : ℕ) where
  pub seeking_none : x < darts → Seeking t v x x
  seeking_none h = record { from = omega arith; low = omega arith; same = refl }

  pub seeking_more : (d : ℕ) → Seeking t v x d → d < darts → leaves t d ≢ v → Seeking t v x (d + 1)
  seeking_more d s h n =
      let k : darts - d ≡ suc (darts - (d + 1)) = omega arith in
      record {
        from = omega (arith, s.from);
        low = omega arith;
        same = s.same ∙ ap (seek t v d) k ∙ seek_on t v d (darts - (d + 1)) n
            ∙ ap (λ j. seek t v j (darts - (d + 1))) (sym (add-one d));
      }

  pub seeking_here : (d : ℕ) → Seeking t v x d → d < darts → leaves t d ≡ v → d ≡ seek t v x (darts - x)
  seeking_here d s h e =
      let k : darts - d ≡ suc (darts - (d + 1)) = omega arith in
      sym (s.same ∙ ap (seek t v d) k ∙ seek_here t v d (darts - (d + 1)) e)

  pub seeking_all : (d : ℕ) → Seeking t v x d → darts ≤ d → isolated ≡ seek t v x (darts - x)
  unfolding seek
  seeking_all d s h =
      let k : darts - d ≡ 0 = omega arith in
      sym (s.same ∙ ap (seek t v d) k)
