-- One dart put in at a corner or taken out, and the two words of an edge written: what each of these writes leaves.
-- An insertion and a deletion, document 01, "Edits", are made of them.
--     Corner                                          a corner that is there: a live dart, or an isolated vertex
--     dart_link, link_past                            a dart put in at a dart's corner; at an isolated vertex
--     link_grown, link_before, link_alone             the rules hold with the dart more; where it stands
--     still_isolated                                  a vertex isolated before is so after, unless the dart is there
--     unlink_reads, unlink_shrunk                     the words with the dart out; the rules hold with the dart less
--     next_of                                         the next dart of the rotation is that of the live darts
--     edge_held, own_held, own_next                   writing an edge's words keeps the rules and the next darts
--     own_edge, own_length, own_leaves, own_vertex    what they change, and what not
--     insert_last, delete_last                        the last write gives the inserted, the deleted table
use Rattle.std.specs.Prelude.{ℕ, ◌+◌, ◌-◌, ◌*◌, ◌≤◌, ◌<◌, ◌≡◌, refl, Bool, true, false, cond, List, ◌≢◌, length}
use Rattle.std.proofs.Common.{arith, sym, ◌∙◌, ap, subst, length-set, eq-eqb, ne_eqb, lt-ltb, le-ltb}
use Rattle.std.proofs.Math.Decide.{ℕ_discrete}
use Rattle.orbits.proofs.laws.Truth.{truth, holds, fails}
use Rattle.table.specs.Layout.{vertices, edges, darts, nothing, isolated, next_word, prev_word, leaves, edge_word, vertex_word, length_word, lone_at, words}
use Rattle.table.specs.Rotation.{live?, next_dart}
use Rattle.table.specs.Writes.{set_edge}
use Rattle.table.specs.laws.Writes.{upd, upd_same, next_edge, prev_edge, leaves_edge, vertex_edge, leaves_vertex, edge_edge, length_edge, length_length}
use Rattle.table.specs.laws.Writes.{next_length, prev_length, leaves_length, edge_length, vertex_length}
use Rattle.edits.proofs.laws.Held.{Held, next_in, next_in_lem, next_out_lem, held_kept}
use Rattle.edits.specs.Edge.{splice, lesser, seek, successor, taken, unlink, link, first_corner, set_own, inserted, deleted}
use Rattle.edits.proofs.laws.Splice.{Reads, reads_splice, reads_cut, reads_vertex}
use Rattle.edits.proofs.laws.Unlink.{Sought, found, none, sought, Shrunk, out_shrunk}
use Rattle.edits.proofs.laws.Grown.{new, old, plus_case, Grown}
use Rattle.edits.proofs.laws.Seat.{among, alone, foremost_among, foremost_alone}
use Rattle.edits.proofs.laws.Link.{linked_grown, linked_seat}

-- a corner that is there, where L are the live darts
pub data Corner (t : List ℕ) (L : ℕ → Bool) (c : ℕ) : Type 0 where
  at_dart : L c ≡ true → Corner t L c
  at_lone : (v : ℕ) → c ≡ lone_at + v → v < vertices → vertex_word t v ≡ isolated → Corner t L c

module _ (t : List ℕ) where
  link_dart : (x c : ℕ) → c < darts → link t x c ≡ splice t x c (prev_word t c) (leaves t c) (lesser (vertex_word t (leaves t c)) x)
  unfolding link
  link_dart x c h = rw (lt-ltb c darts h)

  pub dart_link : (x c w : ℕ) → c < darts → w ≡ lesser (vertex_word t (leaves t c)) x → splice t x c (prev_word t c) (leaves t c) w ≡ link t x c
  dart_link x c w h e = ap (splice t x c (prev_word t c) (leaves t c)) e ∙ sym (link_dart x c h)

  pub link_past : (x c : ℕ) → darts ≤ c → link t x c ≡ splice t x x x (c - lone_at) x
  unfolding link
  link_past x c h = rw (le-ltb c darts h)

  link_lone : (x v : ℕ) → link t x (lone_at + v) ≡ splice t x x x v x
  link_lone x v = let s : lone_at + v - lone_at ≡ v = omega arith in link_past x (lone_at + v) (omega arith) ∙ ap (λ u. splice t x x x u x) s

module _ (t : List ℕ) (L : ℕ → Bool) (H : Held t L) (x : ℕ) where
  pub link_grown : (c : ℕ) → L x ≡ false → x < darts → Corner t L c → Grown t (link t x c) L x
  link_grown c free low (at_dart on) =
      rw (link_dart t x c (H.low c on))
      (linked_grown t _ L H x c (prev_word t c) (leaves t c) _ free low (among on refl refl) (foremost_among t L H x free c on)
      (reads_splice t H.size x c (prev_word t c) (leaves t c) _ low (H.low c on) (H.low _ (H.prev_live c on)) (H.leaves_low c on)))
  link_grown c free low (at_lone v e h bare) =
      rw (e, link_lone t x v)
      (linked_grown t _ L H x x x v x free low (alone refl refl (H.alone v h bare)) (foremost_alone t L H x free v h bare)
      (reads_splice t H.size x x x v x low low low h))

  -- where the dart that was put in stands
  pub link_before : (c : ℕ) → L x ≡ false → x < darts → L c ≡ true → (leaves (link t x c) x ≡ leaves t c) × (next_word (link t x c) x ≡ c)
  link_before c free low on =
      rw (link_dart t x c (H.low c on))
      (linked_seat t _ L H x c (prev_word t c) (leaves t c) _ free low (among on refl refl) (foremost_among t L H x free c on)
      (reads_splice t H.size x c (prev_word t c) (leaves t c) _ low (H.low c on) (H.low _ (H.prev_live c on)) (H.leaves_low c on)))

  pub link_alone : (v : ℕ) → L x ≡ false → x < darts → v < vertices → vertex_word t v ≡ isolated → (leaves (link t x (lone_at + v)) x ≡ v) × (next_word (link t x (lone_at + v)) x ≡ x)
  link_alone v free low h bare =
      rw (link_lone t x v)
      (linked_seat t _ L H x x x v x free low (alone refl refl (H.alone v h bare)) (foremost_alone t L H x free v h bare)
      (reads_splice t H.size x x x v x low low low h))

  -- an isolated vertex stays so, unless the dart was put there
  pub still_isolated : (u : List ℕ) → Grown t u L x → (v : ℕ) → v < vertices → vertex_word t v ≡ isolated → leaves u x ≢ v → vertex_word u v ≡ isolated
  still_isolated u G v h i n = elim (ℕ_discrete (vertex_word u v) isolated) [
    | yes j ↦ j
    | no j ↦
        let s = G.held.smallest v h (λ z. let y : isolated ≡ nothing = sym i ∙ (G.there v h).0 z in omega arith) j in
        absurd (elim (plus_case L x (vertex_word u v) s.live) [
          | new q ↦ n (ap (leaves u) (sym q) ∙ s.here)
          | old m l ↦ H.alone v h i _ l (sym (G.from _ (H.low _ l) m) ∙ s.here)
        ])
  ]

  -- the next and the previous words, once x is out
  abbrev next_out : ℕ → ℕ
  next_out = upd (upd (next_word t) (prev_word t x) (next_word t x)) x nothing

  abbrev prev_out : ℕ → ℕ
  prev_out = upd (upd (prev_word t) (next_word t x) (prev_word t x)) x nothing

  taken_reads : L x ≡ true → Reads (taken t x) next_out prev_out (upd (leaves t) x nothing) (edge_word t) (vertex_word t)
  taken_reads on = reads_cut t H.size x (next_word t x) (prev_word t x) (H.low x on) (H.low _ (H.next_live x on)) (H.low _ (H.prev_live x on))

  -- the words after a dart is taken out
  pub unlink_reads : L x ≡ true → Reads (unlink t x)
      (upd (upd (next_word t) (prev_word t x) (next_word t x)) x nothing) (upd (upd (prev_word t) (next_word t x) (prev_word t x)) x nothing)
      (upd (leaves t) x nothing) (edge_word t)
      (upd (vertex_word t) (leaves t x) (successor (taken t x) (leaves t x) x (vertex_word t (leaves t x))))
  unlink_reads on = reads_vertex (taken_reads on) (leaves t x) _ (H.leaves_low x on)

  pub unlink_shrunk : L x ≡ true → Shrunk t (unlink t x) L x
  unlink_shrunk on =
      out_shrunk t (unlink t x) L H x (next_word t x) (prev_word t x) (leaves t x) (successor (taken t x) (leaves t x) x (vertex_word t (leaves t x))) on refl refl refl
      (unlink_reads on)
      (λ n. rw (ne_eqb _ _ n))
      (λ e. subst (λ w. Sought (unlink t x) (leaves t x) x (darts - x) w) (sym (to_seek e)) (over (sought (taken t x) (leaves t x) x (darts - x))))
    where
      to_seek : vertex_word t (leaves t x) ≡ x → successor (taken t x) (leaves t x) x (vertex_word t (leaves t x)) ≡ seek (taken t x) (leaves t x) x (darts - x)
      to_seek e = ap (λ b. cond b (seek (taken t x) (leaves t x) x (darts - x)) (vertex_word t (leaves t x))) (eq-eqb (vertex_word t (leaves t x)) x e)

      same : (j : ℕ) → j < darts → leaves (unlink t x) j ≡ leaves (taken t x) j
      same j h = leaves_vertex (taken t x) (leaves t x) _ j h

      over : {w : ℕ} → Sought (taken t x) (leaves t x) x (darts - x) w → Sought (unlink t x) (leaves t x) x (darts - x) w
      over {w} (found h b q least) =
          let low = H.low x on in
          found h b (same w (omega arith) ∙ q) (λ j a l. rw (same j (omega arith)) (least j a l))
      over (none e out) = let low = H.low x on in none e (λ j a l. rw (same j (omega arith)) (out j a l))

-- the rotation reads the next words of live darts
pub next_of : (t : List ℕ) (d : ℕ) → next_dart t d ≡ next_in t (live? t) d
unfolding next_dart next_in
next_of t d = refl

-- An edge word written changes no word of a dart or a vertex.
module _ (t : List ℕ) (L : ℕ → Bool) (H : Held t L) (e w : ℕ) (h : e < edges) where
  pub edge_held : Held (set_edge t e w) L
  edge_held = held_kept t (set_edge t e w) L H (length-set t _ w ∙ H.size)
      (λ d l. next_edge t e w d l) (λ d l. prev_edge t e w d l) (λ d l. leaves_edge t e w d l) (λ v l. vertex_edge t e w v h)

-- An edge's own words written change no other word.
module _ (t : List ℕ) (e w n : ℕ) (h : e < edges) where
  pub own_edge : length t ≡ words → (i : ℕ) → i < edges → edge_word (set_own t e w n) i ≡ upd (edge_word t) e w i
  own_edge size i l = edge_length (set_edge t e w) e n i l ∙ edge_edge t size e w i h

  pub own_length : length t ≡ words → (i : ℕ) → length_word (set_own t e w n) i ≡ upd (length_word t) e n i
  own_length size i =
      length_length (set_edge t e w) (length-set t _ w ∙ size) e n i h ∙ upd_same (length_word (set_edge t e w)) (length_word t) e n i (length_edge t e w i h)

  pub own_leaves : (d : ℕ) → d < darts → leaves (set_own t e w n) d ≡ leaves t d
  own_leaves d l = leaves_length (set_edge t e w) e n d l ∙ leaves_edge t e w d l

  pub own_vertex : (v : ℕ) → v < vertices → vertex_word (set_own t e w n) v ≡ vertex_word t v
  own_vertex v l = vertex_length (set_edge t e w) e n v l ∙ vertex_edge t e w v h

  own_dart : (d : ℕ) → d < darts → next_word (set_own t e w n) d ≡ next_word t d
  own_dart d l = next_length (set_edge t e w) e n d l ∙ next_edge t e w d l

  module _ (L : ℕ → Bool) (H : Held t L) where
    pub own_held : Held (set_own t e w n) L
    own_held = held_kept t (set_own t e w n) L H (length-set (set_edge t e w) _ n ∙ length-set t _ w ∙ H.size)
        own_dart (λ d l. prev_length (set_edge t e w) e n d l ∙ prev_edge t e w d l) own_leaves own_vertex

    pub own_next : (d : ℕ) → next_in (set_own t e w n) L d ≡ next_in t L d
    own_next d = elim (truth (L d)) [
      | holds l ↦ next_in_lem (set_own t e w n) L d l ∙ own_dart d (H.low d l) ∙ sym (next_in_lem t L d l)
      | fails f ↦ next_out_lem (set_own t e w n) L d f ∙ sym (next_out_lem t L d f)
    ]

-- the last of the writes
pub insert_last : (t u v : List ℕ) (e c₁ c₂ c w n : ℕ) → u ≡ link t (2 * e + 1) c₂ → c ≡ first_corner e c₁ c₂
    → v ≡ link u (2 * e) c → set_own v e w n ≡ inserted t e c₁ c₂ w n
insert_last t u v e c₁ c₂ c w n p q r = ap (λ x. set_own x e w n) (r ∙ ap (λ x. link x (2 * e) c) p ∙ ap (link (link t (2 * e + 1) c₂) (2 * e)) q)

pub delete_last : (t u v : List ℕ) (e : ℕ) → u ≡ unlink t (2 * e) → v ≡ unlink u (2 * e + 1) → set_own v e 0 0 ≡ deleted t e
delete_last t u v e p q = ap (λ x. set_own x e 0 0) (q ∙ ap (λ x. unlink x (2 * e + 1)) p)
