-- One edge, as the code draws it from the state and eight corners; and that the corners then are those of the table after it.
--     edge_drawn, corners_after                        the edge drawn from a state and the corners; the corners after it
--     give_dart, give_none, give_lone, give_length     a vertex without a dart gets dart d
--     Corners, corners_next                            the corners of the eight vertices; once the edge is in
--     Drawn, drawn_state, drawn_edge, drawn_corners    the same from what the code has drawn
use Rattle.std.specs.Prelude.{◌≡◌, ℕ, ◌+◌, ◌*◌, ◌<◌, ◌≤◌, cond, ◌≢◌, List, length, ℤ, pos, ◌-ℤ◌, nat_lt, slice_index, slice_index_or, slice_set}
use Rattle.std.proofs.Common.{arith, sym, ◌∙◌, ap, length-set, get_or-set_same, get_or-set_other, lt-ltb, le-ltb}
use Rattle.std.proofs.Math.Decide.{ℕ_discrete, dec_lt}
use Rattle.table.specs.Layout.{isolated, vertex_word, lone_at}
use Rattle.edits.specs.Edits.{written}
use Rattle.edits.specs.declared.edit.Edit.{Edit}
use Rattle.edits.specs.declared.edit.Edit.TheVariants.{InsertEdge}
use Rattle.records.specs.Records.{plain_length}
use Rattle.trial_jobs.specs.Trial.{after_draw, draw, corner_at}
use Rattle.trial_jobs.proofs.laws.Corners.{lone, first}
use Rattle.trial_jobs.proofs.laws.Inserting.{Planned, corner_there, stays, takes_first, takes_second, untouched}

-- a vertex that has no dart yet gets dart d
unfoldable pub give_dart : List ℕ → ℕ → ℕ → List ℕ
give_dart l v d = cond (nat_lt (slice_index l v) lone_at) l (slice_set l v d)

-- the edge that is drawn from state s on, where l has the corners
unfoldable pub edge_drawn : List ℕ → ℕ → ℕ → Edit
edge_drawn l s e = InsertEdge e (slice_index l (draw 8 (after_draw s))) (slice_index l (draw 8 (after_draw (after_draw s)))) (pos (draw 3 (after_draw (after_draw (after_draw s)))) -ℤ pos 1) plain_length

-- the corners after it
unfoldable pub corners_after : List ℕ → ℕ → ℕ → List ℕ
corners_after l s e = give_dart (give_dart l (draw 8 (after_draw s)) (2 * e)) (draw 8 (after_draw (after_draw s))) (2 * e + 1)

module _ (l : List ℕ) (v d : ℕ) where
  pub give_none : slice_index_or l v 0 < lone_at → give_dart l v d ≡ l
  unfolding give_dart
  give_none h = rw (lt-ltb (slice_index l v) lone_at h)

  pub give_lone : lone_at ≤ slice_index l v → give_dart l v d ≡ slice_set l v d
  unfolding give_dart
  give_lone h = rw (le-ltb (slice_index l v) lone_at h)

  pub give_length : length (give_dart l v d) ≡ length l
  give_length = elim (dec_lt (slice_index l v) lone_at) [
    | yes h ↦ ap length (give_none h)
    | no h ↦ ap length (give_lone (omega arith)) ∙ length-set l v d
  ]

  give_at : v < length l → lone_at ≤ slice_index l v → slice_index (give_dart l v d) v ≡ d
  give_at h k = ap (λ m. slice_index m v) (give_lone k) ∙ get_or-set_same l v d 0 h

  give_off : (u : ℕ) → u ≢ v → slice_index (give_dart l v d) u ≡ slice_index l u
  give_off u n = elim (dec_lt (slice_index l v) lone_at) [
    | yes h ↦ ap (λ m. slice_index m u) (give_none h)
    | no h ↦ ap (λ m. slice_index m u) (give_lone (omega arith)) ∙ get_or-set_other l v u d 0 n
  ]

  -- a vertex that has a dart keeps it
  give_joined : (u : ℕ) → slice_index l u < lone_at → slice_index (give_dart l v d) u ≡ slice_index l u
  give_joined u h = elim (ℕ_discrete u v) [
    | yes q ↦ ap (λ m. slice_index m u) (give_none (rw q at h))
    | no n ↦ give_off u n
  ]

-- l has the corners of the eight vertices of t
pub record Corners (t l : List ℕ) : Type 0 where
  pub eight : length l ≡ 8
  pub are : (v : ℕ) → v < 8 → slice_index l v ≡ corner_at t v

-- the corners once edge e is in between vertices a and b
module _ {t : List ℕ} {e a b : ℕ} {k : ℤ} (r : Planned t e a b k) {l : List ℕ} (c : Corners t l) where
  abbrev t' : List ℕ
  t' = written t (InsertEdge e (corner_at t a) (corner_at t b) k plain_length)

  abbrev half : List ℕ
  half = give_dart l a (2 * e)

  abbrev both : List ℕ
  both = give_dart half b (2 * e + 1)

  half_eight : length half ≡ 8
  half_eight = give_length l a (2 * e) ∙ c.eight

  -- an isolated vertex's corner lies past all darts
  data Kind (v : ℕ) : Type 0 where
    alone : vertex_word t v ≡ isolated → slice_index l v ≡ lone_at + v → Kind v
    joined : vertex_word t v ≢ isolated → slice_index l v < lone_at → Kind v

  kind : (v : ℕ) → v < 8 → Kind v
  kind v h = elim (corner_there r.mesh v h) [
    | lone i q ↦ alone i (c.are v h ∙ q)
    | first q m ↦
        let low = m.live.low in
        let word : vertex_word t v ≡ corner_at t v = sym q in
        joined (λ i. let z : corner_at t v ≡ isolated = q ∙ i in omega (arith, z)) (rw (c.are v h) (omega arith))
  ]

  pub corners_next : Corners t' both
  corners_next = record {
    eight = give_length half b (2 * e + 1) ∙ half_eight;
    are = λ v h. by v h (kind v h);
  }
    where
      by : (v : ℕ) → v < 8 → Kind v → slice_index both v ≡ corner_at t' v
      by v h (joined n low) =
          let kept = give_joined l a (2 * e) v low in
          give_joined half b (2 * e + 1) v (rw kept low) ∙ kept ∙ c.are v h ∙ sym (stays r v h n)
      by v h (alone i q) = elim (ℕ_discrete v a) [
        | yes s ↦
            let past : lone_at ≤ slice_index_or l a 0 = (let z = rw s at q in omega arith) in
            let own = give_at l a (2 * e) (rw c.eight r.first_low) past in
            let low = r.low in
            ap (λ u. slice_index both u) s ∙ give_joined half b (2 * e + 1) a (rw own (omega arith)) ∙ own ∙ sym (takes_first r (rw s at i)) ∙ ap (corner_at t') (sym s)
        | no n ↦
            let kept = give_off l a (2 * e) v n in
            elim (ℕ_discrete v b) [
              | yes s ↦
                  let past : lone_at ≤ slice_index_or half b 0 = (let z = kept ∙ q in let y = rw s at z in omega (arith, y)) in
                  let own = give_at half b (2 * e + 1) (rw half_eight r.second_low) past in
                  ap (λ u. slice_index both u) s ∙ own ∙ sym (takes_second r (rw s at i) (λ z. n (s ∙ sym z))) ∙ ap (corner_at t') (sym s)
              | no m ↦ give_off half b (2 * e + 1) v m ∙ kept ∙ q ∙ sym (untouched r v h n m i)
            ]
      ]

-- the edge and the corners after it, from what the code has in its locals
pub record Drawn (s s₁ s₂ s₃ a b : ℕ) : Type 0 where
  pub once : s₁ ≡ after_draw s
  pub twice : s₂ ≡ after_draw s₁
  pub thrice : s₃ ≡ after_draw s₂
  pub first : a ≡ draw 8 s₁
  pub second : b ≡ draw 8 s₂

module _ {s s₁ s₂ s₃ a b : ℕ} (q : Drawn s s₁ s₂ s₃ a b) (l : List ℕ) (e : ℕ) where
  pub drawn_state : s₃ ≡ after_draw (after_draw (after_draw s))
  drawn_state = rw (q.thrice, q.twice, q.once)

  pub drawn_edge : {n f g : ℕ} {k : ℤ} → n ≡ draw 3 s₃ → f ≡ slice_index l a → g ≡ slice_index l b → k ≡ pos n -ℤ pos 1 → InsertEdge e f g k plain_length ≡ edge_drawn l s e
  unfolding edge_drawn
  drawn_edge n f g k = rw (f, g, k, n, q.first, q.second, q.thrice, q.twice, q.once)

  pub drawn_corners : {half both : List ℕ} → half ≡ give_dart l a (2 * e) → both ≡ give_dart half b (2 * e + 1) → both ≡ corners_after l s e
  unfolding corners_after
  drawn_corners h k = rw (k, h, q.first, q.second, q.twice, q.once)
