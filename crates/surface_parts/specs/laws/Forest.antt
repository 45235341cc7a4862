-- Parts found in two arrays: each vertex points up to one that is not larger, its root in the end, with the parity of their marks beside it.
-- A forest stands for labels and marks `s`: the root of a tree is the label of its vertices.
--     Shape                                                    what the arrays must keep to, so that they can be read
--     Points, Forest                                           the arrays stand for s
--     Moved, moved_shape, moved_forest                         one vertex points elsewhere
--     lift, lift_turn, grand, grand_turn                       a vertex points up to its parent's parent
--     lift_shape, lift_forest, lift_up, lift_turn_lem          that changes nothing of s; what it then points to
--     RootFound, Finding                                       the root of a vertex, and the loop that climbs to it
--     finding_none, finding_more, finding_less, finding_all    it begins, goes on, always down to a smaller vertex, ends
--     FlatBelow, Flattening                                    each vertex points to its root, and the loop that makes it so
--     flattening_none, flattening_more                         it begins, goes on
use Rattle.std.specs.Prelude.{ℕ, ◌+◌, ◌%◌, ◌<◌, ◌≤◌, ◌≡◌, refl, List, ◌≢◌, length, get_or, set}
use Rattle.std.proofs.Common.{arith, sym, ◌∙◌, ap, length-set, get_or-set_same, get_or-set_other}
use Rattle.std.proofs.Math.Decide.{ℕ_discrete}
use Rattle.table.specs.Layout.{vertices}
use Rattle.surface.specs.Links.{Spot}

pub record Shape (up turn : List ℕ) : Type 0 where
  pub size : length up ≡ vertices
  pub turns : length turn ≡ vertices
  pub down : (w : ℕ) → w < vertices → get_or up w 0 ≤ w
  pub bit : (w : ℕ) → w < vertices → get_or turn w 0 < 2

-- w points up to p, with parity k: a root is its own label, and its mark is even
pub record Points (s : ℕ → Spot) (w p k : ℕ) : Type 0 where
  pub label : (s p).label ≡ (s w).label
  pub mark : ((s p).mark + k + (s w).mark) % 2 ≡ 0
  pub root : p ≡ w → (s w).label ≡ w
  pub even : p ≡ w → (s w).mark % 2 ≡ 0

pub record Forest (s : ℕ → Spot) (up turn : List ℕ) : Type 0 where
  pub at : (w : ℕ) → w < vertices → Points s w (get_or up w 0) (get_or turn w 0)

-- another parent for v, with its parity
pub record Moved (up turn : List ℕ) (v p k : ℕ) : Type 0 where
  pub shape : Shape up turn
  pub low : v < vertices
  pub down : p ≤ v
  pub bit : k < 2

module _ {up turn : List ℕ} {v p k : ℕ} (M : Moved up turn v p k) where
  own_up : get_or (set up v p) v 0 ≡ p
  own_up = get_or-set_same up v p 0 (rw M.shape.size M.low)

  own_turn : get_or (set turn v k) v 0 ≡ k
  own_turn = get_or-set_same turn v k 0 (rw M.shape.turns M.low)

  pub moved_shape : Shape (set up v p) (set turn v k)
  moved_shape = record {
    size = length-set up v p ∙ M.shape.size;
    turns = length-set turn v k ∙ M.shape.turns;
    down = λ w h. elim (ℕ_discrete w v) [
      | yes e ↦ rw (e, own_up) M.down
      | no n ↦ rw (get_or-set_other up v w p 0 n) (M.shape.down w h)
    ];
    bit = λ w h. elim (ℕ_discrete w v) [
      | yes e ↦ rw (e, own_turn) M.bit
      | no n ↦ rw (get_or-set_other turn v w k 0 n) (M.shape.bit w h)
    ];
  }

  pub moved_forest : (s : ℕ → Spot) → ((w : ℕ) → w < vertices → w ≢ v → Points s w (get_or up w 0) (get_or turn w 0)) → Points s v p k
      → Forest s (set up v p) (set turn v k)
  moved_forest s others own = record {
    at = λ w h. elim (ℕ_discrete w v) [
      | yes e ↦ rw (e, own_up, own_turn) own
      | no n ↦ rw (get_or-set_other up v w p 0 n, get_or-set_other turn v w k 0 n) (others w h n)
    ];
  }

-- the parent of v's parent, and the parity on the way to it
abbrev pub grand : List ℕ → ℕ → ℕ
grand up v = get_or up (get_or up v 0) 0

abbrev pub grand_turn : List ℕ → List ℕ → ℕ → ℕ
grand_turn up turn v = (get_or turn v 0 + get_or turn (get_or up v 0) 0) % 2

abbrev pub lift : List ℕ → ℕ → List ℕ
lift up v = set up v (grand up v)

abbrev pub lift_turn : List ℕ → List ℕ → ℕ → List ℕ
lift_turn up turn v = set turn v (grand_turn up turn v)

module _ {up turn : List ℕ} (S : Shape up turn) {v : ℕ} (h : v < vertices) where
  pub up_low : get_or up v 0 < vertices
  up_low = let d = S.down v h in omega arith

  lift_moved : Moved up turn v (grand up v) (grand_turn up turn v)
  lift_moved =
      let d = S.down v h in
      let g = S.down (get_or up v 0) up_low in
      record { shape = S; low = h; down = omega arith; bit = omega arith }

  pub lift_shape : Shape (lift up v) (lift_turn up turn v)
  lift_shape = moved_shape lift_moved

  pub lift_forest : (s : ℕ → Spot) → Forest s up turn → Forest s (lift up v) (lift_turn up turn v)
  lift_forest s F =
      let d = S.down v h in
      let g = S.down (get_or up v 0) up_low in
      let a = F.at v h in
      let b = F.at (get_or up v 0) up_low in
      let same : grand up v ≡ v → get_or up v 0 ≡ v = λ e. omega arith in
      moved_forest lift_moved s (λ w l n. F.at w l) (record {
        label = b.label ∙ a.label;
        mark = let x = a.mark in let y = b.mark in omega arith;
        root = λ e. a.root (same e);
        even = λ e. a.even (same e);
      })

  pub lift_up : get_or (lift up v) v 0 ≡ grand up v
  lift_up = own_up lift_moved

  pub lift_turn_lem : get_or (lift_turn up turn v) v 0 ≡ grand_turn up turn v
  lift_turn_lem = own_turn lift_moved

-- the root r of v, with the mark m of v
pub record RootFound (up₀ turn₀ : List ℕ) (v r m : ℕ) (up turn : List ℕ) : Type 0 where
  pub shape : Shape up turn
  pub low : r < vertices
  pub bit : m < 2
  pub root : get_or up r 0 ≡ r
  pub kept : (s : ℕ → Spot) → Forest s up₀ turn₀ → Forest s up turn
  pub label : (s : ℕ → Spot) → Forest s up₀ turn₀ → r ≡ (s v).label
  pub mark : (s : ℕ → Spot) → Forest s up₀ turn₀ → (m + (s v).mark) % 2 ≡ 0

-- the climb from v has come to `at`, m being the parity on the way
pub record Finding (up₀ turn₀ : List ℕ) (v at m : ℕ) (up turn : List ℕ) : Type 0 where
  pub shape : Shape up turn
  pub low : at < vertices
  pub bit : m < 2
  pub kept : (s : ℕ → Spot) → Forest s up₀ turn₀ → Forest s up turn
  pub label : (s : ℕ → Spot) → Forest s up₀ turn₀ → (s at).label ≡ (s v).label
  pub mark : (s : ℕ → Spot) → Forest s up₀ turn₀ → ((s at).mark + m + (s v).mark) % 2 ≡ 0

pub finding_none : {up turn : List ℕ} {v : ℕ} → Shape up turn → v < vertices → Finding up turn v v 0 up turn
finding_none S h = record { shape = S; low = h; bit = omega arith; kept = λ s F. F; label = λ s F. refl; mark = λ s F. omega arith }

-- the vertex points up to another: it is lifted, and the climb goes on from where it then points
module _ {up₀ turn₀ : List ℕ} {v at m : ℕ} {up turn : List ℕ} (K : Finding up₀ turn₀ v at m up turn) where
  module _ {up' turn' : List ℕ} (e : up' ≡ lift up at) (f : turn' ≡ lift_turn up turn at) where
    pub lifted_shape : Shape up' turn'
    lifted_shape = rw (e, f) (lift_shape K.shape K.low)

    pub finding_more : Finding up₀ turn₀ v (get_or up' at 0) ((m + get_or turn' at 0) % 2) up' turn'
    finding_more = record {
      shape = lifted_shape;
      low = up_low lifted_shape K.low;
      bit = omega arith;
      kept = λ s F. after s F;
      label = λ s F. ((after s F).at at K.low).label ∙ K.label s F;
      mark = λ s F.
          let x = ((after s F).at at K.low).mark in
          let y = K.mark s F in
          omega arith;
    }
      where
        after : (s : ℕ → Spot) → Forest s up₀ turn₀ → Forest s up' turn'
        after s F = rw (e, f) (lift_forest K.shape K.low s (K.kept s F))

    pub finding_less : get_or up at 0 ≢ at → get_or up' at 0 < at
    finding_less n =
        let d = K.shape.down at K.low in
        let g = K.shape.down (get_or up at 0) (up_low K.shape K.low) in
        rw (e, lift_up K.shape K.low) (omega arith)

  pub finding_all : get_or up at 0 ≡ at → RootFound up₀ turn₀ v at m up turn
  finding_all e = record {
    shape = K.shape;
    low = K.low;
    bit = K.bit;
    root = e;
    kept = K.kept;
    label = λ s F. sym (((K.kept s F).at at K.low).root e) ∙ K.label s F;
    mark = λ s F.
        let x = K.mark s F in
        let y = ((K.kept s F).at at K.low).even e in
        omega arith;
  }

-- each vertex below n points to its root, with its mark
pub record FlatBelow (s : ℕ → Spot) (n : ℕ) (up turn : List ℕ) : Type 0 where
  pub forest : Forest s up turn
  pub label : (w : ℕ) → w < n → get_or up w 0 ≡ (s w).label
  pub mark : (w : ℕ) → w < n → (get_or turn w 0 + (s w).mark) % 2 ≡ 0

pub record Flattening (up₀ turn₀ : List ℕ) (n : ℕ) (up turn : List ℕ) : Type 0 where
  pub shape : Shape up turn
  pub low : n ≤ vertices
  pub flat : (s : ℕ → Spot) → Forest s up₀ turn₀ → FlatBelow s n up turn

pub flattening_none : {up turn : List ℕ} → Shape up turn → Flattening up turn 0 up turn
flattening_none S = record {
  shape = S;
  low = omega arith;
  flat = λ s F. record { forest = F; label = λ w h. absurd (omega arith); mark = λ w h. absurd (omega arith) };
}

pub flattening_more : {up₀ turn₀ : List ℕ} {n : ℕ} {up turn : List ℕ} → Flattening up₀ turn₀ n up turn → n < vertices
    → Flattening up₀ turn₀ (n + 1) (lift up n) (lift_turn up turn n)
flattening_more {up₀} {turn₀} {n} {up} {turn} K h = record {
  shape = lift_shape K.shape h;
  low = omega arith;
  flat = λ s F.
      let B = K.flat s F in
      record {
        forest = lift_forest K.shape h s B.forest;
        label = λ w l. elim (ℕ_discrete w n) [
          | yes e ↦ rw (e, lift_up K.shape h) (own s B).0
          | no d ↦ get_or-set_other up n w (grand up n) 0 d ∙ B.label w (omega arith)
        ];
        mark = λ w l. elim (ℕ_discrete w n) [
          | yes e ↦ rw (e, lift_turn_lem K.shape h) (own s B).1
          | no d ↦ rw (get_or-set_other turn n w (grand_turn up turn n) 0 d) (B.mark w (omega arith))
        ];
      };
}
  where
    -- its parent is flat already, or is it itself
    own : (s : ℕ → Spot) → FlatBelow s n up turn → (grand up n ≡ (s n).label) × ((grand_turn up turn n + (s n).mark) % 2 ≡ 0)
    own s B =
        let a = B.forest.at n h in
        elim (ℕ_discrete (get_or up n 0) n) [
          | yes e ↦
              let even = a.even e in
              let turned = ap (λ k. get_or turn k 0) e in
              (rw (e, e) (sym (a.root e)), omega arith)
          | no d ↦
              let down = K.shape.down n h in
              let x = B.mark (get_or up n 0) (omega arith) in
              let y = a.mark in
              (B.label (get_or up n 0) (omega arith) ∙ a.label, omega arith)
        ]
