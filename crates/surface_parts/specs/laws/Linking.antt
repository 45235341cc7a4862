-- One edge taken into the forest: the roots of its ends are found, and the larger points to the smaller, with the parity that makes the marks of
-- the ends agree with the edge. Then all edges, and the labels and marks that come of it.
--     After, Taken                                           what taking in an edge makes of the labels and marks
--     Taking, edge_on, first_low, second_low                 a good table, arrays and an edge; its two ends
--     taken_dead, taken_same, taken_up, taken_down           an edge that is not live, in one tree, and between two
--     link_forest                                            a link between two roots, as a pointer
--     Linking, linking_none, linking_taking, linking_more    the loop over the edges
--     Fresh, fresh_none, fresh_more                          the loop that makes each vertex point to itself
--     Labelled, linked_flat                                  the end: labels and marks in the arrays
use Rattle.std.specs.Prelude.{ℕ, ◌+◌, ◌*◌, ◌/◌, ◌%◌, ◌<◌, ◌≤◌, min, max, ◌≡◌, refl, true, List, ◌≢◌, length, get_or, set, replicate}
use Rattle.std.proofs.Common.{arith, sym, ◌∙◌, ap, length-set, get_or-set_same, get_or-set_other}
use Rattle.std.proofs.Math.Decide.{ℕ_discrete}
use Rattle.std.proofs.lemmas.List.{length-replicate, get_or-replicate}
use Rattle.table.specs.Layout.{vertices, edges, edge_word, leaves}
use Rattle.table.specs.Good.{Good}
use Rattle.table.specs.Rotation.{Rotation, rotation, live?, turns_of}
use Rattle.table.specs.laws.Rotation.{live_yes, yes_live}
use Rattle.table.specs.laws.Lawful.{good_lawful}
use Rattle.surface.specs.Links.{Link, Spot, own, moved, joined_by}
use Rattle.surface.proofs.laws.Links.{Sound, Labelling, link_links, Moves, moves, stays, goes, begin_sound, moved_sound, moved_same, link_same, side, first_side, second_side, live_edge, live_edge_low}
use Rattle.surface_parts.specs.laws.Forest.{Shape, Points, Forest, Moved, moved_shape, moved_forest, RootFound, Flattening}

-- the labels and marks after edge e was taken in
pub record After (R : Rotation) (e : ℕ) (s : ℕ → Spot) (up turn : List ℕ) : Type 0 where
  pub next : ℕ → Spot
  pub sound : Sound R next
  pub forest : Forest next up turn
  pub kept : (a b : ℕ) → (s a).label ≡ (s b).label → (next a).label ≡ (next b).label
  pub edge : R.live (2 * e) ≡ true → (next (R.from (2 * e))).label ≡ (next (R.from (2 * e + 1))).label

pub record Taken (t : List ℕ) (e : ℕ) (up₀ turn₀ up turn : List ℕ) : Type 0 where
  pub shape : Shape up turn
  pub after : (s : ℕ → Spot) → Sound (rotation t) s → Forest s up₀ turn₀ → After (rotation t) e s up turn

-- a link between two roots, as a pointer
module _ {up turn : List ℕ} {s : ℕ → Spot} (k : Link) (M : Moved up turn k.high k.low k.shift) (F : Forest s up turn) (less : k.low < k.high)
    (high-root : (s k.high).label ≡ k.high) (high-even : (s k.high).mark % 2 ≡ 0)
    (low-root : (s k.low).label ≡ k.low) (low-even : (s k.low).mark % 2 ≡ 0) where
  stay : (w : ℕ) → (s w).label ≢ k.high → moved k (s w) ≡ s w
  stay w n = elim (moves k (s w)) [
    | stays m e ↦ e
    | goes q a b ↦ absurd (n q)
  ]

  others : (w p j : ℕ) → w ≢ k.high → Points s w p j → Points (λ w. moved k (s w)) w p j
  others w p j n P = record {
    label = moved_same k (s p) (s w) P.label;
    mark = by (moves k (s p)) (moves k (s w));
    root = λ e. rw (stay w (λ q. n (sym (P.root e) ∙ q))) (P.root e);
    even = λ e. rw (stay w (λ q. n (sym (P.root e) ∙ q))) (P.even e);
  }
    where
      by : Moves k (s p) (moved k (s p)) → Moves k (s w) (moved k (s w)) → ((moved k (s p)).mark + j + (moved k (s w)).mark) % 2 ≡ 0
      by (stays a e) (stays b f) = rw (e, f) P.mark
      by (stays a e) (goes b f g) = absurd (a (P.label ∙ b))
      by (goes a e h) (stays b f) = absurd (b (sym P.label ∙ a))
      by (goes a e h) (goes b f g) = let m = P.mark in rw (h, g) (omega arith)

  pub link_forest : Forest (λ w. moved k (s w)) (set up k.high k.low) (set turn k.high k.shift)
  link_forest =
      moved_forest M (λ w. moved k (s w)) (λ w h n. others w (get_or up w 0) (get_or turn w 0) n (F.at w h))
      (elim (moves k (s k.high)) [
        | stays n e ↦ absurd (n high-root)
        | goes q a b ↦
            let c = stay k.low (λ z. let y : k.low ≡ k.high = sym low-root ∙ z in omega arith) in
            record {
              label = rw c (low-root ∙ sym a);
              mark = rw (c, b) (omega arith);
              root = λ e. absurd (omega arith);
              even = λ e. absurd (omega arith);
            }
      ])

link_is : (R : Rotation) (e : ℕ) (a b : Spot) {h l n : ℕ} → max a.label b.label ≡ h → min a.label b.label ≡ l
    → (a.mark + b.mark + R.turns (2 * e)) % 2 ≡ n → joined_by R e a b ≡ record { high = h; low = l; shift = n }
unfolding joined_by
link_is R e a b p q r = λ i. record { high = p i; low = q i; shift = r i }

-- a good table, arrays, and an edge
pub record Taking (t up turn : List ℕ) (e : ℕ) : Type 0 where
  pub good : Good t
  pub shape : Shape up turn
  pub low : e < edges

module _ {t up turn : List ℕ} {e : ℕ} (K : Taking t up turn e) where
  half : 2 * e / 2 ≡ e
  half = omega arith

  pub taken_dead : edge_word t e ≡ 0 → Taken t e up turn up turn
  taken_dead z = record {
    shape = K.shape;
    after = λ s S F. record {
      next = s;
      sound = S;
      forest = F;
      kept = λ a b q. q;
      edge = λ l. absurd ((rw half at (live_yes t (2 * e) l).on) z);
    };
  }

  module _ (l : edge_word t e ≢ 0) where
    pub edge_on : live? t (2 * e) ≡ true
    edge_on = let h = K.low in yes_live t (2 * e) (record { low = omega arith; on = rw half l })

    other_on : live? t (2 * e + 1) ≡ true
    other_on =
        let r : Rattle.table.specs.Layout.rev (2 * e) ≡ 2 * e + 1 = omega arith in
        rw r at ((good_lawful t K.good).live_rev (2 * e) ∙ edge_on)

    pub first_low : leaves t (2 * e) < vertices
    first_low = K.good.leaves_low (2 * e) (live_yes t (2 * e) edge_on)

    pub second_low : leaves t (2 * e + 1) < vertices
    second_low = K.good.leaves_low (2 * e + 1) (live_yes t (2 * e + 1) other_on)

    -- the roots x and y of the ends are found, and their marks m and n
    module _ {x y m n : ℕ} {up₁ turn₁ up₂ turn₂ : List ℕ} (A : RootFound up turn (leaves t (2 * e)) x m up₁ turn₁)
        (B : RootFound up₁ turn₁ (leaves t (2 * e + 1)) y n up₂ turn₂) where
      abbrev shift : ℕ
      shift = (m + n + edge_word t e % 2) % 2

      module _ (s : ℕ → Spot) (S : Sound (rotation t) s) (F : Forest s up turn) where
        both_found : Forest s up₂ turn₂
        both_found = B.kept s (A.kept s F)

        shift_is : ((s (leaves t (2 * e))).mark + (s (leaves t (2 * e + 1))).mark + turns_of t (2 * e)) % 2 ≡ shift
        unfolding turns_of
        shift_is =
            let a = A.mark s F in
            let b = B.mark s (A.kept s F) in
            rw half (omega arith)

        -- the edge's link is the pointer from h to l
        after_link : {h l : ℕ} → max (s (leaves t (2 * e))).label (s (leaves t (2 * e + 1))).label ≡ h
            → min (s (leaves t (2 * e))).label (s (leaves t (2 * e + 1))).label ≡ l
            → Forest (λ w. moved (record { high = h; low = l; shift = shift }) (s w)) (set up₂ h l) (set turn₂ h shift)
            → After (rotation t) e s (set up₂ h l) (set turn₂ h shift)
        after_link {h} {l} p q G =
            let L = good_lawful t K.good in
            let a = s (leaves t (2 * e)) in
            let b = s (leaves t (2 * e + 1)) in
            let k = link_is (rotation t) e a b p q shift_is in
            record {
              next = λ w. moved (record { high = h; low = l; shift = shift }) (s w);
              sound = rw k at (moved_sound L s (joined_by (rotation t) e a b) (link_links L s S e edge_on) S);
              forest = G;
              kept = λ c d r. moved_same _ (s c) (s d) r;
              edge = λ z. rw k at (link_same (rotation t) e a b);
            }

      first_root : (s : ℕ → Spot) → Forest s up turn → ((s x).label ≡ x) × ((s x).mark % 2 ≡ 0)
      first_root s F = let P = (A.kept s F).at x A.low in (P.root A.root, P.even A.root)

      second_root : (s : ℕ → Spot) → Forest s up turn → ((s y).label ≡ y) × ((s y).mark % 2 ≡ 0)
      second_root s F = let P = (B.kept s (A.kept s F)).at y B.low in (P.root B.root, P.even B.root)

      pub taken_same : x ≡ y → Taken t e up turn up₂ turn₂
      taken_same q = record {
        shape = B.shape;
        after = λ s S F. record {
          next = s;
          sound = S;
          forest = both_found s S F;
          kept = λ a b r. r;
          edge = λ l. sym (A.label s F) ∙ q ∙ B.label s (A.kept s F);
        };
      }

      up_moved : x < y → Moved up₂ turn₂ y x shift
      up_moved q = record { shape = B.shape; low = B.low; down = omega arith; bit = omega arith }

      pub taken_up : x < y → Taken t e up turn (set up₂ y x) (set turn₂ y shift)
      taken_up q = record {
        shape = moved_shape (up_moved q);
        after = λ s S F.
            let a = A.label s F in
            let b = B.label s (A.kept s F) in
            let i = first_root s F in
            let j = second_root s F in
            after_link s S F (omega arith) (omega arith)
            (link_forest (record { high = y; low = x; shift = shift }) (up_moved q) (both_found s S F) q j.0 j.1 i.0 i.1);
      }

      down_moved : y < x → Moved up₂ turn₂ x y shift
      down_moved q = record { shape = B.shape; low = A.low; down = omega arith; bit = omega arith }

      pub taken_down : y < x → Taken t e up turn (set up₂ x y) (set turn₂ x shift)
      taken_down q = record {
        shape = moved_shape (down_moved q);
        after = λ s S F.
            let a = A.label s F in
            let b = B.label s (A.kept s F) in
            let i = first_root s F in
            let j = second_root s F in
            after_link s S F (omega arith) (omega arith)
            (link_forest (record { high = x; low = y; shift = shift }) (down_moved q) (both_found s S F) q i.0 i.1 j.0 j.1);
      }

-- the edges below n are taken in
pub record Linking (t : List ℕ) (n : ℕ) (up turn : List ℕ) : Type 0 where
  pub good : Good t
  pub low : n ≤ edges
  pub shape : Shape up turn
  pub spots : ℕ → Spot
  pub sound : Sound (rotation t) spots
  pub forest : Forest spots up turn
  pub same : (e : ℕ) → e < n → live? t (2 * e) ≡ true → (spots (leaves t (2 * e))).label ≡ (spots (leaves t (2 * e + 1))).label

pub linking_taking : {t : List ℕ} {n : ℕ} {up turn : List ℕ} → Linking t n up turn → n < edges → Taking t up turn n
linking_taking K h = record { good = K.good; shape = K.shape; low = h }

pub linking_more : {t : List ℕ} {n : ℕ} {up turn up' turn' : List ℕ} → Linking t n up turn → n < edges → Taken t n up turn up' turn' → Linking t (n + 1) up' turn'
linking_more {t} {n} K h T =
    let A = T.after K.spots K.sound K.forest in
    record {
      good = K.good;
      low = omega arith;
      shape = T.shape;
      spots = A.next;
      sound = A.sound;
      forest = A.forest;
      same = λ e l z. elim (ℕ_discrete e n) [
        | yes q ↦ rw q (A.edge (rw q at z))
        | no d ↦ A.kept (leaves t (2 * e)) (leaves t (2 * e + 1)) (K.same e (omega arith) z)
      ];
    }

-- the vertices below n point to themselves
pub record Fresh (n : ℕ) (up : List ℕ) : Type 0 where
  pub size : length up ≡ vertices
  pub low : n ≤ vertices
  pub own : (w : ℕ) → w < n → get_or up w 0 ≡ w

pub fresh_none : {up : List ℕ} → length up ≡ vertices → Fresh 0 up
fresh_none l = record { size = l; low = omega arith; own = λ w h. absurd (omega arith) }

pub fresh_more : {n : ℕ} {up : List ℕ} → Fresh n up → n < vertices → Fresh (n + 1) (set up n n)
fresh_more {n} {up} K h = record {
  size = length-set up n n ∙ K.size;
  low = omega arith;
  own = λ w l. elim (ℕ_discrete w n) [
    | yes e ↦ rw e (get_or-set_same up n n 0 (rw K.size h))
    | no d ↦ get_or-set_other up n w n 0 d ∙ K.own w (omega arith)
  ];
}

pub linking_none : {t up turn : List ℕ} → Good t → Fresh vertices up → turn ≡ replicate vertices 0 → Linking t 0 up turn
linking_none {t} {up} {turn} g K z = record {
  good = g;
  low = omega arith;
  shape = record {
    size = K.size;
    turns = rw (z) (simp length-replicate);
    down = λ w h. let o = K.own w h in omega arith;
    bit = λ w h. rw (z, get_or-replicate {A = ℕ} vertices w 0 0 h) (omega arith);
  };
  spots = own;
  sound = begin_sound (rotation t);
  forest = record {
    at = λ w h.
        let o = K.own w h in
        rw (o, z, get_or-replicate {A = ℕ} vertices w 0 0 h) (record { label = refl; mark = refl; root = λ e. refl; even = λ e. refl });
  };
  same = λ e h l. absurd (omega arith);
}

-- the labels and the parities of the marks stand in the arrays
pub record Labelled (t up turn : List ℕ) : Type 0 where
  pub spots : ℕ → Spot
  pub labelling : Labelling (rotation t) spots
  pub label : (w : ℕ) → w < vertices → get_or up w 0 ≡ (spots w).label
  pub mark : (w : ℕ) → w < vertices → (get_or turn w 0 + (spots w).mark) % 2 ≡ 0
  pub shape : Shape up turn

pub linked_flat : {t up turn up' turn' : List ℕ} → Linking t edges up turn → Flattening up turn vertices up' turn' → Labelled t up' turn'
linked_flat {t} K F =
    let L = good_lawful t K.good in
    let B = F.flat K.spots K.forest in
    record {
      spots = K.spots;
      labelling = record {
        sound = K.sound;
        same = λ d l.
            let on : live? t (2 * (d / 2)) ≡ true = live_edge L d ∙ l in
            let q = K.same (d / 2) (live_edge_low L (d / 2) on) on in
            let at : ℕ → ℕ = λ j. (K.spots (leaves t j)).label in
            elim (side d) [
              | first_side a b ↦ ap at b ∙ sym q ∙ ap at (sym a)
              | second_side a b ↦ ap at b ∙ q ∙ ap at (sym a)
            ];
      };
      label = B.label;
      mark = B.mark;
      shape = F.shape;
    }
