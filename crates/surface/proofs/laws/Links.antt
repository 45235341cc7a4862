-- The parts and their marks found: a fold over the live edges. Each edge links two labels, and a vertex follows the links made so far
-- from itself to the label of its part. Two vertices have one label exactly if a chain joins them, and the label is the smallest of them.
--     Labelling, Sound, FitsAt                 what labels and marks must keep to, however they are found
--     links_label                              the fold over all live edges does
--     Moves, moves, moved_same, moved_sound    a vertex follows a link, or stays
--     begin_sound                              before the first link each vertex is its own label
--     Links, link_links, link_same             the link that an edge makes is between two labels that a chain joins
--     live_edge_low, live_edge, Side, side     live darts and live edges
--     edge_fits, edge_kept                     marks and tests at the two ends of an edge
use Rattle.std.specs.Prelude.{ℕ, zero, suc, ◌+◌, ◌*◌, ◌/◌, ◌%◌, ◌<◌, ◌≤◌, min, max, ◌≡◌, Bool, true, List, [], ◌∷◌, ◌≢◌, ◌↔◌}
use Rattle.std.proofs.Common.{arith, sym, ◌∙◌, ap, eq-eqb, ne_eqb}
use Rattle.std.proofs.Math.Decide.{ℕ_discrete, dec_le}
use Rattle.table.specs.Layout.{edges, rev}
use Rattle.table.specs.Rotation.{Rotation, Lawful}
use Rattle.tracing.specs.Listing.{has, only}
use Rattle.tracing.specs.Met.{live_edges}
use Rattle.tracing.proofs.laws.EdgeTotals.{listed_edge}
use Rattle.tracing.proofs.laws.Listing.{has_here}
use Rattle.tracing.proofs.laws.Has.{has_empty, has_cons, here, later, has_tail, has_head, has_left, has_right}
use Rattle.tracing.proofs.laws.Step.{type?, is_zero, is_one}
use Rattle.surgery.proofs.laws.PlacesIn.{EndsTogether}
use Rattle.surface.specs.Chain.{Chain}
use Rattle.surface.proofs.laws.Chain.{chain_trans, chain_sym, chain_edge, Fits}
use Rattle.surface.specs.Links.{Link, Spot, moved, spot, joined_by, links, own}

-- marks that agree with each edge of the part of w
pub record FitsAt (R : Rotation) (w : ℕ) (m : ℕ → ℕ) : Type 0 where
  pub fits : (d : ℕ) → R.live d ≡ true → Chain R w (R.from d) → Fits R m d

-- each vertex is joined with its label, and its mark is the difference of the two in any marks that agree with the part's edges
pub record Sound (R : Rotation) (s : ℕ → Spot) : Type 0 where
  pub joined : (w : ℕ) → Chain R (s w).label w
  pub low : (w : ℕ) → (s w).label ≤ w
  pub forced : (w : ℕ) (m : ℕ → ℕ) → FitsAt R w m → (m (s w).label + m w + (s w).mark) % 2 ≡ 0

-- and the ends of an edge have one label
pub record Labelling (R : Rotation) (s : ℕ → Spot) : Type 0 where
  pub sound : Sound R s
  pub same : (d : ℕ) → R.live d ≡ true → (s (R.from (rev d))).label ≡ (s (R.from d)).label

-- the two ways of a link
pub data Moves (k : Link) (s t : Spot) : Type 0 where
  stays : s.label ≢ k.high → t ≡ s → Moves k s t
  goes : s.label ≡ k.high → t.label ≡ k.low → t.mark ≡ (s.mark + k.shift) % 2 → Moves k s t

pub moves : (k : Link) (s : Spot) → Moves k s (moved k s)
unfolding moved
moves k s = elim (ℕ_discrete s.label k.high) [
  | yes e ↦ goes e (rw (eq-eqb s.label k.high e, moved)) (rw (eq-eqb s.label k.high e, moved))
  | no n ↦ stays n (rw (ne_eqb s.label k.high n, moved))
]

pub begin_sound : (R : Rotation) → Sound R own
begin_sound R = record { joined = λ w. Chain.here; low = λ w. omega arith; forced = λ w m f. omega arith }

-- marks that agree with the part of a vertex agree with that of each vertex joined with it
fits_joined : {R : Rotation} {v w : ℕ} {m : ℕ → ℕ} → Chain R v w → FitsAt R v m → FitsAt R w m
fits_joined c f = record { fits = λ d l k. f.fits d l (chain_trans c k) }

-- a link of two labels that are joined, whose shift is the difference of their marks
pub record Links (R : Rotation) (k : Link) : Type 0 where
  pub down : k.low ≤ k.high
  pub chain : Chain R k.low k.high
  pub shift : (m : ℕ → ℕ) → FitsAt R k.high m → (m k.low + m k.high + k.shift) % 2 ≡ 0

pub moved_sound : {R : Rotation} → Lawful R → (s : ℕ → Spot) (k : Link) → Links R k → Sound R s → Sound R (λ w. moved k (s w))
moved_sound {R} L s k K S = record {
  joined = λ w. elim (moves k (s w)) [
    | stays n e ↦ rw e (S.joined w)
    | goes q t m ↦ rw t (chain_trans K.chain (rw q at (S.joined w)))
  ];
  low = λ w. elim (moves k (s w)) [
    | stays n e ↦ rw e (S.low w)
    | goes q t m ↦ let h = S.low w in let d = K.down in omega arith
  ];
  forced = λ w m f. elim (moves k (s w)) [
    | stays n e ↦ rw e (S.forced w m f)
    | goes q t r ↦
        let up : Chain R k.high w = rw q at (S.joined w) in
        let was : (m k.high + m w + (s w).mark) % 2 ≡ 0 = rw q at (S.forced w m f) in
        let by = K.shift m (fits_joined (chain_sym L up) f) in
        rw (t, r) (omega arith)
  ];
}

ordered : {R : Rotation} → Lawful R → (a b n : ℕ) → Chain R a b → ((m : ℕ → ℕ) → FitsAt R a m → (m a + m b + n) % 2 ≡ 0)
    → Links R (record { high = max a b; low = min a b; shift = n })
ordered {R} L a b n c f = elim (dec_le a b) [
  | yes h ↦
      let x : max a b ≡ b = omega arith in
      let y : min a b ≡ a = omega arith in
      rw (x, y) (record { down = h; chain = c; shift = λ m g. f m (fits_joined (chain_sym L c) g) })
  | no h ↦
      let x : max a b ≡ a = omega arith in
      let y : min a b ≡ b = omega arith in
      rw (x, y) (record { down = omega arith; chain = chain_sym L c; shift = λ m g. let k = f m g in omega arith })
]

-- one more link, between the labels of the ends of a live edge
module _ {R : Rotation} (L : Lawful R) (s : ℕ → Spot) (S : Sound R s) (e : ℕ) (l : R.live (2 * e) ≡ true) where
  edge_chain : Chain R (R.from (2 * e)) (R.from (2 * e + 1))
  edge_chain = let q : rev (2 * e) ≡ 2 * e + 1 = omega arith in rw q at (chain_edge R (2 * e) l)

  label_chain : Chain R (s (R.from (2 * e))).label (s (R.from (2 * e + 1))).label
  label_chain = chain_trans (S.joined (R.from (2 * e))) (chain_trans edge_chain (chain_sym L (S.joined (R.from (2 * e + 1)))))

  label_shift : (m : ℕ → ℕ) → FitsAt R (R.from (2 * e)) m
      → (m (s (R.from (2 * e))).label + m (s (R.from (2 * e + 1))).label + ((s (R.from (2 * e))).mark + (s (R.from (2 * e + 1))).mark + R.turns (2 * e)) % 2) % 2 ≡ 0
  label_shift m f =
      let q : rev (2 * e) ≡ 2 * e + 1 = omega arith in
      let fit : (R.turns (2 * e) + m (R.from (2 * e)) + m (R.from (2 * e + 1))) % 2 ≡ 0 = rw q at (f.fits (2 * e) l Chain.here) in
      let x = S.forced (R.from (2 * e)) m f in
      let y = S.forced (R.from (2 * e + 1)) m (fits_joined edge_chain f) in
      omega arith

  pub link_links : Links R (joined_by R e (s (R.from (2 * e))) (s (R.from (2 * e + 1))))
  unfolding joined_by
  link_links =
      ordered L (s (R.from (2 * e))).label (s (R.from (2 * e + 1))).label _ label_chain
      (λ m g. label_shift m (fits_joined (S.joined (R.from (2 * e))) g))

links_sound : {R : Rotation} → Lawful R → (es : List ℕ) → ((e : ℕ) → has e es ≡ true → R.live (2 * e) ≡ true) → Sound R (spot (links R es))
unfolding links spot
links_sound {R} L [] on = begin_sound R
links_sound {R} L (e ∷ es) on =
    let S = links_sound L es (λ k h. on k (has_tail k e es h)) in
    moved_sound L (spot (links R es)) (joined_by R e (spot (links R es) (R.from (2 * e))) (spot (links R es) (R.from (2 * e + 1))))
    (link_links L (spot (links R es)) S e (on e (has_here e es))) S

-- equal labels stay equal
pub moved_same : (k : Link) (s t : Spot) → s.label ≡ t.label → (moved k s).label ≡ (moved k t).label
moved_same k s t q = by (moves k s) (moves k t)
  where
    by : Moves k s (moved k s) → Moves k t (moved k t) → (moved k s).label ≡ (moved k t).label
    by (stays n e) (stays p f) = ap (λ z. z.label) e ∙ q ∙ sym (ap (λ z. z.label) f)
    by (stays n e) (goes p f g) = absurd (n (q ∙ p))
    by (goes n e h) (stays p f) = absurd (p (sym q ∙ n))
    by (goes n e h) (goes p f g) = e ∙ sym f

-- the ends of the edge that makes a link get one label
pub link_same : (R : Rotation) (e : ℕ) (a b : Spot) → (moved (joined_by R e a b) a).label ≡ (moved (joined_by R e a b) b).label
unfolding joined_by
link_same R e a b = by (moves (joined_by R e a b) a) (moves (joined_by R e a b) b)
  where
    by : Moves (joined_by R e a b) a (moved (joined_by R e a b) a) → Moves (joined_by R e a b) b (moved (joined_by R e a b) b) → (moved (joined_by R e a b) a).label ≡ (moved (joined_by R e a b) b).label
    by (stays n f) (stays p g) = absurd (omega arith)
    by (stays n f) (goes p g h) = ap (λ z. z.label) f ∙ (omega arith)
    by (goes n f g) (stays p h) = f ∙ (omega arith) ∙ sym (ap (λ z. z.label) h)
    by (goes n f g) (goes p h i) = f ∙ sym h

links_same : (R : Rotation) (es : List ℕ) (e : ℕ) → has e es ≡ true
    → (spot (links R es) (R.from (2 * e))).label ≡ (spot (links R es) (R.from (2 * e + 1))).label
unfolding links spot
links_same R [] e h = absurd (has_empty e h)
links_same R (k ∷ es) e h = elim (has_cons e k es h) [
  | here q ↦ rw q (link_same R k (spot (links R es) (R.from (2 * k))) (spot (links R es) (R.from (2 * k + 1))))
  | later t ↦ moved_same _ _ _ (links_same R es e t)
]

-- the edges of the list are the live ones

pub live_edge_low : {R : Rotation} → Lawful R → (e : ℕ) → R.live (2 * e) ≡ true → e < edges
live_edge_low L e l = let h = L.dart_low (2 * e) l in omega arith

edge_listed : (R : Rotation) (n e : ℕ) → e < n → R.live (2 * e) ≡ true → has e (live_edges R n) ≡ true
unfolding live_edges
edge_listed R zero e h l = absurd (omega arith)
edge_listed R (suc n) e h l = elim (ℕ_discrete e n) [
  | yes q ↦
      let on : R.live (2 * n) ≡ true = rw q at l in
      rw on (has_right e (live_edges R n) (n ∷ []) (has_head [] q))
  | no q ↦ has_left e (live_edges R n) (only (R.live (2 * n)) n) (edge_listed R n e (omega arith) l)
]

-- each live dart is a dart of a live edge: the first, or the second
pub data Side (d : ℕ) : Type 0 where
  first_side : d ≡ 2 * (d / 2) → rev d ≡ 2 * (d / 2) + 1 → Side d
  second_side : d ≡ 2 * (d / 2) + 1 → rev d ≡ 2 * (d / 2) → Side d

pub side : (d : ℕ) → Side d
side d = elim (type? d) [
  | is_zero e ↦ first_side (omega arith) (omega arith)
  | is_one e ↦ second_side (omega arith) (omega arith)
]

pub live_edge : {R : Rotation} → Lawful R → (d : ℕ) → R.live (2 * (d / 2)) ≡ R.live d
live_edge {R} L d = elim (side d) [
  | first_side a b ↦ ap R.live (sym a)
  | second_side a b ↦ ap R.live (sym b) ∙ L.live_rev d
]

-- marks that agree with an edge, by its number and by either dart
pub edge_fits : {R : Rotation} → Lawful R → (m : ℕ → ℕ) (d : ℕ)
    → ((R.turns (2 * (d / 2)) + m (R.from (2 * (d / 2))) + m (R.from (2 * (d / 2) + 1))) % 2 ≡ 0) ↔ Fits R m d
edge_fits {R} L m d = elim (side d) [
  | first_side a b ↦
      let t = ap R.turns a in
      let u = ap (λ k. m (R.from k)) a in
      let v = ap (λ k. m (R.from k)) b in
      (λ f. omega arith, λ f. omega arith)
  | second_side a b ↦
      let t = ap R.turns b in
      let r = L.turns_rev d in
      let u = ap (λ k. m (R.from k)) a in
      let v = ap (λ k. m (R.from k)) b in
      (λ f. omega arith, λ f. omega arith)
]

-- the ends of an edge pass such a test alike
pub edge_kept : {R : Rotation} {Q : ℕ → Bool} → EndsTogether R Q → (d : ℕ) → R.live d ≡ true → Q (R.from (2 * (d / 2))) ≡ Q (R.from d)
edge_kept {R} {Q} K d l = elim (side d) [
  | first_side a b ↦ ap (λ k. Q (R.from k)) (sym a)
  | second_side a b ↦ ap (λ k. Q (R.from k)) (sym b) ∙ K.edge d l
]

pub links_label : {R : Rotation} → Lawful R → Labelling R (spot (links R (live_edges R edges)))
links_label {R} L = record {
  sound = links_sound L (live_edges R edges) (λ e h. (listed_edge R edges e h).1);
  same = λ d l.
      let on : R.live (2 * (d / 2)) ≡ true = live_edge L d ∙ l in
      let s = links_same R (live_edges R edges) (d / 2) (edge_listed R edges (d / 2) (live_edge_low L (d / 2) on) on) in
      let at : ℕ → ℕ = λ k. (spot (links R (live_edges R edges)) (R.from k)).label in
      elim (side d) [
        | first_side a b ↦ ap at b ∙ sym s ∙ ap at (sym a)
        | second_side a b ↦ ap at b ∙ s ∙ ap at (sym a)
      ];
}
