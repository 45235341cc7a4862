-- Counting by label in an array of 512 words: how many numbers below n pass a test, for each key. V, E, F and the twisted edges of each part
-- are counted so, each with one word for a label.
--     Tally                                                         the array, after the numbers below n
--     tally_none, tally_begin, tally_more, tally_skip, tally_low    it begins, at zeros or not; counts one, skips one; its words stay small
--     Keyed, labelled_keyed                                         the array of labels, as the counting code is handed it
--     VertexTally, EdgeTally, TwistTally, WalkTally, LoneTally      what is counted
--     twist_sum, starts_in                                          turns and marks at an edge, added; the walks that start in a part
use Rattle.std.specs.Prelude.{ℕ, ◌+◌, ◌*◌, ◌%◌, ◌<◌, ◌≤◌, ◌≡◌, Bool, true, false, not, ◌&&◌, List, eqb, length, set, replicate}
use Rattle.std.proofs.Common.{arith, ◌∙◌, get_or-set_other}
use Rattle.std.proofs.Math.Numerals.{add-one}
use Rattle.std.proofs.Math.Decide.{ℕ_discrete}
use Rattle.std.proofs.Math.Path.{sym}
use Rattle.std.proofs.Math.ListN.{get_or, length-set}
use Rattle.std.proofs.lemmas.List.{length-replicate, get_or-replicate}
use Rattle.std.proofs.Math.Seq.{get_or-set_same}
use borrow.Author.Tests.{eq-eqb, ne_eqb}
use Rattle.table.specs.Layout.{vertices, darts, leaves, edge_word}
use Rattle.table.specs.Good.{Good}
use Rattle.table.specs.Rotation.{rotation, there?, alone?, live?}
use Rattle.table.specs.laws.Lawful.{good_lawful}
use Rattle.orbits.specs.Count.{count}
use Rattle.orbits.proofs.laws.Count.{count_le}
use Rattle.tracing.proofs.laws.Starts.{start?}
use Rattle.surface.specs.Labels.{label}
use Rattle.surface.proofs.laws.Labels.{label_is}
use Rattle.surface_parts.specs.laws.Forest.{up_low}
use Rattle.surface_parts.specs.laws.Linking.{Labelled}

pub record Tally (base : ℕ → ℕ) (b : ℕ → Bool) (key : ℕ → ℕ) (n : ℕ) (out : List ℕ) : Type 0 where
  pub size : length out ≡ vertices
  pub at : (r : ℕ) → r < vertices → get_or out r 0 ≡ base r + count (λ i. b i && eqb (key i) r) n

pub tally_none : (b : ℕ → Bool) (key : ℕ → ℕ) → Tally (λ r. 0) b key 0 (replicate vertices 0)
unfolding count
tally_none b key = record { size = length-replicate {A = ℕ} vertices 0; at = λ r h. get_or-replicate {A = ℕ} vertices r 0 0 h }

pub tally_begin : (base : ℕ → ℕ) (b : ℕ → Bool) (key : ℕ → ℕ) (out : List ℕ) → length out ≡ vertices → ((r : ℕ) → r < vertices → get_or out r 0 ≡ base r)
    → Tally base b key 0 out
unfolding count
tally_begin base b key out s e = record { size = s; at = λ r h. let z = e r h in omega arith }

module _ {base : ℕ → ℕ} {b : ℕ → Bool} {key : ℕ → ℕ} {n : ℕ} {out : List ℕ} (K : Tally base b key n out) where
  pub tally_skip : b n ≡ false → Tally base b key (n + 1) out
  unfolding count
  tally_skip f = record { size = K.size; at = λ r h. rw (add-one n, f) (K.at r h) }

  pub tally_more : b n ≡ true → {k : ℕ} → k ≡ key n → k < vertices → Tally base b key (n + 1) (set out k (get_or out k 0 + 1))
  unfolding count
  tally_more t {k} e l = record {
    size = length-set out k (get_or out k 0 + 1) ∙ K.size;
    at = λ r h. elim (ℕ_discrete r k) [
      | yes q ↦
          let own : get_or (set out k (get_or out k 0 + 1)) k 0 ≡ get_or out k 0 + 1 = get_or-set_same out k (get_or out k 0 + 1) 0 (rw K.size l) in
          let was = K.at k l in
          rw (q, own, add-one n, t, eq-eqb (key n) k (sym e)) (omega arith)
      | no d ↦
          rw (get_or-set_other out k r (get_or out k 0 + 1) 0 d, add-one n, t, ne_eqb (key n) r (λ z. d (sym z ∙ sym e))) (K.at r h)
    ];
  }

  pub tally_low : (r : ℕ) → r < vertices → get_or out r 0 ≤ base r + n
  tally_low r h = let a = K.at r h in let c = count_le (λ i. b i && eqb (key i) r) n in omega arith

-- a good table and the labels of its vertices
pub record Keyed (t up : List ℕ) : Type 0 where
  pub good : Good t
  pub label : (w : ℕ) → w < vertices → get_or up w 0 ≡ label (rotation t) w
  pub low : (w : ℕ) → w < vertices → get_or up w 0 < vertices

pub labelled_keyed : {t up turn : List ℕ} → Good t → Labelled t up turn → Keyed t up
labelled_keyed {t} g H = record {
  good = g;
  label = λ w h. H.label w h ∙ label_is (good_lawful t g) H.labelling w;
  low = λ w h. up_low H.shape h;
}

-- what is counted: vertices, edges, twisted edges, starts of walks, isolated vertices
abbrev pub VertexTally : List ℕ → ℕ → List ℕ → Type 0
VertexTally t n out = Tally (λ r. 0) (there? t) (label (rotation t)) n out

abbrev pub EdgeTally : List ℕ → ℕ → List ℕ → Type 0
EdgeTally t n out = Tally (λ r. 0) (λ e. live? t (2 * e)) (λ e. label (rotation t) (leaves t (2 * e))) n out

-- the turns of edge e and the parities of the marks of its ends, added
abbrev pub twist_sum : List ℕ → List ℕ → ℕ → ℕ
twist_sum t turn e = (edge_word t e % 2 + get_or turn (leaves t (2 * e)) 0 + get_or turn (leaves t (2 * e + 1)) 0) % 2

abbrev pub TwistTally : List ℕ → List ℕ → ℕ → List ℕ → Type 0
TwistTally t turn n out =
    Tally (λ r. 0) (λ e. live? t (2 * e) && not (eqb (twist_sum t turn e) 0)) (λ e. label (rotation t) (leaves t (2 * e))) n out

abbrev pub WalkTally : List ℕ → ℕ → List ℕ → Type 0
WalkTally t n out = Tally (λ r. 0) (start? (rotation t)) (λ d. label (rotation t) (leaves t d)) n out

abbrev pub starts_in : List ℕ → ℕ → ℕ
starts_in t r = count (λ d. start? (rotation t) d && eqb (label (rotation t) (leaves t d)) r) darts

abbrev pub LoneTally : List ℕ → ℕ → List ℕ → Type 0
LoneTally t n out = Tally (starts_in t) (alone? t) (label (rotation t)) n out
