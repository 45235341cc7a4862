-- The writes that put a dart into a corner and take one out change no length.
use Rattle.std.specs.Prelude.{ℕ, ◌-◌, ◌<◌, ◌≡◌, refl, List}
use Rattle.std.proofs.Common.{arith, sym, ◌∙◌, ap}
use Rattle.std.proofs.Math.Decide.{dec_lt}
use Rattle.table.specs.Layout.{darts, vertices, next_word, prev_word, leaves, length_word, lone_at, nothing}
use Rattle.table.specs.Writes.{set_next, set_prev, set_leaves}
use Rattle.table.specs.laws.Writes.{length_next, length_prev, length_leaves, length_vertex}
use Rattle.edits.specs.Edge.{tie, splice, cut, taken, unlink, link}
use Rattle.edits.proofs.laws.Edge.{dart_link, link_past}
use Rattle.edits.proofs.laws.Ready.{LinkReady, UnlinkReady}

module _ (t : List ℕ) (j : ℕ) where
  tie_length : (a b : ℕ) → a < darts → b < darts → length_word (tie t a b) j ≡ length_word t j
  tie_length a b h l = length_prev (set_next t a b) b a j l ∙ length_next t a b j h

splice_length : (t : List ℕ) (j x d p v w : ℕ) → x < darts → d < darts → p < darts → v < vertices → length_word (splice t x d p v w) j ≡ length_word t j
splice_length t j x d p v w hx hd hp hv =
    length_vertex (set_leaves (tie (tie t x d) p x) x v) v w j hv
    ∙ length_leaves (tie (tie t x d) p x) x v j hx
    ∙ tie_length (tie t x d) j p x hp hx
    ∙ tie_length t j x d hx hd

pub link_length : (t : List ℕ) (j x c : ℕ) → LinkReady t x c → length_word (link t x c) j ≡ length_word t j
link_length t j x c r = elim (dec_lt c darts) [
  | yes h ↦
      ap (λ u. length_word u j) (sym (dart_link t x c _ h refl))
      ∙ splice_length t j x c (prev_word t c) (leaves t c) _ r.x_low h (r.prev_low h) (r.leaves_low h)
  | no h ↦
      ap (λ u. length_word u j) (link_past t x c (omega arith))
      ∙ splice_length t j x x x (c - lone_at) x r.x_low r.x_low r.x_low (r.lone_low (omega arith))
]

cut_length_lem : (t : List ℕ) (j x n p : ℕ) → x < darts → n < darts → p < darts → length_word (cut t x n p) j ≡ length_word t j
cut_length_lem t j x n p hx hn hp =
    length_leaves (set_prev (set_next (tie t p n) x nothing) x nothing) x nothing j hx
    ∙ length_prev (set_next (tie t p n) x nothing) x nothing j hx
    ∙ length_next (tie t p n) x nothing j hx
    ∙ tie_length t j p n hp hn

pub unlink_length : (t : List ℕ) (j x : ℕ) → UnlinkReady t x → length_word (unlink t x) j ≡ length_word t j
unlink_length t j x r =
    length_vertex (taken t x) (leaves t x) _ j r.leaves_low
    ∙ cut_length_lem t j x (next_word t x) (prev_word t x) r.x_low r.next_low r.prev_low
