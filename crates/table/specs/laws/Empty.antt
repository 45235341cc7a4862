-- The empty mesh: no dart, no edge and no vertex is live. It is a good table.
--     empty_word, empty_word_lem                            word i of the empty mesh
--     empty_dart, empty_edge, empty_vertex, empty_length    each kind of word
--     empty_size, empty_good                                its size; it is a good table
--     Filled                                                one word stands from an index up to n, the others are as before
--     filled_none, filled_more, filled_all                  filling begins, goes on; the four fillings give the empty mesh
use Rattle.std.specs.Prelude.{ℕ, ◌+◌, ◌-◌, ◌≤◌, ◌<◌, ◌≡◌, refl, List, ◌++◌, length, get_or, set, replicate, ltb, cond}
use Rattle.std.proofs.Common.{arith, sym, ◌∙◌, ap, length-append, length-set, ext_get_or, get_or-append-add, get_or-set_same, get_or-set_other, lt-ltb, le-ltb}
use Rattle.std.proofs.Math.Decide.{dec_lt, ℕ_discrete}
use Rattle.std.proofs.lemmas.List.{length-replicate, get_or-replicate}
use Rattle.std.proofs.Math.ListN.{get_or-append}
use Rattle.table.specs.Layout.{words, edges, vertices, nothing, edge_word, vertex_word, length_word, edge_of, edge_at, vertex_at, length_at, Live}
use Rattle.table.specs.Good.{Good}
use Rattle.table.specs.Empty.{empty_table}

-- word i of the empty mesh
abbrev pub empty_word : ℕ → ℕ
empty_word i = cond (ltb i edge_at) nothing (cond (ltb i vertex_at) 0 (cond (ltb i length_at) nothing 0))

-- a run of one word, and what follows it
module _ (a x : ℕ) (l : List ℕ) (i : ℕ) where
  in_run : i < a → get_or (replicate a x ++ l) i 0 ≡ x
  in_run h = get_or-append (replicate a x) l 0 i (rw (length-replicate a x) h) ∙ get_or-replicate a i x 0 h

  past_run : get_or (replicate a x ++ l) (a + i) 0 ≡ get_or l i 0
  past_run = rw (length-replicate a x) at (get_or-append-add (replicate a x) l i 0)

-- four runs, of a, b, c and n words
module _ (a b c n x y z w i : ℕ) where
  abbrev runs : List ℕ
  runs = replicate a x ++ (replicate b y ++ (replicate c z ++ replicate n w))

  first_run : i < a → get_or runs i 0 ≡ x
  first_run h = in_run a x _ i h

  second_run : i < b → get_or runs (a + i) 0 ≡ y
  second_run h = past_run a x _ i ∙ in_run b y _ i h

  third_run : i < c → get_or runs (a + (b + i)) 0 ≡ z
  third_run h = past_run a x _ (b + i) ∙ past_run b y _ i ∙ in_run c z _ i h

  fourth_run : i < n → get_or runs (a + (b + (c + i))) 0 ≡ w
  fourth_run h = past_run a x _ (b + (c + i)) ∙ past_run b y _ (c + i) ∙ past_run c z _ i ∙ get_or-replicate n i w 0 h

pub empty_dart : (i : ℕ) → i < edge_at → get_or empty_table i 0 ≡ nothing
unfolding empty_table
empty_dart i h = first_run edge_at edges vertices edges nothing 0 nothing 0 i h

pub empty_edge : (e : ℕ) → e < edges → edge_word empty_table e ≡ 0
unfolding empty_table
empty_edge e h = second_run edge_at edges vertices edges nothing 0 nothing 0 e h

pub empty_vertex : (v : ℕ) → v < vertices → vertex_word empty_table v ≡ nothing
unfolding empty_table
empty_vertex v h = let s : vertex_at + v ≡ edge_at + (edges + v) = omega arith in rw s (third_run edge_at edges vertices edges nothing 0 nothing 0 v h)

pub empty_length : (e : ℕ) → e < edges → length_word empty_table e ≡ 0
unfolding empty_table
empty_length e h =
    let s : length_at + e ≡ edge_at + (edges + (vertices + e)) = omega arith in
    rw s (fourth_run edge_at edges vertices edges nothing 0 nothing 0 e h)

pub empty_size : length empty_table ≡ words
unfolding empty_table
empty_size = size edge_at edges vertices edges
  where
    size : (a b c n : ℕ) → length (replicate a nothing ++ (replicate b 0 ++ (replicate c nothing ++ replicate n 0))) ≡ a + (b + (c + n))
    size a b c n = simp (length-append, length-replicate)

pub empty_word_lem : (i : ℕ) → i < words → get_or empty_table i 0 ≡ empty_word i
empty_word_lem i h = elim (dec_lt i edge_at) [
  | yes l ↦ rw (lt-ltb i edge_at l) (empty_dart i l)
  | no l ↦ elim (dec_lt i vertex_at) [
    | yes m ↦
        let s : i ≡ edge_at + (i - edge_at) = omega arith in
        rw (le-ltb i edge_at (omega arith), lt-ltb i vertex_at m) (ap (λ k. get_or empty_table k 0) s ∙ empty_edge (i - edge_at) (omega arith))
    | no m ↦ elim (dec_lt i length_at) [
      | yes n ↦
          let s : i ≡ vertex_at + (i - vertex_at) = omega arith in
          rw (le-ltb i edge_at (omega arith), le-ltb i vertex_at (omega arith), lt-ltb i length_at n) (ap (λ k. get_or empty_table k 0) s ∙ empty_vertex (i - vertex_at) (omega arith))
      | no n ↦
          let s : i ≡ length_at + (i - length_at) = omega arith in
          rw (le-ltb i edge_at (omega arith), le-ltb i vertex_at (omega arith), le-ltb i length_at (omega arith)) (ap (λ k. get_or empty_table k 0) s ∙ empty_length (i - length_at) (omega arith))
    ]
  ]
]

-- no dart is live
empty_dead : (d : ℕ) → Live empty_table d → ⊥
empty_dead d l = let low = l.low in l.on (empty_edge (edge_of d) (omega arith))

pub empty_good : Good empty_table
empty_good = record {
  size = empty_size;
  turns = λ e h. rw (empty_edge e h) (omega arith);
  bare = λ d h _. record {
    next_none = empty_dart d (omega arith);
    prev_none = empty_dart _ (omega arith);
    leaves_none = empty_dart _ (omega arith);
  };
  lengths = λ e h. record { some = λ on. absurd (on (empty_edge e h)); none = λ _. empty_length e h; most = rw (empty_length e h) (omega arith) };
  leaves_low = λ d l. absurd (empty_dead d l);
  leaves_live = λ d l. absurd (empty_dead d l);
  next_live = λ d l. absurd (empty_dead d l);
  prev_live = λ d l. absurd (empty_dead d l);
  prev_next = λ d l. absurd (empty_dead d l);
  next_prev = λ d l. absurd (empty_dead d l);
  next_leaves = λ d l. absurd (empty_dead d l);
  one_cycle = λ d d' l. absurd (empty_dead d l);
  alone = λ v h i d l. absurd (empty_dead d l);
  smallest = λ v h n. absurd (n (empty_vertex v h));
}

-- w stands from index `from` on, up to n; the other words are those of before
pub record Filled (t₀ : List ℕ) (from n w : ℕ) (t : List ℕ) : Type 0 where
  pub size : length t ≡ length t₀
  pub inside : (k : ℕ) → from ≤ k → k < n → get_or t k 0 ≡ w
  pub outside : (k : ℕ) → (from ≤ k → k < n → ⊥) → get_or t k 0 ≡ get_or t₀ k 0

pub filled_none : (t : List ℕ) (i w : ℕ) → Filled t i i w t
filled_none t i w = record { size = refl; inside = λ k a b. absurd (none k a b); outside = λ k n. refl }
  where
    none : (k : ℕ) → i ≤ k → k < i → ⊥
    none k a b = omega arith

pub filled_more : {t₀ : List ℕ} {from n w : ℕ} {t : List ℕ} → Filled t₀ from n w t → from ≤ n → n < length t₀ → Filled t₀ from (n + 1) w (set t n w)
filled_more {t₀} {from} {n} {w} {t} f h l = record {
  size = length-set t n w ∙ f.size;
  inside = λ k a b. elim (ℕ_discrete k n) [
    | yes q ↦ rw q (get_or-set_same t n w 0 (rw f.size l))
    | no q ↦ get_or-set_other t n k w 0 q ∙ f.inside k a (omega arith)
  ];
  outside = λ k o. elim (ℕ_discrete k n) [
    | yes q ↦ absurd (o (omega arith) (omega arith))
    | no q ↦ get_or-set_other t n k w 0 q ∙ f.outside k (λ a b. o a (omega arith))
  ];
}

-- the four kinds of words, one after the other
pub filled_all : {t a b c n : List ℕ} → length t ≡ words → Filled t 0 edge_at nothing a → Filled a edge_at vertex_at 0 b → Filled b vertex_at length_at nothing c
    → Filled c length_at words 0 n → n ≡ empty_table
filled_all {t} {a} {b} {c} {n} s f g h j =
    let size = j.size ∙ h.size ∙ g.size ∙ f.size ∙ s in
    ext_get_or 0 n empty_table (size ∙ sym empty_size) (λ k l. word k (rw size at l) ∙ sym (empty_word_lem k (rw size at l)))
  where
    word : (k : ℕ) → k < words → get_or n k 0 ≡ empty_word k
    word k l = elim (dec_lt k edge_at) [
      | yes d ↦
          rw (lt-ltb k edge_at d)
          (j.outside k (λ p q. omega arith) ∙ h.outside k (λ p q. omega arith) ∙ g.outside k (λ p q. omega arith) ∙ f.inside k (omega arith) d)
      | no d ↦ elim (dec_lt k vertex_at) [
        | yes e ↦
            rw (le-ltb k edge_at (omega arith), lt-ltb k vertex_at e)
            (j.outside k (λ p q. omega arith) ∙ h.outside k (λ p q. omega arith) ∙ g.inside k (omega arith) e)
        | no e ↦ elim (dec_lt k length_at) [
          | yes m ↦
              rw (le-ltb k edge_at (omega arith), le-ltb k vertex_at (omega arith), lt-ltb k length_at m) (j.outside k (λ p q. omega arith) ∙ h.inside k (omega arith) m)
          | no m ↦ rw (le-ltb k edge_at (omega arith), le-ltb k vertex_at (omega arith), le-ltb k length_at (omega arith)) (j.inside k (omega arith) l)
        ]
      ]
    ]
