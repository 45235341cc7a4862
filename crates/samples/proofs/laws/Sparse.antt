-- A table as the words that were written over the empty mesh, the latest first: a place and its word. A read costs as many steps as
-- there are writes, whatever the place.
--     Writes, table_of               the writes; the table that they leave
--     read, lookup, put_read        what its words are
--     span, span_room, span_past    how many names of a kind may be live
use Rattle.std.specs.Prelude.{ℕ, suc, ◌+◌, ◌-◌, ◌<◌, ◌≤◌, max, ◌≡◌, refl, true, false, cond, List, [], ◌∷◌, eqb, ltb, length, get_or, set}
use Rattle.std.proofs.Common.{arith, sym, ◌∙◌, ap, length-set, get_or-set_same, get_or-set_other, eq-eqb, ne_eqb, lt-ltb, le-ltb}
use Rattle.std.proofs.Math.Decide.{ℕ_discrete, dec_lt}
use Rattle.std.proofs.Math.Path.{fun_ext}
use Rattle.std.proofs.Math.ListN.{get_or-eq_default}
use Rattle.table.specs.Layout.{words}
use Rattle.table.specs.Empty.{empty_table}
use Rattle.table.specs.laws.Empty.{empty_word, empty_word_lem, empty_size}

abbrev pub Writes : Type 0
Writes = List (ℕ × ℕ)

unfoldable pub table_of : Writes → List ℕ
table_of [] = empty_table
table_of (w ∷ ws) = set (table_of ws) w.0 w.1

unfoldable pub lookup : Writes → ℕ → ℕ
lookup [] i = empty_word i
lookup (w ∷ ws) i = elim (eqb i w.0) [ true ↦ w.1 | false ↦ lookup ws i ]

unfoldable pub read : Writes → ℕ → ℕ
read ws i = elim (ltb i words) [ true ↦ lookup ws i | false ↦ 0 ]

put_size : (ws : Writes) → length (table_of ws) ≡ words
unfolding table_of
put_size [] = empty_size
put_size (w ∷ ws) = length-set (table_of ws) w.0 w.1 ∙ put_size ws

put_lookup : (ws : Writes) (i : ℕ) → i < words → get_or (table_of ws) i 0 ≡ lookup ws i
unfolding table_of lookup
put_lookup [] i h = empty_word_lem i h
put_lookup (w ∷ ws) i h = elim (ℕ_discrete i w.0) [
  | yes e ↦
      let same : get_or (set (table_of ws) i w.1) i 0 ≡ w.1 = get_or-set_same (table_of ws) i w.1 0 (rw (put_size ws) h) in
      rw (eq-eqb i w.0 e, lookup) (ap (λ k. get_or (set (table_of ws) k w.1) i 0) (sym e) ∙ same)
  | no n ↦ rw (ne_eqb i w.0 n, lookup) (get_or-set_other (table_of ws) w.0 i w.1 0 n ∙ put_lookup ws i h)
]

read_at_lem : (ws : Writes) (i : ℕ) → get_or (table_of ws) i 0 ≡ read ws i
unfolding read
read_at_lem ws i = elim (dec_lt i words) [
  | yes h ↦ rw (lt-ltb i words h, read) (put_lookup ws i h)
  | no h ↦ rw (le-ltb i words (omega arith), read) (get_or-eq_default (table_of ws) 0 (rw (put_size ws) (omega arith)))
]

pub put_read : (ws : Writes) → (λ i. get_or (table_of ws) i 0) ≡ read ws
put_read ws = fun_ext (read_at_lem ws)

-- one more than the last of the places from a on, below b, that are written, counted from a
unfoldable pub span : ℕ → ℕ → Writes → ℕ
span a b [] = 0
span a b (w ∷ ws) = max (cond (ltb w.0 b) (suc w.0 - a) 0) (span a b ws)

pub span_room : (a b : ℕ) (ws : Writes) → span a b ws ≤ b - a
unfolding span
span_room a b [] = omega arith
span_room a b (w ∷ ws) =
    let rest = span_room a b ws in
    elim (dec_lt w.0 b) [
      | yes h ↦ rw (lt-ltb w.0 b h) (omega arith)
      | no h ↦ rw (le-ltb w.0 b (omega arith)) (omega arith)
    ]

-- past it the words are the empty mesh's
pub span_past : (a b : ℕ) (ws : Writes) (i : ℕ) → a + i < b → b ≤ words → span a b ws ≤ i → read ws (a + i) ≡ empty_word (a + i)
unfolding span lookup read
span_past a b ws i h l s = rw (lt-ltb (a + i) words (omega arith), read) (past ws s)
  where
    here : (w : ℕ × ℕ) (ws : Writes) → a + i ≡ w.0 → span a b (w ∷ ws) ≤ i → ⊥
    here w ws e s = let t : max (suc w.0 - a) (span a b ws) ≤ i = rw (lt-ltb w.0 b (omega arith)) at s in omega arith

    past : (ws : Writes) → span a b ws ≤ i → lookup ws (a + i) ≡ empty_word (a + i)
    past [] s = refl
    past (w ∷ ws) s = elim (ℕ_discrete (a + i) w.0) [
      | yes e ↦ absurd (here w ws e s)
      | no n ↦ rw (ne_eqb (a + i) w.0 n, lookup) (past ws (omega arith))
    ]
