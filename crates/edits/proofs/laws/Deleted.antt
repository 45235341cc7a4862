-- Edge e taken out of a good table: what is left is good, and its rotation is the old one without e.
--     deleted_good                                  the table is good
--     deleted_without                               its rotation is the old one without e
--     deleted_own, deleted_other, deleted_length    the edge words and lengths after it
--     delete_ready                                  the words that the deletion follows are in range
--     bare, left                                    the table with both darts out; the darts that are left
use Rattle.std.specs.Prelude.{ℕ, ◌+◌, ◌*◌, ◌%◌, ◌≤◌, ◌<◌, ◌≡◌, Bool, true, ◌&&◌, List, ◌≢◌, length}
use Rattle.std.proofs.Common.{arith, sym, ◌∙◌, subst}
use Rattle.std.proofs.Math.Decide.{ℕ_discrete}
use Rattle.std.proofs.Math.Path.{ap, fun_ext}
use Rattle.orbits.proofs.laws.Truth.{clash, both, both_left, both_right, same_truth}
use Rattle.orbits.proofs.laws.Count.{without, without_at, without_other, without_on}
use Rattle.table.specs.Layout.{vertices, edges, darts, words, leaves, edge_word, vertex_word, length_word, edge_of, edge_word_most}
use Rattle.table.specs.Good.{Good, LengthRule}
use Rattle.table.specs.Rotation.{rotation, live?, next_dart, turns_of, there?}
use Rattle.table.specs.laws.Rotation.{live_yes, yes_live, there_yes, there_word}
use Rattle.table.specs.laws.Writes.{upd, upd_at, upd_off, upd_same}
use Rattle.surgery.specs.Without.{bypass, Without, apart}
use Rattle.surgery.proofs.laws.Without.{apart_own, apart_other}
use Rattle.edits.proofs.laws.Held.{Held, good_held, held_good, next_in}
use Rattle.edits.specs.Edge.{unlink, deleted}
use Rattle.edits.proofs.laws.Unlink.{Shrunk}
use Rattle.edits.proofs.laws.Ready.{DeleteReady, unlink_ready}
use Rattle.edits.proofs.laws.Edge.{unlink_shrunk, own_edge, own_length, own_leaves, own_vertex, own_held, own_next, next_of}
use Rattle.edits.proofs.laws.Lengths.{unlink_length}

module _ (t : List ℕ) (g : Good t) (e : ℕ) (h : e < edges) (on : edge_word t e ≢ 0) where
  own : (d : ℕ) → d < darts → edge_of d ≡ e → live? t d ≡ true
  own d l q = yes_live t d (record { low = l; on = rw q on })

  once : Shrunk t (unlink t (2 * e)) (live? t) (2 * e)
  once = unlink_shrunk t (live? t) (good_held t g) (2 * e) (own (2 * e) (omega arith) (omega arith))

  twice : Shrunk (unlink t (2 * e)) (unlink (unlink t (2 * e)) (2 * e + 1)) (without (live? t) (2 * e)) (2 * e + 1)
  twice =
      unlink_shrunk (unlink t (2 * e)) (without (live? t) (2 * e)) once.held (2 * e + 1)
      (without_other (live? t) (2 * e) (2 * e + 1) (omega arith) ∙ own (2 * e + 1) (omega arith) (omega arith))

  pub delete_ready : DeleteReady t e
  delete_ready = record {
    low = h;
    first = unlink_ready t (live? t) (good_held t g) (2 * e) (own (2 * e) (omega arith) (omega arith));
    second = unlink_ready (unlink t (2 * e)) (without (live? t) (2 * e)) once.held (2 * e + 1)
        (without_other (live? t) (2 * e) (2 * e + 1) (omega arith) ∙ own (2 * e + 1) (omega arith) (omega arith));
  }

  abbrev bare : List ℕ
  bare = unlink (unlink t (2 * e)) (2 * e + 1)

  abbrev left : ℕ → Bool
  left = without (without (live? t) (2 * e)) (2 * e + 1)

  size : length bare ≡ words
  size = twice.held.size

  pub deleted_other : (i : ℕ) → i < edges → i ≢ e → edge_word (deleted t e) i ≡ edge_word t i
  deleted_other i l n = own_edge bare e 0 0 h size i l ∙ upd_off (edge_word bare) e 0 i n ∙ twice.edge i l ∙ once.edge i l

  pub deleted_own : edge_word (deleted t e) e ≡ 0
  deleted_own = own_edge bare e 0 0 h size e h ∙ upd_at (edge_word bare) e 0

  -- a dart is left if it was live and is no dart of e
  left_means : (d : ℕ) → left d ≡ true → (live? t d ≡ true) × (edge_of d ≢ e)
  left_means d l =
      let m = without_on (without (live? t) (2 * e)) (2 * e + 1) d l in
      let second : d ≢ 2 * e + 1 = λ q. clash (rw q at l) (without_at (without (live? t) (2 * e)) (2 * e + 1)) in
      let first : d ≢ 2 * e = λ q. clash (rw q at m) (without_at (live? t) (2 * e)) in
      (without_on (live? t) (2 * e) d m, omega arith)

  means_left : (d : ℕ) → live? t d ≡ true → edge_of d ≢ e → left d ≡ true
  means_left d l n = without_other (without (live? t) (2 * e)) (2 * e + 1) d (omega arith) ∙ without_other (live? t) (2 * e) d (omega arith) ∙ l

  live_left : (d : ℕ) → live? (deleted t e) d ≡ left d
  live_left d = same_truth (live? (deleted t e) d) (left d)
      (λ l.
      let v = live_yes (deleted t e) d l in
      let low = v.low in
      let n : edge_of d ≢ e = λ q. v.on (ap (edge_word (deleted t e)) q ∙ deleted_own) in
      means_left d (yes_live t d (record { low = low; on = rw (deleted_other (edge_of d) (omega arith) n) at v.on })) n)
      (λ l.
      let m = left_means d l in
      let v = live_yes t d m.0 in
      let low = v.low in
      yes_live (deleted t e) d (record { low = low; on = rw (deleted_other (edge_of d) (omega arith) m.1) v.on }))

  same_live : left ≡ live? (deleted t e)
  same_live = fun_ext (λ d. sym (live_left d))

  turns_low : (i : ℕ) → i < edges → edge_word (deleted t e) i ≤ edge_word_most
  turns_low i l = elim (ℕ_discrete i e) [
    | yes q ↦ rw (q, deleted_own) (omega arith)
    | no n ↦ rw (deleted_other i l n) (g.turns i l)
  ]

  -- every other edge keeps its length
  pub deleted_length : (i : ℕ) → length_word (deleted t e) i ≡ upd (length_word t) e 0 i
  deleted_length i =
      own_length bare e 0 0 h size i
      ∙ upd_same (length_word bare) (length_word t) e 0 i (unlink_length (unlink t (2 * e)) i (2 * e + 1) delete_ready.second ∙ unlink_length t i (2 * e) delete_ready.first)

  lengths_fit : (i : ℕ) → i < edges → LengthRule (deleted t e) i
  lengths_fit i l = elim (ℕ_discrete i e) [
    | yes q ↦
        let is : length_word (deleted t e) i ≡ 0 = rw q (deleted_length e ∙ upd_at (length_word t) e 0) in
        record { some = λ on. absurd (on (rw q deleted_own)); none = λ _. is; most = rw is (omega arith) }
    | no o ↦
        let is : length_word (deleted t e) i ≡ length_word t i = deleted_length i ∙ upd_off (length_word t) e 0 i o in
        let f = g.lengths i l in
        let word = deleted_other i l o in
        record { some = λ w. rw is (f.some (rw word at w)); none = λ z. is ∙ f.none (sym word ∙ z); most = rw is f.most }
  ]

  pub deleted_good : Good (deleted t e)
  deleted_good = held_good (deleted t e) (subst (λ L. Held (deleted t e) L) same_live (own_held bare e 0 0 h left twice.held)) turns_low lengths_fit

  deleted_next : (d : ℕ) → next_dart (deleted t e) d ≡ bypass (bypass (next_dart t) (2 * e)) (2 * e + 1) d
  deleted_next d =
      next_of (deleted t e) d ∙ ap (λ L. next_in (deleted t e) L d) (sym same_live) ∙ own_next bare e 0 0 h left twice.held d ∙ twice.next d
      ∙ ap (λ f. bypass f (2 * e + 1) d) (fun_ext once.next) ∙ ap (λ f. bypass (bypass f (2 * e)) (2 * e + 1) d) (sym (fun_ext (next_of t)))

  deleted_from : (d : ℕ) → live? (deleted t e) d ≡ true → leaves (deleted t e) d ≡ leaves t d
  deleted_from d l =
      let m = left_means d (sym (live_left d) ∙ l) in
      let n = m.1 in
      let low = (live_yes t d m.0).low in
      own_leaves bare e 0 0 h d low ∙ twice.from d low (omega arith) ∙ once.from d low (omega arith)

  deleted_there : (v : ℕ) → there? (deleted t e) v ≡ there? t v
  deleted_there v = same_truth (there? (deleted t e) v) (there? t v)
      (λ y. let w = there_word (deleted t e) v y in there_yes t v w.0 (λ z. w.1 (same w.0 ∙ (twice.there v w.0).1 ((once.there v w.0).1 z))))
      (λ y. let w = there_word t v y in there_yes (deleted t e) v w.0 (λ z. w.1 ((once.there v w.0).0 ((twice.there v w.0).0 (sym (same w.0) ∙ z)))))
    where
      same : v < vertices → vertex_word (deleted t e) v ≡ vertex_word bare v
      same l = own_vertex bare e 0 0 h v l

  pub deleted_without : Without (rotation t) e (rotation (deleted t e))
  unfolding turns_of
  deleted_without = record {
    here = own (2 * e) (omega arith) (omega arith);
    live = λ d. live_left d ∙ same_truth (left d) (live? t d && apart e d)
        (λ l. let m = left_means d l in both m.0 (apart_other e d m.1))
        (λ l. means_left d (both_left (live? t d) (apart e d) l) (λ q. clash (both_right (live? t d) (apart e d) l) (apart_own e d q)));
    next = deleted_next;
    turns = λ d l.
        let m = left_means d (sym (live_left d) ∙ l) in
        let low = (live_yes t d m.0).low in
        ap (λ w. w % 2) (deleted_other (edge_of d) (omega arith) m.1);
    from = deleted_from;
    there = deleted_there;
  }
