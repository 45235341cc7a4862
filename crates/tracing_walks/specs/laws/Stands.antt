-- A good table with a live dart, or with a step on one: what the code that walks it is handed, and what it may then read.
--     LiveDart, Stands                          a good table with a live dart; with a step on one
--     Near, near                                the words of a live dart are in range
--     stands_dart, stands_rev                   its dart and the reverse are live
--     stands_low, stands_step, stands_corner    it is a step word; the next step stands too; its corner is a dart
--     around_next_word, around_prev_word        the step around a dart, from the table's words
--     corner_next_word                          the corner of a step of type 1, from the table's words
use Rattle.std.specs.Prelude.{ℕ, ◌+◌, ◌*◌, ◌/◌, ◌%◌, ◌<◌, ◌≤◌, ◌≡◌, true, List, length}
use Rattle.std.proofs.Common.{arith, sym, ◌∙◌, ne_eqb}
use Rattle.table.specs.Layout.{words, darts, edge_of, next_word, prev_word, edge_word, rev, edge_word_most}
use Rattle.table.specs.Good.{Good}
use Rattle.table.specs.Rotation.{rotation, live?}
use Rattle.table.specs.laws.Rotation.{next_dart_live, prev_dart_live, live_yes}
use Rattle.table.specs.laws.Lawful.{good_lawful}
use Rattle.tracing.specs.Step.{steps, around, step, corner}
use Rattle.tracing.proofs.laws.Step.{type?, is_zero, is_one, next_dart_lem, around_next, corner_zero, corner_one, step_live}

pub record LiveDart (t : List ℕ) (d : ℕ) : Type 0 where
  pub good : Good t
  pub live : live? t d ≡ true

pub record Stands (t : List ℕ) (s : ℕ) : Type 0 where
  pub good : Good t
  pub live : live? t (s / 2) ≡ true

-- what the words that a step reads are bounded by
pub record Near (t : List ℕ) (d : ℕ) : Type 0 where
  pub size : length t ≡ words
  pub dart : d < darts
  pub next : next_word t d < darts
  pub prev : prev_word t d < darts
  pub edge : edge_word t (edge_of d) ≤ edge_word_most

module _ {t : List ℕ} where
  pub near : {d : ℕ} → LiveDart t d → Near t d
  near {d} h =
      let l = live_yes t d h.live in
      record {
        size = h.good.size;
        dart = l.low;
        next = (h.good.next_live d l).low;
        prev = (h.good.prev_live d l).low;
        edge = h.good.turns (edge_of d) (let low = l.low in omega arith);
      }

  pub stands_dart : {s : ℕ} → Stands t s → LiveDart t (s / 2)
  stands_dart h = record { good = h.good; live = h.live }

  pub stands_rev : {s : ℕ} → Stands t s → LiveDart t (rev (s / 2))
  stands_rev {s} h = record { good = h.good; live = (good_lawful t h.good).live_rev (s / 2) ∙ h.live }

  pub stands_low : {s : ℕ} → Stands t s → s < steps
  stands_low {s} h = let n = near (stands_dart h) in omega arith

  pub stands_step : {s : ℕ} → Stands t s → Stands t (step (rotation t) s)
  stands_step {s} h = record { good = h.good; live = step_live (rotation t) (good_lawful t h.good) s ∙ h.live }

  pub around_next_word : {d : ℕ} → LiveDart t d → (k : ℕ) → k ≡ 0 → next_word t d * 2 ≡ around (rotation t) k d
  around_next_word {d} h k e = let w = next_dart_live t d h.live in rw (around_next (rotation t) k d e, w) (omega arith)

  pub corner_next_word : {s : ℕ} → Stands t s → s % 2 ≡ 1 → next_word t (s / 2) ≡ corner (rotation t) s
  corner_next_word {s} h e = sym (corner_one (rotation t) s e ∙ next_dart_live t (s / 2) h.live)

  pub around_prev_word : {d : ℕ} → LiveDart t d → (k : ℕ) → (k ≡ 0 → ⊥) → prev_word t d * 2 + 1 ≡ around (rotation t) k d
  unfolding around
  around_prev_word {d} h k e = let w = prev_dart_live t d h.live in rw (ne_eqb k 0 e, w) (omega arith)

  pub stands_corner : {s : ℕ} → Stands t s → corner (rotation t) s < darts
  stands_corner {s} h =
      let n = near (stands_dart h) in
      elim (type? s) [
        | is_zero e ↦ rw (corner_zero (rotation t) s e) n.dart
        | is_one e ↦ rw (corner_one (rotation t) s e) (next_dart_lem (rotation t) (good_lawful t h.good) (s / 2) n.dart)
      ]
