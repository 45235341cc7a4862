-- The mesh of a sparse table, its words found by `read`.
--     rotation_by, rotation_by_lem                                    a rotation system, from a table's words
--     plain_by                                                        is the weave plain, from the words
--     few_read                                                        only names up to the largest one written are live
--     faces_on, euler_on, marks_on, lengths_on, plain_on              what the samples say of a table
--     faces_read_lem, euler_read, marks_read, lengths_read, plain_read  that they are so
--     meeting_on, sides_on, meeting_read, sides_read                  what the rule of an edit is read from
use Rattle.std.specs.Prelude.{ℕ, ◌+◌, ◌*◌, ◌/◌, ◌%◌, ◌<◌, ◌≤◌, ◌≡◌, refl, Bool, false, not, ◌&&◌, cond, eqb, ltb, ℤ}
use Rattle.std.proofs.Common.{arith, ◌∙◌, lt-ltb, le-ltb}
use Rattle.std.proofs.Math.Decide.{dec_lt}
use Rattle.std.proofs.Math.Path.{ap}
use mathlib.Core.List.{List, map}
use Rattle.std.proofs.Math.ListN.{get_or}
use Rattle.table.specs.Layout.{vertices, darts, nothing, isolated, prev_at, leaves_at, edge_at, vertex_at, length_at, edge_of}
use Rattle.table.specs.Rotation.{Rotation, rotation, live?, next_dart, prev_dart, turns_of, there?, alone?}
use Rattle.tracing.specs.Walk.{walk}
use Rattle.tracing.specs.Listing.{gather, starts, face_count}
use Rattle.tracing.specs.Corner.{meeting_of}
use Rattle.tracing.specs.Sides.{sides_of}
use Rattle.tracing.specs.declared.meeting.Meeting.{Meeting}
use Rattle.tracing.specs.declared.meeting.Sides.{Sides}
use Rattle.surface.specs.Labels.{orientable}
use Rattle.surface.specs.Parts.{parts}
use Rattle.surface.specs.Signed.{mesh_euler}
use Rattle.weave.specs.Letters.{letters_on, step_letters, letters, alternating, alternates, every, plain}
use Rattle.samples.specs.Samples.{walk_lengths}
use Rattle.samples.proofs.laws.Sparse.{Writes, table_of, read, put_read, span, span_room, span_past}
use Rattle.samples.proofs.laws.Few.{Few, faces_few, euler_few, marks_few, lengths_few, meeting_from, sides_from, starts_few, faces_few_lem, euler_few_lem, marks_few_lem, lengths_few_lem, meeting_few, sides_few}

-- a table's rotation system, its word at i being g i
abbrev live_by : (ℕ → ℕ) → ℕ → Bool
live_by g d = ltb d darts && not (eqb (g (edge_at + edge_of d)) 0)

abbrev pub rotation_by : (ℕ → ℕ) → Rotation
rotation_by g = record {
  live = live_by g;
  next = λ d. cond (live_by g d) (g d) d;
  prev = λ d. cond (live_by g d) (g (prev_at + d)) d;
  turns = λ d. g (edge_at + edge_of d);
  from = λ d. g (leaves_at + d);
  there = λ v. ltb v vertices && not (eqb (g (vertex_at + v)) nothing);
  alone = λ v. ltb v vertices && eqb (g (vertex_at + v)) isolated;
}

pub rotation_by_lem : (t : List ℕ) → rotation t ≡ rotation_by (λ i. get_or t i 0)
unfolding live? next_dart prev_dart turns_of there? alone?
rotation_by_lem t = refl

-- "A weave is plain if all its ribbons alternate": those that start below n
unfoldable pub plain_by : (ℕ → ℕ) → Rotation → ℕ → Bool
plain_by g R n = every (λ d. alternating (gather (λ s. letters_on (g (edge_at + edge_of (s / 2))) (s % 2)) (walk R (2 * d)))) (starts R n)

plain_by_lem : (t : List ℕ) → plain t ≡ plain_by (λ i. get_or t i 0) (rotation t) darts
unfolding plain plain_by alternates letters step_letters
plain_by_lem t = refl

-- numbers of names that may be live
abbrev edge_span : Writes → ℕ
edge_span ws = span edge_at vertex_at ws

abbrev vertex_span : Writes → ℕ
vertex_span ws = span vertex_at length_at ws

abbrev rotation_on : Writes → Rotation
rotation_on ws = rotation_by (read ws)

-- what the samples say of a table
unfoldable pub faces_on : Writes → ℕ
faces_on ws = faces_few (rotation_on ws) (edge_span ws) (vertex_span ws)

unfoldable pub euler_on : Writes → ℤ
euler_on ws = euler_few (rotation_on ws) (edge_span ws) (vertex_span ws)

unfoldable pub marks_on : Writes → List Bool
marks_on ws = marks_few (rotation_on ws) (edge_span ws) (vertex_span ws)

unfoldable pub lengths_on : Writes → List ℕ
lengths_on ws = lengths_few (rotation_on ws) (edge_span ws)

unfoldable pub plain_on : Writes → Bool
plain_on ws = plain_by (read ws) (rotation_on ws) (2 * edge_span ws)

unfoldable pub meeting_on : Writes → ℕ → ℕ → Meeting
meeting_on ws = meeting_from (rotation_on ws) (starts (rotation_on ws) (2 * edge_span ws))

unfoldable pub sides_on : Writes → ℕ → Sides
sides_on ws = sides_from (rotation_on ws) (starts (rotation_on ws) (2 * edge_span ws))

module _ (ws : Writes) where
  rotation_read : rotation (table_of ws) ≡ rotation_on ws
  rotation_read = rotation_by_lem (table_of ws) ∙ ap rotation_by (put_read ws)

  no_dart : (d : ℕ) → 2 * edge_span ws ≤ d → live_by (read ws) d ≡ false
  no_dart d h = elim (dec_lt d darts) [
    | yes l ↦ rw (
      lt-ltb d darts l,
      span_past edge_at vertex_at ws (edge_of d) (omega arith) (omega arith) (omega arith),
      le-ltb (edge_at + edge_of d) edge_at (omega arith),
      lt-ltb (edge_at + edge_of d) vertex_at (omega arith),
    )
    | no l ↦ rw (le-ltb d darts (omega arith))
  ]

  no_vertex_word : (v : ℕ) → vertex_span ws ≤ v → v < vertices → read ws (vertex_at + v) ≡ nothing
  no_vertex_word v h l =
      rw (
        span_past vertex_at length_at ws v (omega arith) (omega arith) h,
        le-ltb (vertex_at + v) edge_at (omega arith),
        le-ltb (vertex_at + v) vertex_at (omega arith),
        lt-ltb (vertex_at + v) length_at (omega arith),
      )

  few_read : Few (rotation_on ws) (edge_span ws) (vertex_span ws)
  few_read = record {
    edges_room = let r = span_room edge_at vertex_at ws in omega arith;
    vertices_room = let r = span_room vertex_at length_at ws in omega arith;
    no_dart = no_dart;
    no_vertex = λ v h. elim (dec_lt v vertices) [
      | yes l ↦ rw (lt-ltb v vertices l, no_vertex_word v h l)
      | no l ↦ rw (le-ltb v vertices (omega arith))
    ];
    no_lone = λ v h. elim (dec_lt v vertices) [
      | yes l ↦ rw (lt-ltb v vertices l, no_vertex_word v h l)
      | no l ↦ rw (le-ltb v vertices (omega arith))
    ];
  }

  pub faces_read_lem : face_count (rotation (table_of ws)) ≡ faces_on ws
  unfolding faces_on
  faces_read_lem = ap face_count rotation_read ∙ faces_few_lem few_read

  pub euler_read : mesh_euler (rotation (table_of ws)) ≡ euler_on ws
  unfolding euler_on
  euler_read = ap mesh_euler rotation_read ∙ euler_few_lem few_read

  pub marks_read : map (orientable (rotation (table_of ws))) (parts (rotation (table_of ws))) ≡ marks_on ws
  unfolding marks_on
  marks_read = ap (λ R. map (orientable R) (parts R)) rotation_read ∙ marks_few_lem few_read

  pub lengths_read : walk_lengths (rotation (table_of ws)) ≡ lengths_on ws
  unfolding lengths_on
  lengths_read = ap walk_lengths rotation_read ∙ lengths_few_lem few_read

  pub plain_read : plain (table_of ws) ≡ plain_on ws
  unfolding plain_on plain_by
  plain_read =
      plain_by_lem (table_of ws)
      ∙ ap (λ R. plain_by (λ i. get_or (table_of ws) i 0) R darts) rotation_read
      ∙ ap (λ g. plain_by g (rotation_on ws) darts) (put_read ws)
      ∙ ap (every (λ d. alternating (gather (λ s. letters_on (read ws (edge_at + edge_of (s / 2))) (s % 2)) (walk (rotation_on ws) (2 * d))))) (starts_few few_read)

  pub meeting_read : (c c' : ℕ) → meeting_of (rotation (table_of ws)) c c' ≡ meeting_on ws c c'
  unfolding meeting_on
  meeting_read c c' = ap (λ R. meeting_of R c c') rotation_read ∙ meeting_few few_read c c'

  pub sides_read : (e : ℕ) → sides_of (rotation (table_of ws)) e ≡ sides_on ws e
  unfolding sides_on
  sides_read e = ap (λ R. sides_of R e) rotation_read ∙ sides_few few_read e
