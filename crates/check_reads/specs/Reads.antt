-- How many words of the table one check reads, document 02, request c. A read is a read of a lent word, and a word that is read again counts again.
-- The check makes its tests in a fixed order, and ends with the first that fails.
--     check_reads                                     the words that the whole check reads
--     Test, test_of                                    so many words are read, and then the check goes on or ends
--     reads_of, pass_all                               tests in a row: the words that are read; whether all pass
--     together                                        such a row as one test
--     reads_below, all_below                           the same of a test for each number below n, upward
--     dart_tests, bare_tests, linked_tests            the tests of a dart; if it is not live; if it is
--     edge_tests, edge_in, edge_block                 those of an edge; of an edge of a block, as one test; of a block of 32 edges
--     dead_block, blank, idle_tests                   a block without a live edge, whose darts' words are all 65,535
--     vertex_tests, leads_none, lead_tests, cycle_test  the tests of a vertex; its word leads no cycle; it leads one; the cycle
--     vertex_in, vertex_block                         those of a vertex of a block, as one test; of a block of 32 vertices
--     length_fits                                     the test of an edge's length
use Rattle.std.specs.Prelude.{ℕ, zero, suc, ◌+◌, ◌*◌, Bool, true, false, cond, ◌&&◌, ◌||◌, List, [], ◌∷◌, eqb, leb, ltb, length, get_or}
use Rattle.orbits.specs.Iterate.{iter}
use Rattle.table.specs.Layout.{words, darts, edges, vertices, prev_at, leaves_at, nothing, isolated, next_word, prev_word, leaves, edge_word, vertex_word, length_word, edge_of, edge_word_most, longest}

pub record Test : Type 0 where
  pub reads : ℕ
  pub passes : Bool

abbrev pub test_of : ℕ → Bool → Test
test_of n b = record { reads = n; passes = b }

unfoldable pub reads_of : List Test → ℕ
reads_of [] = 0
reads_of (x ∷ l) = x.reads + elim x.passes [ true ↦ reads_of l | false ↦ 0 ]

unfoldable pub pass_all : List Test → Bool
pass_all [] = true
pass_all (x ∷ l) = x.passes && pass_all l

abbrev pub together : List Test → Test
together l = test_of (reads_of l) (pass_all l)

unfoldable pub all_below : (ℕ → Bool) → ℕ → Bool
all_below q zero = true
all_below q (suc n) = all_below q n && q n

unfoldable pub reads_below : (ℕ → Test) → ℕ → ℕ
reads_below f zero = 0
reads_below f (suc n) = reads_below f n + elim (all_below (λ i. (f i).passes) n) [ true ↦ (f n).reads | false ↦ 0 ]

-- a dart that is not live: its three words
abbrev pub bare_tests : List ℕ → ℕ → List Test
bare_tests t d =
    test_of 1 (eqb (next_word t d) nothing)
    ∷ test_of 1 (eqb (prev_word t d) nothing)
    ∷ test_of 1 (eqb (leaves t d) nothing)
    ∷ []

-- a live dart: where it leaves, and the dart after it, which must lead back and leave there too
abbrev pub linked_tests : List ℕ → ℕ → List Test
linked_tests t d =
    test_of 1 (ltb (leaves t d) vertices)
    ∷ test_of 1 (ltb (next_word t d) darts)
    ∷ test_of 1 (eqb (prev_word t (next_word t d)) d)
    ∷ test_of 1 (eqb (leaves t (next_word t d)) (leaves t d))
    ∷ []

-- a dart, by what its edge's word says
unfoldable pub dart_tests : List ℕ → ℕ → List Test
dart_tests t d = elim (eqb (edge_word t (edge_of d)) 0) [
  | true ↦ bare_tests t d
  | false ↦ test_of 0 (leb (edge_word t (edge_of d)) edge_word_most) ∷ linked_tests t d
]

-- an edge: its word, and its two darts
abbrev pub edge_tests : List ℕ → ℕ → List Test
edge_tests t e = test_of 1 true ∷ together (dart_tests t (2 * e)) ∷ together (dart_tests t (2 * e + 1)) ∷ []

-- A block of 32 edges, and of their 64 darts. If none of the edges is live, and all words of the darts, kind by kind, are 65,535, this is all that is
-- read of it; else it is read edge by edge.
unfoldable pub dead_block : List ℕ → ℕ → Bool
dead_block t b = all_below (λ i. eqb (edge_word t (32 * b + i)) 0) 32

unfoldable pub blank : List ℕ → ℕ → Bool
blank t from = all_below (λ i. eqb (get_or t (from + i) 0) nothing) 64

abbrev pub idle_tests : List ℕ → ℕ → List Test
idle_tests t b =
    test_of 32 (dead_block t b)
    ∷ test_of 64 (blank t (64 * b))
    ∷ test_of 64 (blank t (prev_at + 64 * b))
    ∷ test_of 64 (blank t (leaves_at + 64 * b))
    ∷ []

abbrev pub edge_in : List ℕ → ℕ → ℕ → Test
edge_in t b i = together (edge_tests t (32 * b + i))

unfoldable pub edge_block : List ℕ → ℕ → Test
edge_block t b = record {
  reads = reads_of (idle_tests t b) + elim (pass_all (idle_tests t b)) [ true ↦ 0 | false ↦ reads_below (edge_in t b) 32 ];
  passes = all_below (λ i. (edge_in t b i).passes) 32;
}

-- the cycle of dart w, as long as the darts that come up are past w; it passes if none of them is below w
abbrev pub cycle_test : List ℕ → ℕ → Test
cycle_test t w = record {
  reads = reads_below (λ k. test_of 1 (ltb w (iter (next_word t) (suc k) w))) darts;
  passes = all_below (λ k. leb w (iter (next_word t) (suc k) w)) darts;
}

-- a vertex whose word leads no cycle
abbrev pub leads_none : List ℕ → ℕ → Bool
leads_none t v = eqb (vertex_word t v) nothing || eqb (vertex_word t v) isolated

-- a vertex whose word names a dart: the word, whether that dart leaves the vertex, and its cycle
abbrev pub lead_tests : List ℕ → ℕ → List Test
lead_tests t v =
    test_of 1 (ltb (vertex_word t v) darts)
    ∷ test_of 1 (eqb (leaves t (vertex_word t v)) v)
    ∷ cycle_test t (vertex_word t v)
    ∷ []

unfoldable pub vertex_tests : List ℕ → ℕ → List Test
vertex_tests t v = elim (leads_none t v) [ true ↦ test_of 1 true ∷ [] | false ↦ lead_tests t v ]

abbrev pub vertex_in : List ℕ → ℕ → ℕ → Test
vertex_in t b i = together (vertex_tests t (32 * b + i))

-- a block of 32 vertices: their words, and, if one of them leads a cycle, the vertices one by one
unfoldable pub vertex_block : List ℕ → ℕ → Test
vertex_block t b = record {
  reads = 32 + elim (all_below (λ i. leads_none t (32 * b + i)) 32) [ true ↦ 0 | false ↦ reads_below (vertex_in t b) 32 ];
  passes = all_below (λ i. (vertex_in t b i).passes) 32;
}

-- an edge's length, by what the edge's word says
abbrev pub length_fits : List ℕ → ℕ → Bool
length_fits t e = cond (eqb (edge_word t e) 0) (eqb (length_word t e) 0) (ltb 0 (length_word t e) && leb (length_word t e) longest)

-- the size, for which nothing is read; the lengths, two words for each edge, all of them whatever they are; the edges, by blocks; and the vertices, if all
-- darts keep their rules
unfoldable pub check_reads : List ℕ → ℕ
check_reads t =
    reads_of
    (test_of 0 (eqb (length t) words)
    ∷ test_of (2 * edges) (all_below (length_fits t) edges)
    ∷ test_of (reads_below (edge_block t) 32) (all_below (λ b. (edge_block t b).passes) 32)
    ∷ test_of (reads_below (vertex_block t) 16) true
    ∷ [])
