-- The words of a table, document 01, "The table": the layout is named here, and once more as the constants of src/layout.rt, and nowhere else.
--     vertices, edges, darts, words                   how many there are of each; the size of the table
--     prev_at, leaves_at, edge_at, vertex_at, length_at  where each kind of word begins
--     next_word, prev_word, leaves                    the three words of a dart
--     edge_word, length_word, vertex_word             the two words of an edge; the word of a vertex
--     nothing, isolated                               the word of what is not live; of a vertex that is live and isolated
--     longest, edge_word_most                         the largest length; the largest word of an edge
--     lone_at                                          where the corner names of isolated vertices begin
--     rev, edge_of                                     the reverse of a dart; its edge
--     Live                                            the dart is live
use Rattle.std.specs.Prelude.{ℕ, ◌+◌, ◌-◌, ◌*◌, ◌/◌, ◌%◌, ◌<◌, List, ◌≢◌, get_or}

-- "Vertices are 0 to 511, edges 0 to 1,023", and each edge has two darts
abbrev pub vertices : ℕ
vertices = 512

abbrev pub edges : ℕ
edges = 1024

abbrev pub darts : ℕ
darts = 2048

-- "a lent slice of 7,680 unsigned 16-bit words"; document 02, request g: "to 8,704"
abbrev pub words : ℕ
words = 8704

-- where each kind of word begins: "next" words begin at 0
abbrev pub prev_at : ℕ
prev_at = 2048

abbrev pub leaves_at : ℕ
leaves_at = 4096

abbrev pub edge_at : ℕ
edge_at = 6144

abbrev pub vertex_at : ℕ
vertex_at = 7168

abbrev pub length_at : ℕ
length_at = 7680

-- the word of what is not there: a dart that is not live, a vertex that is not live
abbrev pub nothing : ℕ
nothing = 65535

-- the word of a vertex that is live and isolated
abbrev pub isolated : ℕ
isolated = 65534

-- "the next dart counterclockwise at its vertex"
abbrev pub next_word : List ℕ → ℕ → ℕ
next_word t d = get_or t d 0

-- "the previous one"
abbrev pub prev_word : List ℕ → ℕ → ℕ
prev_word t d = get_or t (prev_at + d) 0

-- "the vertex it leaves"
abbrev pub leaves : List ℕ → ℕ → ℕ
leaves t d = get_or t (leaves_at + d) 0

-- "for each edge, 0 if not live, else its turns plus 100"
abbrev pub edge_word : List ℕ → ℕ → ℕ
edge_word t e = get_or t (edge_at + e) 0

-- "for each vertex, 65,535 if not live, 65,534 if live and isolated, else its smallest live dart"
abbrev pub vertex_word : List ℕ → ℕ → ℕ
vertex_word t v = get_or t (vertex_at + v) 0

-- document 02, request g: "for each edge its length"
abbrev pub length_word : List ℕ → ℕ → ℕ
length_word t e = get_or t (length_at + e) 0

-- "1 to 65,535 if live"
abbrev pub longest : ℕ
longest = 65535

-- "turns run from -99 to 99", plus 100
abbrev pub edge_word_most : ℕ
edge_word_most = 199

-- "An isolated vertex v has one corner, named 32,768+v."
abbrev pub lone_at : ℕ
lone_at = 32768

-- "Edge e has two darts: 2e leaves its first end, 2e+1 its second; the reverse of d is the other one"
abbrev pub rev : ℕ → ℕ
rev d = d + 1 - 2 * (d % 2)

abbrev pub edge_of : ℕ → ℕ
edge_of d = d / 2

-- "A dart is live if its edge is"
pub record Live (t : List ℕ) (d : ℕ) : Type 0 where
  pub low : d < darts
  pub on : edge_word t (edge_of d) ≢ 0
