-- A trial job from two numbers, document 02, request f: its edits, its bytes, and what the call that writes it answers.
--     after_draw, state, draw                  s after one more draw; after some; what a draw below n reads in it
--     first_vertex, second_vertex, turns_drawn  what is drawn for an edge
--     corner_at, insertion_on                  the corner that an end goes to; the insertion of edge e
--     trial_job, additions, trial_bytes        the edits; those of the vertices; the job as it is written
--     trial_answer, trial_size, trial_out      what the call answers; the bytes of the job; what it leaves in the slice
use Rattle.std.specs.Prelude.{ℕ, zero, suc, ◌+◌, ◌*◌, ◌/◌, ◌%◌, ◌^◌, cond, List, [], ◌∷◌, ◌++◌, eqb, leb, ℤ, pos, ◌-ℤ◌, length, Ok, Err}
use Rattle.table.specs.Layout.{edges, isolated, vertex_word, lone_at}
use Rattle.table.specs.Answers.{unless, if_done, Answer}
use Rattle.table.specs.Empty.{empty_table}
use Rattle.table.specs.Output.{front}
use Rattle.table.specs.declared.answer.Refusal.TheVariants.{ShortSlice, ManyEdges}
use Rattle.edits.specs.declared.edit.Edit.{Edit}
use Rattle.edits.specs.declared.edit.Edit.TheVariants.{AddVertex, InsertEdge}
use Rattle.records.specs.Records.{plain_length}
use Rattle.runs.specs.Run.{run}
use Rattle.records_write.specs.Encoding.{job_of}

-- "Each draw sets s to s times 1,664,525 plus 1,013,904,223 modulo 2 to the 32"
abbrev pub after_draw : ℕ → ℕ
after_draw s = (s * 1664525 + 1013904223) % 2 ^ 32

-- "State s begins as the 32-bit starting number": s after so many draws
unfoldable pub state : ℕ → ℕ → ℕ
state start zero = start
state start (suc k) = after_draw (state start k)

-- "a draw below n is s divided by 65,536, rounded down, modulo n": s as the draw has set it
abbrev pub draw : ℕ → ℕ → ℕ
draw n s = s / 65536 % n

-- "Each end goes to the vertex's only corner if it is isolated, else to the corner named by its smallest dart"
abbrev pub corner_at : List ℕ → ℕ → ℕ
corner_at t v = cond (eqb (vertex_word t v) isolated) (lone_at + v) (vertex_word t v)

-- "it draws a vertex below 8, a second below 8, then turns as a draw below 3, less 1 afterwards": the draws of edge e, three for each edge
abbrev pub first_vertex : ℕ → ℕ → ℕ
first_vertex start e = draw 8 (state start (3 * e + 1))

abbrev pub second_vertex : ℕ → ℕ → ℕ
second_vertex start e = draw 8 (state start (3 * e + 2))

abbrev pub turns_drawn : ℕ → ℕ → ℤ
turns_drawn start e = pos (draw 3 (state start (3 * e + 3))) -ℤ pos 1

-- the insertion of edge e, its corners "both chosen on the table before this insertion"
abbrev pub insertion_on : List ℕ → ℕ → ℕ → Edit
insertion_on t start e = InsertEdge e (corner_at t (first_vertex start e)) (corner_at t (second_vertex start e)) (turns_drawn start e) plain_length

-- vertices 0 to n-1
unfoldable pub additions : ℕ → List Edit
additions zero = []
additions (suc v) = additions v ++ (AddVertex v ∷ [])

-- "The job adds vertices 0 to 7. Then for each edge 0 to N-1, it draws ..": the table before an insertion is the one that the edits before it
-- leave, "run from the empty mesh"
unfoldable pub trial_job : ℕ → ℕ → List Edit
trial_job start zero = additions 8
trial_job start (suc e) = trial_job start e ++ (insertion_on (run empty_table (trial_job start e)) start e ∷ [])

-- its records
abbrev pub trial_bytes : ℕ → ℕ → List ℕ
trial_bytes start n = job_of (trial_job start n)

-- "an output shorter than 32 + 10N bytes"
abbrev pub trial_size : ℕ → ℕ
trial_size n = 32 + 10 * n

-- "Turned away: 13, N above 1,024; otherwise 7 for an output shorter than 32 + 10N bytes, and never anything else."
abbrev pub trial_answer : ℕ → ℕ → Answer
trial_answer n room = unless (leb n edges) (Err ManyEdges) (unless (leb (trial_size n) room) (Err ShortSlice) (Ok (trial_size n)))

-- the job at the front, and the rest as it was
abbrev pub trial_out : ℕ → ℕ → List ℕ → List ℕ
trial_out start n out = if_done (trial_answer n (length out)) (front (trial_bytes start n) out) out
