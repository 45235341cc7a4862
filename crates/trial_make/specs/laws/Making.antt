-- A trial job as the code writes it: what its two loops know.
--     Vertices                                             the loop that writes the vertices
--     vertices_none, vertices_more                         it begins, goes on
--     Begun, Underway                                      the vertices are written; the next loop, whatever was there before
--     Making                                               the loop over the edges: records, state and corners
--     making_none, making_more, making_all                 it begins, goes on, ends
use Rattle.std.specs.Prelude.{◌≡◌, ℕ, suc, ◌+◌, ◌*◌, ◌<◌, ◌≤◌, List, length, slice_index, slice_set, refl}
use Rattle.std.proofs.Common.{arith, add-one, sym, ◌∙◌, ap, length-set, get_or-set_same, get_or-set_other}
use Rattle.std.proofs.Math.Decide.{ℕ_discrete}
use mathlib.Core.List.{flat_map}
use Rattle.std.proofs.lemmas.List.Edits.{sets}
use Rattle.table.specs.Layout.{edges, isolated, vertex_word, lone_at}
use Rattle.table.specs.Empty.{empty_table}
use Rattle.table.specs.Output.{front}
use Rattle.table.specs.laws.Front.{Front, front_none, front_more}
use Rattle.table.specs.laws.Output.{sets_front}
use Rattle.edits.specs.Edits.{written}
use Rattle.edits.proofs.laws.Edits.{edited_passes}
use Rattle.edits.specs.declared.edit.Edit.TheVariants.{AddVertex}
use Rattle.runs.specs.Run.{run}
use Rattle.records_write.specs.Encoding.{record_of, job_of}
use Rattle.trial_jobs.specs.Trial.{after_draw, state, draw, first_vertex, second_vertex, insertion_on, additions, trial_job, trial_bytes, trial_size}
use Rattle.trial_jobs.proofs.laws.Corners.{corner_lone}
use Rattle.trial_jobs.proofs.laws.Numbered.{Numbered, numbered_vertex, numbered_dart}
use Rattle.trial_jobs.proofs.laws.Inserting.{insertion_passes}
use Rattle.trial_jobs.proofs.laws.Size.{additions_last, bytes_last, trial_size_lem}
use Rattle.trial_jobs.proofs.laws.Theorem.{made, ready, run_last}
use Rattle.trial_make.specs.laws.Edge.{give_dart, edge_drawn, corners_after, Corners, corners_next}

-- the records of the first v vertices, each of which has its own corner
pub record Vertices (out₀ : List ℕ) (v : ℕ) (out corners : List ℕ) : Type 0 where
  pub few : v ≤ 8
  pub text : Front (job_of (additions v)) out₀ 0 (4 * v) out
  pub eight : length corners ≡ 8
  pub lone : (u : ℕ) → u < v → slice_index corners u ≡ lone_at + u

pub vertices_none : (out corners : List ℕ) → length corners ≡ 8 → Vertices out 0 out corners
unfolding additions flat_map
vertices_none out corners e = record { few = omega arith; text = front_none out 0; eight = e; lone = λ u h. absurd (omega arith) }

pub vertices_more : {out₀ : List ℕ} {v : ℕ} {out corners out' : List ℕ} → Vertices out₀ v out corners → v < 8
    → out' ≡ sets out (4 * v) (record_of (AddVertex v)) → Vertices out₀ (v + 1) out' (slice_set corners v (lone_at + v))
vertices_more {out₀} {v} {out} {corners} {out'} k h w = rw (add-one v) (record {
  few = omega arith;
  text = rw (additions_last v) (front_more (record_of (AddVertex v)) k.text (omega arith) w);
  eight = length-set corners v (lone_at + v) ∙ k.eight;
  lone = λ u l. elim (ℕ_discrete u v) [
    | yes q ↦ rw q (get_or-set_same corners v (lone_at + v) 0 (rw k.eight h))
    | no n ↦ get_or-set_other corners v u (lone_at + v) 0 n ∙ k.lone u (omega arith)
  ];
})

-- the records of the first e edges, the state after their draws, and the corners of the vertices
pub record Making (start n : ℕ) (out₀ : List ℕ) (e s : ℕ) (out corners : List ℕ) : Type 0 where
  pub few : n ≤ edges
  pub room : trial_size n ≤ length out₀
  pub within : e ≤ n
  pub text : Front (trial_bytes start e) out₀ 0 (trial_size e) out
  pub state_is : s ≡ state start (3 * e)
  pub corners_are : Corners (run empty_table (trial_job start e)) corners

-- where there is no edge yet every vertex is isolated
lone_word : {t : List ℕ} → Numbered t 8 0 → (v : ℕ) → v < 8 → vertex_word t v ≡ isolated
lone_word {t} s v h = elim (ℕ_discrete (vertex_word t v) isolated) [
  | yes q ↦ q
  | no n ↦
      let there = numbered_vertex s v h in
      let m = s.good.smallest v there.0 there.1 n in
      absurd (let low = numbered_dart s (vertex_word t v) m.live in omega arith)
]

-- the vertices are written: `old` was there before them
pub record Begun (n : ℕ) (old out corners : List ℕ) : Type 0 where
  pub few : n ≤ edges
  pub room : trial_size n ≤ length old
  pub vertices : Vertices old 8 out corners

pub making_none : (start : ℕ) {n : ℕ} {out₀ out corners : List ℕ} → Begun n out₀ out corners → Making start n out₀ 0 start out corners
unfolding trial_job state
making_none start b = record {
  few = b.few;
  room = b.room;
  within = omega arith;
  text = b.vertices.text;
  state_is = refl;
  corners_are = record {
    eight = b.vertices.eight;
    are = λ v h. b.vertices.lone v h ∙ sym (corner_lone (run empty_table (trial_job start 0)) v (lone_word (made start 0 (omega arith)).mesh v h));
  };
}

-- a loop's invariant speaks of the slices where the loop begins, so this is said of whatever was there before
abbrev pub Underway : ℕ → ℕ → List ℕ → List ℕ → ℕ → ℕ → List ℕ → List ℕ → Type 0
Underway start n out₀ corners₀ e s out corners = (old : List ℕ) → Begun n old out₀ corners₀ → Making start n old e s out corners

-- the state after the three draws of edge e
state_next : (start e : ℕ) → state start (3 * suc e) ≡ after_draw (after_draw (after_draw (state start (3 * e))))
unfolding state
state_next start e = let three : 3 * suc e ≡ suc (suc (suc (3 * e))) = omega arith in ap (state start) three

-- the edge that is drawn is the job's
drawn : (start : ℕ) {t l : List ℕ} (e : ℕ) {s : ℕ} → Corners t l → s ≡ state start (3 * e) → edge_drawn l s e ≡ insertion_on t start e
unfolding edge_drawn state
drawn start {t} {l} e {s} c q =
    let one : 3 * e + 1 ≡ suc (3 * e) = omega arith in
    let two : 3 * e + 2 ≡ suc (suc (3 * e)) = omega arith in
    let three : 3 * e + 3 ≡ suc (suc (suc (3 * e))) = omega arith in
    rw (q, one, two, three, c.are (draw 8 (after_draw (state start (3 * e)))) (omega arith), c.are (draw 8 (after_draw (after_draw (state start (3 * e))))) (omega arith))

-- and so are the vertices that get its darts
after_drawn : (start : ℕ) (l : List ℕ) (e : ℕ) {s : ℕ} → s ≡ state start (3 * e)
    → corners_after l s e ≡ give_dart (give_dart l (first_vertex start e) (2 * e)) (second_vertex start e) (2 * e + 1)
unfolding corners_after state
after_drawn start l e q =
    let one : 3 * e + 1 ≡ suc (3 * e) = omega arith in
    let two : 3 * e + 2 ≡ suc (suc (3 * e)) = omega arith in
    rw (q, one, two)

module _ {start n : ℕ} {out₀ : List ℕ} {e s : ℕ} {out corners : List ℕ} (k : Making start n out₀ e s out corners) where
  abbrev t : List ℕ
  t = run empty_table (trial_job start e)

  next_table : e < n → run empty_table (trial_job start (suc e)) ≡ written t (insertion_on t start e)
  unfolding trial_job
  next_table h =
      let few = k.few in
      let r = ready start (made start e (omega arith)).mesh (omega arith) in
      run_last empty_table (trial_job start e) (insertion_on t start e) ∙ edited_passes t (insertion_on t start e) (insertion_passes r)

  next_corners : e < n → Corners (run empty_table (trial_job start (suc e))) (corners_after corners s e)
  next_corners h =
      let few = k.few in
      let r = ready start (made start e (omega arith)).mesh (omega arith) in
      rw (next_table h, after_drawn start corners e k.state_is) (corners_next r k.corners_are)

  pub making_more : {s' : ℕ} {out' corners' : List ℕ} → e < n → s' ≡ after_draw (after_draw (after_draw s)) → out' ≡ sets out (trial_size e) (record_of (edge_drawn corners s e))
      → corners' ≡ corners_after corners s e → Making start n out₀ (e + 1) s' out' corners'
  making_more h q w c = rw (add-one e) (record {
    few = k.few;
    room = k.room;
    within = omega arith;
    text = rw (bytes_last start e) (front_more (record_of (insertion_on t start e)) k.text (omega arith)
        (w ∙ ap (λ E. sets out (trial_size e) (record_of E)) (drawn start e k.corners_are k.state_is)));
    state_is = q ∙ ap (λ x. after_draw (after_draw (after_draw x))) k.state_is ∙ sym (state_next start e);
    corners_are = rw c (next_corners h);
  })

  pub making_all : n ≤ e → out ≡ front (trial_bytes start n) out₀
  making_all h =
      let within = k.within in
      let done : e ≡ n = omega arith in
      let size = trial_size_lem start n in
      let room = k.room in
      k.text.words ∙ ap (λ m. sets out₀ 0 (trial_bytes start m)) done ∙ sets_front (trial_bytes start n) out₀ (omega arith)
