-- What the code that counts the listed walks promises, and the invariants of its loops.
--     Marked                                                          the walk from s has n steps, and its corners are marked
--     Marking                                                         the loop that marks a walk
--     marking_none, marking_more, marking_all, marking_count          it begins, goes on, ends, with the number of steps too
--     marking_corner                                                  the present corner has a mark
--     LookReady, Looked                                               what the look at dart d asks; what it leaves
--     unmet, unmet_fresh                                              dart d, if a walk starts there, as the marks tell
--     unmet_dead, unmet_marked, unmet_start, edge_live                none on an edge that is not live or where marked, else one
--     looked_dead, looked_met, looked_walk                            the ways through the look
--     looked_marks, looked_one, looked_text                           its marks; a walk that starts there; its words
--     looked_stands, looked_steps, looked_low                         that walk starts on a live dart; its steps, which are few
--     start_stands                                                    the first step of a walk that starts at d
--     Seen, seen_none, seen_range, seen_more                          the loop over the darts: the corners of walks so far are marked
--     WalkCounting, counting_none, counting_more, counting_skip       the same with walks and words counted
--     counting_dead                                                   a block without live edge
--     Lone, lone_none, lone_more, lone_skip                           the loop that counts the isolated vertices
--     Measured, measured                                              F, and the number of words of the listing
use Rattle.std.specs.Prelude.{ℕ, suc, ◌+◌, ◌*◌, ◌/◌, ◌<◌, ◌≤◌, ◌≡◌, refl, Bool, true, false, not, Option, Some, None, List, [], ◌∷◌, ◌++◌, map, ◌≢◌, eqb, length, get_or, set}
use Rattle.std.proofs.Common.{arith, add-zero, add-one, sym, ◌∙◌, ap, ap₂, append-nil, length-append, length-set, eq-eqb, ne_eqb}
use Rattle.std.proofs.lemmas.Option.{none-some}
use Rattle.std.proofs.lemmas.List.{length-map, length-replicate}
use Rattle.table.specs.Layout.{words as table-words, vertices, darts, isolated, edge_of, edge_word, vertex_word}
use Rattle.table.specs.Good.{Good}
use Rattle.table.specs.laws.Blocks.{edge_blocks, DeadBlock, dead_dart, block_on}
use Rattle.table.specs.Rotation.{Rotation, rotation, live?, alone?}
use Rattle.table.specs.laws.Rotation.{yes_live, live_case, holds, fails, alone_yes, alone_word}
use Rattle.orbits.proofs.laws.Truth.{truth, holds as yes_true, fails as yes-false, false_unless}
use Rattle.tracing_walks.specs.declared.count.Size.{Size}
use Rattle.tracing.specs.Step.{corner}
use Rattle.tracing.specs.Walk.{walk, corners}
use Rattle.tracing.specs.Listing.{has, only, gather, met_by, fresh, starts, walk_text, alones, lone_corner, faces, face_count, listing, bit}
use Rattle.tracing.proofs.laws.Listing.{gather_one, gather_append, starts_suc, written_walk, written_lone, lone_yes, lone_no, alones_suc}
use Rattle.tracing_walks.specs.laws.Stands.{Stands, stands_corner}
use Rattle.tracing_walks.specs.laws.Along.{Along, walk_most, along_none, along_more, along_all, along_stands}
use Rattle.tracing_walks.specs.laws.Marks.{mark, mark_append, mark_length, mark_step, mark_reads, unmarked}

-- the walk from s has n steps, and its corners have been marked
pub record Marked (t : List ℕ) (s : ℕ) (m : List ℕ) (n : ℕ) (m' : List ℕ) : Type 0 where
  pub steps : n ≡ length (walk (rotation t) s)
  pub marks : m' ≡ mark m (corners (rotation t) s)
  pub low : n ≤ 4096

-- the loop that marks a walk
pub record Marking (t : List ℕ) (s : ℕ) (m₀ gone left m : List ℕ) : Type 0 where
  pub along : Along t s gone left
  pub marks : m ≡ mark m₀ (map (corner (rotation t)) gone)
  pub size : length m ≡ darts

pub marking_none : {t : List ℕ} {s : ℕ} {m left : List ℕ} → Stands t s → length m ≡ darts → left ≡ walk (rotation t) s → Marking t s m [] left m
unfolding mark
marking_none h l e = record { along = along_none h e; marks = refl; size = l }

module _ {t : List ℕ} {s : ℕ} {m₀ gone left m : List ℕ} (k : Marking t s m₀ gone left m) where
  pub marking_all : left ≡ [] → m ≡ mark m₀ (corners (rotation t) s)
  unfolding corners
  marking_all e = rw (← along_all k.along e) k.marks

  pub marking_count : {n : ℕ} → left ≡ [] → n ≡ length gone → Marked t s m₀ n m
  marking_count e f = let all = along_all k.along e in record { steps = rw (f, all) refl; marks = marking_all e; low = rw (f, all) (walk_most k.along.start) }

  module _ {at : ℕ} {left' : List ℕ} (e : left ≡ at ∷ left') {c : ℕ} (f : c ≡ corner (rotation t) at) where
    -- the corner of the present step has a mark
    pub marking_corner : c < darts
    marking_corner = rw f (stands_corner (along_stands k.along e))

    pub marking_more : Marking t s m₀ (gone ++ at ∷ []) left' (set m c 1)
    marking_more = record {
      along = along_more k.along e;
      marks = rw (f, k.marks, mark_step (rotation t) m₀ gone at) refl;
      size = length-set m c 1 ∙ k.size;
    }

-- dart d of a good table, and marks
pub record LookReady (t m : List ℕ) (d : ℕ) : Type 0 where
  pub good : Good t
  pub size : length m ≡ darts
  pub low : d < darts

-- dart d, if it is live and not marked: the start of a walk
unfoldable pub unmet : List ℕ → List ℕ → ℕ → List ℕ
unmet t m d = elim (live? t d) [ true ↦ only (eqb (get_or m d 0) 0) d | false ↦ [] ]

-- no walk starts at d; or one does, it has n steps, and its corners have been marked
pub data Looked (t : List ℕ) (d : ℕ) (m : List ℕ) : Option ℕ → List ℕ → Type 0 where
  no_walk : unmet t m d ≡ [] → Looked t d m None m
  one_walk : {n : ℕ} {m' : List ℕ} → Stands t (2 * d) → unmet t m d ≡ d ∷ [] → Marked t (2 * d) m n m' → Looked t d m (Some n) m'

edge_dead : (t : List ℕ) (d : ℕ) → edge_word t (edge_of d) ≡ 0 → live? t d ≡ false
edge_dead t d e = elim (live_case t d) [ holds l p ↦ absurd (p.on e) | fails l p ↦ l ]

unmet_none : (t m : List ℕ) (d : ℕ) → live? t d ≡ false → unmet t m d ≡ []
unfolding unmet
unmet_none t m d e = rw (e, unmet)

pub unmet_dead : (t m : List ℕ) (d : ℕ) → edge_word t (edge_of d) ≡ 0 → unmet t m d ≡ []
unmet_dead t m d e = unmet_none t m d (edge_dead t d e)

pub unmet_marked : (t m : List ℕ) (d : ℕ) → get_or m d 0 ≢ 0 → unmet t m d ≡ []
unfolding unmet
unmet_marked t m d e = elim (truth (live? t d)) [
  | yes_true l ↦ rw (l, unmet, ne_eqb (get_or m d 0) 0 e)
  | yes-false l ↦ unmet_none t m d l
]

pub unmet_start : (t m : List ℕ) (d : ℕ) → live? t d ≡ true → get_or m d 0 ≡ 0 → unmet t m d ≡ d ∷ []
unfolding unmet
unmet_start t m d l e = rw (l, unmet, eq-eqb (get_or m d 0) 0 e)

pub edge_live : {t m : List ℕ} {d : ℕ} → LookReady t m d → edge_word t (edge_of d) ≢ 0 → live? t d ≡ true
edge_live {t} {m} {d} h e = yes_live t d (record { low = h.low; on = e })

pub looked_dead : (t : List ℕ) (d : ℕ) (m : List ℕ) → edge_word t (edge_of d) ≡ 0 → Looked t d m None m
looked_dead t d m e = no_walk (unmet_dead t m d e)

pub looked_met : (t : List ℕ) (d : ℕ) (m : List ℕ) → get_or m d 0 ≢ 0 → Looked t d m None m
looked_met t d m e = no_walk (unmet_marked t m d e)

-- the first step of the walk that starts at d
pub start_stands : {t m : List ℕ} {d : ℕ} → LookReady t m d → edge_word t (edge_of d) ≢ 0 → Stands t (2 * d)
start_stands {t} {m} {d} h e =
    let half : 2 * d / 2 ≡ d = omega arith in
    record { good = h.good; live = rw half (edge_live h e) }

pub looked_walk : {t : List ℕ} {d : ℕ} {m : List ℕ} {n : ℕ} {m' : List ℕ} → LookReady t m d → edge_word t (edge_of d) ≢ 0 → get_or m d 0 ≡ 0
    → Marked t (2 * d) m n m' → Looked t d m (Some n) m'
looked_walk {t} {d} {m} h e f k = one_walk (start_stands h e) (unmet_start t m d (edge_live h e) f) k

-- the marks that a look leaves
pub looked_marks : {t : List ℕ} {d : ℕ} {m : List ℕ} {r : Option ℕ} {m' : List ℕ} → Looked t d m r m' → m' ≡ mark m (met_by (rotation t) (unmet t m d))
unfolding gather mark
looked_marks (no_walk u) = rw u refl
looked_marks {t} {d} (one_walk h u k) = rw (u, gather_one (λ a. corners (rotation t) (2 * a))) k.marks

pub looked_one : {t : List ℕ} {d : ℕ} {m : List ℕ} {n : ℕ} {m' : List ℕ} → Looked t d m (Some n) m' → unmet t m d ≡ d ∷ []
looked_one (one_walk h u k) = u

pub looked_stands : {t : List ℕ} {d : ℕ} {m : List ℕ} {n : ℕ} {m' : List ℕ} → Looked t d m (Some n) m' → Stands t (2 * d)
looked_stands (one_walk h u k) = h

pub looked_steps : {t : List ℕ} {d : ℕ} {m : List ℕ} {n : ℕ} {m' : List ℕ} → Looked t d m (Some n) m' → n ≡ length (walk (rotation t) (2 * d))
looked_steps (one_walk h u k) = k.steps

pub looked_low : {t : List ℕ} {d : ℕ} {m : List ℕ} {n : ℕ} {m' : List ℕ} → Looked t d m (Some n) m' → n ≤ 4096
looked_low (one_walk h u k) = k.low

-- the words of a walk of n steps that starts at d
pub looked_text : {t : List ℕ} {d : ℕ} {m : List ℕ} {n : ℕ} {m' : List ℕ} → d < darts → unmet t m d ≡ d ∷ [] → Marked t (2 * d) m n m'
    → gather (walk_text (rotation t)) (unmet t m d) ≡ n ∷ walk (rotation t) (2 * d)
looked_text {t} {d} h u k =
    let low : d < 32768 = omega arith in
    rw (u, k.steps) (gather_one (walk_text (rotation t)) d ∙ written_walk (rotation t) d low)

pub record Measured (t : List ℕ) (r : Size) : Type 0 where
  pub walks : r.walks ≡ face_count (rotation t)
  pub words : r.words ≡ length (listing (rotation t))
  pub short : r.words ≤ 8391680

-- a loop over the darts: the corners of the walks that start below d are marked
pub record Seen (t : List ℕ) (d : ℕ) (m : List ℕ) : Type 0 where
  pub good : Good t
  pub low : d ≤ darts
  pub marks : m ≡ mark unmarked (met_by (rotation t) (starts (rotation t) d))

pub seen_none : {t : List ℕ} → Good t → Seen t 0 unmarked
unfolding starts gather mark
seen_none g = record { good = g; low = omega arith; marks = refl }

-- the marks tell the starts
pub unmet_fresh : {t : List ℕ} {d : ℕ} {m : List ℕ} → Seen t d m → d < darts → unmet t m d ≡ fresh (rotation t) (starts (rotation t) d) d
unfolding unmet fresh
unmet_fresh {t} {d} {m = m} k h = elim (truth (live? t d)) [
  | yes-false l ↦ rw (l, unmet, fresh)
  | yes_true l ↦
      let read : get_or m d 0 ≡ bit (has d (met_by (rotation t) (starts (rotation t) d))) = rw k.marks (mark_reads (met_by (rotation t) (starts (rotation t) d)) d h) in
      rw (l, unmet, fresh, read) (same (has d (met_by (rotation t) (starts (rotation t) d))))
]
  where
    same : (b : Bool) → only (eqb (bit b) 0) d ≡ only (not b) d
    same true = refl
    same false = refl

pub seen_range : {t : List ℕ} {d : ℕ} {m : List ℕ} → Seen t d m → d < darts → LookReady t m d
seen_range {t} {d} {m = m} k h = record {
  good = k.good;
  size = rw k.marks (mark_length unmarked (met_by (rotation t) (starts (rotation t) d)) ∙ simp length-replicate);
  low = h;
}

pub seen_more : {t : List ℕ} {d : ℕ} {m m' : List ℕ} → Seen t d m → d < darts → m' ≡ mark m (met_by (rotation t) (unmet t m d)) → Seen t (d + 1) m'
seen_more {t} {d} {m} k h e =
    let R = rotation t in
    record {
      good = k.good;
      low = omega arith;
      marks = rw (add-one, starts_suc R d, gather_append, mark_append, ← k.marks) (e ∙ ap (λ l. mark m (met_by R l)) (unmet_fresh k h));
    }

-- the walks that start below d are counted, and their words
pub record WalkCounting (t : List ℕ) (d walks words : ℕ) (m : List ℕ) : Type 0 where
  pub seen : Seen t d m
  pub count : walks ≡ length (starts (rotation t) d)
  pub size : words ≡ length (gather (walk_text (rotation t)) (starts (rotation t) d))
  pub few : walks ≤ d
  pub short : words ≤ 4097 * d

pub counting_none : {t : List ℕ} → Good t → WalkCounting t 0 0 0 unmarked
unfolding starts gather
counting_none g = record { seen = seen_none g; count = refl; size = refl; few = omega arith; short = omega arith }

-- a dart more: at which a walk of n steps starts, or none
counting_on : {t : List ℕ} {d walks words : ℕ} {m : List ℕ} {r : Option ℕ} {m' : List ℕ} (w n : ℕ) → WalkCounting t d walks words m → d < darts → Looked t d m r m'
    → w ≡ length (unmet t m d) → n ≡ length (gather (walk_text (rotation t)) (unmet t m d)) → w ≤ 1 → n ≤ 4097
    → WalkCounting t (d + 1) (walks + w) (words + n) m'
counting_on {t} {d} {walks} {words} {m} w n k h v e f one most =
    let u = unmet_fresh k.seen h in
    let R = rotation t in
    let few = k.few in
    let short = k.short in
    record {
      seen = seen_more k.seen h (looked_marks v);
      count = rw (add-one, starts_suc R d, length-append) (ap₂ ◌+◌ k.count (e ∙ ap length u));
      size = rw (add-one, starts_suc R d, gather_append, length-append) (ap₂ ◌+◌ k.size (f ∙ ap (λ l. length (gather (walk_text R) l)) u));
      few = omega arith;
      short = omega arith;
    }

pub counting_more : {t : List ℕ} {d walks words : ℕ} {m : List ℕ} {n : ℕ} {m' : List ℕ} → WalkCounting t d walks words m → d < darts → Looked t d m (Some n) m'
    → WalkCounting t (d + 1) (walks + 1) (words + (n + 1)) m'
counting_more {n = n} c h (one_walk st u k) =
    let size = ap length (looked_text h u k) in
    let low = k.low in
    counting_on 1 (n + 1) c h (one_walk st u k) (rw u refl) (add-one n ∙ ap suc k.steps ∙ sym size) (omega arith) (omega arith)

pub counting_skip : {t : List ℕ} {d walks words : ℕ} {m : List ℕ} {r : Option ℕ} {m' : List ℕ} → WalkCounting t d walks words m → d < darts → Looked t d m r m'
    → ((n : ℕ) → r ≢ Some n) → WalkCounting t (d + 1) walks words m'
unfolding gather
counting_skip {walks = walks} {words = words} c h (no_walk u) q = rw (add-zero walks, add-zero words) at (counting_on 0 0 c h (no_walk u) (rw u refl) (rw u refl) (omega arith) (omega arith))
counting_skip c h (one_walk st u k) q = absurd (q _ refl)

-- no walk starts in a block without a live edge
pub counting_dead : {t : List ℕ} (b : ℕ) {walks words : ℕ} {m : List ℕ} → b < edge_blocks → DeadBlock t b → WalkCounting t (64 * b) walks words m
    → WalkCounting t (64 * b + 64) walks words m
counting_dead {t} b {walks} {words} {m} h k = block_on (λ d. WalkCounting t d walks words m) (64 * b) 64 (λ i l c.
    counting_skip c (omega arith) (looked_dead t (64 * b + i) m (dead_dart t b k i l)) none-some)

-- the isolated vertices below v are n
pub record Lone (t : List ℕ) (v n : ℕ) : Type 0 where
  pub size : length t ≡ table-words
  pub low : v ≤ vertices
  pub count : n ≡ length (alones (rotation t) v)
  pub few : n ≤ v

pub lone_none : {t : List ℕ} → Good t → Lone t 0 0
unfolding alones
lone_none g = record { size = g.size; low = omega arith; count = refl; few = omega arith }

pub lone_more : {t : List ℕ} {v n : ℕ} → Lone t v n → v < vertices → vertex_word t v ≡ isolated → Lone t (v + 1) (n + 1)
lone_more {t} {v} {n} k h e =
    let few = k.few in
    record {
      size = k.size;
      low = omega arith;
      count = rw (add-one v, alones_suc (rotation t) v, length-append, lone_yes (rotation t) v (alone_yes t v h e)) (ap (λ j. j + 1) k.count);
      few = omega arith;
    }

pub lone_skip : {t : List ℕ} {v n : ℕ} → Lone t v n → v < vertices → vertex_word t v ≢ isolated → Lone t (v + 1) n
lone_skip {t} {v} {n} k h e =
    let few = k.few in
    let gone : alone? t v ≡ false = false_unless (alone? t v) (λ p. e (alone_word t v p).1) in
    record {
      size = k.size;
      low = omega arith;
      count = rw (add-one v, alones_suc (rotation t) v, lone_no (rotation t) v gone, append-nil) k.count;
      few = omega arith;
    }

-- an empty walk is two words
lone_words : (R : Rotation) (l : List ℕ) → length (gather (walk_text R) (map lone_corner l)) ≡ 2 * length l
unfolding gather
lone_words R [] = refl
lone_words R (v ∷ l) = let r = lone_words R l in rw (written_lone R v) (omega arith)

pub measured : {t : List ℕ} {walks words n : ℕ} {m : List ℕ} → WalkCounting t 2048 walks words m → Lone t 512 n
    → Measured t (record { walks = walks + n; words = words + 2 * n })
unfolding face_count listing faces
measured {t} {walks} {words} {n} k a =
    let R = rotation t in
    let alone = lone_words R (alones R vertices) in
    let few = a.few in
    let most = k.short in
    record {
      walks = rw (length-append, length-map) (ap₂ ◌+◌ k.count a.count);
      words = rw (gather_append, length-append, alone) (ap₂ (λ x y. x + 2 * y) k.size a.count);
      short = omega arith;
    }
