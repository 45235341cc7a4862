-- The lines of the listed walks, one dart and then one vertex at a time.
--     numbered_append                                                lines with indices, one list after another
--     WalkAt, walk_wrote                                             the line of a walk with steps
--     DartAt, LinePlaced                                             dart d, in range; the line of the walk that starts there, if any
--     placed_none, placed_walk, placed_one                           no walk starts there, or one does
--     Numbering, PlacedAll                                           the loop over the darts; the lines of all walks from darts
--     numbering_none, numbering_at, numbering_more, numbering_all    it begins, is ready, goes on, ends
--     lone_text, lone_wrote                                          the line of an isolated vertex
--     LoneAt, PlacedLone, lone_none, lone_one                        vertex v: it is not isolated, or its line is written
--     lone_lines, LonesWriting                                       the lines of isolated vertices; the loop over the vertices
--     ending_none, ending_at, ending_more, ending_all                it begins, is ready, goes on, ends
use Rattle.std.specs.Prelude.{ℕ, suc, ◌+◌, ◌-◌, ◌*◌, ◌<◌, ◌≤◌, ◌^◌, ◌≡◌, refl, Option, Some, List, [], ◌∷◌, ◌++◌, map, ◌≢◌, length}
use Rattle.std.proofs.Common.{arith, add-one, add-zero, sym, ◌∙◌, ap, ap₂, append-nil, append_assoc, length-append, lt-ltb, le-ltb}
use Rattle.std.proofs.lemmas.List.{map-append, length-map}
use Rattle.orbits.proofs.laws.Truth.{false_unless}
use Rattle.table.specs.Layout.{vertices, darts, isolated, vertex_word, lone_at}
use Rattle.table.specs.Good.{Good}
use Rattle.table.specs.Rotation.{rotation, alone?}
use Rattle.table.specs.laws.Rotation.{alone_yes, alone_word}
use Rattle.tracing.specs.Walk.{walk}
use Rattle.tracing.specs.Listing.{gather, met_by, starts, fresh, lone, alones, lone_corner}
use Rattle.tracing.proofs.laws.Listing.{starts_suc, lone_yes, lone_no, alones_suc}
use Rattle.tracing_walks.specs.laws.Stands.{Stands}
use Rattle.tracing_walks.specs.laws.Marks.{mark, unmarked}
use Rattle.tracing_walks.specs.laws.Size.{LookReady, Looked, unmet, no_walk, one_walk, looked_marks, Seen, seen_none, seen_range, seen_more, unmet_fresh}
use Rattle.text.specs.Decimal.{decimal}
use Rattle.text.specs.laws.Decimal.{decimal_low}
use Rattle.report_lines.specs.declared.walk.Place.{Place}
use Rattle.report_lines.specs.Lines.{space, newline, walk_word, step_text, walk_fields, walk_line, numbered}
use Rattle.report_lines.specs.laws.Wrote.{Wrote, wrote_none, wrote_then, wrote_as, wrote_most, short, number_wrote, lones_most, steps_most, walk_most, walks_most}
use Rattle.text.specs.Paste.{Pasted}

-- lines with indices

pub numbered_append : (f : ℕ → ℕ → List ℕ) (n : ℕ) (a b : List ℕ) → numbered f n (a ++ b) ≡ numbered f n a ++ numbered f (n + length a) b
unfolding numbered
numbered_append f n [] b = rw add-zero
numbered_append f n (x ∷ a) b =
    let e : suc n + length a ≡ n + suc (length a) = omega arith in
    ap (λ l. f n x ++ l) (numbered_append f (suc n) a b ∙ ap (λ k. numbered f (suc n) a ++ numbered f k b) e)
    ∙ sym (append_assoc (f n x) (numbered f (suc n) a) (numbered f (n + suc (length a)) b))

numbered_none : (f : ℕ → ℕ → List ℕ) (n : ℕ) → numbered f n [] ≡ []
unfolding numbered
numbered_none f n = refl

numbered_one : (f : ℕ → ℕ → List ℕ) (n x : ℕ) → numbered f n (x ∷ []) ≡ f n x
unfolding numbered
numbered_one f n x = append-nil (f n x)

-- a walk with steps

walk_fields_lem : (t : List ℕ) (d : ℕ) → d < lone_at → walk_fields t d ≡ (space ∷ decimal (length (walk (rotation t) (2 * d)))) ++ gather (step_text t) (walk (rotation t) (2 * d))
unfolding walk_fields
walk_fields_lem t d h = rw (lt-ltb d lone_at h, walk_fields)

-- the walk from (d, 0) has n steps
pub record WalkAt (t : List ℕ) (d n at : ℕ) : Type 0 where
  pub stands : Stands t (2 * d)
  pub low : d < darts
  pub steps : n ≡ length (walk (rotation t) (2 * d))
  pub near : at < 2 ^ 43

pub walk_wrote : (i : ℕ) {t : List ℕ} {d n at from word index count end r : ℕ} {out o-word o-index o-count o-end out' : List ℕ} → WalkAt t d n at
    → Pasted from at out walk_word word o-word → Wrote 21 from word o-word (space ∷ decimal i) index o-index → Wrote 21 from index o-index (space ∷ decimal n) count o-count
    → Wrote steps_most from count o-count (gather (step_text t) (walk (rotation t) (2 * d))) end o-end → Pasted from end o-end newline r out'
    → Wrote walk_most from at out (walk_line t i d) r out'
unfolding walk_line
walk_wrote i {t} {d} k a b c s e =
    let low = k.low in
    wrote_then (wrote_then (wrote_then (short 4 a (omega arith)) b) (wrote_as (wrote_then c s) (rw k.steps (sym (walk_fields_lem t d (omega arith)))))) (short 1 e (omega arith))

-- dart d, with the walks listed before it marked
pub record DartAt (t m : List ℕ) (d i at : ℕ) : Type 0 where
  pub range : LookReady t m d
  pub few : i ≤ darts
  pub near : at < 2 ^ 43

-- the line of the walk that starts at d, if one does
pub record LinePlaced (t m : List ℕ) (d i from at : ℕ) (out : List ℕ) (r : Place) (m' out' : List ℕ) : Type 0 where
  pub marks : m' ≡ mark m (met_by (rotation t) (unmet t m d))
  pub index : r.index ≡ i + length (unmet t m d)
  pub wrote : Wrote walk_most from at out (numbered (walk_line t) i (unmet t m d)) r.at out'
  pub few : r.index ≤ i + 1

pub placed_none : {t m : List ℕ} {d i from at : ℕ} {r : Option ℕ} {m' : List ℕ} (out : List ℕ) → Looked t d m r m' → ((n : ℕ) → r ≢ Some n)
    → LinePlaced t m d i from at out (record { at = at; index = i }) m' out
placed_none {t} {i = i} {from = from} {at = at} out (no_walk u) q = record {
  marks = looked_marks (no_walk u);
  index = rw u (omega arith);
  wrote = rw (u, numbered_none (walk_line t) i) (wrote_most (wrote_none from at out) walk_most (omega arith));
  few = omega arith;
}
placed_none out (one_walk h u k) q = absurd (q _ refl)

module _ {t m : List ℕ} {d i at n : ℕ} {m' : List ℕ} where
  -- the walk that starts there
  pub placed_walk : DartAt t m d i at → Looked t d m (Some n) m' → WalkAt t d n at
  placed_walk h (one_walk st u k) = record { stands = st; low = h.range.low; steps = k.steps; near = h.near }

  pub placed_one : {from end : ℕ} {out out' : List ℕ} → Looked t d m (Some n) m' → Wrote walk_most from at out (walk_line t i d) end out'
      → LinePlaced t m d i from at out (record { at = end; index = i + 1 }) m' out'
  placed_one (one_walk st u k) w = record {
    marks = looked_marks (one_walk st u k);
    index = rw u refl;
    wrote = rw (u, numbered_one (walk_line t) i d) w;
    few = omega arith;
  }

-- the loop over the darts: the lines of the walks that start below d are written
pub record Numbering (t : List ℕ) (from at d i end : ℕ) (m out₀ out : List ℕ) : Type 0 where
  pub seen : Seen t d m
  pub index : i ≡ length (starts (rotation t) d)
  pub few : i ≤ d
  pub wrote : Wrote (walk_most * d) from at out₀ (numbered (walk_line t) 0 (starts (rotation t) d)) end out

pub numbering_none : {t : List ℕ} (from at : ℕ) (out : List ℕ) → Good t → Numbering t from at 0 0 at unmarked out out
unfolding starts numbered
numbering_none from at out g = record { seen = seen_none g; index = refl; few = omega arith; wrote = wrote_none from at out }

pub numbering_at : {t : List ℕ} {from at d i end : ℕ} {m out₀ out : List ℕ} → at < 2 ^ 42 → Numbering t from at d i end m out₀ out → d < darts → DartAt t m d i end
numbering_at l k h = record {
  range = seen_range k.seen h;
  few = let few = k.few in omega arith;
  near = let near = k.wrote.near in omega arith;
}

pub numbering_more : {t : List ℕ} {from at d i end : ℕ} {m m' out₀ out out' : List ℕ} {r : Place} → Numbering t from at d i end m out₀ out → d < darts
    → LinePlaced t m d i from end out r m' out' → Numbering t from at (d + 1) r.index r.at m' out₀ out'
numbering_more {t} {d = d} {i = i} {r = r} k h p =
    let R = rotation t in
    let u = unmet_fresh k.seen h in
    let few = k.few in
    let one = p.few in
    let text : numbered (walk_line t) 0 (starts R d) ++ numbered (walk_line t) i (fresh R (starts R d) d) ≡ numbered (walk_line t) 0 (starts R (d + 1)) =
    rw (
      add-one,
      starts_suc R d,
      numbered_append (walk_line t) 0 (starts R d) (fresh R (starts R d) d),
      ← k.index,
    ) (ap (λ n. numbered (walk_line t) 0 (starts R d) ++ numbered (walk_line t) n (fresh R (starts R d) d)) (omega arith)) in
    record {
      seen = seen_more k.seen h p.marks;
      index = rw (add-one, starts_suc R d, length-append) (p.index ∙ ap₂ ◌+◌ k.index (ap length u));
      few = omega arith;
      wrote = wrote_most (wrote_as (wrote_then k.wrote (rw u at p.wrote)) text) (walk_most * (d + 1)) (omega arith);
    }

-- the lines of all walks that start at a dart
pub record PlacedAll (t : List ℕ) (from at : ℕ) (out : List ℕ) (r : Place) (out' : List ℕ) : Type 0 where
  pub index : r.index ≡ length (starts (rotation t) darts)
  pub few : r.index ≤ darts
  pub wrote : Wrote walks_most from at out (numbered (walk_line t) 0 (starts (rotation t) darts)) r.at out'

pub numbering_all : {t : List ℕ} {from at d i end : ℕ} {m out₀ out : List ℕ} → Numbering t from at d i end m out₀ out → darts ≤ d
    → PlacedAll t from at out₀ (record { at = end; index = i }) out
numbering_all {t} {d = d} k h =
    let low = k.seen.low in
    let few = k.few in
    let all : d ≡ darts = omega arith in
    record {
      index = k.index ∙ ap (λ n. length (starts (rotation t) n)) all;
      few = omega arith;
      wrote = wrote_most (wrote_as k.wrote (ap (λ n. numbered (walk_line t) 0 (starts (rotation t) n)) all)) walks_most (omega arith);
    }

-- an empty walk

-- the line of the isolated vertex v
abbrev pub lone_text : ℕ → ℕ → List ℕ
lone_text i v = walk_word ++ (space ∷ decimal i) ++ (32 ∷ 48 ∷ 32 ∷ 42 ∷ []) ++ decimal v ++ newline

lone_line : (t : List ℕ) (i v : ℕ) → walk_line t i (lone_corner v) ≡ lone_text i v
unfolding walk_line walk_fields
lone_line t i v =
    let back : lone_corner v - lone_at ≡ v = omega arith in
    rw (le-ltb (lone_corner v) lone_at (omega arith), walk_fields, decimal_low 0 (omega arith), back)
    (ap (λ l. l ++ newline) (sym (append_assoc (walk_word ++ (space ∷ decimal i)) (32 ∷ 48 ∷ 32 ∷ 42 ∷ []) (decimal v))))

pub lone_wrote : (i v : ℕ) {from at word index star vertex r : ℕ} {out o-word o-index o-star o-vertex out' : List ℕ} → v < 2 ^ 64
    → Pasted from at out walk_word word o-word → Wrote 21 from word o-word (space ∷ decimal i) index o-index → Pasted from index o-index (32 ∷ 48 ∷ 32 ∷ 42 ∷ []) star o-star
    → Pasted from star o-star (decimal v) vertex o-vertex → Pasted from vertex o-vertex newline r out' → Wrote 50 from at out (lone_text i v) r out'
lone_wrote i v h a b c d e = wrote_then (wrote_then (wrote_then (wrote_then (short 4 a (omega arith)) b) (short 4 c (omega arith))) (number_wrote h d)) (short 1 e (omega arith))

pub record LoneAt (t : List ℕ) (v i at : ℕ) : Type 0 where
  pub good : Good t
  pub low : v < vertices
  pub few : i ≤ darts + vertices
  pub near : at < 2 ^ 44

pub record PlacedLone (t : List ℕ) (v i from at : ℕ) (out : List ℕ) (r : Place) (out' : List ℕ) : Type 0 where
  pub index : r.index ≡ i + length (lone (rotation t) v)
  pub wrote : Wrote 50 from at out (numbered (walk_line t) i (map lone_corner (lone (rotation t) v))) r.at out'
  pub few : r.index ≤ i + 1

module _ {t : List ℕ} {v i at : ℕ} (h : LoneAt t v i at) where
  pub lone_none : (from : ℕ) (out : List ℕ) → vertex_word t v ≢ isolated → PlacedLone t v i from at out (record { at = at; index = i }) out
  lone_none from out e =
      let none = lone_no (rotation t) v (false_unless (alone? t v) (λ p. e (alone_word t v p).1)) in
      record {
        index = rw none (omega arith);
        wrote = rw (none, numbered_none (walk_line t) i) (wrote_most (wrote_none from at out) 50 (omega arith));
        few = omega arith;
      }

  pub lone_one : {from end : ℕ} {out out' : List ℕ} → vertex_word t v ≡ isolated → Wrote 50 from at out (lone_text i v) end out'
      → PlacedLone t v i from at out (record { at = end; index = i + 1 }) out'
  lone_one e w =
      let one = lone_yes (rotation t) v (alone_yes t v h.low e) in
      record {
        index = rw one;
        wrote = rw (one, numbered_one (walk_line t) i (lone_corner v), lone_line t i v) w;
        few = omega arith;
      }

-- the lines of the isolated vertices below v, with indices from `first` on
abbrev pub lone_lines : List ℕ → ℕ → ℕ → List ℕ
lone_lines t first v = numbered (walk_line t) first (map lone_corner (alones (rotation t) v))

-- the loop over the vertices
pub record LonesWriting (t : List ℕ) (from at first v i end : ℕ) (out₀ out : List ℕ) : Type 0 where
  pub low : v ≤ vertices
  pub index : i ≡ first + length (alones (rotation t) v)
  pub few : i ≤ first + v
  pub wrote : Wrote (50 * v) from at out₀ (lone_lines t first v) end out

pub ending_none : (t : List ℕ) (from at first : ℕ) (out : List ℕ) → LonesWriting t from at first 0 first at out out
unfolding alones numbered
ending_none t from at first out = record { low = omega arith; index = omega arith; few = omega arith; wrote = wrote_none from at out }

pub ending_at : {t : List ℕ} {from at first v i end : ℕ} {out₀ out : List ℕ} → Good t → first ≤ darts → at < 2 ^ 43 → LonesWriting t from at first v i end out₀ out → v < vertices
    → LoneAt t v i end
ending_at g a b k h = record {
  good = g;
  low = h;
  few = let few = k.few in omega arith;
  near = let near = k.wrote.near in omega arith;
}

pub ending_more : {t : List ℕ} {from at first v i end : ℕ} {out₀ out out' : List ℕ} {r : Place} → LonesWriting t from at first v i end out₀ out → v < vertices
    → PlacedLone t v i from end out r out' → LonesWriting t from at first (v + 1) r.index r.at out₀ out'
ending_more {t} {first = first} {v = v} {i = i} k h p =
    let R = rotation t in
    let few = k.few in
    let one = p.few in
    let size = length-map (alones R v) lone_corner in
    let text : lone_lines t first v ++ numbered (walk_line t) i (map lone_corner (lone R v)) ≡ lone_lines t first (v + 1) =
    rw (
      add-one,
      alones_suc R v,
      map-append lone_corner (alones R v) (lone R v),
      numbered_append (walk_line t) first (map lone_corner (alones R v)) (map lone_corner (lone R v)),
      size,
      ← k.index,
    ) refl in
    record {
      low = omega arith;
      index = let a = p.index in let b = k.index in rw (add-one, alones_suc R v, length-append) (omega arith);
      few = omega arith;
      wrote = wrote_most (wrote_as (wrote_then k.wrote p.wrote) text) (50 * (v + 1)) (omega arith);
    }

pub ending_all : {t : List ℕ} {from at first v i end : ℕ} {out₀ out : List ℕ} → LonesWriting t from at first v i end out₀ out → vertices ≤ v
    → Wrote lones_most from at out₀ (lone_lines t first vertices) end out
ending_all {t} {first = first} {v = v} k h =
    let low = k.low in
    let all : v ≡ vertices = omega arith in
    wrote_most (wrote_as k.wrote (ap (lone_lines t first) all)) lones_most (omega arith)
