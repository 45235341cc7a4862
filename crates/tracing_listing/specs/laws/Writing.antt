-- What the code that writes the listing promises, and the invariants of its loops: the words so far stand at the front of the slice.
--     Stepping                                                       the loop that writes a walk
--     stepping_none, stepping_within, stepping_more, stepping_all    it begins, has room, goes on, ends
--     RoomAt, Entered                                                room for the walk that starts at dart d; it is written
--     entered_none, entered_walk, walk_room                          no walk starts there, or one does
--     RoomLone, EnteredLone                                          the same of the empty walk of vertex v
--     entered_blank, entered_lone, lone_room                         v is not isolated, or it is
--     walks_text, lones_text                                         the words of the walks from darts; of the empty walks
--     Writing, WroteWalks                                            the loop over the darts; what it leaves
--     writing_none, writing_room, writing_more, writing_all          it begins, has room, goes on, ends
--     Ending                                                         the loop over the vertices
--     ending_none, ending_room, ending_more                          it begins, has room, goes on
--     listed_parts, walks_room, lones_room                           both together are the listing; there is room for both
use Rattle.std.specs.Prelude.{ℕ, suc, ◌+◌, ◌*◌, ◌<◌, ◌≤◌, ◌≡◌, refl, Option, Some, List, [], ◌∷◌, ◌++◌, map, ◌≢◌, length, set}
use Rattle.std.proofs.Common.{arith, add-one, zero-add, sym, ◌∙◌, ap, length-append}
use Rattle.std.proofs.lemmas.List.{map-append}
use Rattle.std.proofs.lemmas.List.Edits.{sets}
use Rattle.std.proofs.Math.Seq.{length-sets}
use Rattle.table.specs.Layout.{vertices, darts, isolated, vertex_word, lone_at}
use Rattle.table.specs.Good.{Good}
use Rattle.table.specs.Rotation.{Rotation, rotation, alone?}
use Rattle.table.specs.laws.Rotation.{alone_yes, alone_word}
use Rattle.table.specs.Output.{front}
use Rattle.table.specs.laws.Output.{sets_front, sets_append}
use Rattle.orbits.proofs.laws.Truth.{false_unless}
use Rattle.tracing.specs.Walk.{walk}
use Rattle.tracing.specs.Listing.{gather, fresh, starts, lone, alones, lone_corner, walk_text, met_by, faces, listing}
use Rattle.tracing.proofs.laws.Listing.{gather_none, gather_one, gather_append, starts_suc, lone_yes, lone_no, alones_suc, written_lone}
use Rattle.tracing_walks.specs.laws.Stands.{Stands}
use Rattle.tracing_walks.specs.laws.Along.{Along, along_none, along_more, along_all, along_few}
use Rattle.tracing_walks.specs.laws.Marks.{mark, unmarked}
use Rattle.tracing_walks.specs.laws.Size.{LookReady, Looked, unmet, Seen, seen_none, seen_range, seen_more, unmet_fresh, no_walk, one_walk, looked_marks, looked_text}
use Rattle.table.specs.laws.Front.{Front, front_none, front_more, next_room}

-- the loop that writes a walk
pub record Stepping (t : List ℕ) (s start : ℕ) (out₀ gone left : List ℕ) (n : ℕ) (out : List ℕ) : Type 0 where
  pub along : Along t s gone left
  pub room : start + length (walk (rotation t) s) ≤ length out₀
  pub count : n ≡ length gone
  pub words : out ≡ sets out₀ start gone

pub stepping_none : {t : List ℕ} {s start n : ℕ} {out left : List ℕ} → Stands t s → start + length (walk (rotation t) s) ≤ length out → left ≡ walk (rotation t) s → n ≡ 0
    → Stepping t s start out [] left n out
stepping_none h l e c = record { along = along_none h e; room = l; count = c; words = refl }

module _ {t : List ℕ} {s start : ℕ} {out₀ gone left : List ℕ} {n : ℕ} {out : List ℕ} (k : Stepping t s start out₀ gone left n out) where
  pub stepping_all : left ≡ [] → out ≡ sets out₀ start (walk (rotation t) s)
  stepping_all e = rw (← along_all k.along e) k.words

  module _ {at : ℕ} {left' : List ℕ} (e : left ≡ at ∷ left') where
    -- a step of the walk has a place in it
    pub stepping_within : start + n < length out
    stepping_within = let few = along_few k.along e in let room = k.room in rw (k.words, length-sets) (omega (arith, k.count))

    pub stepping_more : {m : ℕ} → m ≡ n + 1 → Stepping t s start out₀ (gone ++ at ∷ []) left' m (set out (start + n) at)
    stepping_more f = record {
      along = along_more k.along e;
      room = k.room;
      count = rw (f, k.count, length-append) refl;
      words = rw (k.words, k.count) (sym (sets_append out₀ start gone (at ∷ [])));
    }

-- a dart in range, and room for the words of the walk that starts at it
pub record RoomAt (t m out : List ℕ) (at d : ℕ) : Type 0 where
  pub range : LookReady t m d
  pub room : at + length (gather (walk_text (rotation t)) (unmet t m d)) ≤ length out

-- the walk that starts at d, if one does, stands from `at` on, and its corners are marked
pub record Entered (t m out : List ℕ) (at d r : ℕ) (m' out' : List ℕ) : Type 0 where
  pub end : r ≡ at + length (gather (walk_text (rotation t)) (unmet t m d))
  pub marks : m' ≡ mark m (met_by (rotation t) (unmet t m d))
  pub words : out' ≡ sets out at (gather (walk_text (rotation t)) (unmet t m d))

pub entered_none : {t : List ℕ} {d : ℕ} {m : List ℕ} {r : Option ℕ} {m' : List ℕ} (out : List ℕ) (at : ℕ) → Looked t d m r m' → ((n : ℕ) → r ≢ Some n) → Entered t m out at d at m' out
entered_none {t} {d} {m} out at (no_walk u) q =
    let blank : gather (walk_text (rotation t)) (unmet t m d) ≡ [] = rw u (gather_none (walk_text (rotation t))) in
    record { end = rw blank (omega arith); marks = looked_marks (no_walk u); words = rw blank refl }
entered_none out at (one_walk h u k) q = absurd (q _ refl)

module _ {t m out : List ℕ} {at d : ℕ} (h : RoomAt t m out at d) {n : ℕ} {m' : List ℕ} where
  pub entered_walk : {out' : List ℕ} → Looked t d m (Some n) m' → out' ≡ sets (set out at n) (at + 1) (walk (rotation t) (2 * d)) → Entered t m out at d (at + 1 + n) m' out'
  entered_walk (one_walk st u k) f =
      let text = looked_text h.range.low u k in
      let size = k.steps in
      record { end = rw text (omega (arith, k.steps)); marks = looked_marks (one_walk st u k); words = rw (text, f, add-one) refl }

  -- there is room for the number of steps and the steps
  pub walk_room : Looked t d m (Some n) m' → at + 1 + n ≤ length out
  walk_room (one_walk st u k) =
      let text = ap length (looked_text h.range.low u k) in
      let room = h.room in
      let size = k.steps in
      omega arith

-- a vertex in range, and room for its empty walk
pub record RoomLone (t out : List ℕ) (at v : ℕ) : Type 0 where
  pub good : Good t
  pub low : v < vertices
  pub room : at + length (gather (walk_text (rotation t)) (map lone_corner (lone (rotation t) v))) ≤ length out

pub record EnteredLone (t out : List ℕ) (at v r : ℕ) (out' : List ℕ) : Type 0 where
  pub end : r ≡ at + length (gather (walk_text (rotation t)) (map lone_corner (lone (rotation t) v)))
  pub words : out' ≡ sets out at (gather (walk_text (rotation t)) (map lone_corner (lone (rotation t) v)))

lone_text_lem : (t : List ℕ) (v : ℕ) → v < vertices → vertex_word t v ≡ isolated
    → gather (walk_text (rotation t)) (map lone_corner (lone (rotation t) v)) ≡ 0 ∷ lone_corner v ∷ []
lone_text_lem t v h e =
    rw (lone_yes (rotation t) v (alone_yes t v h e)) (gather_one (walk_text (rotation t)) (lone_corner v) ∙ written_lone (rotation t) v)

lone_blank : (t : List ℕ) (v : ℕ) → vertex_word t v ≢ isolated → gather (walk_text (rotation t)) (map lone_corner (lone (rotation t) v)) ≡ []
unfolding gather
lone_blank t v e = rw (lone_no (rotation t) v (false_unless (alone? t v) (λ p. e (alone_word t v p).1)))

pub entered_blank : (t out : List ℕ) (at v : ℕ) → vertex_word t v ≢ isolated → EnteredLone t out at v at out
entered_blank t out at v e = let b = lone_blank t v e in record { end = rw b (omega arith); words = rw b }

pub entered_lone : {t out : List ℕ} {at v : ℕ} → RoomLone t out at v → vertex_word t v ≡ isolated
    → EnteredLone t out at v (at + 2) (set (set out at 0) (at + 1) (lone_at + v))
entered_lone {t} {out} {at} {v} k e = let b = lone_text_lem t v k.low e in record { end = rw b (omega arith); words = rw (b, add-one) }

pub lone_room : {t out : List ℕ} {at v : ℕ} → RoomLone t out at v → vertex_word t v ≡ isolated → at + 2 ≤ length out
lone_room {t} {out} {at} {v} k e = let b = lone_text_lem t v k.low e in let room = k.room in omega (arith, ap length b)

-- the words of the walks that start below d, and of the empty walks of vertices below v
abbrev pub walks_text : Rotation → ℕ → List ℕ
walks_text R d = gather (walk_text R) (starts R d)

abbrev pub lones_text : Rotation → ℕ → List ℕ
lones_text R v = gather (walk_text R) (map lone_corner (alones R v))

walks_text_suc : (R : Rotation) (d : ℕ) → walks_text R (suc d) ≡ walks_text R d ++ gather (walk_text R) (fresh R (starts R d) d)
walks_text_suc R d = rw (starts_suc R d) (gather_append (walk_text R) (starts R d) (fresh R (starts R d) d))

lones_text_suc : (R : Rotation) (v : ℕ) → lones_text R (suc v) ≡ lones_text R v ++ gather (walk_text R) (map lone_corner (lone R v))
lones_text_suc R v =
    rw (alones_suc R v, map-append lone_corner (alones R v) (lone R v))
    (gather_append (walk_text R) (map lone_corner (alones R v)) (map lone_corner (lone R v)))

listing_parts : (R : Rotation) → listing R ≡ walks_text R darts ++ lones_text R vertices
unfolding listing faces
listing_parts R = gather_append (walk_text R) (starts R darts) (map lone_corner (alones R vertices))

pub record WroteWalks (t out : List ℕ) (r : ℕ) (out' : List ℕ) : Type 0 where
  pub end : r ≡ length (walks_text (rotation t) darts)
  pub words : out' ≡ sets out 0 (walks_text (rotation t) darts)

-- the loop over the darts
pub record Writing (t : List ℕ) (d at : ℕ) (m out₀ out : List ℕ) : Type 0 where
  pub seen : Seen t d m
  pub room : length (walks_text (rotation t) darts) ≤ length out₀
  pub front : Front (walks_text (rotation t) d) out₀ 0 at out

pub writing_none : {t out : List ℕ} → Good t → length (walks_text (rotation t) darts) ≤ length out → Writing t 0 0 unmarked out out
unfolding starts gather
writing_none {out = out} g h = record { seen = seen_none g; room = h; front = front_none out 0 }

pub writing_room : {t : List ℕ} {d at : ℕ} {m out₀ out : List ℕ} → Writing t d at m out₀ out → d < darts → RoomAt t m out at d
writing_room {t} {d} {at} {m} {out₀} {out} k h =
    let R = rotation t in
    let next = next_room (walks_text R) (λ n. gather (walk_text R) (fresh R (starts R n) n)) (walks_text_suc R) darts d h in
    let room = k.room in
    let end = k.front.end in
    let size = k.front.size in
    record { range = seen_range k.seen h; room = rw (unmet_fresh k.seen h) (omega arith) }

pub writing_more : {t : List ℕ} {d at r : ℕ} {m m' out₀ out out' : List ℕ} → Writing t d at m out₀ out → d < darts → Entered t m out at d r m' out'
    → Writing t (d + 1) r m' out₀ out'
writing_more {t} {d} {at} {r} {m} {m'} {out₀} {out} {out'} k h e =
    let R = rotation t in
    let u = unmet_fresh k.seen h in
    record {
      seen = seen_more k.seen h e.marks;
      room = k.room;
      front = rw (add-one, walks_text_suc R d) (front_more (gather (walk_text R) (fresh R (starts R d) d)) k.front (rw u at e.end) (rw u at e.words));
    }

pub writing_all : {t : List ℕ} {at : ℕ} {m out₀ out : List ℕ} → Writing t darts at m out₀ out → WroteWalks t out₀ at out
writing_all k = let end = k.front.end in record { end = omega arith; words = k.front.words }

-- the loop over the vertices
pub record Ending (t : List ℕ) (v start at : ℕ) (out₀ out : List ℕ) : Type 0 where
  pub good : Good t
  pub low : v ≤ vertices
  pub room : start + length (lones_text (rotation t) vertices) ≤ length out₀
  pub front : Front (lones_text (rotation t) v) out₀ start at out

pub ending_none : {t : List ℕ} {start : ℕ} {out : List ℕ} → Good t → start + length (lones_text (rotation t) vertices) ≤ length out → Ending t 0 start start out out
unfolding alones gather
ending_none {start = start} {out = out} g h = record { good = g; low = omega arith; room = h; front = front_none out start }

pub ending_room : {t : List ℕ} {v start at : ℕ} {out₀ out : List ℕ} → Ending t v start at out₀ out → v < vertices → RoomLone t out at v
ending_room {t} {v} k h =
    let R = rotation t in
    let next = next_room (lones_text R) (λ n. gather (walk_text R) (map lone_corner (lone R n))) (lones_text_suc R) vertices v h in
    let room = k.room in
    let end = k.front.end in
    let size = k.front.size in
    record { good = k.good; low = h; room = omega arith }

pub ending_more : {t : List ℕ} {v start at r : ℕ} {out₀ out out' : List ℕ} → Ending t v start at out₀ out → v < vertices → EnteredLone t out at v r out'
    → Ending t (v + 1) start r out₀ out'
ending_more {t} {v} k h e =
    let R = rotation t in
    record {
      good = k.good;
      low = omega arith;
      room = k.room;
      front = rw (add-one, lones_text_suc R v) (front_more (gather (walk_text R) (map lone_corner (lone R v))) k.front e.end e.words);
    }

-- the walks and then the isolated vertices: the listing, at the front of the slice
pub listed_parts : {t out : List ℕ} {r : ℕ} {mid out' : List ℕ} → length (listing (rotation t)) ≤ length out → WroteWalks t out r mid
    → out' ≡ sets mid r (lones_text (rotation t) vertices) → out' ≡ front (listing (rotation t)) out
listed_parts {t} {out} {r} {mid} {out'} h k e =
    let R = rotation t in
    let joined : out' ≡ sets out 0 (listing R) =
    e ∙ rw (listing_parts R, sets_append out 0 (walks_text R darts) (lones_text R vertices), zero-add, k.words, k.end) in
    joined ∙ sets_front (listing R) out h

pub walks_room : (R : Rotation) (n : ℕ) → length (listing R) ≤ n → length (walks_text R darts) ≤ n
walks_room R n h = let size = ap length (listing_parts R) ∙ length-append (walks_text R darts) (lones_text R vertices) in omega arith

pub lones_room : {t out : List ℕ} {r : ℕ} {mid : List ℕ} → length (listing (rotation t)) ≤ length out → WroteWalks t out r mid
    → r + length (lones_text (rotation t) vertices) ≤ length mid
lones_room {t} {out} h k =
    let R = rotation t in
    let size = ap length (listing_parts R) ∙ length-append (walks_text R darts) (lones_text R vertices) in
    let same = ap length k.words ∙ length-sets out 0 (walks_text R darts) in
    let end = k.end in
    omega arith
