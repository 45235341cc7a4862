-- The tags that one trace of the faces writes: twice the face of a corner plus its type there.
--     tagged, Wrote, untagged                                     the tags of some steps of a walk; what a tag is after them; no tag yet
--     Tagging                                                     a walk under way
--     tagging_none, tagging_corner, tagging_more, tagging_all     it begins, has a tag to write, goes on, ends
--     TagOf, Tagged, tagged_none                                  the tag of a corner once the walks from below d are traced; of all
--     TaggedFrom, look_ready, from_dead, from_met, from_start     the walk that starts at dart d, if one does
--     TagCounting, counting_none, counting_more, counting_dead    the loop over the darts, with the walks counted
--     Tags, tags_all, count_all                                   all walks are traced; the number of faces
use Rattle.std.specs.Prelude.{ℕ, ◌+◌, ◌*◌, ◌%◌, ◌<◌, ◌≤◌, ◌≡◌, refl, true, List, [], ◌∷◌, ◌++◌, map, ◌≢◌, get_or, set, replicate}
use Rattle.std.proofs.Common.{arith, add-zero, sym, ◌∙◌, ap₂, append-nil, length-append, length-set, get_or-set_same, get_or-set_other}
use Rattle.std.proofs.Math.Numerals.{add-one}
use Rattle.std.proofs.Math.Decide.{ℕ_discrete}
use Rattle.std.proofs.Math.Path.{ap}
use Rattle.std.proofs.Math.Bool.{false}
use Rattle.std.proofs.Math.ListN.{length}
use Rattle.std.proofs.lemmas.List.{length-map, length-replicate, get_or-replicate}
use Rattle.orbits.proofs.laws.Truth.{clash, false_unless}
use Rattle.table.specs.Layout.{darts, nothing, edge_of, edge_word}
use Rattle.table.specs.Good.{Good}
use Rattle.table.specs.laws.Blocks.{edge_blocks, DeadBlock, dead_dart, block_on}
use Rattle.table.specs.Rotation.{Rotation, Lawful, rotation, live?}
use Rattle.table.specs.laws.Rotation.{live_yes, yes_live}
use Rattle.table.specs.laws.Lawful.{good_lawful}
use Rattle.tracing.specs.Step.{corner}
use Rattle.tracing.specs.Walk.{walk, corners}
use Rattle.tracing.specs.Listing.{has, met_by, fresh, starts, faces, face_count}
use Rattle.tracing.proofs.laws.Listing.{has_here, has_there, gather_none, gather_one, gather_append, starts_suc, starts_zero, fresh_dead, fresh_met, fresh_start}
use Rattle.tracing.proofs.laws.Has.{has_empty, has_tail, has_parts, left, right, has_left, has_right, has_gather, has_map}
use Rattle.tracing.proofs.laws.Starts.{has_start}
use Rattle.tracing.specs.Corner.{face_of, type_of}
use Rattle.tracing.proofs.laws.Corner.{corner_met, face_by}
use Rattle.tracing_walks.specs.laws.Stands.{Stands, stands_corner}
use Rattle.tracing_walks.specs.laws.Along.{Along, along_none, along_more, along_all, along_stands}
use Rattle.tracing_walks.specs.laws.Size.{LookReady, Lone}

-- the tags m with those of these steps of the walk from s
unfoldable pub tagged : Rotation → List ℕ → ℕ → List ℕ → List ℕ
tagged R m s [] = m
tagged R m s (x ∷ l) = tagged R (set m (corner R x) (s + x % 2)) s l

tagged_append : (R : Rotation) (m : List ℕ) (s : ℕ) (a b : List ℕ) → tagged R m s (a ++ b) ≡ tagged R (tagged R m s a) s b
unfolding tagged
tagged_append R m s [] b = refl
tagged_append R m s (x ∷ a) b = tagged_append R (set m (corner R x) (s + x % 2)) s a b

tagged_length : (R : Rotation) (m : List ℕ) (s : ℕ) (l : List ℕ) → length (tagged R m s l) ≡ length m
unfolding tagged
tagged_length R m s [] = refl
tagged_length R m s (x ∷ l) = tagged_length R (set m (corner R x) (s + x % 2)) s l ∙ length-set m (corner R x) (s + x % 2)

-- a corner that none of the steps meets keeps its tag; another has that of a step at it
data Wrote (R : Rotation) (m : List ℕ) (s : ℕ) (l : List ℕ) (c w : ℕ) : Type 0 where
  kept : has c (map (corner R) l) ≡ false → w ≡ get_or m c 0 → Wrote R m s l c w
  by_step : (x : ℕ) → has x l ≡ true → corner R x ≡ c → w ≡ s + x % 2 → Wrote R m s l c w

tagged_reads : (R : Rotation) (m : List ℕ) (s : ℕ) (l : List ℕ) (c : ℕ) → c < length m → Wrote R m s l c (get_or (tagged R m s l) c 0)
unfolding tagged has
tagged_reads R m s [] c h = kept refl refl
tagged_reads R m s (x ∷ l) c h = elim (tagged_reads R (set m (corner R x) (s + x % 2)) s l c (rw length-set h)) [
  | by_step y a e w ↦ by_step y (has_tail y x l a) e w
  | kept n w ↦ elim (ℕ_discrete c (corner R x)) [
    | yes q ↦ by_step x (has_here x l) (sym q) (w ∙ rw q (get_or-set_same m (corner R x) (s + x % 2) 0 (rw q at h)))
    | no q ↦ kept (has_there c (corner R x) (map (corner R) l) q ∙ n) (w ∙ get_or-set_other m (corner R x) c (s + x % 2) 0 q)
  ]
]

-- the loop over the walk from s: the corners of the steps so far are tagged
pub record Tagging (t : List ℕ) (s : ℕ) (m₀ gone left m : List ℕ) : Type 0 where
  pub along : Along t s gone left
  pub tags : m ≡ tagged (rotation t) m₀ s gone
  pub size : length m ≡ darts

pub tagging_none : {t : List ℕ} {s : ℕ} {m left : List ℕ} → Stands t s → length m ≡ darts → left ≡ walk (rotation t) s → Tagging t s m [] left m
unfolding tagged
tagging_none h l e = record { along = along_none h e; tags = refl; size = l }

module _ {t : List ℕ} {s : ℕ} {m₀ gone left m : List ℕ} (k : Tagging t s m₀ gone left m) where
  pub tagging_all : left ≡ [] → m ≡ tagged (rotation t) m₀ s (walk (rotation t) s)
  tagging_all e = rw (← along_all k.along e) k.tags

  module _ {at : ℕ} {left' : List ℕ} (e : left ≡ at ∷ left') {c : ℕ} (f : c ≡ corner (rotation t) at) where
    pub tagging_corner : c < darts
    tagging_corner = rw f (stands_corner (along_stands k.along e))

    pub tagging_more : Tagging t s m₀ (gone ++ at ∷ []) left' (set m c (s + at % 2))
    unfolding tagged
    tagging_more = record {
      along = along_more k.along e;
      tags = rw (f, k.tags) (sym (tagged_append (rotation t) m₀ s gone (at ∷ [])));
      size = length-set m c (s + at % 2) ∙ k.size;
    }

-- the tag w of corner c once the walks that start below d are traced
pub data TagOf (R : Rotation) (d c w : ℕ) : Type 0 where
  none_yet : w ≡ nothing → has c (met_by R (starts R d)) ≡ false → TagOf R d c w
  tag : (a x : ℕ) → has a (starts R d) ≡ true → has x (walk R (2 * a)) ≡ true → corner R x ≡ c → w ≡ 2 * a + x % 2 → TagOf R d c w

pub record Tagged (t : List ℕ) (d : ℕ) (m : List ℕ) : Type 0 where
  pub good : Good t
  pub low : d ≤ darts
  pub size : length m ≡ darts
  pub tags : (c : ℕ) → c < darts → TagOf (rotation t) d c (get_or m c 0)

-- no tag yet
abbrev pub untagged : List ℕ
untagged = replicate darts nothing

pub tagged_none : {t : List ℕ} → Good t → Tagged t 0 untagged
tagged_none {t} g = record {
  good = g;
  low = omega arith;
  size = simp length-replicate;
  tags = λ c h. none_yet (get_or-replicate darts c nothing 0 h) (false_unless _ (λ e. has_empty c (rw (starts_zero (rotation t), gather_none) at e)));
}

-- n walks start at dart d, and their corners are tagged
pub record TaggedFrom (t : List ℕ) (d n : ℕ) (m : List ℕ) : Type 0 where
  pub more : Tagged t (d + 1) m
  pub count : n ≡ length (fresh (rotation t) (starts (rotation t) d) d)
  pub few : n ≤ 1

module _ {t : List ℕ} {d : ℕ} {m : List ℕ} (k : Tagged t d m) (h : d < darts) where
  abbrev R : Rotation
  R = rotation t

  no_start : fresh R (starts R d) d ≡ [] → TaggedFrom t d 0 m
  no_start f = record {
    more = record { good = k.good; low = omega arith; size = k.size; tags = λ c l. again (k.tags c l) };
    count = rw f;
    few = omega arith;
  }
    where
      same : starts R (d + 1) ≡ starts R d
      same = rw (add-one, starts_suc R d, f) (append-nil (starts R d))

      again : {c w : ℕ} → TagOf R d c w → TagOf R (d + 1) c w
      again (none_yet e n) = none_yet e (rw same n)
      again (tag a x i j q e) = tag a x (rw same i) j q e

  pub from_dead : edge_word t (edge_of d) ≡ 0 → TaggedFrom t d 0 m
  from_dead e = no_start (fresh_dead R (starts R d) d (false_unless (live? t d) (λ l. (live_yes t d l).on e)))

  pub from_met : get_or m d 0 ≢ nothing → TaggedFrom t d 0 m
  unfolding corners
  from_met n = no_start (elim (k.tags d h) [
    | none_yet e u ↦ absurd (n e)
    | tag a x i j q e ↦
        fresh_met R (starts R d) d
        (has_gather (λ b. corners R (2 * b)) (starts R d) a d i (rw q at (has_map (corner R) (walk R (2 * a)) x j)))
  ])

  pub look_ready : LookReady t m d
  look_ready = record { good = k.good; size = k.size; low = h }

  pub from_start : {m' : List ℕ} → edge_word t (edge_of d) ≢ 0 → get_or m d 0 ≡ nothing → m' ≡ tagged R m (2 * d) (walk R (2 * d)) → TaggedFrom t d 1 m'
  unfolding corners
  from_start {m'} live e w = record {
    more = record {
      good = k.good;
      low = omega arith;
      size = ap length w ∙ tagged_length R m (2 * d) (walk R (2 * d)) ∙ k.size;
      tags = λ c l. after c (k.tags c l) (rw (← w) at (tagged_reads R m (2 * d) (walk R (2 * d)) c (rw k.size l)));
    };
    count = rw starts_here;
    few = omega arith;
  }
    where
      unmet : has d (met_by R (starts R d)) ≡ false
      unmet = elim (k.tags d h) [
        | none_yet z u ↦ u
        | tag a x i j q z ↦
            let low = (has_start R d a i).low in
            absurd (omega (arith, e, z))
      ]

      starts_here : fresh R (starts R d) d ≡ d ∷ []
      starts_here = fresh_start R (starts R d) d (yes_live t d (record { low = h; on = live })) unmet

      grown : starts R (d + 1) ≡ starts R d ++ (d ∷ [])
      grown = rw (add-one, starts_suc R d, starts_here)

      met_more : met_by R (starts R (d + 1)) ≡ met_by R (starts R d) ++ corners R (2 * d)
      met_more = rw (grown, gather_append, gather_one (λ b. corners R (2 * b)) d)

      after : (c : ℕ) → TagOf R d c (get_or m c 0) → Wrote R m (2 * d) (walk R (2 * d)) c (get_or m' c 0) → TagOf R (d + 1) c (get_or m' c 0)
      after c old (by_step x i q z) = tag d x (rw grown (has_right d (starts R d) (d ∷ []) (has_here d []))) i q z
      after c (none_yet z n) (kept u v) =
          none_yet (v ∙ z) (false_unless (has c (met_by R (starts R (d + 1)))) (λ y. elim (has_parts c (met_by R (starts R d)) (corners R (2 * d)) (rw met_more at y)) [
            | left b ↦ clash b n
            | right b ↦ clash b u
          ]))
      after c (tag a x i j q z) (kept u v) = tag a x (rw grown (has_left a (starts R d) (d ∷ []) i)) j q (v ∙ z)

-- a loop over the darts: the walks that start below d are counted
pub record TagCounting (t : List ℕ) (d n : ℕ) (m : List ℕ) : Type 0 where
  pub tagged : Tagged t d m
  pub count : n ≡ length (starts (rotation t) d)
  pub few : n ≤ d

pub counting_none : {t m : List ℕ} → Good t → m ≡ untagged → TagCounting t 0 0 m
unfolding starts
counting_none g e = record { tagged = rw e (tagged_none g); count = refl; few = omega arith }

pub counting_more : {t : List ℕ} {d n k : ℕ} {m m' : List ℕ} → TagCounting t d n m → TaggedFrom t d k m' → TagCounting t (d + 1) (n + k) m'
counting_more {t} {d} c f =
    let few = c.few in
    let one = f.few in
    record {
      tagged = f.more;
      count = rw (add-one, starts_suc (rotation t) d, length-append) (ap₂ ◌+◌ c.count f.count);
      few = omega arith;
    }

-- no walk starts in a block without a live edge
pub counting_dead : {t : List ℕ} (b : ℕ) {n : ℕ} {m : List ℕ} → b < edge_blocks → DeadBlock t b → TagCounting t (64 * b) n m → TagCounting t (64 * b + 64) n m
counting_dead {t} b {n} {m} h k = block_on (λ d. TagCounting t d n m) (64 * b) 64 (λ i l c.
    rw (add-zero n) at (counting_more c (from_dead c.tagged (omega arith) (dead_dart t b k i l))))

-- all walks are traced: a corner's tag is twice its face plus its type
pub record Tags (t : List ℕ) (m : List ℕ) : Type 0 where
  pub size : length m ≡ darts
  pub tag : (c : ℕ) → live? t c ≡ true → get_or m c 0 ≡ 2 * face_of (rotation t) c + type_of (rotation t) c

pub count_all : {t : List ℕ} {n k : ℕ} {m : List ℕ} → TagCounting t 2048 n m → Lone t 512 k → n + k ≡ face_count (rotation t)
unfolding face_count faces
count_all c a = rw (length-append, length-map) (ap₂ ◌+◌ c.count a.count)

pub tags_all : {t : List ℕ} {n : ℕ} {m : List ℕ} → TagCounting t 2048 n m → Tags t m
tags_all {t} {n} {m} k = record { size = k.tagged.size; tag = λ c l. is c l (k.tagged.tags c (L.dart_low c l)) }
  where
    L : Lawful (rotation t)
    L = good_lawful t k.tagged.good

    is : (c : ℕ) → live? t c ≡ true → TagOf (rotation t) darts c (get_or m c 0) → get_or m c 0 ≡ 2 * face_of (rotation t) c + type_of (rotation t) c
    is c l (none_yet e u) = absurd (clash (corner_met (rotation t) L c l) u)
    is c l (tag a x i j q e) = let f = face_by (rotation t) L c a x l i j q in omega (arith, e, f.0, f.1)
