-- An edge of a trial job on the mesh before it: the insertion is accepted, and the corners of the vertices after it.
--     Planned, corner_there                          edge e is to go between two vertices; their corners are there
--     insertion_passes, insertion_numbered           it goes through, and there is one edge more
--     stays, takes_first, takes_second, untouched    the corner of a vertex after it: its own, or a dart of the new edge
use Rattle.std.specs.Prelude.{ℕ, suc, ◌+◌, ◌*◌, ◌<◌, ◌≤◌, ◌≡◌, true, false, ◌&&◌, List, ◌≢◌, ltb, ℤ, Ok}
use Rattle.std.proofs.Common.{arith, sym, ◌∙◌, ap}
use Rattle.std.proofs.Math.Decide.{ℕ_discrete}
use Rattle.std.proofs.Math.Bool.{and-true}
use borrow.Author.Tests.{eq-eqb, lt-ltb, ltb-true}
use Rattle.orbits.proofs.laws.Truth.{same_truth}
use Rattle.table.specs.Layout.{vertices, edges, isolated, leaves, edge_word, vertex_word, edge_of, rev, lone_at, Live}
use Rattle.table.specs.Good.{Good}
use Rattle.table.specs.Rotation.{Lawful, rotation, live?}
use Rattle.table.specs.laws.Check.{good_yes}
use Rattle.table.specs.laws.Lawful.{good_lawful}
use Rattle.table.specs.laws.Rotation.{live_yes, yes_live, there_word}
use Rattle.tracing.specs.Corner.{Present}
use Rattle.surgery.specs.Without.{Without}
use Rattle.surgery.proofs.laws.Without.{apart_other}
use Rattle.surgery.specs.Sits.{Sits, just_before, before_other, at_vertex, Inserted}
use Rattle.edits.specs.Turns.{overturned}
use Rattle.edits.specs.Verdicts.{new_edge, verdict}
use Rattle.edits.specs.Edits.{written, edited}
use Rattle.edits.proofs.laws.Edits.{edited_passes}
use Rattle.edits.proofs.laws.WrittenGood.{written_good}
use Rattle.edits.proofs.laws.Accepted.{insert_without, insert_sits}
use Rattle.edits.specs.declared.edit.Edit.{Edit}
use Rattle.edits.specs.declared.edit.Edit.TheVariants.{InsertEdge}
use Rattle.records.specs.Records.{plain_length}
use Rattle.trial_jobs.specs.Trial.{corner_at}
use Rattle.trial_jobs.proofs.laws.Corners.{At, lone, first, corner_lone, corner_dart, corner_at_lem, at_present, present_yes, present_formed}
use Rattle.trial_jobs.proofs.laws.Numbered.{Numbered, numbered_vertex, numbered_dart, free}

-- the corners of the eight vertices are there
module _ {t : List ℕ} {e : ℕ} (s : Numbered t 8 e) (v : ℕ) (l : v < 8) where
  pub corner_there : At t v (corner_at t v)
  corner_there = let m = numbered_vertex s v l in corner_at_lem t v s.good m.0 m.1

  there : Present (rotation t) (corner_at t v)
  there = at_present t v s.good (numbered_vertex s v l).0 corner_there

-- edge e is to go between vertices a and b, with few turns
pub record Planned (t : List ℕ) (e a b : ℕ) (k : ℤ) : Type 0 where
  pub mesh : Numbered t 8 e
  pub low : e < edges
  pub first_low : a < 8
  pub second_low : b < 8
  pub few : overturned k ≡ false

module _ {t : List ℕ} {e a b : ℕ} {k : ℤ} (r : Planned t e a b k) where
  abbrev E : Edit
  E = InsertEdge e (corner_at t a) (corner_at t b) k plain_length

  s : Numbered t 8 e
  s = r.mesh

  one_there : Present (rotation t) (corner_at t a)
  one_there = there s a r.first_low

  two_there : Present (rotation t) (corner_at t b)
  two_there = there s b r.second_low

  pub insertion_passes : verdict t E ≡ Ok tt
  unfolding new_edge
  insertion_passes = rw (
    ← good_yes t s.good,
    lt-ltb e edges r.low,
    present_formed (rotation t) one_there,
    present_formed (rotation t) two_there,
    eq-eqb (edge_word t e) 0 (free s e r.low (omega arith)),
    present_yes (rotation t) one_there,
    present_yes (rotation t) two_there,
    r.few,
  )

  abbrev t' : List ℕ
  t' = written t E

  g' : Good t'
  g' = written_good t E insertion_passes

  W : Without (rotation t') e (rotation t)
  W = insert_without t e (corner_at t a) (corner_at t b) k plain_length insertion_passes

  sits : Inserted (rotation t') e (rotation t) (corner_at t a) (corner_at t b)
  sits = insert_sits t e (corner_at t a) (corner_at t b) k plain_length insertion_passes

  L' : Lawful (rotation t')
  L' = good_lawful t' g'

  -- the live darts are those before, and the two of e
  second_live : live? t' (2 * e + 1) ≡ true
  second_live =
      let back : rev (2 * e) ≡ 2 * e + 1 = omega arith in
      ap (live? t') (sym back) ∙ L'.live_rev (2 * e) ∙ W.here

  other_live : (d : ℕ) → edge_of d ≢ e → live? t d ≡ live? t' d
  other_live d n = W.live d ∙ ap (λ x. live? t' d && x) (apart_other e d n) ∙ and-true (live? t' d)

  data Dart (d : ℕ) : Type 0 where
    old : Live t d → leaves t d ≡ leaves t' d → Dart d
    one : d ≡ 2 * e → Dart d
    two : d ≡ 2 * e + 1 → Dart d

  dart : (d : ℕ) → Live t' d → Dart d
  dart d l = elim (ℕ_discrete d (2 * e)) [
    | yes q ↦ one q
    | no n ↦ elim (ℕ_discrete d (2 * e + 1)) [
      | yes q ↦ two q
      | no m ↦
          let on = other_live d (omega arith) ∙ yes_live t' d l in
          old (live_yes t d on) (W.from d on)
    ]
  ]

  pub insertion_numbered : Numbered (edited t E) 8 (suc e)
  insertion_numbered = rw (edited_passes t E insertion_passes) (record {
    good = g';
    there = λ u. sym (W.there u) ∙ s.there u;
    live = λ d. elim (ℕ_discrete d (2 * e)) [
      | yes q ↦ ap (live? t') q ∙ W.here ∙ sym (lt-ltb d (2 * suc e) (omega arith))
      | no n ↦ elim (ℕ_discrete d (2 * e + 1)) [
        | yes q ↦ ap (live? t') q ∙ second_live ∙ sym (lt-ltb d (2 * suc e) (omega arith))
        | no m ↦ sym (other_live d (omega arith)) ∙ s.live d ∙ within d n m
      ]
    ];
  })
    where
      within : (d : ℕ) → d ≢ 2 * e → d ≢ 2 * e + 1 → ltb d (2 * e) ≡ ltb d (2 * suc e)
      within d n m = same_truth (ltb d (2 * e)) (ltb d (2 * suc e))
          (λ x. let l = ltb-true d (2 * e) x in lt-ltb d (2 * suc e) (omega arith))
          (λ x. let l = ltb-true d (2 * suc e) x in lt-ltb d (2 * e) (omega arith))

  -- the vertices that the new darts leave
  corner_from : {c v : ℕ} → live? t c ≡ true → At t v c → leaves t' c ≡ v
  corner_from {c} o (lone i q) = absurd (let low = (live_yes t c o).low in omega arith)
  corner_from {c} o (first q m) = sym (W.from c o) ∙ m.here

  from : {x c v : ℕ} → Sits (rotation t') e (rotation t) x c → At t v c → leaves t' x ≡ v
  from {x} (just_before o n) at = sym (L'.from_next x) ∙ ap (leaves t') n ∙ corner_from o at
  from {x} (before_other o i n) at = sym (L'.from_next x) ∙ sym (L'.from_next ((rotation t').next x)) ∙ ap (leaves t') n ∙ corner_from o at
  from (at_vertex u q i n) (lone j p) = n ∙ (let z = sym q ∙ p in omega (arith, z))
  from (at_vertex u q i n) (first p m) = absurd (let low = m.live.low in omega arith)

  first_from : leaves t' (2 * e) ≡ a
  first_from = from sits.first (corner_there s a r.first_low)

  second_from : leaves t' (2 * e + 1) ≡ b
  second_from = from sits.second (corner_there s b r.second_low)

  -- the smallest dart that leaves v names v's corner
  least_dart : (v d : ℕ) → v < vertices → Live t' d → leaves t' d ≡ v → ((d' : ℕ) → Live t' d' → leaves t' d' ≡ v → d ≤ d') → corner_at t' v ≡ d
  least_dart v d low l q least =
      let joined : vertex_word t' v ≢ isolated = λ i. g'.alone v low i d l q in
      let m = g'.smallest v low (rw q at (g'.leaves_live d l)) joined in
      let up = m.least d l q in
      let down = least (vertex_word t' v) m.live m.here in
      corner_dart t' v joined ∙ omega arith

  -- a joined vertex keeps its corner
  pub stays : (v : ℕ) → v < 8 → vertex_word t v ≢ isolated → corner_at t' v ≡ corner_at t v
  stays v low n =
      let there = numbered_vertex s v low in
      let m = s.good.smallest v there.0 there.1 n in
      let w = vertex_word t v in
      let old-one = numbered_dart s w m.live in
      let on : live? t w ≡ true = yes_live t w m.live in
      let other : edge_of w ≢ e = λ q. (omega arith) in
      least_dart v w there.0 (live_yes t' w (sym (other_live w other) ∙ on)) (sym (W.from w on) ∙ m.here)
      (λ d l q. elim (dart d l) [
        | old o f ↦ m.least d o (f ∙ q)
        | one q' ↦ omega arith
        | two q' ↦ omega arith
      ])
      ∙ sym (corner_dart t v n)

  -- an isolated vertex at which the edge begins has its first dart
  pub takes_first : vertex_word t a ≡ isolated → corner_at t' a ≡ 2 * e
  takes_first i =
      let low = (numbered_vertex s a r.first_low).0 in
      least_dart a (2 * e) low (live_yes t' (2 * e) W.here) first_from
      (λ d l q. elim (dart d l) [
        | old o f ↦ absurd (s.good.alone a low i d o (f ∙ q))
        | one q' ↦ omega arith
        | two q' ↦ omega arith
      ])

  -- and one at which it ends, and does not begin, its second
  pub takes_second : vertex_word t b ≡ isolated → a ≢ b → corner_at t' b ≡ 2 * e + 1
  takes_second i n =
      let low = (numbered_vertex s b r.second_low).0 in
      least_dart b (2 * e + 1) low (live_yes t' (2 * e + 1) second_live) second_from
      (λ d l q. elim (dart d l) [
        | old o f ↦ absurd (s.good.alone b low i d o (f ∙ q))
        | one r ↦ absurd (n (sym first_from ∙ ap (leaves t') (sym r) ∙ q))
        | two r ↦ omega arith
      ])

  -- the other isolated vertices stay so
  pub untouched : (v : ℕ) → v < 8 → v ≢ a → v ≢ b → vertex_word t v ≡ isolated → corner_at t' v ≡ lone_at + v
  untouched v low na nb i =
      let low_v = (numbered_vertex s v low).0 in
      corner_lone t' v (elim (ℕ_discrete (vertex_word t' v) isolated) [
        | yes j ↦ j
        | no j ↦
            let m = g'.smallest v low_v (there_word t' v (sym (W.there v) ∙ s.there v ∙ lt-ltb v 8 low)).1 j in
            absurd (elim (dart (vertex_word t' v) m.live) [
              | old o f ↦ s.good.alone v low_v i _ o (f ∙ m.here)
              | one r ↦ na (sym m.here ∙ ap (leaves t') r ∙ first_from)
              | two r ↦ nb (sym m.here ∙ ap (leaves t') r ∙ second_from)
            ])
      ])
