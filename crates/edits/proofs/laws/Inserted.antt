-- Edge e put between two corners of a good table: the table is good, and without e its rotation is the old one.
--     inserted_good                                    the table is good
--     inserted_without                                 without e its rotation is the old one
--     inserted_sits, inserted_order                    where e's darts stand; their order where the corners are one
--     inserted_own, inserted_other, inserted_length    the edge words and lengths after it
--     insert_ready                                     the words that the insertion follows are in range
--     half, full, result                               the table with dart 2e+1 in; with both; with e's own words
--     more, More                                       the live darts after it: those of before and e's two
--     Leads, first_leads, second_next                  what e's darts lead to
--     first_sits, second_sits                          where each of them stands
use Rattle.std.specs.Prelude.{ℕ, ◌+◌, ◌*◌, ◌%◌, ◌≤◌, ◌<◌, ◌≡◌, Bool, false, ◌&&◌, cond, List, ◌≢◌}
use Rattle.std.proofs.Common.{arith, sym, ◌∙◌, subst, eq-eqb, ne_eqb}
use Rattle.std.proofs.Math.Decide.{ℕ_discrete}
use Rattle.std.proofs.Math.Path.{ap, fun_ext}
use Rattle.std.proofs.Math.Bool.{true}
use Rattle.orbits.proofs.laws.Truth.{clash, both, both_left, both_right, same_truth}
use Rattle.table.specs.Layout.{vertices, edges, darts, isolated, next_word, leaves, edge_word, vertex_word, length_word, edge_of, edge_word_most, lone_at}
use Rattle.table.specs.Good.{Good, LengthRule}
use Rattle.table.specs.Rotation.{rotation, live?, next_dart, turns_of, there?}
use Rattle.table.specs.laws.Rotation.{live_yes, yes_live, not_live, there_yes, there_word, alone_yes}
use Rattle.table.specs.laws.Writes.{upd, upd_at, upd_off, upd_same}
use Rattle.surgery.specs.Without.{bypass, Without, apart}
use Rattle.surgery.proofs.laws.Bypass.{bypass_into, bypass_off}
use Rattle.surgery.specs.Sits.{Sits, just_before, before_other, at_vertex, Inserted}
use Rattle.surgery.proofs.laws.Without.{apart_own, apart_other}
use Rattle.edits.proofs.laws.Held.{Long, Held, good_held, held_good, next_in, next_in_lem}
use Rattle.edits.proofs.laws.Ready.{InsertReady, link_ready}
use Rattle.edits.specs.Edge.{link, first_corner, inserted}
use Rattle.edits.proofs.laws.Edge.{Corner, at_dart, at_lone, link_grown, link_before, link_alone, still_isolated, own_edge, own_length, own_leaves, own_vertex, own_held, own_next, next_of}
use Rattle.edits.proofs.laws.Lengths.{link_length}
use Rattle.edits.proofs.laws.Grown.{plus, plus_new, plus_old, new, old, plus_case, Grown}

module _ (t : List ℕ) (g : Good t) (e c₁ c₂ w len : ℕ) (h : e < edges) (off : edge_word t e ≡ 0) (some : w ≢ 0) (few : w ≤ edge_word_most) (long : Long len)
    (C₁ : Corner t (live? t) c₁) (C₂ : Corner t (live? t) c₂) where
  H : Held t (live? t)
  H = good_held t g

  free : (d : ℕ) → edge_of d ≡ e → live? t d ≡ false
  free d q = not_live t d (λ v. v.on (ap (edge_word t) q ∙ off))

  abbrev half : List ℕ
  half = link t (2 * e + 1) c₂

  second : Grown t half (live? t) (2 * e + 1)
  second = link_grown t (live? t) H (2 * e + 1) c₂ (free (2 * e + 1) (omega arith)) (omega arith) C₂

  first_free : plus (live? t) (2 * e + 1) (2 * e) ≡ false
  first_free = plus_old (live? t) (2 * e + 1) (2 * e) (omega arith) ∙ free (2 * e) (omega arith)

  -- the vertex of the second corner is not that of another one that is isolated
  seat_apart : (v : ℕ) → v < vertices → vertex_word t v ≡ isolated → lone_at + v ≢ c₂ → leaves half (2 * e + 1) ≢ v
  seat_apart v l i n q = by C₂
    where
      by : Corner t (live? t) c₂ → ⊥
      by (at_dart o) =
          H.alone v l i c₂ o (sym (link_before t (live? t) H (2 * e + 1) c₂ (free (2 * e + 1) (omega arith)) (omega arith) o).0 ∙ q)
      by (at_lone u s m j) =
          let seat = (link_alone t (live? t) H (2 * e + 1) u (free (2 * e + 1) (omega arith)) (omega arith) m j).0 in
          n (ap (λ k. lone_at + k) (sym q ∙ ap (λ c. leaves (link t (2 * e + 1) c) (2 * e + 1)) s ∙ seat) ∙ sym s)

  corner : Corner half (plus (live? t) (2 * e + 1)) (first_corner e c₁ c₂)
  corner = elim (ℕ_discrete c₁ c₂) [
    | yes q ↦ rw (eq-eqb c₁ c₂ q) (at_dart (plus_new (live? t) (2 * e + 1)))
    | no n ↦ rw (ne_eqb c₁ c₂ n) (by n C₁)
  ]
    where
      by : c₁ ≢ c₂ → Corner t (live? t) c₁ → Corner half (plus (live? t) (2 * e + 1)) c₁
      by n (at_dart o) = at_dart (plus_old (live? t) (2 * e + 1) c₁ (λ q. clash (rw q at o) (free (2 * e + 1) (omega arith))) ∙ o)
      by n (at_lone v q l i) =
          at_lone v q l (still_isolated t (live? t) H (2 * e + 1) half second v l i (seat_apart v l i (λ s. n (q ∙ s))))

  abbrev full : List ℕ
  full = link half (2 * e) (first_corner e c₁ c₂)

  abbrev more : ℕ → Bool
  more = plus (plus (live? t) (2 * e + 1)) (2 * e)

  first : Grown half full (plus (live? t) (2 * e + 1)) (2 * e)
  first = link_grown half (plus (live? t) (2 * e + 1)) second.held (2 * e) (first_corner e c₁ c₂) first_free (omega arith) corner

  pub insert_ready : InsertReady t e c₁ c₂
  insert_ready = record {
    low = h;
    second = link_ready t (live? t) H (2 * e + 1) c₂ (omega arith) C₂;
    first = link_ready half (plus (live? t) (2 * e + 1)) second.held (2 * e) (first_corner e c₁ c₂) (omega arith) corner;
  }

  abbrev result : List ℕ
  result = inserted t e c₁ c₂ w len

  pub inserted_other : (i : ℕ) → i < edges → i ≢ e → edge_word result i ≡ edge_word t i
  inserted_other i l o = own_edge full e w len h first.held.size i l ∙ upd_off (edge_word full) e w i o ∙ first.edge i l ∙ second.edge i l

  pub inserted_own : edge_word result e ≡ w
  inserted_own = own_edge full e w len h first.held.size e h ∙ upd_at (edge_word full) e w

  data More (d : ℕ) : Type 0 where
    ours : edge_of d ≡ e → d < darts → More d
    theirs : edge_of d ≢ e → live? t d ≡ true → More d

  more_means : (d : ℕ) → more d ≡ true → More d
  more_means d m = elim (plus_case (plus (live? t) (2 * e + 1)) (2 * e) d m) [
    | new q ↦ ours (omega arith) (omega arith)
    | old n o ↦ elim (plus_case (live? t) (2 * e + 1) d o) [
      | new q ↦ ours (omega arith) (omega arith)
      | old k l ↦ theirs (omega arith) l
    ]
  ]

  means_more : (d : ℕ) → More d → more d ≡ true
  means_more d (ours q l) = elim (ℕ_discrete d (2 * e)) [
    | yes s ↦ rw s (plus_new (plus (live? t) (2 * e + 1)) (2 * e))
    | no n ↦
        let s : d ≡ 2 * e + 1 = omega arith in
        plus_old (plus (live? t) (2 * e + 1)) (2 * e) d n ∙ ap (plus (live? t) (2 * e + 1)) s ∙ plus_new (live? t) (2 * e + 1)
  ]
  means_more d (theirs n l) =
      plus_old (plus (live? t) (2 * e + 1)) (2 * e) d (omega arith) ∙ plus_old (live? t) (2 * e + 1) d (omega arith) ∙ l

  live_more : (d : ℕ) → live? result d ≡ more d
  live_more d = same_truth (live? result d) (more d)
      (λ l.
      let v = live_yes result d l in
      let low = v.low in
      means_more d (elim (ℕ_discrete (edge_of d) e) [
        | yes q ↦ ours q low
        | no n ↦ theirs n (yes_live t d (record { low = low; on = rw (inserted_other (edge_of d) (omega arith) n) at v.on }))
      ]))
      (λ m. by (more_means d m))
    where
      by : More d → live? result d ≡ true
      by (ours q low) = yes_live result d (record { low = low; on = rw (q, inserted_own) some })
      by (theirs n l) =
          let v = live_yes t d l in
          let low = v.low in
          yes_live result d (record { low = low; on = rw (inserted_other (edge_of d) (omega arith) n) v.on })

  same_live : more ≡ live? result
  same_live = fun_ext (λ d. sym (live_more d))

  turns_low : (i : ℕ) → i < edges → edge_word result i ≤ edge_word_most
  turns_low i l = elim (ℕ_discrete i e) [
    | yes q ↦ rw (q, inserted_own) few
    | no n ↦ rw (inserted_other i l n) (g.turns i l)
  ]

  -- every other edge keeps its length
  pub inserted_length : (i : ℕ) → length_word result i ≡ upd (length_word t) e len i
  inserted_length i =
      own_length full e w len h first.held.size i
      ∙ upd_same (length_word full) (length_word t) e len i (link_length half i (2 * e) (first_corner e c₁ c₂) insert_ready.first ∙ link_length t i (2 * e + 1) c₂ insert_ready.second)

  lengths_fit : (i : ℕ) → i < edges → LengthRule result i
  lengths_fit i l = elim (ℕ_discrete i e) [
    | yes q ↦
        let is : length_word result i ≡ len = rw q (inserted_length e ∙ upd_at (length_word t) e len) in
        record { some = λ _. rw is long.some; none = λ z. absurd (some (sym inserted_own ∙ ap (edge_word result) (sym q) ∙ z)); most = rw is long.most }
    | no o ↦
        let is : length_word result i ≡ length_word t i = inserted_length i ∙ upd_off (length_word t) e len i o in
        let f = g.lengths i l in
        let word = inserted_other i l o in
        record { some = λ on. rw is (f.some (rw word at on)); none = λ z. is ∙ f.none (sym word ∙ z); most = rw is f.most }
  ]

  pub inserted_good : Good result
  inserted_good = held_good result (subst (λ L. Held result L) same_live (own_held full e w len h more first.held)) turns_low lengths_fit

  -- the rotation with e, and e's two darts left out of it
  inserted_next : (d : ℕ) → next_dart t d ≡ bypass (bypass (next_dart result) (2 * e)) (2 * e + 1) d
  inserted_next d =
      next_of t d ∙ second.next d ∙ ap (λ f. bypass f (2 * e + 1) d) (fun_ext first.next)
      ∙ ap (λ f. bypass (bypass f (2 * e)) (2 * e + 1) d) (fun_ext (λ k. sym (next_of result k ∙ ap (λ L. next_in result L k) (sym same_live) ∙ own_next full e w len h more first.held k)))

  inserted_from : (d : ℕ) → live? t d ≡ true → edge_of d ≢ e → leaves t d ≡ leaves result d
  inserted_from d l n =
      let low = (live_yes t d l).low in
      sym (own_leaves full e w len h d low ∙ first.from d low (omega arith) ∙ second.from d low (omega arith))

  not_own : (d : ℕ) → live? t d ≡ true → edge_of d ≢ e
  not_own d l q = clash l (free d q)

  inserted_there : (v : ℕ) → there? t v ≡ there? result v
  inserted_there v = same_truth (there? t v) (there? result v)
      (λ y. let m = there_word t v y in there_yes result v m.0 (λ z. m.1 ((second.there v m.0).0 ((first.there v m.0).0 (sym (same m.0) ∙ z)))))
      (λ y. let m = there_word result v y in there_yes t v m.0 (λ z. m.1 (same m.0 ∙ (first.there v m.0).1 ((second.there v m.0).1 z))))
    where
      same : v < vertices → vertex_word result v ≡ vertex_word full v
      same l = own_vertex full e w len h v l

  pub inserted_without : Without (rotation result) e (rotation t)
  unfolding turns_of
  inserted_without = record {
    here = live_more (2 * e) ∙ means_more (2 * e) (ours (omega arith) (omega arith));
    live = λ d. same_truth (live? t d) (live? result d && apart e d)
        (λ l. both (live_more d ∙ means_more d (theirs (not_own d l) l)) (apart_other e d (not_own d l)))
        (λ l. by d (more_means d (sym (live_more d) ∙ both_left (live? result d) (apart e d) l)) (both_right (live? result d) (apart e d) l));
    next = inserted_next;
    turns = λ d l. let low = (live_yes t d l).low in ap (λ k. k % 2) (sym (inserted_other (edge_of d) (omega arith) (not_own d l)));
    from = λ d l. inserted_from d l (not_own d l);
    there = inserted_there;
  }
    where
      by : (d : ℕ) → More d → apart e d ≡ true → live? t d ≡ true
      by d (ours q l) a = absurd (clash a (apart_own e d q))
      by d (theirs n l) a = l

  -- where e's darts stand

  result_next : (d : ℕ) → next_dart result d ≡ next_in full more d
  result_next d = next_of result d ∙ ap (λ L. next_in result L d) (sym same_live) ∙ own_next full e w len h more first.held d

  result_from : (d : ℕ) → d < darts → leaves result d ≡ leaves full d
  result_from d l = own_leaves full e w len h d l

  second_seat : live? t c₂ ≡ true → (leaves half (2 * e + 1) ≡ leaves t c₂) × (next_word half (2 * e + 1) ≡ c₂)
  second_seat o = link_before t (live? t) H (2 * e + 1) c₂ (free (2 * e + 1) (omega arith)) (omega arith) o

  second_alone : (v : ℕ) → c₂ ≡ lone_at + v → v < vertices → vertex_word t v ≡ isolated → leaves half (2 * e + 1) ≡ v
  second_alone v q l i =
      ap (λ c. leaves (link t (2 * e + 1) c) (2 * e + 1)) q ∙ (link_alone t (live? t) H (2 * e + 1) v (free (2 * e + 1) (omega arith)) (omega arith) l i).0

  first_more : more (2 * e) ≡ true
  first_more = plus_new (plus (live? t) (2 * e + 1)) (2 * e)

  -- dart 2e leads to the corner's dart, or to itself
  data Leads : Type 0 where
    on_to : next_in full more (2 * e) ≡ first_corner e c₁ c₂ → leaves full (2 * e) ≡ leaves half (first_corner e c₁ c₂)
        → plus (live? t) (2 * e + 1) (first_corner e c₁ c₂) ≡ true → Leads
    to_itself : (v : ℕ) → next_in full more (2 * e) ≡ 2 * e → leaves full (2 * e) ≡ v → first_corner e c₁ c₂ ≡ lone_at + v → Leads

  first_leads : Leads
  first_leads = by corner
    where
      by : Corner half (plus (live? t) (2 * e + 1)) (first_corner e c₁ c₂) → Leads
      by (at_dart o) =
          let s = link_before half (plus (live? t) (2 * e + 1)) second.held (2 * e) (first_corner e c₁ c₂) first_free (omega arith) o in
          on_to (next_in_lem full more (2 * e) first_more ∙ s.1) s.0 o
      by (at_lone v q l i) =
          let s = link_alone half (plus (live? t) (2 * e + 1)) second.held (2 * e) v first_free (omega arith) l i in
          to_itself v
          (next_in_lem full more (2 * e) first_more ∙ ap (λ c. next_word (link half (2 * e) c) (2 * e)) q ∙ s.1)
          (ap (λ c. leaves (link half (2 * e) c) (2 * e)) q ∙ s.0)
          q

  -- and 2e+1 still leads to its own corner's dart
  second_next : live? t c₂ ≡ true → next_in full more (2 * e + 1) ≡ c₂
  second_next o = elim (ℕ_discrete (next_in full more (2 * e + 1)) (2 * e)) [
    | yes q ↦ absurd (never (sym led ∙ first.next (2 * e + 1) ∙ bypass_into (next_in full more) (2 * e) (2 * e + 1) (omega arith) q) first_leads)
    | no n ↦ sym (bypass_off (next_in full more) (2 * e) (2 * e + 1) (omega arith) n) ∙ sym (first.next (2 * e + 1)) ∙ led
  ]
    where
      led : next_in half (plus (live? t) (2 * e + 1)) (2 * e + 1) ≡ c₂
      led = next_in_lem half (plus (live? t) (2 * e + 1)) (2 * e + 1) (plus_new (live? t) (2 * e + 1)) ∙ (second_seat o).1

      never : c₂ ≡ next_in full more (2 * e) → Leads → ⊥
      never s (on_to n _ _) = elim (ℕ_discrete c₁ c₂) [
        | yes q ↦ clash (rw (s ∙ n ∙ ap (λ b. cond b (2 * e + 1) c₁) (eq-eqb c₁ c₂ q)) at o) (free (2 * e + 1) (omega arith))
        | no m ↦ m (sym (s ∙ n ∙ ap (λ b. cond b (2 * e + 1) c₁) (ne_eqb c₁ c₂ m)))
      ]
      never s (to_itself v n _ _) = clash (rw (s ∙ n) at o) (free (2 * e) (omega arith))

  -- "With c1 = c2 the order is old, 2e, 2e+1, d"
  pub inserted_order : c₁ ≡ c₂ → next_dart result (2 * e) ≡ 2 * e + 1
  inserted_order q = by first_leads
    where
      same : first_corner e c₁ c₂ ≡ 2 * e + 1
      same = ap (λ b. cond b (2 * e + 1) c₁) (eq-eqb c₁ c₂ q)

      by : Leads → next_dart result (2 * e) ≡ 2 * e + 1
      by (on_to n _ _) = result_next (2 * e) ∙ n ∙ same
      by (to_itself v _ _ z) = let y = sym same ∙ z in absurd (omega (arith, y))

  first_sits : Sits (rotation result) e (rotation t) (2 * e) c₁
  first_sits = elim (ℕ_discrete c₁ c₂) [
    | yes q ↦ together q C₂
    | no n ↦ apart_from n C₁
  ]
    where
      -- one corner for both
      own_corner : c₁ ≡ c₂ → first_corner e c₁ c₂ ≡ 2 * e + 1
      own_corner q = ap (λ b. cond b (2 * e + 1) c₁) (eq-eqb c₁ c₂ q)

      near : c₁ ≡ c₂ → (next_in full more (2 * e) ≡ 2 * e + 1) × (leaves full (2 * e) ≡ leaves half (2 * e + 1))
      near q = by first_leads
        where
          by : Leads → (next_in full more (2 * e) ≡ 2 * e + 1) × (leaves full (2 * e) ≡ leaves half (2 * e + 1))
          by (on_to n f _) = (n ∙ own_corner q, f ∙ ap (leaves half) (own_corner q))
          by (to_itself v _ _ z) = let y = sym (own_corner q) ∙ z in absurd (omega (arith, y))

      together : c₁ ≡ c₂ → Corner t (live? t) c₂ → Sits (rotation result) e (rotation t) (2 * e) c₁
      together q (at_dart o) =
          let n = result_next (2 * e) ∙ (near q).0 in
          before_other (rw q o) (rw n (omega arith)) (rw n (result_next (2 * e + 1) ∙ second_next o ∙ sym q))
      together q (at_lone v s l i) =
          at_vertex v (q ∙ s) (alone_yes t v l i) (result_from (2 * e) (omega arith) ∙ (near q).1 ∙ second_alone v s l i)

      apart_from : c₁ ≢ c₂ → Corner t (live? t) c₁ → Sits (rotation result) e (rotation t) (2 * e) c₁
      apart_from n k = by first_leads k
        where
          same : first_corner e c₁ c₂ ≡ c₁
          same = ap (λ b. cond b (2 * e + 1) c₁) (ne_eqb c₁ c₂ n)

          by : Leads → Corner t (live? t) c₁ → Sits (rotation result) e (rotation t) (2 * e) c₁
          by (on_to m f p) (at_dart o) = just_before o (result_next (2 * e) ∙ m ∙ same)
          by (on_to m f p) (at_lone v q l i) =
              let low = second.held.low (first_corner e c₁ c₂) p in
              let y = same ∙ q in
              absurd (omega (arith, y))
          by (to_itself v m f z) (at_dart o) = let low = H.low c₁ o in let y = sym same ∙ z in absurd (omega (arith, y))
          by (to_itself v m f z) (at_lone x q l i) =
              let y : v ≡ x = let s = sym z ∙ same ∙ q in omega (arith, s) in
              at_vertex x q (alone_yes t x l i) (result_from (2 * e) (omega arith) ∙ f ∙ y)

  second_sits : Sits (rotation result) e (rotation t) (2 * e + 1) c₂
  second_sits = by C₂
    where
      by : Corner t (live? t) c₂ → Sits (rotation result) e (rotation t) (2 * e + 1) c₂
      by (at_dart o) = just_before o (result_next (2 * e + 1) ∙ second_next o)
      by (at_lone v q l i) =
          at_vertex v q (alone_yes t v l i)
          (result_from (2 * e + 1) (omega arith) ∙ first.from (2 * e + 1) (omega arith) (omega arith) ∙ second_alone v q l i)

  pub inserted_sits : Inserted (rotation result) e (rotation t) c₁ c₂
  inserted_sits = record { first = first_sits; second = second_sits }
