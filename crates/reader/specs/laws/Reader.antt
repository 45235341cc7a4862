-- Why each step of a reader is as `Reader` says: the ends of the making, of the placing and of the step, and what holds of every step.
--     each_step                                             what holds of every step, wherever the reader stands
--     step_tallied                                          an accepted step's answer says whether the lap is in the tally
--     placed_begun                                          a reader at its start declines as its making would
--     begin_refused, begin_there                            the ends of the making
--     begun_refused, begun_named, begun_placed              what the making's answer says of the place
--     placed_made, made_declined, made_overturned           a reader that can be made is placed, wherever it has come, as one that is made there
--     placed_torn, placed_past, placed_type, placed_dead    the refusals of the present step: 1, 2, 2, 4
--     first_past, first_type, first_dead, in_range          those of the step that the walk began at
--     Placed, placed_there, there_placed                    a reader that stands at a live step, and began at one
--     moved_on, step_refused, step_kept, step_moved         the ends of a step
--     Settled, settled                                      a step goes on, or leaves reader and tally as they were
use Rattle.table.specs.Answers.{Answer}
use Rattle.std.specs.Prelude.{ℕ, ◌+◌, ◌*◌, ◌/◌, ◌%◌, ◌<◌, ◌≤◌, ◌≡◌, refl, Bool, true, false, ◌&&◌, List, ltb, eqb, Ok, Err}
use Rattle.std.proofs.Common.{arith, sym, ◌∙◌, ap}
use Rattle.std.proofs.Math.Bool.{and-true}
use borrow.Author.Tests.{lt-ltb, le-ltb, ltb-true, eqb-true, eq-eqb, ne_eqb}
use Rattle.orbits.proofs.laws.Truth.{truth, holds, fails, both_left, both_right}
use Rattle.table.specs.Layout.{darts, edge_of, edge_word}
use Rattle.table.specs.Rotation.{rotation, live?}
use Rattle.table.specs.laws.Rotation.{yes_live, not_live, case_yes}
use Rattle.table.specs.Check.{good?}
use Rattle.table.specs.laws.Check.{good_case}
use Rattle.table.specs.laws.Output.{done_same, done_declined}
use Rattle.table.specs.declared.answer.Refusal.{Refusal}
use Rattle.table.specs.declared.answer.Refusal.TheVariants.{Torn, NoSuchName, Absent, Overturned}
use Rattle.tracing.specs.Step.{step}
use Rattle.tracing.specs.Listing.{bit}
use Rattle.tracing_walks.specs.laws.Stands.{Stands}
use Rattle.weave.specs.Calls.{named_step, Named}
use Rattle.reader.specs.declared.place.Step.{Step}
use Rattle.reader_tally.specs.declared.tally.Tally.{Tally}
use Rattle.reader.specs.declared.walk.Stepped.{Stepped}
use Rattle.reader_tally.specs.Forward.{step_tally, tally_of, Tallied}
use Rattle.reader_tally.proofs.laws.Forward.{brought_is, kept_is}
use Rattle.reader.specs.Reader.{begin_by, begin_of, word_at, step_at, is_step, placed, stays, ends_at, moved_to, stepped_by, tally_at, step_by, step_of, EachStep}

-- "Every step declines as the making of the reader would"
pub placed_begun : (t : List ℕ) (s : Step) → placed t s s ≡ named_step t s.dart s.kind
unfolding placed named_step
placed_begun t s = rw (and_self (is_step s.dart s.kind), and_self (live? t s.dart))
  where
    and_self : (b : Bool) → (b && b) ≡ b
    and_self true = refl
    and_self false = refl

begun_refused : {r : Refusal} (n : Named) → begin_by n ≡ Err r → n ≡ Err r
begun_refused (Ok x) f = absurd (done_declined (sym f))
begun_refused {r} (Err q) f = let same : q ≡ r = cc in ap Err same

pub begun_named : (n : Named) → begin_by n ≡ Ok 0 → (x : ℕ) × (Ok x ≡ n)
begun_named (Ok x) e = (x, refl)
begun_named (Err r) e = absurd (done_declined e)

-- and so a reader that could not be made hands out no step
begun_declined : (t : List ℕ) (s : Step) (y : Tally) {r : Refusal} → begin_of t s.dart s.kind ≡ Err r → step_of t s s y ≡ stays s y r
begun_declined t s y e = ap (step_by t s s y) (placed_begun t s ∙ begun_refused (named_step t s.dart s.kind) e)

-- the ends of the making

module _ (t : List ℕ) (d k : ℕ) {n : Named} (e : n ≡ named_step t d k) where
  pub begin_refused : {r : Refusal} → n ≡ Err r → Err r ≡ begin_of t d k
  begin_refused f = sym (ap begin_by (sym e ∙ f))

  pub begin_there : {s : ℕ} → n ≡ Ok s → Ok 0 ≡ begin_of t d k
  begin_there f = sym (ap begin_by (sym e ∙ f))

-- a step that has a name
pub in_range : (d k : ℕ) → d < darts → k ≤ 1 → is_step d k ≡ true
in_range d k h l = rw (lt-ltb d darts h, lt-ltb k 2 (omega arith))

-- the ends of the placing

module _ (t : List ℕ) (at first : Step) where
  pub placed_torn : good? t ≡ false → Err Torn ≡ placed t at first
  unfolding placed
  placed_torn g = rw g

  module _ (g : good? t ≡ true) where
    pub placed_past : darts ≤ at.dart → Err NoSuchName ≡ placed t at first
    unfolding placed
    placed_past h = rw (g, le-ltb at.dart darts h)

    pub placed_type : at.dart < darts → 1 < at.kind → Err NoSuchName ≡ placed t at first
    unfolding placed
    placed_type h l = rw (g, lt-ltb at.dart darts h, le-ltb at.kind 2 (omega arith))

    module _ (n : is_step at.dart at.kind ≡ true) where
      pub first_past : darts ≤ first.dart → Err NoSuchName ≡ placed t at first
      unfolding placed
      first_past h = rw (g, n, le-ltb first.dart darts h)

      pub first_type : first.dart < darts → 1 < first.kind → Err NoSuchName ≡ placed t at first
      unfolding placed
      first_type h l = rw (g, n, lt-ltb first.dart darts h, le-ltb first.kind 2 (omega arith))

      module _ (m : is_step first.dart first.kind ≡ true) where
        pub placed_dead : edge_word t (edge_of at.dart) ≡ 0 → Err Absent ≡ placed t at first
        unfolding placed
        placed_dead z = rw (g, n, m, not_live t at.dart (λ v. v.on z))

        pub first_dead : at.dart < darts → (edge_word t (edge_of at.dart) ≡ 0 → ⊥) → edge_word t (edge_of first.dart) ≡ 0 → Err Absent ≡ placed t at first
        unfolding placed
        first_dead h on z = rw (g, n, m, yes_live t at.dart (record { low = h; on = on }), not_live t first.dart (λ v. v.on z))

        pub placed_there : live? t at.dart ≡ true → live? t first.dart ≡ true → Ok (word_at at) ≡ placed t at first
        unfolding placed
        placed_there l f = rw (g, n, m, l, f)

-- a reader that stands at a live step, and whose walk began at one
pub record Placed (t : List ℕ) (at first : Step) (s : ℕ) : Type 0 where
  pub stands : Stands t s
  pub word : s ≡ 2 * at.dart + at.kind
  pub first_low : first.dart < darts
  pub first_type : first.kind < 2

pub there_placed : {t : List ℕ} {at first : Step} {s : ℕ} → Ok s ≡ placed t at first → Placed t at first s
unfolding placed
there_placed {t} {at} {first} {s} e = elim (truth (good? t)) [
  | fails g ↦ absurd (other (rw g at e))
  | holds g ↦ elim (truth (is_step at.dart at.kind && is_step first.dart first.kind)) [
    | fails n ↦ absurd (other (rw (g, n) at e))
    | holds n ↦ elim (truth (live? t at.dart && live? t first.dart)) [
      | fails l ↦ absurd (other (rw (g, n, l) at e))
      | holds l ↦
          let here = both_left (is_step at.dart at.kind) (is_step first.dart first.kind) n in
          let start = both_right (is_step at.dart at.kind) (is_step first.dart first.kind) n in
          let low = ltb-true at.kind 2 (both_right (ltb at.dart darts) (ltb at.kind 2) here) in
          let f : ◌≡◌ {A = Named} (Ok s) (Ok (2 * at.dart + at.kind)) = rw (g, n, l) at e in
          let word : s ≡ 2 * at.dart + at.kind = cc in
          let half : s / 2 ≡ at.dart = omega arith in
          record {
            stands = record { good = case_yes (good_case t) g; live = rw half (both_left (live? t at.dart) (live? t first.dart) l) };
            word = word;
            first_low = ltb-true first.dart darts (both_left (ltb first.dart darts) (ltb first.kind 2) start);
            first_type = ltb-true first.kind 2 (both_right (ltb first.dart darts) (ltb first.kind 2) start);
          }
    ]
  ]
]
  where
    other : {r : Refusal} → ◌≡◌ {A = Named} (Ok s) (Err r) → ⊥
    other f = let z : ◌≡◌ {A = ℕ} 0 1 = cc in omega arith

-- a reader that can be made
pub begun_placed : (t : List ℕ) (s : Step) → begin_of t s.dart s.kind ≡ Ok 0 → Placed t s s (word_at s)
begun_placed t s b =
    let n = begun_named (named_step t s.dart s.kind) b in
    let h = there_placed (n.1 ∙ sym (placed_begun t s)) in rw h.word at h

-- wherever it has come, it is placed as one that is made there
placed_made : (t : List ℕ) (at first : Step) → begin_of t first.dart first.kind ≡ Ok 0 → placed t at first ≡ named_step t at.dart at.kind
unfolding placed named_step
placed_made t at first b =
    let h = begun_placed t first b in
    let low = h.first_type in
    let half : word_at first / 2 ≡ first.dart = omega arith in
    let live : live? t first.dart ≡ true = rw half at h.stands.live in
    rw (in_range first.dart first.kind h.first_low (omega arith), live, and-true (is_step at.dart at.kind), and-true (live? t at.dart))

module _ (t : List ℕ) (y : Tally) (at first : Step) (b : begin_of t first.dart first.kind ≡ Ok 0) where
  made_declined : {r : Refusal} → begin_of t at.dart at.kind ≡ Err r → step_of t at first y ≡ stays at y r
  made_declined e = ap (step_by t at first y) (placed_made t at first b ∙ begun_refused (named_step t at.dart at.kind) e)

  made_overturned : begin_of t at.dart at.kind ≡ Ok 0 → {r : Refusal} → (step_of t at first y).answer ≡ Err r → r ≡ Overturned
  made_overturned h {r} = by (placed t at first) ((begun_named (named_step t at.dart at.kind) h).1 ∙ sym (placed_made t at first b))
    where
      tallied : (s : ℕ) (m : Tallied) → m ≡ tally_at t first s y → (stepped_by t at first y s m).answer ≡ Err r → r ≡ Overturned
      tallied s (Ok z) g e = absurd (done_declined (sym e))
      tallied s (Err q) g e = let same : q ≡ r = cc in sym same ∙ kept_is t s (ends_at (step (rotation t) s) first) y g

      by : (n : Named) {x : ℕ} → Ok x ≡ n → (step_by t at first y n).answer ≡ Err r → r ≡ Overturned
      by (Ok s) p e = tallied s (tally_at t first s y) refl e
      by (Err q) p e = let z : ◌≡◌ {A = ℕ} 0 1 = cc in absurd (let no : ⊥ = omega arith in no)

-- the ends of a step

pub moved_on : (next : ℕ) (first : Step) (z : Tally) {end : Bool} → end ≡ ends_at next first → record { answer = Ok (bit end); at = step_at next; tally = z } ≡ moved_to next first z
moved_on next first z e = ap (λ b. record { answer = Ok (bit b); at = step_at next; tally = z }) e

module _ (t : List ℕ) (at first : Step) (y : Tally) {n : Named} (e : n ≡ placed t at first) where
  pub step_refused : {r : Refusal} {q : Stepped} → n ≡ Err r → q ≡ stays at y r → q ≡ step_of t at first y
  step_refused f h = h ∙ sym (ap (step_by t at first y) (sym e ∙ f))

  module _ {s next : ℕ} {last : Bool} {m : Tallied} (f : n ≡ Ok s) (h : next ≡ step (rotation t) s) (l : last ≡ ends_at next first) (g : m ≡ tally_of t s last y) where
    stepped : stepped_by t at first y s m ≡ step_of t at first y
    stepped =
        let own : last ≡ ends_at (step (rotation t) s) first = l ∙ ap (λ x. ends_at x first) h in
        ap (stepped_by t at first y s) (g ∙ ap (λ b. tally_of t s b y) own) ∙ sym (ap (step_by t at first y) (sym e ∙ f))

    pub step_kept : {r : Refusal} {q : Stepped} → m ≡ Err r → q ≡ stays at y r → q ≡ step_of t at first y
    step_kept k i = i ∙ sym (ap (stepped_by t at first y s) k) ∙ stepped

    pub step_moved : {z : Tally} {q : Stepped} → m ≡ Ok z → q ≡ moved_to next first z → q ≡ step_of t at first y
    step_moved {z} k i = i ∙ ap (λ x. moved_to x first z) h ∙ sym (ap (stepped_by t at first y s) k) ∙ stepped

-- a step goes on, or it leaves the reader and the tally as they were
data Settled (at : Step) (y : Tally) (q : Stepped) : Type 0 where
  goes : (n : ℕ) → q.answer ≡ Ok n → Settled at y q
  rests : (r : Refusal) → q ≡ stays at y r → Settled at y q

settled : (t : List ℕ) (at first : Step) (y : Tally) → Settled at y (step_of t at first y)
settled t at first y = by (placed t at first)
  where
    tallied : (s : ℕ) (m : Tallied) → Settled at y (stepped_by t at first y s m)
    tallied s (Ok z) = goes _ refl
    tallied s (Err r) = rests r refl

    by : (n : Named) → Settled at y (step_by t at first y n)
    by (Ok s) = tallied s (tally_at t first s y)
    by (Err r) = rests r refl

module _ (t : List ℕ) (y : Tally) where
  declined_rests : (at first : Step) {r : Refusal} → (step_of t at first y).answer ≡ Err r → step_of t at first y ≡ stays at y r
  declined_rests at first {r} e = elim (settled t at first y) [
    | goes n f ↦ absurd (done_declined (sym e ∙ f))
    | rests q f ↦
        let told : ◌≡◌ {A = Answer} (Err q) (Err r) = sym (ap (λ s. s.answer) f) ∙ e in
        let same : q ≡ r = cc in f ∙ ap (stays at y) same
  ]

  ends_back : (at first : Step) → (step_of t at first y).answer ≡ Ok 1 → (step_of t at first y).at ≡ first
  ends_back at first = by (placed t at first) refl
    where
      moved : (next : ℕ) → first.kind < 2 → ◌≡◌ {A = Answer} (Ok (bit (eqb next (word_at first)))) (Ok 1) → step_at next ≡ first
      moved next low e = elim (truth (eqb next (word_at first))) [
        | holds g ↦
            let same = eqb-true next (word_at first) g in
            let dart : next / 2 ≡ first.dart = omega arith in
            let kind : next % 2 ≡ first.kind = omega arith in (λ i. record { dart = dart i; kind = kind i })
        | fails g ↦ let told : ◌≡◌ {A = Answer} (Ok 0) (Ok 1) = rw g at e in let z : ◌≡◌ {A = ℕ} 0 1 = cc in absurd (let no : ⊥ = omega arith in no)
      ]

      tallied : (s : ℕ) → first.kind < 2 → (m : Tallied) → (stepped_by t at first y s m).answer ≡ Ok 1 → (stepped_by t at first y s m).at ≡ first
      tallied s low (Ok z) e = moved (step (rotation t) s) low e
      tallied s low (Err r) e = absurd (done_declined e)

      by : (n : Named) → n ≡ placed t at first → (step_by t at first y n).answer ≡ Ok 1 → (step_by t at first y n).at ≡ first
      by (Ok s) p e = tallied s (there_placed p).first_type (tally_at t first s y) e
      by (Err r) p e = absurd (done_declined e)

-- an accepted step's answer says whether the lap is in the tally
pub step_tallied : (t : List ℕ) (at first : Step) (y : Tally) (n : ℕ) → (step_of t at first y).answer ≡ Ok n
    → (step_of t at first y).tally ≡ step_tally t (word_at at) (eqb n 1) y
step_tallied t at first y n = by (placed t at first) refl
  where
    told : (b : Bool) → ◌≡◌ {A = Answer} (Ok (bit b)) (Ok n) → b ≡ eqb n 1
    told true e = sym (eq-eqb n 1 (done_same e))
    told false e = let none = done_same e in sym (ne_eqb n 1 (λ f. omega arith))

    tallied : (s : ℕ) (m : Tallied) → m ≡ tally_at t first s y → (stepped_by t at first y s m).answer ≡ Ok n
        → (stepped_by t at first y s m).tally ≡ step_tally t s (eqb n 1) y
    tallied s (Ok z) g e =
        let last = ends_at (step (rotation t) s) first in
        brought_is t s last y g ∙ ap (λ b. step_tally t s b y) (told last e)
    tallied s (Err r) g e = absurd (done_declined e)

    by : (m : Named) → m ≡ placed t at first → (step_by t at first y m).answer ≡ Ok n
        → (step_by t at first y m).tally ≡ step_tally t (word_at at) (eqb n 1) y
    by (Ok s) p e =
        tallied s (tally_at t first s y) refl e ∙ ap (λ x. step_tally t x (eqb n 1) y) (there_placed p).word
    by (Err r) p e = absurd (done_declined e)

pub each_step : (t : List ℕ) (y : Tally) → EachStep t y
each_step t y = record {
  as_made = λ s. begun_declined t s y;
  as_made_there = made_declined t y;
  else_overturned = made_overturned t y;
  not_moved = declined_rests t y;
  back = ends_back t y;
}
