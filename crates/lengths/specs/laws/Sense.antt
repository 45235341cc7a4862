-- The cut length belongs to the face: it depends neither on the step that names the ribbon nor on the sense in which the face is traced.
-- It is bounded, and an isolated vertex has none.
--     cut_named, cut_mirror          any step of the ribbon may name it; and either sense
--     cut_most                       the longest that a cut length can be
--     answer_named, answer_mirror    the same of what the call answers
--     lone_none                      an isolated vertex yields no ribbon
--     length_back, taken_back        the way back along an edge takes as much
use Rattle.std.specs.Prelude.{ℕ, ◌+◌, ◌*◌, ◌/◌, ◌<◌, ◌≤◌, ◌≡◌, refl, true, List, ◌≢◌, Ok, Err}
use native.Mathlib.Omega.{arith}
use Rattle.std.proofs.Common.{sym, ◌∙◌, ap, ap₂}
use Rattle.orbits.proofs.laws.Count.{count_le}
use Rattle.table.specs.Layout.{edges, leaves}
use Rattle.table.specs.Good.{Good}
use Rattle.table.specs.Rotation.{Rotation, Lawful, rotation, live?, alone?, turns_of}
use Rattle.table.specs.laws.Lawful.{good_lawful, rev_edge}
use Rattle.table.specs.laws.Output.{done_declined}
use Rattle.tracing.specs.Step.{steps, step_type, mirror, back}
use Rattle.tracing.proofs.laws.Step.{back_dart, back_type}
use Rattle.tracing.specs.Walk.{walk}
use Rattle.tracing.specs.Listing.{has, lone_corner}
use Rattle.tracing.specs.Met.{times, edge_count}
use Rattle.tracing.proofs.laws.Length.{walk_bound}
use Rattle.tracing.proofs.laws.Totals.{total_most, total_named, total_mirror}
use Rattle.tracing_walks.specs.laws.Stands.{Stands, stands_low}
use Rattle.tracing_walks.specs.laws.Along.{walk_stands}
use Rattle.weave.specs.Letters.{over, word_of, step_letters}
use Rattle.weave.specs.Calls.{named_step, Named}
use Rattle.weave.proofs.laws.Calls.{there_steps}
use Rattle.weave_letters.specs.laws.Counts.{overs_back}
use Rattle.lengths.specs.CutLength.{length_of, taken_by, lap, cut_length, cut_length_by, cut_length_of}
use Rattle.lengths.specs.laws.Summing.{cut_total, taken_most, taken_most_lem}

-- the way back along an edge takes as much, and its length is the same

length_back : (t : List ℕ) (x : ℕ) → length_of t (back (rotation t) x) ≡ length_of t x
length_back t x = rw (back_dart (rotation t) x, rev_edge (x / 2))

overs_of_back : (t : List ℕ) (x : ℕ) → times over (step_letters t (back (rotation t) x)) ≡ times over (step_letters t x)
unfolding step_letters step_type turns_of
overs_of_back t x = rw (back_dart (rotation t) x, back_type (rotation t) x, rev_edge (x / 2)) (overs_back (word_of t x) x)

pub taken_back : (t : List ℕ) (x : ℕ) → taken_by t (back (rotation t) x) ≡ taken_by t x
taken_back t x = ap₂ (λ l o. l + 8 * o) (length_back t x) (overs_of_back t x)

module _ (t : List ℕ) (g : Good t) where
  abbrev R : Rotation
  R = rotation t

  L : Lawful R
  L = good_lawful t g

  -- any step of the ribbon may name it

  pub cut_named : (s x : ℕ) → s < steps → has x (walk R s) ≡ true → cut_length t s ≡ cut_length t x
  cut_named s x h e = cut_total t s ∙ ap (λ n. n + lap) (total_named R L (taken_by t) s x h e) ∙ sym (cut_total t x)

  -- and either sense

  pub cut_mirror : (s : ℕ) → s < steps → cut_length t s ≡ cut_length t (mirror R s)
  cut_mirror s h =
      cut_total t s ∙ ap (λ n. n + lap) (total_mirror R L (taken_by t) (taken_back t) s h) ∙ sym (cut_total t (mirror R s))

  -- "any cut length": at most 2,048 steps, each of the longest edge with 99 O's, and the lap
  pub cut_most : (s : ℕ) → live? t (s / 2) ≡ true → cut_length t s ≤ 135838016
  unfolding edge_count
  cut_most s live =
      let start : Stands t s = record { good = g; live = live } in
      let low = stands_low start in
      let few = walk_bound R L s low live in
      let all = count_le (λ e. R.live (2 * e)) edges in
      let sum = total_most (taken_by t) taken_most (walk R s) (λ x e. taken_most_lem (walk_stands start e)) in
      let whole = cut_total t s in
      omega arith

-- what the call answers, from any step of the ribbon, and from either sense

module _ (t : List ℕ) (d k d' k' : ℕ) {s x : ℕ} (a : named_step t d k ≡ Ok s) (b : named_step t d' k' ≡ Ok x) where
  stands : Stands t s
  stands = (there_steps t d k (sym a)).stands

  same_call : cut_length t s ≡ cut_length t x → cut_length_of t d k ≡ cut_length_of t d' k'
  same_call e = ap (cut_length_by t) a ∙ ap Ok e ∙ sym (ap (cut_length_by t) b)

  pub answer_named : has x (walk (rotation t) s) ≡ true → cut_length_of t d k ≡ cut_length_of t d' k'
  answer_named e = same_call (cut_named t stands.good s x (stands_low stands) e)

  pub answer_mirror : x ≡ mirror (rotation t) s → cut_length_of t d k ≡ cut_length_of t d' k'
  answer_mirror e = same_call (cut_mirror t stands.good s (stands_low stands) ∙ ap (cut_length t) (sym e))

-- "An isolated vertex still yields no ribbon": a dart that has a cut length does not leave one, and is not the corner of one
pub lone_none : (t : List ℕ) (d k n : ℕ) → cut_length_of t d k ≡ Ok n → (v : ℕ) → alone? t v ≡ true → (leaves t d ≢ v) × (d ≢ lone_corner v)
lone_none t d k n a v alone = by (named_step t d k) refl a
  where
    by : (m : Named) → m ≡ named_step t d k → cut_length_by t m ≡ Ok n → (leaves t d ≢ v) × (d ≢ lone_corner v)
    by (Ok s) e f =
        let p = there_steps t d k e in
        let word = p.word in
        let type = p.type in
        let low = stands_low p.stands in
        let half : s / 2 ≡ d = omega arith in
        ((good_lawful t p.stands.good).alone_bare v d alone (rw half at p.stands.live), λ q. omega arith)
    by (Err r) e f = absurd (done_declined f)
