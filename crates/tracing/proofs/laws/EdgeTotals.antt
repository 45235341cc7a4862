-- What is summed over the steps of all listed walks, taken edge by edge: of a step and its way back exactly one is listed.
--     total_listed                            each live edge has what the two steps by its first dart have
--     live_edges_lem, listed_edge, live_few   a sum over the live edges, as one over all; which they are; how many at most
--     sum_below, sum_same, sum_at, sum_four   the sum over the numbers below n: term by term, one term more, by fours
--     total_times                             a sum over a list, by how often each number is in it
--     listed_step, listed_none                a listed step is on a live edge; the steps of another edge are not listed
--     one_of_two, edge_sum                    what an edge's four steps have, as often as they are listed
use Rattle.std.specs.Prelude.{ℕ, zero, suc, ◌+◌, ◌-◌, ◌*◌, ◌/◌, ◌%◌, ◌<◌, ◌≤◌, ◌≡◌, refl, Bool, false, cond, List, [], ◌∷◌, ◌≢◌, length}
use native.Mathlib.Omega.{arith}
use Rattle.std.proofs.Math.Decide.{ℕ_discrete}
use Rattle.std.proofs.Common.{add-zero, sym, ◌∙◌, ap, length-append, eq-eqb, ne_eqb}
use Rattle.std.proofs.Math.Bool.{true}
use Rattle.orbits.proofs.laws.Truth.{truth, holds, fails, clash, false_unless}
use Rattle.orbits.proofs.laws.Iterate.{iter_keeps}
use Rattle.table.specs.Layout.{edges, darts, rev}
use Rattle.table.specs.Rotation.{Rotation, Lawful}
use Rattle.tracing.specs.Step.{steps, step, back}
use Rattle.tracing.specs.Walk.{walk}
use Rattle.tracing.specs.Listing.{has, only, starts}
use Rattle.tracing.specs.Met.{count_in, times, total, listed_steps, live_edges}
use Rattle.tracing.proofs.laws.Step.{type?, is_zero, is_one, step_live}
use Rattle.tracing.proofs.laws.Listing.{has_here}
use Rattle.tracing.proofs.laws.Has.{has_empty, has_parts, left, right, has_tail, has_gathered, times_none}
use Rattle.tracing.proofs.laws.Meets.{has_walk, trace_reach}
use Rattle.tracing.proofs.laws.Starts.{only_few, only_has, has_start, start_live}
use Rattle.tracing.proofs.laws.Twice.{one_way}
use Rattle.tracing.proofs.laws.Edges.{back_edge}
use Rattle.tracing.proofs.laws.Totals.{total_append}

-- the sum over the numbers below n
unfoldable sum_below : (ℕ → ℕ) → ℕ → ℕ
sum_below f zero = 0
sum_below f (suc n) = sum_below f n + f n

sum_same : (f g : ℕ → ℕ) (n : ℕ) → ((i : ℕ) → i < n → f i ≡ g i) → sum_below f n ≡ sum_below g n
unfolding sum_below
sum_same f g zero e = refl
sum_same f g (suc n) e = let r = sum_same f g n (λ i h. e i (omega arith)) in let last = e n (omega arith) in omega arith

sum_none : (f : ℕ → ℕ) (n : ℕ) → ((i : ℕ) → f i ≡ 0) → sum_below f n ≡ 0
unfolding sum_below
sum_none f zero e = refl
sum_none f (suc n) e = let r = sum_none f n e in let last = e n in omega arith

-- one term has c more, the others are the same
sum_at : (f g : ℕ → ℕ) (a c : ℕ) → g a ≡ f a + c → ((i : ℕ) → i ≢ a → g i ≡ f i) → (n : ℕ) → a < n → sum_below g n ≡ sum_below f n + c
unfolding sum_below
sum_at f g a c here others zero h = absurd (omega arith)
sum_at f g a c here others (suc n) h = elim (ℕ_discrete a n) [
  | yes q ↦
      let before = sum_same g f n (λ i l. others i (λ e. omega arith)) in
      let last : g n ≡ f n + c = rw (← q) here in
      omega arith
  | no q ↦
      let r = sum_at f g a c here others n (omega arith) in
      let last = others n (λ e. q (sym e)) in
      omega arith
]

sum_four : (f : ℕ → ℕ) (n : ℕ) → sum_below f (4 * n) ≡ sum_below (λ e. f (4 * e) + f (4 * e + 1) + f (4 * e + 2) + f (4 * e + 3)) n
unfolding sum_below
sum_four f zero = refl
sum_four f (suc n) =
    let four : 4 * suc n ≡ suc (suc (suc (suc (4 * n)))) = omega arith in
    let r = sum_four f n in
    let one : f (suc (4 * n)) ≡ f (4 * n + 1) = ap f (omega arith) in
    let two : f (suc (suc (4 * n))) ≡ f (4 * n + 2) = ap f (omega arith) in
    let three : f (suc (suc (suc (4 * n)))) ≡ f (4 * n + 3) = ap f (omega arith) in
    rw four (omega arith)

-- a sum over a list of numbers below n, by how often each is in it
total_times : (g : ℕ → ℕ) (n : ℕ) (l : List ℕ) → ((x : ℕ) → has x l ≡ true → x < n) → total g l ≡ sum_below (λ x. times x l * g x) n
unfolding total count_in
total_times g n [] low = sym (sum_none (λ x. times x [] * g x) n (λ x. omega arith))
total_times g n (y ∷ l) low =
    let r = total_times g n l (λ x h. low x (has_tail x y l h)) in
    let more = sum_at (λ x. times x l * g x) (λ x. times x (y ∷ l) * g x) y (g y) here others n (low y (has_here y l)) in
    omega arith
  where
    here : times y (y ∷ l) * g y ≡ times y l * g y + g y
    here = rw (eq-eqb y y refl) (omega arith)

    others : (x : ℕ) → x ≢ y → times x (y ∷ l) * g x ≡ times x l * g x
    others x d = rw (ne_eqb x y d)

-- a sum over the live edges is one over all edges, where the others have nothing
live_edges_lem : (R : Rotation) (f : ℕ → ℕ) (n : ℕ) → sum_below (λ e. cond (R.live (2 * e)) (f e) 0) n ≡ total f (live_edges R n)
unfolding sum_below live_edges total
live_edges_lem R f zero = refl
live_edges_lem R f (suc n) =
    let r = live_edges_lem R f n in
    let last = total_append f (live_edges R n) (only (R.live (2 * n)) n) in
    let own = by (R.live (2 * n)) in
    omega arith
  where
    by : (b : Bool) → total f (only b n) ≡ cond b (f n) 0
    by true = omega arith
    by false = refl

-- a live edge below n is one, and there are at most n

pub listed_edge : (R : Rotation) (n e : ℕ) → has e (live_edges R n) ≡ true → (e < n) × (R.live (2 * e) ≡ true)
unfolding live_edges
listed_edge R zero e h = absurd (has_empty e h)
listed_edge R (suc n) e h = elim (has_parts e (live_edges R n) (only (R.live (2 * n)) n) h) [
  | left k ↦ let r = listed_edge R n e k in let low = r.0 in (omega arith, r.1)
  | right k ↦ let o = only_has (R.live (2 * n)) n e k in let q = o.0 in (omega arith, rw q o.1)
]

pub live_few : (R : Rotation) (n : ℕ) → length (live_edges R n) ≤ n
unfolding live_edges
live_few R zero = omega arith
live_few R (suc n) = let r = live_few R n in let one = only_few (R.live (2 * n)) n in rw length-append (omega arith)

-- of a step and its way back one is listed, and they have as much
one_of_two : (a b u : ℕ) → a + b ≡ 1 → a * u + b * u ≡ u
one_of_two a b u e = elim (ℕ_discrete a 0) [
  | yes z ↦ let one : b ≡ 1 = omega arith in rw (z, one) (omega arith)
  | no z ↦ let one : a ≡ 1 = omega arith in let none : b ≡ 0 = omega arith in rw (one, none) (omega arith)
]

module _ (R : Rotation) (L : Lawful R) where
  -- a listed step is a step word, on a live dart
  listed_step : (x : ℕ) → has x (listed_steps R) ≡ true → (x < steps) × (R.live (x / 2) ≡ true)
  unfolding listed_steps
  listed_step x e =
      let from = has_gathered (λ a. walk R (2 * a)) (starts R darts) x e in
      let start = has_start R darts from.at from.among in
      let low = start.low in
      let half : 2 * from.at / 2 ≡ from.at = omega arith in
      let way = trace_reach R L {s = 2 * from.at} (omega arith) (has_walk R L (2 * from.at) x (omega arith) from.gives) in
      let live = start_live R from.at start.start in
      (way.low, walk_live way.reach.steps (2 * from.at) (rw half live) way.reach.lands)
    where
      walk_live : (n s : ℕ) → R.live (s / 2) ≡ true → Rattle.orbits.specs.Iterate.iter (step R) n s ≡ x → R.live (x / 2) ≡ true
      walk_live n s live lands =
          rw (← lands) (iter_keeps (λ y. R.live (y / 2) ≡ true) (step R) (λ y k. step_live R L y ∙ k) n s live)

  -- the steps of a dart that is not live are not listed
  listed_none : (x d : ℕ) → x / 2 ≡ d → R.live d ≡ false → times x (listed_steps R) ≡ 0
  listed_none x d on dead = times_none x (listed_steps R) (false_unless (has x (listed_steps R)) (λ e. clash (listed_step x e).1 (rw on dead)))

  module _ (g : ℕ → ℕ) (same : (x : ℕ) → g (back R x) ≡ g x) where
    -- what a step has, as often as it is listed
    abbrev often : ℕ → ℕ
    often x = times x (listed_steps R) * g x

    -- of a step and its way back one is listed
    either_way : (x y : ℕ) → x < steps → R.live (x / 2) ≡ true → back R x ≡ y → often x + often y ≡ g x
    either_way x y h live e =
        let as-much : g y ≡ g x = rw (← e) (same x) in
        rw as-much (one_of_two (times x (listed_steps R)) (times y (listed_steps R)) (g x) (rw e at (one_way R L x h live)))

    edge_sum : (e : ℕ) → e < edges → often (4 * e) + often (4 * e + 1) + often (4 * e + 2) + often (4 * e + 3) ≡ cond (R.live (2 * e)) (g (4 * e) + g (4 * e + 1)) 0
    edge_sum e h =
        let first-dart : 4 * e / 2 ≡ 2 * e = omega arith in
        let first-again : (4 * e + 1) / 2 ≡ 2 * e = omega arith in
        elim (truth (R.live (2 * e))) [
          | fails dead ↦
              let turn : rev (2 * e) ≡ 2 * e + 1 = omega arith in
              let dead-too : R.live (2 * e + 1) ≡ false = rw turn at (L.live_rev (2 * e)) ∙ dead in
              rw (
                dead,
                listed_none (4 * e) (2 * e) first-dart dead,
                listed_none (4 * e + 1) (2 * e) first-again dead,
                listed_none (4 * e + 2) (2 * e + 1) (omega arith) dead-too,
                listed_none (4 * e + 3) (2 * e + 1) (omega arith) dead-too,
              ) (omega arith)
          | holds live ↦
              let live-first = rw (← first-dart) at live in
              let live-again = rw (← first-again) at live in
              let back-first : back R (4 * e) ≡ 4 * e + 2 + (1 - (0 + R.turns (2 * e)) % 2) = rw add-zero at (back_edge R L e 0 (omega arith)) in
              let back-again = back_edge R L e 1 (omega arith) in
              rw live (elim (type? (R.turns (2 * e))) [
                | is_zero z ↦
                    let a = either_way (4 * e) (4 * e + 3) (omega arith) live-first (omega arith) in
                    let b = either_way (4 * e + 1) (4 * e + 2) (omega arith) live-again (omega arith) in
                    omega arith
                | is_one z ↦
                    let a = either_way (4 * e) (4 * e + 2) (omega arith) live-first (omega arith) in
                    let b = either_way (4 * e + 1) (4 * e + 3) (omega arith) live-again (omega arith) in
                    omega arith
              ])
        ]

    -- so each live edge has what the two steps by its first dart have
    pub total_listed : total g (listed_steps R) ≡ total (λ e. g (4 * e) + g (4 * e + 1)) (live_edges R edges)
    total_listed =
        total_times g steps (listed_steps R) (λ x e. (listed_step x e).0)
        ∙ sum_four often edges
        ∙ sum_same _ (λ e. cond (R.live (2 * e)) (g (4 * e) + g (4 * e + 1)) 0) edges edge_sum
        ∙ live_edges_lem R (λ e. g (4 * e) + g (4 * e + 1)) edges
