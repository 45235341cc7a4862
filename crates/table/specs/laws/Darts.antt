-- The rules that a dart's own words keep, as the check tests them: each follows from a good table, and together they make "next"
-- a permutation of the live darts.
--     Linked, DartRule, Ruled                          the rules of a live dart; of any dart; of the darts below n
--     DartsTo, DartsSay                                what the count of live darts answers: of those below n; of all
--     good_ruled                                       every dart of a good table keeps its rules
--     rule_dead, rule_live                             the rule of a dart from its tests
--     RuledBelow                                       the loop over the darts: those so far keep their rules, n of them are live
--     passed_none, passed_two_live, passed_two_dead    it begins; one edge more, live or not
--     passed_few, passed_to, passed_broken             its count fits; what it answers, and where a dart breaks a rule
--     passed_idle, passed_block, block_broken          the same block by block
use Prim.Native.Nat.{ℕ, suc, ◌+◌, ◌*◌, ◌≤◌, ◌<◌}
use Rattle.std.proofs.Math.Decide.{ℕ_discrete}
use Rattle.std.proofs.Common.{add-one, ap}
use Rattle.std.proofs.Math.Bool.{true, false}
use native.Mathlib.Omega.{arith}
use Rattle.std.specs.Prelude.{◌≡◌, List, ◌≢◌}
use Rattle.std.proofs.Math.Path.{refl}
use Rattle.orbits.specs.Count.{count}
use Rattle.orbits.proofs.laws.Count.{count_le}
use Rattle.table.specs.Layout.{vertices, edges, darts, next_word, prev_word, leaves, edge_word, edge_of, Live, edge_word_most}
use Rattle.table.specs.Good.{Good, Bare}
use Rattle.table.specs.Rotation.{live?}
use Rattle.table.specs.laws.Rotation.{yes_live, not_live}
use Rattle.table.specs.laws.Blocks.{edge_blocks, IdleBlock, dead_dart, block_on}
use Rattle.table.specs.laws.Counting.{Counts, counts, breaks, counts_some, counts_broken}
use Rattle.std.specs.Prelude.{Option, Some, None}

-- the words of a live dart: "previous" undoes "next". That "next" undoes "previous" follows (laws/Cycle), since a map that can be undone on finitely many
-- darts is onto them.
pub record Linked (t : List ℕ) (d : ℕ) : Type 0 where
  pub at : leaves t d < vertices
  pub next_low : next_word t d < darts
  pub prev_next : prev_word t (next_word t d) ≡ d
  pub next_leaves : leaves t (next_word t d) ≡ leaves t d

pub record DartRule (t : List ℕ) (d : ℕ) : Type 0 where
  pub turns : edge_word t (edge_of d) ≤ edge_word_most
  pub bare : edge_word t (edge_of d) ≡ 0 → Bare t d
  pub linked : edge_word t (edge_of d) ≢ 0 → Linked t d

-- every dart keeps its rules
abbrev pub Ruled : List ℕ → ℕ → Type 0
Ruled t n = (d : ℕ) → d < n → DartRule t d

-- what the count of the live darts below n answers, and of all
abbrev pub DartsTo : List ℕ → ℕ → Option ℕ → Type 0
DartsTo t n r = Counts (Ruled t n) (count (live? t) n) r

abbrev pub DartsSay : List ℕ → Option ℕ → Type 0
DartsSay t r = DartsTo t darts r

-- every rule of a dart is one of a good table's
pub good_ruled : (t : List ℕ) → Good t → Ruled t darts
good_ruled t g d h = record {
  turns = g.turns (edge_of d) (omega arith);
  bare = g.bare d h;
  linked = λ on. let l : Live t d = record { low = h; on = on } in record {
    at = g.leaves_low d l;
    next_low = (g.next_live d l).low;
    prev_next = g.prev_next d l;
    next_leaves = g.next_leaves d l;
  };
}

module _ (t : List ℕ) (d : ℕ) where
  pub rule_dead : edge_word t (edge_of d) ≡ 0 → Bare t d → DartRule t d
  rule_dead e b = record { turns = omega arith; bare = λ _. b; linked = λ on. absurd (on e) }

  pub rule_live : edge_word t (edge_of d) ≢ 0 → edge_word t (edge_of d) ≤ edge_word_most → Linked t d → DartRule t d
  rule_live on h l = record { turns = h; bare = λ e. absurd (on e); linked = λ _. l }

-- The loop over the darts: those below d keep their rules, and n of them are live.
pub record RuledBelow (t : List ℕ) (n d : ℕ) : Type 0 where
  pub low : d ≤ darts
  pub rules : Ruled t d
  pub counted : n ≡ count (live? t) d

module _ (t : List ℕ) where
  pub passed_none : RuledBelow t 0 0
  unfolding count
  passed_none = record { low = omega arith; rules = λ d h. absurd (none d h); counted = refl }
    where
      none : (d : ℕ) → d < 0 → ⊥
      none d h = omega arith

  rules_more : (d : ℕ) → Ruled t d → DartRule t d → Ruled t (d + 1)
  rules_more d r h k l = elim (ℕ_discrete k d) [
    | yes e ↦ rw e h
    | no e ↦ r k (omega arith)
  ]

  passed_live : (n d : ℕ) → RuledBelow t n d → d < darts → DartRule t d → edge_word t (edge_of d) ≢ 0 → RuledBelow t (n + 1) (d + 1)
  unfolding count
  passed_live n d p h r on =
      let l : live? t d ≡ true = yes_live t d (record { low = h; on = on }) in
      record { low = omega arith; rules = rules_more d p.rules r; counted = rw (add-one d, l) (rw (add-one n) (ap suc p.counted)) }

  passed_dead : (n d : ℕ) → RuledBelow t n d → d < darts → DartRule t d → edge_word t (edge_of d) ≡ 0 → RuledBelow t n (d + 1)
  unfolding count
  passed_dead n d p h r off =
      let l : live? t d ≡ false = not_live t d (λ v. v.on off) in
      record { low = omega arith; rules = rules_more d p.rules r; counted = rw (add-one d, l) p.counted }

  -- the two darts of an edge
  module _ (n e : ℕ) (p : RuledBelow t n (2 * e)) (h : e < edges) (r : DartRule t (2 * e)) (s : DartRule t (2 * e + 1)) where
    here : (edge_of (2 * e) ≡ e) × (edge_of (2 * e + 1) ≡ e)
    here = (omega arith, omega arith)

    pub passed_two_live : edge_word t e ≢ 0 → RuledBelow t (n + 2) (2 * (e + 1))
    passed_two_live on =
        let one = passed_live n (2 * e) p (omega arith) r (rw here.0 on) in
        let two = passed_live (n + 1) (2 * e + 1) one (omega arith) s (rw here.1 on) in
        let q : 2 * e + 1 + 1 ≡ 2 * (e + 1) = omega arith in
        let m : n + 1 + 1 ≡ n + 2 = omega arith in
        rw (q, m) at two

    pub passed_two_dead : edge_word t e ≡ 0 → RuledBelow t n (2 * (e + 1))
    passed_two_dead off =
        let one = passed_dead n (2 * e) p (omega arith) r (rw here.0 off) in
        let two = passed_dead n (2 * e + 1) one (omega arith) s (rw here.1 off) in
        let q : 2 * e + 1 + 1 ≡ 2 * (e + 1) = omega arith in
        rw q at two

  pub passed_few : (n d : ℕ) → RuledBelow t n d → n ≤ d
  passed_few n d p = rw p.counted (count_le (live? t) d)

  pub passed_to : (n d : ℕ) → RuledBelow t n d → DartsTo t d (Some n)
  passed_to n d p = counts (ap Some p.counted) p.rules

  pub passed_broken : (d to : ℕ) → d < to → (DartRule t d → ⊥) → DartsTo t to None
  passed_broken d to h n = breaks refl (λ r. n (r d h))

  -- a block of darts: those of an idle one keep their rules, and none is live
  pub passed_idle : (n b : ℕ) → b < edge_blocks → IdleBlock t b → RuledBelow t n (64 * b) → RuledBelow t n (64 * b + 64)
  passed_idle n b h k = block_on (RuledBelow t n) (64 * b) 64 (λ i l p.
      let off = dead_dart t b k.dead i l in
      passed_dead n (64 * b + i) p (omega arith) (rule_dead t (64 * b + i) off (k.bare i l)) off)

  -- and those of another as they are counted
  pub passed_block : {r : Option ℕ} (n b : ℕ) → b < edge_blocks → DartsTo t (64 * b + 64) r → r ≡ Some n → RuledBelow t n (64 * b + 64)
  passed_block n b h c e = let k = counts_some n c e in record { low = omega arith; rules = k.1; counted = k.0 }

  pub block_broken : {r : Option ℕ} (b : ℕ) → b < edge_blocks → DartsTo t (64 * b + 64) r → r ≡ None → DartsSay t None
  block_broken b h c e = breaks refl (λ r. counts_broken c e (λ d l. r d (omega arith)))
