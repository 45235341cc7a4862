-- The rotation system of a good table is lawful.
use Rattle.std.specs.Prelude.{ℕ, ◌<◌, ◌≡◌, List}
use Rattle.std.proofs.Common.{arith, sym, ◌∙◌}
use Rattle.orbits.proofs.laws.Truth.{clash}
use Rattle.table.specs.Layout.{darts, nothing, isolated, leaves, vertex_word, edge_of, rev, Live}
use Rattle.table.specs.Good.{Good}
use Rattle.table.specs.laws.Darts.{Ruled, good_ruled}
use Rattle.table.specs.laws.Cycle.{prev_next, next_prev, live_next, leaves_next, iter_word}
use Rattle.table.specs.Rotation.{Lawful, turns_of, rotation}
use Rattle.table.specs.laws.Rotation.{live_yes, yes_live, live_case, same_case, there_yes, there_word, alone_yes, alone_word, next_dart_dead}

-- the reverse of a dart is the edge's other dart
pub rev_edge : (d : ℕ) → edge_of (rev d) ≡ edge_of d
rev_edge d = omega arith

pub rev_rev : (d : ℕ) → rev (rev d) ≡ d
rev_rev d = omega arith

pub rev_low : (d : ℕ) → d < darts → rev d < darts
rev_low d h = omega arith

module _ (t : List ℕ) (g : Good t) where
  rules : Ruled t darts
  rules = good_ruled t g

  live_of_rev : (d : ℕ) → Live t (rev d) → Live t d
  live_of_rev d l = record { low = omega (arith, l.low); on = rw rev_edge at l.on }

  rev_of_live : (d : ℕ) → Live t d → Live t (rev d)
  rev_of_live d l = record { low = rev_low d l.low; on = rw rev_edge l.on }

  turns_rev_word : (d : ℕ) → turns_of t (rev d) ≡ turns_of t d
  unfolding turns_of
  turns_rev_word d = rw rev_edge

  pub good_lawful : Lawful (rotation t)
  good_lawful = record {
    dart_low = λ d e. (live_yes t d e).low;
    live_rev = λ d. same_case (live_of_rev d) (rev_of_live d) (live_case t (rev d)) (live_case t d);
    turns_rev = turns_rev_word;
    prev_next = prev_next t rules;
    next_prev = next_prev t rules;
    live_next = live_next t rules;
    still = next_dart_dead t;
    from_next = leaves_next t rules;
    from_there = λ d e. let l = live_yes t d e in there_yes t (leaves t d) (g.leaves_low d l) (g.leaves_live d l);
    one_cycle = λ d d' e e' s.
        let l = live_yes t d e in
        let c = g.one_cycle d d' l (live_yes t d' e') s in
        record { steps = c.steps; lands = iter_word t rules c.steps d l ∙ c.lands };
    there_low = λ v e. (there_word t v e).0;
    alone_there = λ v e. let a = alone_word t v e in there_yes t v a.0 (λ p. let z : nothing ≡ isolated = sym p ∙ a.1 in omega arith);
    alone_bare = λ v d e l. let a = alone_word t v e in g.alone v a.0 a.1 d (live_yes t d l);
    joined = λ v e n.
        let w = there_word t v e in
        let s = g.smallest v w.0 w.1 (λ p. clash (alone_yes t v w.0 p) n) in
        (vertex_word t v, yes_live t _ s.live, s.here);
  }
