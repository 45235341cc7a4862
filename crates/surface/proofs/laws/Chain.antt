-- Connected parts and marks, document 01, "Counts", in its own words: a chain of live edges, and marks that exist.
--     chain_trans, chain_sym      chains of live edges join into parts
--     chain_edge, chain_back      one live edge, from either end
--     chain_ind                   what holds at u and goes along each live edge holds on the part of u
--     part_kept                   the ends of an edge of a part are both in it
--     Fits, MarksOn               the marks agree with an edge; with each edge of a part
--     orient_fits, fits_orient    orientable, with sums: the turns and the marks of the two ends add to an even number
use Rattle.std.specs.Prelude.{ℕ, ◌+◌, ◌%◌, ◌≡◌, Bool, true, ◌≢◌}
use Rattle.std.proofs.Common.{arith, ◌∙◌}
use Rattle.table.specs.Layout.{rev}
use Rattle.table.specs.Rotation.{Rotation, Lawful}
use Rattle.table.specs.laws.Lawful.{rev_rev}
use Rattle.orbits.proofs.laws.Truth.{same_truth}
use Rattle.surgery.proofs.laws.PlacesIn.{EndsTogether}
use Rattle.tracing.proofs.laws.Step.{type?, is_zero, is_one}
use Rattle.surface.specs.Chain.{Chain, here, by_edge, PartOf, Orientable}

pub chain_ind : (R : Rotation) (u : ℕ) (P : ℕ → Type 0) → P u
    → ((d : ℕ) → R.live d ≡ true → Chain R u (R.from d) → P (R.from d) → P (R.from (rev d)))
    → (w : ℕ) → Chain R u w → P w
chain_ind R u P base step w here = base
chain_ind R u P base step w (by_edge d l c) = step d l c (chain_ind R u P base step (R.from d) c)

pub chain_trans : {R : Rotation} {u v w : ℕ} → Chain R u v → Chain R v w → Chain R u w
chain_trans {R} {u} {v} {w} c k = chain_ind R v (Chain R u) c (λ d l m t. by_edge d l t) w k

-- one live edge
pub chain_edge : (R : Rotation) (d : ℕ) → R.live d ≡ true → Chain R (R.from d) (R.from (rev d))
chain_edge R d l = by_edge d l here

pub chain_back : {R : Rotation} → Lawful R → (d : ℕ) → R.live d ≡ true → Chain R (R.from (rev d)) (R.from d)
chain_back {R} L d l = rw (rev_rev d) at (chain_edge R (rev d) (L.live_rev d ∙ l))

pub chain_sym : {R : Rotation} {u v : ℕ} → Lawful R → Chain R u v → Chain R v u
chain_sym {R} {u} {v} L c = chain_ind R u (λ w. Chain R w u) here (λ d l m t. chain_trans (chain_back L d l) t) v c

-- the ends of an edge of a part are both in it
pub part_kept : {R : Rotation} {r : ℕ} {Q : ℕ → Bool} → Lawful R → PartOf R r Q → EndsTogether R Q
part_kept {R} {r} {Q} L P = record {
  edge = λ d l. same_truth (Q (R.from (rev d))) (Q (R.from d))
      (λ t. P.all (R.from d) (chain_trans (P.joins (R.from (rev d)) t) (chain_back L d l)))
      (λ t. P.all (R.from (rev d)) (by_edge d l (P.joins (R.from d) t)));
}

-- the same with a sum: the turns and the marks add to an even number
abbrev pub Fits : Rotation → (ℕ → ℕ) → ℕ → Type 0
Fits R m d = (R.turns d + m (R.from d) + m (R.from (rev d))) % 2 ≡ 0

pub record MarksOn (R : Rotation) (Q : ℕ → Bool) (m : ℕ → ℕ) : Type 0 where
  pub fits : (d : ℕ) → R.live d ≡ true → Q (R.from d) ≡ true → Fits R m d

pub orient_fits : {R : Rotation} {Q : ℕ → Bool} (o : Orientable R Q) → MarksOn R Q o.mark
orient_fits {R} o = record {
  fits = λ d l q.
      let a = o.bit (R.from d) in
      let b = o.bit (R.from (rev d)) in
      let i = o.agree d l q in
      elim (type? (R.turns d)) [
        | is_zero e ↦ let same = i.0 e in omega arith
        | is_one e ↦
            let other : o.mark (R.from d) ≢ o.mark (R.from (rev d)) = λ s. let z = i.1 s in omega arith in
            omega arith
      ];
}

pub fits_orient : {R : Rotation} {Q : ℕ → Bool} {m : ℕ → ℕ} → MarksOn R Q m → Orientable R Q
fits_orient {R} {Q} {m} M = record {
  mark = λ w. m w % 2;
  bit = λ w. omega arith;
  agree = λ d l q. let f = M.fits d l q in (λ e. omega arith, λ e. omega arith);
}
