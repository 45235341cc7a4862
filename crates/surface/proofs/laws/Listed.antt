-- The listed parts, document 01, "Counts": which vertices a part has, that every live vertex is in exactly one, and the name of each.
--     listed_root, root_listed    the listed parts are the live vertices that are their own labels
--     one_part                    two live vertices are in one part exactly if a chain joins them
--     part_once                   a live vertex is in exactly one listed part
--     part_named, part_alone      a part is named by its smallest vertex; an isolated vertex is a part alone
--     walk_once, walk_part        a listed walk is counted in exactly one listed part, and all its corners are in it
use Prim.Native.Nat.{ℕ, zero, suc, ◌<◌, ◌≤◌}
use Rattle.std.proofs.Common.{arith, ◌∙◌}
use Rattle.std.proofs.Math.Decide.{ℕ_discrete}
use Rattle.std.specs.Prelude.{◌≡◌, Bool, ◌&&◌, [], ◌∷◌, ◌↔◌}
use Rattle.std.proofs.Math.Path.{refl, sym}
use Rattle.std.proofs.Math.Bool.{true}
use borrow.Author.Tests.{eq-eqb, eqb-true}
use Rattle.table.specs.Layout.{vertices}
use Rattle.table.specs.Rotation.{Rotation, Lawful}
use Rattle.orbits.proofs.laws.Truth.{both, both_right}
use Rattle.orbits.specs.Count.{count}
use Rattle.tracing.specs.Listing.{has, only, faces}
use Rattle.tracing.specs.Met.{count_in, corners_of}
use Rattle.tracing.proofs.laws.Listing.{has_here}
use Rattle.tracing.proofs.laws.Has.{has_empty, has_parts, left, right, has_left, has_right, count_in_append, count_single}
use Rattle.tracing.proofs.laws.Starts.{only_has, one_more, start_live}
use Rattle.tracing.proofs.laws.Once.{from_dart, from_lone, listed_face}
use Rattle.surface.specs.Chain.{Chain, here}
use Rattle.surface.proofs.laws.Chain.{chain_ind, chain_sym}
use Rattle.surface.specs.Labels.{label, in_part}
use Rattle.surface.proofs.laws.Labels.{same_label, label_joined, label_smallest, in_part_kept}
use Rattle.surface.specs.Counts.{corner_vertex}
use Rattle.surface.proofs.laws.Counts.{vertex_dart, vertex_lone, walk_vertices}
use Rattle.surface.specs.Parts.{root?, parts_below, parts, Together}
use Rattle.surface.proofs.laws.Parts.{root_there, root_label, label_root}

module _ (R : Rotation) where
  below_root : (n r : ℕ) → has r (parts_below R n) ≡ true → root? R r ≡ true
  unfolding parts_below
  below_root zero r e = absurd (has_empty r e)
  below_root (suc n) r e = elim (has_parts r (parts_below R n) (only (root? R n) n) e) [
    | left h ↦ below_root n r h
    | right h ↦ let o = only_has (root? R n) n r h in rw o.0 o.1
  ]

  root_below : (n r : ℕ) → r < n → root? R r ≡ true → has r (parts_below R n) ≡ true
  unfolding parts_below
  root_below zero r h t = absurd (omega arith)
  root_below (suc n) r h t = elim (ℕ_discrete r n) [
    | yes q ↦
        let last : root? R n ≡ true = rw q at t in
        rw (last, q) (has_right n (parts_below R n) (n ∷ []) (has_here n []))
    | no q ↦ has_left r (parts_below R n) (only (root? R n) n) (root_below n r (omega arith) t)
  ]

  pub listed_root : (r : ℕ) → has r (parts R) ≡ true → root? R r ≡ true
  unfolding parts
  listed_root r e = below_root vertices r e

  -- how many of the parts below n pass a test
  below_count : (q : ℕ → Bool) (n : ℕ) → count_in q (parts_below R n) ≡ count (λ r. root? R r && q r) n
  unfolding parts_below count count_in
  below_count q zero = refl
  below_count q (suc n) =
      rw (count_in_append q (parts_below R n) (only (root? R n) n), below_count q n) (one_more R q (root? R n) n (count (λ r. root? R r && q r) n))

module _ {R : Rotation} (L : Lawful R) where
  pub root_listed : (r : ℕ) → root? R r ≡ true → has r (parts R) ≡ true
  unfolding parts
  root_listed r t = root_below R vertices r (L.there_low r (root_there R r t)) t

  inside : (r v : ℕ) → label R v ≡ r → in_part R r v ≡ true
  unfolding in_part
  inside r v e = eq-eqb (label R v) r e

  label_of : (r v : ℕ) → in_part R r v ≡ true → label R v ≡ r
  unfolding in_part
  label_of r v t = eqb-true (label R v) r t

  -- "Live vertices are in one connected part if a chain of live edges joins them"
  pub one_part : (u v : ℕ) → R.there u ≡ true → R.there v ≡ true → Together R u v ↔ Chain R u v
  one_part u v a b = (
    λ T. (same_label L u v).0 (label_of T.part u T.first ∙ sym (label_of T.part v T.second)),
    λ c. record {
      part = label R u;
      listed = root_listed (label R u) (label_root L u a);
      first = inside (label R u) u refl;
      second = inside (label R u) v (sym ((same_label L u v).1 c));
    },
  )

  pub part_once : (v : ℕ) → R.there v ≡ true → count_in (λ r. in_part R r v) (parts R) ≡ 1
  unfolding parts
  part_once v t =
      let low = L.there_low v t in
      let least = label_smallest L v v here in
      below_count R (λ r. in_part R r v) vertices
      ∙ count_single (λ r. root? R r && in_part R r v) vertices (label R v) (omega arith) (both (label_root L v t) (inside (label R v) v refl))
      (λ r h e. sym (label_of r v (both_right (root? R r) (in_part R r v) e)))

  -- the name of a part: a live vertex of it, and the smallest
  pub part_named : (r : ℕ) → has r (parts R) ≡ true → (R.there r ≡ true) × (in_part R r r ≡ true) × ((v : ℕ) → in_part R r v ≡ true → r ≤ v)
  part_named r e =
      let t = listed_root R r e in (
        root_there R r t,
        inside r r (root_label R r t),
        λ v i. let own = label_of r v i in let low = label_smallest L v v here in omega arith,
      )

  -- no chain leaves an isolated vertex
  lone_chain : (v w : ℕ) → R.alone v ≡ true → Chain R v w → w ≡ v
  lone_chain v w a c = chain_ind R v (λ x. x ≡ v) refl (λ d l k e. absurd (L.alone_bare v d a l e)) w c

  -- "an isolated vertex is a part alone"
  pub part_alone : (v : ℕ) → R.alone v ≡ true → (has v (parts R) ≡ true) × ((w : ℕ) → in_part R v w ≡ true → w ≡ v)
  part_alone v a =
      let own : label R v ≡ v = lone_chain v (label R v) a (chain_sym L (label_joined L v)) in (
        root_listed v (rw own at (label_root L v (L.alone_there v a))),
        λ w i. lone_chain v w a ((same_label L v w).0 (own ∙ sym (label_of v w i))),
      )

  -- the first corner of a listed walk is at a live vertex
  start_there : (c : ℕ) → has c (faces R) ≡ true → R.there (corner_vertex R c) ≡ true
  start_there c e = elim (listed_face R L c e) [
    | from_dart h s ↦ rw (vertex_dart R c (omega arith)) (L.from_there c (start_live R c s))
    | from_lone v h a q ↦ rw (q, vertex_lone R v) (L.alone_there v a)
  ]

  -- a listed walk is counted in exactly one listed part
  pub walk_once : (c : ℕ) → has c (faces R) ≡ true → count_in (λ r. in_part R r (corner_vertex R c)) (parts R) ≡ 1
  walk_once c e = part_once (corner_vertex R c) (start_there c e)

  -- "A walk is in the part whose corners it meets."
  pub walk_part : (c k r : ℕ) → has c (faces R) ≡ true → has k (corners_of R c) ≡ true → in_part R r (corner_vertex R k) ≡ in_part R r (corner_vertex R c)
  walk_part c k r e m = walk_vertices L (in_part_kept L r) c k e m
