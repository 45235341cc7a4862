-- The Euler number, signed, document 01, "Counts": "The Euler number is V-E+F, signed, for each connected part and for the mesh."
--     part_laws                V-E+F of a part: at most 2, even if the part is orientable, at most 1 if not
--     mesh_sum, empty_euler    the mesh's is the sum of its parts'; of the empty mesh 0
--     euler_difference         V-E+F as a difference of two sums
use Rattle.std.specs.Prelude.{ℕ, ◌+◌, ◌-◌, ◌%◌, ◌≤◌, ◌≡◌, refl, true, false, List, [], ◌∷◌, ℤ, pos, neg_ℤ, nat_abs, ◌+ℤ◌, ◌-ℤ◌, ◌≤ℤ◌}
use Rattle.std.proofs.Common.{arith, ◌∙◌, ap, le→leb}
use Rattle.std.proofs.Math.IntN.{neg_ℤ-+ℤ}
use Rattle.table.specs.Rotation.{Rotation, Lawful}
use Rattle.tracing.specs.Met.{total}
use Rattle.surface.specs.Labels.{in_part}
use Rattle.surface.proofs.laws.Labels.{in_part_of}
use Rattle.surface.specs.Counts.{vertices_in, edges_in, walks_in}
use Rattle.surface.proofs.laws.Euler.{Closed, euler}
use Rattle.surface.specs.Parts.{root?, parts}
use Rattle.surface.proofs.laws.Parts.{root_there, root_label, vertices_sum, edges_sum, faces_sum, empty_vertices, empty_edges, empty_faces}
use Rattle.surface.specs.Signed.{euler_of, part_euler, mesh_euler, PartLaws, total_ℤ}
use Rattle.table.specs.laws.Signed.{minus_difference, above, below, move, exchange}

pub euler_difference : (v e f : ℕ) → euler_of v e f ≡ pos (v + f) -ℤ pos e
unfolding euler_of
euler_difference v e f = move (pos v) (neg_ℤ (pos e)) (pos f)

at_most : (v e f k : ℕ) → v + f ≤ e + k → euler_of v e f ≤ℤ pos k
at_most v e f k h = rw (euler_difference v e f) (elim (minus_difference (v + f) e) [
  | above l q ↦ rw q (record { le = le→leb (v + f - e) k (omega arith) })
  | below l q ↦ rw q (record { le = tt })
])

even_number : (v e f : ℕ) → (v + e + f) % 2 ≡ 0 → nat_abs (euler_of v e f) % 2 ≡ 0
even_number v e f h = rw (euler_difference v e f) (elim (minus_difference (v + f) e) [
  | above l q ↦ rw q (omega arith)
  | below l q ↦ rw q (omega arith)
])

pub part_laws : {C : Rotation → Type 0} → Closed C → {R : Rotation} → C R → (r : ℕ) → root? R r ≡ true → PartLaws R r
unfolding part_euler
part_laws closed {R} c r t =
    let L = closed.lawful R c in
    let H = euler closed c (root_there R r t) (in_part_of L r (root_label R r t)) in
    record {
      at_most_two = at_most _ _ _ 2 H.bound;
      even = λ o. even_number _ _ _ (H.even o);
      at_most_one = λ n. at_most _ _ _ 1 (H.less n);
    }

regroup : (a b c d e f : ℤ) → (a +ℤ b) +ℤ (c +ℤ d) +ℤ (e +ℤ f) ≡ (a +ℤ c +ℤ e) +ℤ (b +ℤ d +ℤ f)
regroup a b c d e f = ap (λ z. z +ℤ (e +ℤ f)) (exchange a b c d) ∙ exchange (a +ℤ c) (b +ℤ d) e f

euler_add : (v w e k f g : ℕ) → euler_of (v + w) (e + k) (f + g) ≡ euler_of v e f +ℤ euler_of w k g
unfolding euler_of
euler_add v w e k f g =
    ap (λ z. pos (v + w) +ℤ z +ℤ pos (f + g)) (neg_ℤ-+ℤ (pos e) (pos k)) ∙ regroup (pos v) (pos w) (neg_ℤ (pos e)) (neg_ℤ (pos k)) (pos f) (pos g)

euler_total : (f g h : ℕ → ℕ) (l : List ℕ) → euler_of (total f l) (total g l) (total h l) ≡ total_ℤ (λ r. euler_of (f r) (g r) (h r)) l
unfolding total total_ℤ euler_of
euler_total f g h [] = refl
euler_total f g h (x ∷ l) =
    euler_add (f x) (total f l) (g x) (total g l) (h x) (total h l) ∙ ap (λ z. euler_of (f x) (g x) (h x) +ℤ z) (euler_total f g h l)

pub mesh_sum : {R : Rotation} → Lawful R → mesh_euler R ≡ total_ℤ (part_euler R) (parts R)
unfolding mesh_euler part_euler
mesh_sum {R} L =
    rw (vertices_sum L, edges_sum L, faces_sum L)
    (euler_total (λ r. vertices_in R (in_part R r)) (λ r. edges_in R (in_part R r)) (λ r. walks_in R (in_part R r)) (parts R))

-- "The empty mesh has no parts and Euler number 0."
pub empty_euler : {R : Rotation} → Lawful R → ((v : ℕ) → R.there v ≡ false) → mesh_euler R ≡ pos 0
unfolding mesh_euler euler_of
empty_euler L none = rw (empty_vertices L none, empty_edges L none, empty_faces L none)
