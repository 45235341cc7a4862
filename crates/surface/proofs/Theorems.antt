-- The theorems on parts and Euler numbers, document 01, "Counts", each stated in full; its proof names the law that gives it.
-- A good table's rotation system is lawful; the theorems over lawful ones speak of good tables.
--     same_label, one_part                  in one part exactly if a chain of live edges joins them
--     label_smallest, part_named            a part's name is its smallest vertex, a live one
--     part_once, part_alone                 a live vertex is in exactly one part; an isolated one is a part alone
--     walk_part                             all corners that a walk meets are in one part
--     orientable_marks                      orientable exactly if the vertices can be marked so
--     vertices_sum, edges_sum, walks_sum    V, E and F are sums over the parts
--     table_parts, table_sum                V-E+F of each part: at most 2, even, at most 1; the mesh's is their sum
--     empty_parts, empty_euler              a mesh without vertices: no parts, Euler number 0
use Rattle.std.specs.Prelude.{ℕ, ◌≤◌, ◌≡◌, true, false, List, [], ◌↔◌, pos}
use Rattle.table.specs.Good.{Good}
use Rattle.table.specs.Rotation.{Rotation, Lawful, rotation}
use Rattle.tracing.specs.Listing.{has, faces, face_count}
use Rattle.tracing.specs.Met.{count_in, corners_of, total, edge_count}
use Rattle.surface.specs.Chain.{Chain, Orientable}
use Rattle.surface.specs.Labels.{label, in_part, orientable}
use Rattle.surface.specs.Counts.{corner_vertex, vertex_count, vertices_in, edges_in, walks_in}
use Rattle.surface.specs.Parts.{parts, Together}
use Rattle.surface.specs.Signed.{PartLaws, part_euler, mesh_euler, total_ℤ}
use Rattle.surface.proofs.laws.Labels as labels
use Rattle.surface.proofs.laws.Listed as listed
use Rattle.surface.proofs.laws.Parts as sums
use Rattle.surface.proofs.laws.Signed as signed
use Rattle.surface.proofs.laws.Tables as tables

-- "Live vertices are in one connected part if a chain of live edges joins them": by their labels, and by the listed parts
pub same_label : {R : Rotation} → Lawful R → (u v : ℕ) → (label R u ≡ label R v) ↔ Chain R u v
same_label L = labels.same_label L

pub one_part : {R : Rotation} → Lawful R → (u v : ℕ) → R.there u ≡ true → R.there v ≡ true → Together R u v ↔ Chain R u v
one_part L = listed.one_part L

-- a live vertex is in exactly one listed part
pub part_once : {R : Rotation} → Lawful R → (v : ℕ) → R.there v ≡ true → count_in (λ r. in_part R r v) (parts R) ≡ 1
part_once L = listed.part_once L

-- a label is the smallest vertex of its part, and the name of a part is a live vertex of it, the smallest
pub label_smallest : {R : Rotation} → Lawful R → (w v : ℕ) → Chain R w v → label R w ≤ v
label_smallest L = labels.label_smallest L

pub part_named : {R : Rotation} → Lawful R → (r : ℕ) → has r (parts R) ≡ true
    → (R.there r ≡ true) × (in_part R r r ≡ true) × ((v : ℕ) → in_part R r v ≡ true → r ≤ v)
part_named L = listed.part_named L

-- "an isolated vertex is a part alone"
pub part_alone : {R : Rotation} → Lawful R → (v : ℕ) → R.alone v ≡ true → (has v (parts R) ≡ true) × ((w : ℕ) → in_part R v w ≡ true → w ≡ v)
part_alone L = listed.part_alone L

-- "A walk is in the part whose corners it meets."
pub walk_part : {R : Rotation} → Lawful R → (c k r : ℕ) → has c (faces R) ≡ true → has k (corners_of R c) ≡ true
    → in_part R r (corner_vertex R k) ≡ in_part R r (corner_vertex R c)
walk_part L = listed.walk_part L

-- "A part is orientable if its vertices can be marked 0 or 1 so that each edge's turns are even exactly when its ends' marks agree."
pub orientable_marks : {R : Rotation} → Lawful R → (r : ℕ) → (orientable R r ≡ true) ↔ Orientable R (in_part R r)
orientable_marks L = labels.orientable_marks L

-- V, E and F are the sums over the parts
pub vertices_sum : {R : Rotation} → Lawful R → vertex_count R ≡ total (λ r. vertices_in R (in_part R r)) (parts R)
vertices_sum L = sums.vertices_sum L

pub edges_sum : {R : Rotation} → Lawful R → edge_count R ≡ total (λ r. edges_in R (in_part R r)) (parts R)
edges_sum L = sums.edges_sum L

pub walks_sum : {R : Rotation} → Lawful R → face_count R ≡ total (λ r. walks_in R (in_part R r)) (parts R)
walks_sum L = sums.faces_sum L

-- "in each part V-E+F is at most 2, even if orientable, at most 1 if not"; the mesh's is the sum of its parts'
pub table_parts : {t : List ℕ} → Good t → (r : ℕ) → has r (parts (rotation t)) ≡ true → PartLaws (rotation t) r
table_parts g = tables.table_parts g

pub table_sum : {t : List ℕ} → Good t → mesh_euler (rotation t) ≡ total_ℤ (part_euler (rotation t)) (parts (rotation t))
table_sum g = tables.table_sum g

-- "The empty mesh has no parts and Euler number 0."
pub empty_parts : {R : Rotation} → Lawful R → ((v : ℕ) → R.there v ≡ false) → parts R ≡ []
empty_parts L = sums.empty_parts L

pub empty_euler : {R : Rotation} → Lawful R → ((v : ℕ) → R.there v ≡ false) → mesh_euler R ≡ pos 0
empty_euler L = signed.empty_euler L
