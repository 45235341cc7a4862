-- The Euler number for good tables: any edge can be deleted from one, and what is left is good.
--     tables_closed        good tables are such a class
--     table_parts          in each part of a good table V-E+F is at most 2, even if the part is orientable, at most 1 if not
--     table_sum            the mesh's V-E+F is the sum over its parts
use Rattle.std.specs.Prelude.{ℕ, ◌*◌, ◌/◌, ◌<◌, ◌≡◌, refl, true, List, ◌≢◌}
use Rattle.std.proofs.Common.{arith}
use Rattle.table.specs.Layout.{edges, edge_word}
use Rattle.table.specs.Good.{Good}
use Rattle.table.specs.Rotation.{Rotation, rotation}
use Rattle.table.specs.laws.Rotation.{live_yes}
use Rattle.table.specs.laws.Lawful.{good_lawful}
use Rattle.edits.specs.Edge.{deleted}
use Rattle.edits.proofs.laws.Deleted.{deleted_good, deleted_without}
use Rattle.surface.proofs.laws.Euler.{Closed}
use Rattle.tracing.specs.Listing.{has}
use Rattle.surface.specs.Parts.{parts}
use Rattle.surface.proofs.laws.Listed.{listed_root}
use Rattle.surface.specs.Signed.{PartLaws, part_euler, mesh_euler, total_ℤ}
use Rattle.surface.proofs.laws.Signed.{part_laws, mesh_sum}

-- the rotation of a good table
pub record OfTable (R : Rotation) : Type 0 where
  pub words : List ℕ
  pub good : Good words
  pub reads : R ≡ rotation words

pub tables_closed : Closed OfTable
tables_closed = record {
  lawful = λ R T. rw T.reads (good_lawful T.words T.good);
  without = λ R T e l.
      let t = T.words in
      let v = live_yes t (2 * e) (rw T.reads at l) in
      let half : 2 * e / 2 ≡ e = omega arith in
      let low : e < edges = let h = v.low in omega arith in
      let on : edge_word t e ≢ 0 = rw half at v.on in (
        rotation (deleted t e),
        record { words = deleted t e; good = deleted_good t T.good e low on; reads = refl },
        rw T.reads (deleted_without t T.good e low on),
      );
}

pub table_parts : {t : List ℕ} → Good t → (r : ℕ) → has r (parts (rotation t)) ≡ true → PartLaws (rotation t) r
table_parts {t} g r p = part_laws tables_closed (record { words = t; good = g; reads = refl }) r (listed_root (rotation t) r p)

pub table_sum : {t : List ℕ} → Good t → mesh_euler (rotation t) ≡ total_ℤ (part_euler (rotation t)) (parts (rotation t))
table_sum {t} g = mesh_sum (good_lawful t g)
