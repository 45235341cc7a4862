-- The theorems of this crate, document 02, request b, over document 01, "Runs of edits". Each is proved by the law of its name.
use Rattle.std.specs.Prelude.{ℕ, List}
use Rattle.table.specs.Good.{Good}
use Rattle.table.specs.Empty.{empty_table}
use Rattle.runs_deeds.specs.Deeds.{Deed}
use Rattle.runs_deeds.specs.DeedLaws.{DeedLaws}
use Rattle.runs_deeds.proofs.laws.Theorem as theorem

-- the third demand, of a run that holds commits
pub deed_laws : (t : List ℕ) → Good t → (Ds : List Deed) → DeedLaws t Ds
deed_laws = theorem.deed_laws

pub empty_deed_laws : (Ds : List Deed) → DeedLaws empty_table Ds
empty_deed_laws = theorem.empty_deed_laws
