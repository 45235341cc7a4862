-- The theorems of this crate, document 01, "Runs of edits". Each is proved by the law of its name.
use Rattle.std.specs.Prelude.{ℕ, List}
use Rattle.table.specs.Good.{Good}
use Rattle.edits.specs.declared.edit.Edit.{Edit}
use Rattle.runs.specs.RunLaws.{RunLaws}
use Rattle.table.specs.Empty.{empty_table}
use Rattle.runs.proofs.laws.Theorem as theorem

-- the third demand: "The slice begins as the empty mesh or as any good table"
pub run_laws : (t : List ℕ) → Good t → (Es : List Edit) → RunLaws t Es
run_laws = theorem.run_laws

-- "The slice begins as the empty mesh or as any good table"
pub empty_run_laws : (Es : List Edit) → RunLaws empty_table Es
empty_run_laws = theorem.empty_run_laws
