-- The theorems of this crate, document 01, "The table". Each is proved by the law of its name.
use mathlib.Core.Path.{◌≡◌}
use Rattle.std.specs.Prelude.{true, List, ◌↔◌, ℕ}
use Rattle.table.specs.Good.{Good}
use Rattle.table.specs.Rotation.{Lawful, rotation}
use Rattle.table.specs.Check.{good?}
use Rattle.table.specs.Empty.{empty_table}
use Rattle.table.specs.laws.Rotation as rotation-laws
use Rattle.table.specs.laws.Lawful as lawful
use Rattle.table.specs.laws.Check as check
use Rattle.table.specs.laws.Empty as empty

-- the check's Boolean says exactly whether the table is good
pub good_says : (t : List ℕ) → (good? t ≡ true) ↔ Good t
good_says t = (rotation-laws.case_yes (check.good_case t), λ g. let e = check.good_yes t g in mathlib.Core.Path.sym e)

-- the rotation system of a good table is lawful
pub good_lawful : (t : List ℕ) → Good t → Lawful (rotation t)
good_lawful = lawful.good_lawful

-- the empty mesh is a good table
pub empty_good : Good empty_table
empty_good = empty.empty_good
