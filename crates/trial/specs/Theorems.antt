-- The theorems of this crate. Each is proved by the law of its name.
use Rattle.std.specs.Prelude.{ℕ, ◌≤◌, ◌≡◌, [], ◌⊎◌, Ok}
use Rattle.table.specs.Layout.{edges}
use Rattle.text.specs.Decimal.{decimal}
use Rattle.trial.specs.Program.{start_most, arguments, Outcome, outcome, output_of, message}
use Rattle.trial.specs.laws.Program as program

-- the decimal texts of a 32-bit number and of one up to 1,024 ask for their job
pub decimals_job : (start n : ℕ) → start ≤ start_most → n ≤ edges → outcome arguments (decimal start) (decimal n) ≡ Ok (record { start = start; edges = n })
decimals_job = program.decimals_job

-- either nothing goes to standard output, or nothing to standard error
pub one_empty : (o : Outcome) → (output_of o ≡ []) ⊎ (message o ≡ [])
one_empty = program.one_empty
