-- What the call for the listing answers and what it leaves in the slice, document 01, "When a call declines".
use Rattle.table.specs.Answers.{Answer}
use Rattle.std.specs.Prelude.{ℕ, List}
use Rattle.table.specs.Rotation.{rotation}
use Rattle.table.specs.Output.{output_answer, output_out}
use Rattle.tracing.specs.Listing.{listing}

abbrev pub list_answer : List ℕ → ℕ → Answer
list_answer t n = output_answer t (listing (rotation t)) n

abbrev pub list_out : List ℕ → List ℕ → List ℕ
list_out t out = output_out t (listing (rotation t)) out
