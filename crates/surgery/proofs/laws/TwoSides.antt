-- An edge's two sides, each by one of its steps: by the first dart with type 0, and by the second dart along the other side.
use Rattle.std.specs.Prelude.{ℕ, ◌+◌, ◌*◌}
use Rattle.table.specs.Rotation.{Rotation}
use Rattle.surgery.specs.Change.{parity}

abbrev pub near : ℕ → ℕ
near e = 4 * e

abbrev pub far : Rotation → ℕ → ℕ
far R e = 4 * e + 2 + parity R e
