-- The theorems of this crate, document 02, request c. Each is proved by the law of its name.
use Rattle.std.specs.Prelude.{ℕ, ◌≤◌, ◌<◌, ◌≡◌, List, ◌≢◌}
use Rattle.table.specs.Layout.{edges, vertices, darts, edge_word, vertex_word}
use Rattle.table.specs.Good.{Good}
use Rattle.check_reads.specs.Reads.{check_reads}
use Rattle.check_reads.proofs.laws.Bounds as bound
use Rattle.check_reads.proofs.laws.Full as full

-- "read at most 100,000 words of the table in one check": on any slice 15,872 at most
pub reads_most : (t : List ℕ) → check_reads t ≤ 15872
reads_most = bound.reads_most

-- and so many on a good table whose edges are all live and whose vertices all have a dart
pub reads_full : (t : List ℕ) → Good t → ((e : ℕ) → e < edges → edge_word t e ≢ 0) → ((v : ℕ) → v < vertices → vertex_word t v < darts) → check_reads t ≡ 15872
reads_full = full.reads_full
