-- Document 01, "the P samples: proved together as one statement over a list".
use Rattle.samples.specs.Samples.{All, Holds, samples}
use Rattle.samples.proofs.laws.Theorem as theorem

pub samples_hold : All Holds samples
samples_hold = theorem.samples_hold
