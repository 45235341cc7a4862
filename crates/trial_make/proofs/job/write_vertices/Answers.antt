-- `job::write_vertices` meets its contract. The invariant: the records of the first v vertices, each with its own corner.
use Rattle.trial_make.specs.laws.Making.{vertices_none, vertices_more}
use Rattle.trial_make.proofs.job.write_vertices.Goals as goal

pub loop-v-init : goal.loop-v-init
loop-v-init c = vertices_none _ _ c.requires.1

pub loop-v-preserved : goal.loop-v-preserved
loop-v-preserved c = vertices_more c.loop-v.invariant c.loop-v-test.true c.write_words.ensures
