-- `planner::planner_ask_insert_edge` meets its contract. What inserting edge e would do.
use mathlib.Core.Path.{refl}
use Rattle.forecasts.proofs.laws.Number.{asked_numbered}
use Rattle.planner.proofs.planner_ask_insert_edge.Goals as goal

pub asked_code-requires : goal.asked_code-requires
asked_code-requires c = asked_numbered _ _ _ refl c.ask_insert_edge.ensures
