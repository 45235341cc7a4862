-- `planner::planner_price_sheet` meets its contract. Writes four words for each ribbon, and answers the sum of the prices.
use Rattle.prices.proofs.laws.Call.{quote_payable}
use native.Mathlib.Omega.{arith}
use Rattle.planner.proofs.planner_price_sheet.Goals as goal

pub quote_code-requires : goal.quote_code-requires
quote_code-requires c = quote_payable _ _ _ _ (omega arith) (omega arith) c.price_sheet.ensures.0
