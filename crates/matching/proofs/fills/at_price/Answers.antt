-- `at_price`: the comparison that the definition names.
use Rattle.std.proofs.Common.{rules}
use Rattle.matching.proofs.fills.at_price.Goals as goal

pub returns-in-Better-Buy : goal.returns-in-Better-Buy
returns-in-Better-Buy c = rw c.in-Better-Buy.is (search rules)

pub returns-in-Better-Sell : goal.returns-in-Better-Sell
returns-in-Better-Sell c = rw c.in-Better-Sell.is (search rules)

pub returns-in-Margin : goal.returns-in-Margin
returns-in-Margin c = rw c.in-Margin.is (search rules)
