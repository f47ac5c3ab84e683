use Rattle.pm_model.proofs.OrderLaws.{whole_map, tried_map, map_before}
use Rattle.pm_model.proofs.orders.orders_leave_the_scripts_map.Goals as goal

pub returns-clause-whole : goal.returns-clause-whole
returns-clause-whole c = whole_map

pub returns-clause-tried : goal.returns-clause-tried
returns-clause-tried c = tried_map

pub returns-clause-before : goal.returns-clause-before
returns-clause-before c = λ shape from lines pairs order count is has. map_before shape from lines pairs order is count has
