-- The work of a shop: the sum of its nominal times.
use Rattle.std.specs.Prelude.{ℕ, List, sum_by}
use Rattle.shop_base.specs.declared.shop.Step.{Step}
use Rattle.shop_base.specs.Shop.{JobShop}

-- the nominal times of a route, together
abbrev pub route_work : List Step → ℕ
route_work route = sum_by (λ step. step.nominal) route

-- those of all routes of a shop
abbrev pub work_of : JobShop → ℕ
work_of shop = sum_by route_work shop.routes
