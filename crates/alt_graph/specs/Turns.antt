-- The turns of visits.
use Rattle.std.specs.Prelude.{ℕ, List, nat_eq}
use Rattle.shop_base.specs.declared.shop.Step.{Step}
use Rattle.shop_base.specs.Shop.{step_at}
use Rattle.shop_base.specs.Plan.{count_below}

-- how many of the first n steps of a route are on machine m
abbrev pub steps_on : List Step → ℕ → ℕ → ℕ
steps_on route m n = count_below (λ k. nat_eq (step_at route k).machine m) n
