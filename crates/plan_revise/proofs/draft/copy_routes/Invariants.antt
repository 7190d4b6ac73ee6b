use Rattle.std.proofs.Common.{◌≡◌, take}
use Rattle.shop_base.specs.Vectors.{lists_of}
use Rattle.plan_revise.proofs.draft.copy_routes.Given as goal

-- the routes of the jobs before this one are copied
abbrev pub invariant-loop-job : goal.invariant-loop-job
invariant-loop-job l = lists_of l.routes.items ≡ take l.job l.shaped.shop.routes
