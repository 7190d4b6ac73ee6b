use Rattle.std.proofs.Common.{◌≡◌, take}
use Rattle.shop_base.specs.Vectors.{lists_of}
use Rattle.run_pruning.proofs.spare.copy_routes.Given as goal

-- the routes of the jobs so far
abbrev pub invariant-loop-job : goal.invariant-loop-job
invariant-loop-job l = lists_of l.copy.items ≡ take l.job l.shaped.shop.routes
