use Rattle.std.proofs.Common.{◌≡◌, ◌++◌, drop}
use Rattle.shop_base.specs.Vectors.{lists_of}
use Rattle.run_pruning.specs.Staying.{staying}
use Rattle.run_pruning.proofs.pruning.kept_routes.Given as goal

-- the routes so far, and those of the jobs that are left, are all that stay
abbrev pub invariant-loop-job : goal.invariant-loop-job
invariant-loop-job l = lists_of l.left.items ++ staying (drop l.job l.kept) (drop l.job l.shaped.shop.routes) ≡ staying l.kept l.shaped.shop.routes
