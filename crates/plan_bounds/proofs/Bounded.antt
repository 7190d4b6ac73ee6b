-- The laws of the bounds.
use Rattle.std.proofs.Common.{ℕ, ◌<◌, ◌≤◌, List, arith}
use Rattle.shop_base.specs.Plan.{PlannedShop, jobs, release, IsWellShaped}
use Rattle.shop_base.specs.Graph.{leaving, MomentsFit, Path, begins, follows}
use Rattle.shop_base.specs.declared.node.Node.{Node}
use Rattle.shop_base.proofs.StartAhead.{no_exact_run_is_faster-holds}
use Rattle.plan_bounds.specs.Bounds.{times_of, job_bound}
use Rattle.plan_bounds.specs.Makespan.{IsBy}
use Rattle.plan_bounds.specs.BoundsLaw.{HasPathOf, NoPlanIsSooner, NeverInTime}
use Rattle.plan_bounds.specs.declared.makespan.By.{By}
use Rattle.plan_bounds.specs.declared.makespan.By.TheVariants.{Machine, Job}
use Rattle.plan_bounds.proofs.AlonePaths.{to_out}
use Rattle.plan_bounds.proofs.Paths.{shorter, onward, begun}
use Rattle.plan_bounds.proofs.Chains.{machine_path}

-- to the leaving of each job there is a path as long as its bound
job_path : (p : PlannedShop) (j : ℕ) → IsWellShaped p → j < jobs p → HasPathOf p (leaving p j) (job_bound (times_of p) j)
job_path p j shaped inside =
    to_out p (HasPathOf p) (shorter p) (onward p) shaped j 0 (release p j) (omega arith) (begun p j inside)

pub no_plan_is_sooner-holds : NoPlanIsSooner
no_plan_is_sooner-holds p shaped = (λ j inside. job_path p j shaped inside, λ least is. by least.at_least least.by is)
  where
    by : (n : ℕ) (whose : By) → IsBy (times_of p) n whose → (j : ℕ) × (j < jobs p) × HasPathOf p (leaving p j) n
    by n (Machine m) is = machine_path p shaped m n is.0.bound
    by n (Job j) is = (j, is.0.in_range, shorter p (leaving p j) _ n (job_path p j shaped is.0.in_range) (omega (arith, is.0.bound)))

-- no path is longer than moments that fit allow
path_fits : (p : PlannedShop) (kept : Node → ℕ) (nodes : List Node) (v : Node) (n : ℕ) → MomentsFit p kept → Path p nodes v n → n ≤ kept v
path_fits p kept _ _ _ fit (begins j inside) = fit.releases j inside
path_fits p kept _ _ _ fit (follows nodes u v n d path arc) = omega (arith, path_fits p kept nodes u n fit path, fit.arcs u v d arc)

pub never_in_time-holds : NeverInTime
never_in_time-holds p j shaped inside past =
    let found = job_path p j shaped inside in (
      λ kept fit. omega (arith, past, found.long, path_fits p kept found.nodes (leaving p j) found.size fit found.path),
      λ es run exact out. absurd (omega (arith, past, found.long, no_exact_run_is_faster-holds p j found.nodes found.size shaped found.path es run exact out.gone, out.by)),
    )
