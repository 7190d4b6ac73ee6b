-- Paths where everything takes longer: with more thousandths they are no shorter, with none they are the paths of the plan, and none is longer than moments that respect them.
use Rattle.std.proofs.Common.{◌≡◌, ℕ, ◌+◌, ◌*◌, ◌<◌, ◌≤◌, List}
use Rattle.std.proofs.Common.{arith}
use Rattle.std.proofs.Math.Nat.{mul-le-mul}
use Rattle.shop_base.specs.declared.node.Node.{Node}
use Rattle.shop_base.specs.Plan.{PlannedShop, jobs, release}
use Rattle.shop_base.specs.Graph.{Arc, node, leaving}
use Rattle.alt_graph.specs.Times.{earliest_of}
use Rattle.plan_verifier.specs.Accepted.{VerifiedPlan, IsVerified}
use Rattle.plan_margin.specs.Longer.{longer, LongerPath, sets_out, goes_along, AllKeepBudgets, IsPast}
use Rattle.plan_margin.specs.Lengths.{HasLongerSchedule}

-- with more thousandths a time is no shorter
pub longer_more : (s t time : ℕ) → s ≤ t → longer s time ≤ longer t time
unfolding longer
longer_more s t time more = mul-le-mul (le_same time) (omega arith)
  where
    le_same : (n : ℕ) → n ≤ n
    le_same n = omega arith

-- with none it is what it is
pub longer_none : (time : ℕ) → longer 0 time ≡ time * 1000
unfolding longer
longer_none time = omega arith

-- it is at most eleven times as long
pub longer_most : (s time : ℕ) → s ≤ 10000 → time ≤ 1000000 → longer s time ≤ 11000000000
unfolding longer
longer_most s time few short = mul-le-mul {n₁ = time} {m₁ = 1000 + s} {n₂ = 1000000} {m₂ = 11000} short (omega arith)

-- with more thousandths the same nodes are a path that is no shorter
pub path_more : (p : PlannedShop) (s t : ℕ) (nodes : List Node) (v : Node) (n : ℕ) → s ≤ t → LongerPath p s nodes v n → (m : ℕ) × (n ≤ m) × LongerPath p t nodes v m
path_more p s t _ _ _ more (sets_out j inside) = (release p j * 1000, omega arith, sets_out j inside)
path_more p s t _ _ _ more (goes_along nodes u v n d path arc) =
    let (m, le, longest) = path_more p s t nodes u n more path in
    (m + longer t d, omega (arith, le, longer_more s t d more), goes_along nodes u v m d longest arc)

-- so a job that keeps its budget with more keeps it
pub kept_with_less : (p : PlannedShop) (s t : ℕ) → s ≤ t → AllKeepBudgets p t → AllKeepBudgets p s
kept_with_less p s t more kept j inside nodes n path =
    let (m, le, longest) = path_more p s t nodes (leaving p j) n more path in
    omega (arith, le, kept j inside nodes m longest)

-- and one that doesn't with less doesn't
pub past_with_more : (p : PlannedShop) (s t j : ℕ) → s ≤ t → IsPast p s j → IsPast p t j
past_with_more p s t j more past =
    let (m, le, longest) = path_more p s t past.nodes (leaving p j) past.length more past.path in
    record { job = past.job; nodes = past.nodes; length = m; path = longest; past = omega (arith, le, past.past) }

-- no path is longer than moments that respect the releases and the arcs
pub path_kept : (p : PlannedShop) (s : ℕ) (kept : Node → ℕ) (nodes : List Node) (v : Node) (n : ℕ)
    → ((j : ℕ) → j < jobs p → release p j * 1000 ≤ kept (node j 0)) → ((u w : Node) (d : ℕ) → Arc p u w d → kept u + longer s d ≤ kept w)
    → LongerPath p s nodes v n → n ≤ kept v
path_kept p s kept _ _ _ releases arcs (sets_out j inside) = releases j inside
path_kept p s kept _ _ _ releases arcs (goes_along nodes u v n d path arc) = omega (arith, path_kept p s kept nodes u n releases arcs path, arcs u v d arc)

-- so each job keeps its budget
pub schedule_keeps : (p : PlannedShop) (s : ℕ) → HasLongerSchedule p s → AllKeepBudgets p s
schedule_keeps p s (kept, schedule) j inside nodes n path =
    omega (arith, path_kept p s kept nodes (leaving p j) n schedule.releases schedule.arcs path, schedule.budgets j inside)

-- an accepted plan has such moments with nothing more
pub accepted_has : (v : VerifiedPlan) → IsVerified v → HasLongerSchedule v.planned 0
accepted_has v verified = (
  λ u. earliest_of v.times u * 1000,
  record {
    releases = λ j inside. omega (arith, verified.schedule.moments.releases j inside);
    arcs = λ u w d arc. omega (arith, longer_none d, verified.schedule.moments.arcs u w d arc);
    budgets = λ j inside. omega (arith, verified.budgets j inside);
  },
)
