-- The deadlines of an accepted plan: they fit, are the latest that do, and are enough.
use Rattle.std.proofs.Common.{ℕ, ◌≤◌, [], arith}
use Rattle.shop_base.specs.{declared.node.Node.Node, Cell.start, Graph.IsNode, Deadlines.AreDeadlines}
use Rattle.shop_base.proofs.{Cycles.source_node, Keeping.start-made, Deadlines.deadlines_are_the_latest-holds}
use Rattle.shop_base.proofs.StartAhead.{out_by_the_deadlines-holds, in_time_to_the_deadlines-holds}
use Rattle.plan_verifier.specs.Accepted.{VerifiedPlan, IsVerified, rank_in, kept_at}
use Rattle.plan_verifier.specs.ByDeadlines.{FitBudgets, AreEnough, AreEnoughAtTheEnd, AreTheLatest}

-- what the deadlines of an accepted plan are
pub record AreOfVerified (v : VerifiedPlan) (kept : Node → ℕ) : Type 0 where
  pub fit : FitBudgets v.planned kept
  pub latest : AreTheLatest v.planned kept
  pub not_before : (u : Node) → IsNode v.planned u → kept_at v u ≤ kept u
  pub out : AreEnoughAtTheEnd v.planned kept
  pub in_time : AreEnough v.planned kept

module _ (v : VerifiedPlan) (sound : IsVerified v) (kept : Node → ℕ) (deadlines : AreDeadlines v.planned (start v.planned) kept) where
  the_latest : AreTheLatest v.planned kept
  the_latest other fits u is =
      deadlines_are_the_latest-holds v.planned (rank_in v) kept other [] sound.schedule.shaped sound.schedule.ranks tt deadlines
      (λ w x d ahead arc. fits.arcs w x d arc) (λ j inside here. fits.budgets j inside) u is (omega (arith, start-made v.planned u.job is.job))

  pub of_verified : AreOfVerified v kept
  of_verified = record {
    fit = record {
      arcs = λ u w d arc. deadlines.arcs u w d (let is : IsNode v.planned u = source_node v.planned u w d arc in omega (arith, start-made v.planned u.job is.job)) arc;
      budgets = λ j inside. deadlines.budgets j inside (λ gone. absurd (omega (arith, start-made v.planned j inside)));
    };
    latest = the_latest;
    not_before = λ u is. the_latest (kept_at v) (record { arcs = sound.schedule.moments.arcs; budgets = sound.budgets }) u is;
    out = λ rs es end run own ended j inside. out_by_the_deadlines-holds v.planned (rank_in v) (kept_at v) kept rs es end sound.schedule sound.budgets deadlines run own ended j inside;
    in_time = λ rs es end run within j inside. in_time_to_the_deadlines-holds v.planned (rank_in v) (kept_at v) kept rs es end sound.schedule sound.budgets deadlines run within j inside;
  }
