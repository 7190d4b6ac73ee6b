use Rattle.std.proofs.Common.{◌≡◌, ℕ, MatchOption, subst}
use Rattle.shop_base.specs.Plan.{PlannedShop}
use Rattle.alt_graph.specs.Sources.{IsBlockingArc}
use Rattle.plan_explain.proofs.arcs.Arcs.blocking_length.Goals as goal

pub returns-in-Some-clause-length : goal.returns-in-Some-clause-length
returns-in-Some-clause-length c =
    let inside : c.in-Some.graph.plan ≡ c.self.inside.shaped.now = rw c.in-Some.is at c.self.invariant in
    let same : c.in-Some.graph.plan ≡ c.args.self.now = cc (inside, c.self.view_is) in
    subst (λ (p : PlannedShop). MatchOption c.length_from.result ((d : ℕ) → IsBlockingArc p c.args.from c.args.to d → ⊥) (IsBlockingArc p c.args.from c.args.to)) same c.length_from.ensures
