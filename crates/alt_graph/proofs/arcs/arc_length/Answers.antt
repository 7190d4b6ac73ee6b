use Rattle.std.proofs.Common.{rules, ◌≡◌, ℕ, subst}
use Rattle.shop_base.specs.declared.node.Node.{Node}
use Rattle.alt_graph.specs.Sources.{IsJobArc}
use Rattle.alt_graph.proofs.ArcKinds.{job_source_once, longest_blocking, longest_of_both}
use Rattle.alt_graph.proofs.arcs.arc_length.Goals as goal

pub returns-in-Some-clause-exact : goal.returns-in-Some-clause-exact
returns-in-Some-clause-exact c =
    let same : c.in-Some.source.node ≡ c.args.from = search rules in
    let along = subst (λ (u : Node). IsJobArc c.args.shaped.now u c.args.to c.in-Some.source.length) same c.in-Some.ensures.arc in
    longest_of_both _ c.job_source.ensures.well_shaped c.args.from c.args.to _ _ c.blocking_arc-blocking.result along c.blocking_arc-blocking.ensures
    c.greater.ensures.first c.greater.ensures.second c.greater.ensures.of_both

pub returns-in_default-clause-exact : goal.returns-in_default-clause-exact
returns-in_default-clause-exact c = longest_blocking _ c.job_source.ensures.well_shaped c.args.from c.args.to c.blocking_arc-blocking.result none c.blocking_arc-blocking.ensures
  where
    none : (d : ℕ) → IsJobArc c.args.shaped.now c.args.from c.args.to d → ⊥
    none d arc =
        let same : c.args.from ≡ c.in-Some.source.node = (job_source_once _ c.job_source.ensures.well_shaped _ _ _ _ _ arc c.in-Some.ensures.arc).0 in
        absurd (search rules)

pub returns-in_default-2-clause-exact : goal.returns-in_default-2-clause-exact
returns-in_default-2-clause-exact c =
    longest_blocking _ c.job_source.ensures.well_shaped c.args.from c.args.to c.blocking_arc-blocking.result ((rw c.in_default.is at c.job_source.ensures.arc) c.args.from) c.blocking_arc-blocking.ensures
