use Rattle.std.proofs.Common.{rules, ◌≡◌, ℕ}
use Rattle.alt_graph.specs.Sources.{IsBlockingArc}
use Rattle.alt_graph.proofs.ArcKinds.{blocking_source_once}
use Rattle.plan_explain.proofs.arcs.length_from.Goals as goal

pub returns-in_default : goal.returns-in_default
returns-in_default c = none
  where
    none : (d : ℕ) → IsBlockingArc c.args.graph.now.plan c.args.from c.args.to d → ⊥
    none d arc =
        let same : c.args.from ≡ c.in-Some.arc.node = (blocking_source_once _ c.blocking_source.ensures.sound.shaped _ _ _ _ _ arc c.in-Some.ensures.arc).0 in
        absurd (search rules)

pub returns-in_default-2 : goal.returns-in_default-2
returns-in_default-2 c = (rw c.in_default.is at c.blocking_source.ensures.arc) c.args.from
