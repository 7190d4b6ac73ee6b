use Rattle.std.proofs.Common.{arith, refl, ap}
use Rattle.shop_base.specs.declared.shop.Step.{Step}
use Rattle.alt_graph.proofs.sources.job_source.Goals as goal

pub returns-clause-arc : goal.returns-clause-arc
returns-clause-arc c = record {
  job = refl;
  place = omega arith;
  within = c.in_ok-length.ensures.none;
  length = ap (λ (step : Step). step.nominal) c.in_ok-length.ensures.same;
}
