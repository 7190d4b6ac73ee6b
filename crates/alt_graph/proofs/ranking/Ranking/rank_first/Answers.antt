use Rattle.std.proofs.Common.{◌≡◌, arith, below_more, sym, ap, ◌∙◌}
use Rattle.shop_base.specs.Plan.{jobs}
use Rattle.shop_base.specs.Graph.{node}
use Rattle.alt_graph.specs.declared.times.TheConstants.{UNRANKED}
use Rattle.alt_graph.proofs.Settling.{grows_none, grows_on, settled_still, settled_earlier, settled_first}
use Rattle.alt_graph.proofs.ranking.Ranking.rank_first.Goals as goal

pub loop-job-init : goal.loop-job-init
loop-job-init g c = record { grows = grows_none _; settled = λ j lt. absurd (omega arith) }

pub try_rank-requires : goal.try_rank-requires
try_rank-requires g c =
    let count : jobs c.loop-job.self.plan ≡ jobs c.shaped.result.now = ap jobs c.loop-job.invariant.grows.plan ∙ ap jobs (sym c.shaped.ensures.plan) in
    record { job = omega (arith, count, c.job_count-job-end.ensures.count); place = omega arith }

pub loop-job-preserved : goal.loop-job-preserved
loop-job-preserved g c =
    let count : jobs c.loop-job.self.plan ≡ jobs c.shaped.result.now = ap jobs c.loop-job.invariant.grows.plan ∙ ap jobs (sym c.shaped.ensures.plan) in
    record {
      grows = grows_on _ c.loop-job.self _ c.loop-job.invariant.grows c.try_rank.ensures.grows;
      settled = below_more _ _
          (λ j lt. settled_still c.loop-job.self c.try_rank.new.self 0 (node j 0) (record { job = omega (arith, count, c.job_count-job-end.ensures.count); place = omega arith }) c.try_rank.ensures.grows (omega arith) (c.loop-job.invariant.settled j lt))
          (settled_earlier c.try_rank.new.self 0 UNRANKED _ (omega arith) c.try_rank.ensures.settled);
    }

pub returns-clause-settled : goal.returns-clause-settled
returns-clause-settled g c =
    let count : jobs c.loop-job.self.plan ≡ jobs c.shaped.result.now = ap jobs c.loop-job.invariant.grows.plan ∙ ap jobs (sym c.shaped.ensures.plan) in
    settled_first c.loop-job.self (λ j lt. c.loop-job.invariant.settled j (omega (arith, count, c.job_count-job-end.ensures.count)))
