use Rattle.alt_graph.proofs.WholePlans.{times_ranks}
use Rattle.plan_verifier.proofs.{Answers.ok_each, Latest.of_verified}
use Rattle.plan_verifier.proofs.verified.Verified.deadlines.Goals as goal

pub latest_moments-requires : goal.latest_moments-requires
latest_moments-requires c = times_ranks _ _ c.self.invariant.ordered.times

pub returns : goal.returns
returns c =
    let found = c.latest_moments.result in
    let are = c.latest_moments.ensures.deadlines c.self.invariant.ordered c.self.invariant.budgets in
    rw (← c.self.view_is) (record {
      nodes = c.latest_moments.ensures.nodes;
      deadlines = are;
      fit = ok_each found (λ found deadlines. (of_verified _ c.self.invariant _ deadlines).fit) are;
      latest = ok_each found (λ found deadlines. (of_verified _ c.self.invariant _ deadlines).latest) are;
      not_before = ok_each found (λ found deadlines. (of_verified _ c.self.invariant _ deadlines).not_before) are;
      out = ok_each found (λ found deadlines. (of_verified _ c.self.invariant _ deadlines).out) are;
      in_time = ok_each found (λ found deadlines. (of_verified _ c.self.invariant _ deadlines).in_time) are;
    })
