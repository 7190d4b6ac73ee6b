use Rattle.std.proofs.Common.{arith, subst}
use Rattle.shop_base.specs.declared.node.Node.{Node}
use Rattle.alt_graph.specs.Times.{IsPathFromBy}
use Rattle.plan_explain.proofs.ChainTexts.{chain_found}
use Rattle.plan_explain.proofs.explaining.chain_to.Goals as goal

pub returns : goal.returns
returns g c =
    let r = c.args.rest.now in
    let nodes = c.in-Some.chain.items in
    chain_found r.plan r.cell r.present c.args.times.now c.args.job c.leave_time-leaves.result nodes c.requires.ordered c.requires.job
    (λ gone. let yes = (rw (c.cell.ensures.plan, c.cell.ensures.cell) at c.is_gone.ensures).1 gone in cc)
    (subst (λ (v : Node). IsPathFromBy c.args.times.now v nodes) c.leaving_of.ensures (rw c.in-Some.is at c.in_ok-chain.ensures.path_from))
    c.leave_time-leaves.ensures (omega arith)
