use Rattle.std.proofs.Common.{sym}
use Rattle.alt_graph.proofs.Chains.{goes_none, goes_on, goes_all}
use Rattle.alt_graph.proofs.times.Times.walk_back.Goals as goal

pub back-init : goal.back-init
back-init c =
    let t = c.args.self.now in
    record { timed = c.requires; on = rw c.in_ok-nodes.ensures.items (goes_none t c.args.node) }

pub back-preserved : goal.back-preserved
back-preserved c =
    let t = c.args.self.now in
    record {
      timed = c.in-Some.ensures.back.0;
      on = rw c.in_ok-push.ensures.items (goes_on t c.back.nodes.items c.in-Some.before c.back.last c.args.node (sym c.in-Some.ensures.before) c.back.invariant.timed c.back.invariant.on);
    }

pub returns : goal.returns
returns c =
    let t = c.args.self.now in
    rw c.in_ok-push-2.ensures.items (goes_all t c.back.nodes.items c.back.last c.args.node (sym c.in_default.ensures.before) c.back.invariant.timed c.back.invariant.on)
