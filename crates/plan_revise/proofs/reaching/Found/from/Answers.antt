use Rattle.std.proofs.Common.{◌∙◌, refl, subst, arith}
use Rattle.std.proofs.lemmas.Option.{same_Some}
use Rattle.plan_revise.specs.Reaching.{Reaches, is_itself}
use Rattle.plan_revise.proofs.Searching.{all-reached}
use Rattle.plan_revise.proofs.reaching.Found.from.Goals as goal

pub mark-requires-clause-reached : goal.mark-requires-clause-reached
mark-requires-clause-reached c = λ x same. subst (Reaches c.args.graph.now.plan c.args.origin) (same_Some c.args.origin x same) is_itself

pub found-init : goal.found-init
found-init c = record {
  sound = c.node_count.ensures.sound;
  are = c.in_ok-mark.ensures.found;
  onward = λ i w less arc. absurd (omega (arith, less));
  begun = c.in_ok-mark.ensures.marked c.args.origin refl;
  same = c.in_ok-mark.ensures.more.origin;
  within = omega arith;
  graph_same = refl;
}

pub follow-requires-clause-found : goal.follow-requires-clause-found
follow-requires-clause-found c = c.found.invariant.are

pub follow-requires-clause-followed : goal.follow-requires-clause-followed
follow-requires-clause-followed c = c.found.invariant.onward

pub found-smaller : goal.found-smaller
found-smaller c = omega (arith, c.found-test.true, c.len.ensures, c.found.found.nodes.ok.0, c.found.invariant.are.count, c.found.invariant.are.size)

pub found-preserved : goal.found-preserved
found-preserved c = record {
  sound = c.found.invariant.sound;
  are = c.in_ok-follow.ensures.found;
  onward = c.in_ok-follow.ensures.followed;
  begun = c.in_ok-follow.ensures.more.marks c.args.origin c.found.invariant.begun;
  same = c.in_ok-follow.ensures.more.origin ∙ c.found.invariant.same;
  within = omega (arith, c.found-test.true, c.len.ensures, c.found.found.nodes.ok.0, c.in_ok-follow.ensures.more.size);
  graph_same = c.found.invariant.graph_same;
}

pub returns : goal.returns
returns c = all-reached c.args.graph.now c.found.invariant.sound c.args.origin c.found.followed c.found.found c.requires c.found.invariant.are c.found.invariant.onward
    (omega (arith, c.found-test.false, c.len.ensures, c.found.found.nodes.ok.0)) c.found.invariant.same c.found.invariant.begun
