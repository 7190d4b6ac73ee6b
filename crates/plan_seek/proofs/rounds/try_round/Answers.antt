use Rattle.std.proofs.Common.{refl, ◌∙◌, arith}
use Rattle.plan_seek.proofs.Asking.{one_more_fails, found_in_round}
use Rattle.plan_seek.proofs.rounds.try_round.Goals as goal

pub loop-proposer-init : goal.loop-proposer-init
loop-proposer-init g c = (refl, λ k before. absurd (omega arith))

pub returns-in-Accepted : goal.returns-in-Accepted
returns-in-Accepted g c =
    found_in_round c.args.proposers.now (λ b. (goal.Proposer-dyn g (b.vtable, b.value)).may b.value) c.loop-proposer.task c.args.task c.in-Accepted.verified.planned
    c.proposer-item.result c.args.round c.loop-proposer.proposer-index c.loop-proposer.invariant.0 (omega arith) c.proposer-item.is c.in-Accepted.ensures c.loop-proposer.invariant.1

pub returns-in-NoMemory : goal.returns-in-NoMemory
returns-in-NoMemory g c = c.in-NoMemory.ensures ∙ c.loop-proposer.invariant.0

pub loop-proposer-preserved : goal.loop-proposer-preserved
loop-proposer-preserved g c = (
  c.in-InVain.ensures.0 ∙ c.loop-proposer.invariant.0,
  one_more_fails c.args.proposers.now (λ b. (goal.Proposer-dyn g (b.vtable, b.value)).may b.value) c.loop-proposer.task c.args.task
      c.proposer-item.result c.args.round c.loop-proposer.proposer-index c.loop-proposer.invariant.0 (omega arith) c.proposer-item.is c.in-InVain.ensures.1 c.loop-proposer.invariant.1,
)

pub returns : goal.returns
returns g c = (c.loop-proposer.invariant.0, λ k before. c.loop-proposer.invariant.1 k (omega arith))
