use Rattle.std.proofs.Common.{refl, ◌∙◌, arith}
use Rattle.plan_seek.proofs.Asking.{one_more_round, found_after, all_in_vain}
use Rattle.plan_seek.proofs.rounds.try_rounds.Goals as goal

pub loop-round-init : goal.loop-round-init
loop-round-init g c = (refl, λ r before. absurd (omega arith))

pub returns-in-Accepted : goal.returns-in-Accepted
returns-in-Accepted g c =
    found_after c.args.proposers.now (λ b. (goal.Proposer-dyn g (b.vtable, b.value)).may b.value) c.loop-round.task c.args.task c.in-Accepted.verified.planned
    c.loop-round.round c.args.rounds c.loop-round.invariant.0 (omega arith) c.in-Accepted.ensures c.loop-round.invariant.1

pub returns-in-NoMemory : goal.returns-in-NoMemory
returns-in-NoMemory g c = c.in-NoMemory.ensures ∙ c.loop-round.invariant.0

pub loop-round-preserved : goal.loop-round-preserved
loop-round-preserved g c = (
  c.in-InVain.ensures.0 ∙ c.loop-round.invariant.0,
  one_more_round c.args.proposers.now (λ b. (goal.Proposer-dyn g (b.vtable, b.value)).may b.value) c.loop-round.task c.args.task
      c.loop-round.round c.loop-round.invariant.0 c.in-InVain.ensures.1 c.loop-round.invariant.1,
)

pub returns : goal.returns
returns g c = (
  c.loop-round.invariant.0,
  all_in_vain c.args.proposers.now (λ b. (goal.Proposer-dyn g (b.vtable, b.value)).may b.value) c.args.task c.args.rounds
      (λ r before. c.loop-round.invariant.1 r (omega arith)),
)
