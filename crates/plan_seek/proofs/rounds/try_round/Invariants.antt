use Rattle.std.proofs.Common.{◌≡◌}
use Rattle.plan_seek.specs.Turns.{search_by, EachInRound}
use Rattle.plan_seek.proofs.rounds.try_round.Given as goal

-- the task is the same, and each proposer asked so far may make a proposal that isn't accepted
abbrev pub invariant-loop-proposer : goal.invariant-loop-proposer
invariant-loop-proposer g l =
    (l.task ≡ l.fn.task)
    × EachInRound (search_by (λ b. (goal.Proposer-dyn g (b.vtable, b.value)).may b.value) l.proposers l.fn.task) l.round l.proposer-index
