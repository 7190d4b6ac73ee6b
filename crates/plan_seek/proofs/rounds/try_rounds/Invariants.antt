use Rattle.std.proofs.Common.{◌≡◌, ℕ, ◌<◌, length}
use Rattle.plan_seek.specs.Turns.{search_by, EachInRound}
use Rattle.plan_seek.proofs.rounds.try_rounds.Given as goal

-- the task is the same, and in each round so far each proposer may make a proposal that isn't accepted
abbrev pub invariant-loop-round : goal.invariant-loop-round
invariant-loop-round g l =
    (l.task ≡ l.fn.task)
    × ((r : ℕ) → r < l.round → EachInRound (search_by (λ b. (goal.Proposer-dyn g (b.vtable, b.value)).may b.value) l.proposers l.fn.task) r (length l.proposers))
