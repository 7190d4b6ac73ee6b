use Rattle.plan_improve.proofs.Common.{AfterRounds, IsLast, Watched, setting_of}
use Rattle.plan_improve.proofs.rounds.ask_in_rounds.Given as goal

-- the best plan is what the rounds so far make of the first, and what was reported is of these rounds
abbrev pub invariant-loop-round : goal.invariant-loop-round
invariant-loop-round g l = IsLast (setting_of l.fixed l.fn.best.rest) (Watched (g.W.Watch.reported l.fn.watch) (g.W.Watch.reported l.watch)
    (λ reported p. AfterRounds (setting_of l.fixed l.fn.best.rest) (λ b. (goal.Improver-dyn g (b.vtable, b.value)).may b.value) l.improvers p l.round reported)) l.fn.best.rest.plan l.fn.best.cost l.best
