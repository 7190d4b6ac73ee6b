use Rattle.plan_improve.proofs.Common.{AfterSome, IsLast, setting_of}
use Rattle.plan_improve.proofs.rounds.ask_each.Given as goal

-- the best plan is what those asked so far make of the first
abbrev pub invariant-loop-improver : goal.invariant-loop-improver
invariant-loop-improver g l = IsLast (setting_of l.fixed l.fn.best.rest) (λ p. AfterSome (setting_of l.fixed l.fn.best.rest) (λ b. (goal.Improver-dyn g (b.vtable, b.value)).may b.value) l.improvers l.round p l.improver-index)
    l.fn.best.rest.plan l.fn.best.cost l.best
