use Rattle.plan_revise.specs.Stages.{IsStage}
use Rattle.plan_revise.proofs.draft.Draft.do_without.Given as goal

-- the jobs before this one do without the machine
abbrev pub invariant-loop-job : goal.invariant-loop-job
invariant-loop-job g l = IsStage l.run l.initial.self l.machine l.job l.self
