use Rattle.plan_revise.proofs.SentOn.{IsSentUpTo}
use Rattle.plan_revise.proofs.draft.Draft.send_on_all.Given as goal

-- the steps before this one are sent on
abbrev pub invariant-loop-place : goal.invariant-loop-place
invariant-loop-place g l = IsSentUpTo l.run l.job l.initial.self l.way l.place l.self
