use Rattle.plan_seek.proofs.safe_sequence.safe_sequence.Given as goal

-- the choices that are left
abbrev pub decreases-loop-choices : goal.decreases-loop-choices
decreases-loop-choices l = l.choices
