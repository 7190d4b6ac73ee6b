use Rattle.plan_decide.specs.Settings.{case_in}
use Rattle.plan_decide.specs.Listed.{AreStandings}
use Rattle.plan_decide.proofs.standing.standings.Given as goal

-- of the jobs before this one it is found
abbrev pub invariant-loop-job : goal.invariant-loop-job
invariant-loop-job g l = AreStandings (case_in l.setting) l.job l.found.items
