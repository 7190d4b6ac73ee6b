use Rattle.std.proofs.Common.{◌≤◌, length}
use Rattle.plan_decide.specs.Settings.{case_in}
use Rattle.plan_decide.specs.Listed.{ArePairedTo}
use Rattle.plan_decide.proofs.pairs.add_pairs.Given as goal

-- the pairs of the jobs before this one are listed, and nothing is listed no more
abbrev pub invariant-loop-one : goal.invariant-loop-one
invariant-loop-one g l = ArePairedTo (case_in l.setting) l.standings l.one 0 l.found × (length l.initial.found.listed.items ≤ length l.found.listed.items)
