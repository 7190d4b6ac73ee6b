use Rattle.std.proofs.Common.{◌≤◌, length}
use Rattle.plan_decide.specs.Settings.{case_in}
use Rattle.plan_decide.specs.Listed.{ArePairedTo}
use Rattle.plan_decide.proofs.pairs.add_pairs_of.Given as goal

-- the pairs with the jobs before this one are listed, and nothing is listed no more
abbrev pub invariant-loop-other : goal.invariant-loop-other
invariant-loop-other g l = ArePairedTo (case_in l.setting) l.standings l.one l.other l.found × (length l.initial.found.listed.items ≤ length l.found.listed.items)
