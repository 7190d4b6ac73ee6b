use Rattle.std.proofs.Common.{◌≡◌, ◌++◌, List, drop, map}
use Rattle.plan_revise.specs.declared.change.Change.{Change}
use Rattle.command_run.specs.Revisions.{AreChangesOf, values_asked}
use Rattle.command_run.proofs.revisions.add_changes.Given as goal

abbrev pub invariant-loop-one : goal.invariant-loop-one
invariant-loop-one l = record {
  are : (rest : List Change) → AreChangesOf (drop l.one-index l.asked) rest → AreChangesOf l.asked (l.changes.items ++ rest);
  texts : map (λ value. value.now) l.values.items ++ values_asked (drop l.one-index l.asked) ≡ values_asked l.asked;
}
