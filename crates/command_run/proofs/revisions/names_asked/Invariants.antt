use Rattle.std.proofs.Common.{◌≡◌, ◌++◌, drop, map}
use Rattle.std.specs.Option.{option_copied}
use Rattle.command_run.specs.Revisions.{names_asked}
use Rattle.command_run.proofs.revisions.names_asked.Given as goal

abbrev pub invariant-loop-one : goal.invariant-loop-one
invariant-loop-one l = map option_copied l.called.items ++ names_asked (drop l.one-index l.asked) ≡ names_asked l.asked
