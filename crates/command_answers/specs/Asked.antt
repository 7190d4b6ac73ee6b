-- What `revise` is asked for.
use Rattle.std.specs.Prelude.{ℕ, List, Option, map, option_copied}
use Rattle.plan_revise.specs.declared.change.Change.{Change}
use Rattle.command_answers.specs.declared.revises.Revised.{Revised}
use Rattle.command_answers.specs.declared.revises.Revision.{Revision}

-- what is printed, the file of names, the present moment, if another one than the log's last is given, the changes with the values of their words, and the names of the jobs that they make, where they are given
pub record AskedRevision : Type 0 where
  pub prints : Revised
  pub names : Option (List ℕ)
  pub at : Option ℕ
  pub changes : List Change
  pub values : List (List ℕ)
  pub called : List (Option (List ℕ))

-- what these words ask for
abbrev pub asked : Revision → AskedRevision
asked wanted = record {
  prints = wanted.prints;
  names = option_copied wanted.names;
  at = wanted.at;
  changes = wanted.changes.now;
  values = map (λ value. value.now) wanted.values.now;
  called = map option_copied wanted.called.now;
}
