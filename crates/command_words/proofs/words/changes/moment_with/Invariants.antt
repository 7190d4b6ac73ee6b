use Rattle.std.proofs.Common.{◌≡◌, drop}
use Rattle.clap.specs.Words.{found_of, rows_of}
use Rattle.command_words.specs.Given.{values_of}
use Rattle.command_words.specs.Changes.{moment_from}
use Rattle.command_words.proofs.words.changes.moment_with.Given as goal

abbrev pub invariant-loop-place : goal.invariant-loop-place
invariant-loop-place l =
    let from = moment_from (values_of l.name (rows_of (found_of l.matches))) l.number in from 0 l.owners ≡ from l.place (drop l.place l.owners)
