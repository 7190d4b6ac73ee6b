use Rattle.std.proofs.Common.{◌≡◌, codes, drop}
use Rattle.clap.specs.Words.{found_of, rows_of}
use Rattle.command_words.specs.Given.{values_of}
use Rattle.command_words.specs.Changes.{name_from}
use Rattle.command_words.proofs.words.called.name_with.Given as goal

abbrev pub invariant-loop-place : goal.invariant-loop-place
invariant-loop-place l =
    let from = name_from (values_of (codes "name") (rows_of (found_of l.matches))) l.wanted in from 0 l.owners ≡ from l.place (drop l.place l.owners)
