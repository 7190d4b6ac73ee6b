use Rattle.std.proofs.Common.{◌≡◌, drop}
use Rattle.clap.specs.Words.{found_of, rows_of}
use Rattle.command_words.specs.Given.{values_of}
use Rattle.command_words.specs.Changes.{rises, rises_from}
use Rattle.command_words.proofs.words.changes.rises.Given as goal

abbrev pub invariant-loop-place : goal.invariant-loop-place
invariant-loop-place l =
    let values = values_of l.name (rows_of (found_of l.matches)) in rises values l.owners ≡ rises_from values l.place l.last (drop l.place l.owners)
