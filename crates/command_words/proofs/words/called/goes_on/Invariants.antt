use Rattle.std.proofs.Common.{◌≡◌, drop}
use Rattle.command_words.specs.Changes.{goes_on}
use Rattle.command_words.proofs.words.called.goes_on.Given as goal

abbrev pub invariant-loop-owner : goal.invariant-loop-owner
invariant-loop-owner l = goes_on l.fn.first l.owners ≡ goes_on l.last (drop l.owner-index l.owners)
