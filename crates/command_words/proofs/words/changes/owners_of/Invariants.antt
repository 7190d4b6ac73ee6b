use Rattle.std.proofs.Common.{◌≡◌, ◌≤◌, ◌++◌, drop}
use Rattle.command_words.specs.Changes.{owners_from, owners_in}
use Rattle.command_words.proofs.words.Asking.{texts}
use Rattle.command_words.proofs.words.changes.owners_of.Given as goal

abbrev pub invariant-loop-word : goal.invariant-loop-word
invariant-loop-word l = record {
  so_far : l.owners.items ++ owners_from l.flag l.added (texts (drop l.word-index l.words)) ≡ owners_in l.flag (texts l.words);
  few : l.added ≤ l.word-index;
}
