use Rattle.std.proofs.Common.{◌≡◌, drop}
use Rattle.std.specs.List.{list_any}
use Rattle.command_words.specs.Changes.{is_timed}
use Rattle.command_words.proofs.words.Asking.{texts}
use Rattle.command_words.proofs.words.printed.is_any_timed.Given as goal

abbrev pub invariant-loop-word : goal.invariant-loop-word
invariant-loop-word l = list_any is_timed (texts l.words) ≡ list_any is_timed (texts (drop l.word-index l.words))
