use Rattle.std.proofs.Common.{◌≡◌, ◌≤◌, ◌++◌, codes, drop}
use Rattle.clap.specs.Words.{found_of, rows_of}
use Rattle.command_words.specs.Given.{values_of}
use Rattle.command_words.specs.Changes.{named_from, named_in}
use Rattle.command_words.proofs.words.Asking.{texts}
use Rattle.command_words.proofs.words.called.named_in.Given as goal

abbrev pub invariant-loop-word : goal.invariant-loop-word
invariant-loop-word l =
    let downs = values_of (codes "down") (rows_of (found_of l.matches)) in
    record {
      so_far : l.owners.items ++ named_from downs l.added l.stopped l.last (texts (drop l.word-index l.words)) ≡ named_in downs (texts l.words);
      few : l.added ≤ l.word-index;
      few_stopped : l.stopped ≤ l.word-index;
    }
