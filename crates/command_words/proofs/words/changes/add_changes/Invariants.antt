use Rattle.std.proofs.Common.{◌≡◌, ◌++◌, ◌+◌, drop, map}
use Rattle.std.specs.List.{list_all}
use Rattle.clap.specs.Words.{found_of, rows_of}
use Rattle.command_words.specs.Changes.{asked_from, change_seen, is_such}
use Rattle.command_words.proofs.words.Asking.{texts}
use Rattle.command_words.proofs.words.changes.add_changes.Given as goal

abbrev pub invariant-loop-place : goal.invariant-loop-place
invariant-loop-place l =
    let asked = asked_from l.released l.promised l.called (rows_of (found_of l.matches)) l.form in
    record {
      so_far : map change_seen l.changes.items ++ asked (l.place + 1) (texts (drop l.place l.given)) ≡ map change_seen l.initial.changes.items ++ asked 1 (texts l.given);
      such : list_all (is_such l.form) (texts l.given) ≡ list_all (is_such l.form) (texts (drop l.place l.given));
    }
