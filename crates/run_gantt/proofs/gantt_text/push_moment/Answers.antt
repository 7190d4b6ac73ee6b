use Rattle.std.proofs.Common.{[]}
use Rattle.std.proofs.lemmas.Str.{IsUtf8-from_ascii, IsAscii-append}
use Rattle.std.proofs.lemmas.Str.Ascii.{IsAscii-nil}
use Rattle.people_names.specs.Words.{moment_word}
use Rattle.run_gantt.proofs.MomentWords.{moment_ascii}
use Rattle.run_gantt.proofs.gantt_text.push_moment.Goals as goal

pub unreachable-requires : goal.unreachable-requires
unreachable-requires c =
    let word = moment_word c.args.names.now c.args.moment in
    c.in-Err.ensures.cases.0
    (rw (c.bytes.ensures, c.put_moment.ensures.written, c.empty-word.ensures)
    (IsUtf8-from_ascii _ (IsAscii-append word [] (moment_ascii c.args.names.now.clock c.args.moment) IsAscii-nil)))
