use Rattle.std.proofs.Common.{Ok}
use Rattle.text_lines.specs.Lines.{ended_lines}
use Rattle.command_run.proofs.KnownLogs.{has_answer}
use Rattle.command_run.proofs.resumes.resume_text.Goals as goal

pub returns-in-Ok : goal.returns-in-Ok
returns-in-Ok g c = (
  Ok c.in-Ok.recovered,
  c.in-Ok.ensures,
  rw (← c.streams.view_is) (record {
    end = c.resume_in-end.result;
    is = c.resume_in-end.ensures.resumed;
    answer = c.rest_answer.ensures;
  }),
)

pub unrecovered_answer-requires : goal.unrecovered_answer-requires
unrecovered_answer-requires g c = has_answer c.args.shaped (ended_lines c.args.text.items) c.args.at c.in-Err.fault c.requires c.in-Err.ensures.fault
