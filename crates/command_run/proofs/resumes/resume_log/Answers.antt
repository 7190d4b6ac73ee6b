use Rattle.std.proofs.Common.{Ok}
use Rattle.command_run.proofs.resumes.resume_log.Goals as goal

pub returns-in-Ok : goal.returns-in-Ok
returns-in-Ok g c = record {
  text = Ok c.in-Ok.text.items;
  asks = c.in-Ok.ensures.asked;
  resumes = c.resume_text.ensures;
}
