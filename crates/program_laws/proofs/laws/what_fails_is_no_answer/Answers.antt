use Rattle.command_run.proofs.Endings.{follows_no_more}
use Rattle.program_laws.proofs.laws.what_fails_is_no_answer.Goals as goal

pub returns : goal.returns
returns g c = λ words before status after kept high run. follows_no_more g.T.Texts.gives words before status after kept run.read run.is high run.follows
