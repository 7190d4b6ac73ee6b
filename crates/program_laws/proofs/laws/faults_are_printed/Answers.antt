use Rattle.command_run.proofs.Endings.{follows_ends}
use Rattle.program_laws.proofs.laws.faults_are_printed.Goals as goal

pub returns : goal.returns
returns g c = λ words before status after kept run. follows_ends g.T.Texts.gives words before status after kept run.read run.is run.follows
