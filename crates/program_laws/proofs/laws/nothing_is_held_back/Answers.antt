use Rattle.command_run.proofs.Endings.{follows_shown}
use Rattle.program_laws.proofs.laws.nothing_is_held_back.Goals as goal

pub returns : goal.returns
returns g c = λ words before status after kept none run. follows_shown g.T.Texts.gives words before status after kept run.read none run.follows
