use Rattle.drive_laws.proofs.ShortAnswers.{answers_are_short}
use Rattle.drive_laws.proofs.laws.an_answer_is_short.Goals as goal

pub returns : goal.returns
returns c = answers_are_short
