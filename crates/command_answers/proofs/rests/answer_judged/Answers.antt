use Rattle.command_answers.proofs.rests.answer_judged.Goals as goal

pub returns : goal.returns
returns g c = record { text = c.in_ok-text.ensures; status = c.rest_status-status.ensures }
