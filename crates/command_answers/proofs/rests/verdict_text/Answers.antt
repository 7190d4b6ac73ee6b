use Rattle.command_answers.proofs.RestAnswers.{has_ranks}
use Rattle.command_answers.proofs.rests.verdict_text.Goals as goal

pub first_line-requires : goal.first_line-requires
first_line-requires g c = has_ranks c.args.rest.now.plan c.args.rest.now.cell c.args.rest.now.present c.args.verdict.now c.requires.judged

pub returns-in-Verdict : goal.returns-in-Verdict
returns-in-Verdict g c = rw c.in-Verdict.is (c.first_line.ensures c.args.rest.now.cell c.args.rest.now.present c.requires.judged.accepted)

pub returns-in-Reasons : goal.returns-in-Reasons
returns-in-Reasons g c = rw c.in-Reasons.is c.explain.ensures

pub returns-in-Moments : goal.returns-in-Moments
returns-in-Moments g c = rw c.in-Moments.is c.schedule.ensures
