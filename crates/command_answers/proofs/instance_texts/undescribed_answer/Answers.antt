use Rattle.std.proofs.Common.{Err, [], ap}
use Rattle.command_answers.proofs.RevisedAnswers.{unwritten}
use Rattle.command_answers.proofs.instance_texts.undescribed_answer.Goals as goal

pub returns-in-Err : goal.returns-in-Err
returns-in-Err c = unwritten c.args.shop.now c.in-Err.fault [] c.from.result c.from.ensures (λ is. (let unread = c.in-Err.ensures.not_read_back (ap Err is) in (unread, unread)))
