use Rattle.std.proofs.Common.{rules}
use Rattle.cellplan_c.proofs.Judging.{explanation_bound}
use Rattle.cellplan_c.proofs.Answering.{found_and_put}
use Rattle.cellplan_c.proofs.answers.cellplan_explain.Goals as goal

pub returns : goal.returns
returns c = found_and_put _ _ _ _ explanation_bound _ _ _ _ _ _ (search rules depth 2)
    c.or_fault_line.ensures.answer c.or_fault_line.ensures.line c.or_fault_line.ensures.unsaid c.put_answer.ensures.fault c.put_answer.ensures.put
