use Rattle.cell_drive.proofs.ProtocolParses.{an_answer_text_is_a_log}
use Rattle.drive_laws.proofs.laws.an_answer_text_is_a_log.Goals as goal

pub returns : goal.returns
returns c = an_answer_text_is_a_log
