use Rattle.cell_drive.proofs.CellTexts.{broke_first}
use Rattle.cell_drive.proofs.replay.put_replay.Goals as goal

pub returns-in_err-put_event-in-Report-clause-wrote : goal.returns-in_err-put_event-in-Report-clause-wrote
returns-in_err-put_event-in-Report-clause-wrote g c =
    rw c.in-Report.is (broke_first _ _ _ _ _ _ _ c.from_residual.ensures.1 c.in_err-put_event-in-Report.ensures.wrote)
