use Rattle.cellplan_c.proofs.HandingOver.{misshapen, handed_over_status, refused_status}
use Rattle.cellplan_c.proofs.hand_overs.hand_over_plan.Goals as goal

pub returns-in_default-clause-status : goal.returns-in_default-clause-status
returns-in_default-clause-status c = rw c.in_default.is (misshapen _ _ c.in_default.field-0)

pub returns-in-Ok-hand_over-clause-status : goal.returns-in-Ok-hand_over-clause-status
returns-in-Ok-hand_over-clause-status c = rw c.in-Ok.is (handed_over_status _ _ c.in-Ok.shaped _ c.in-Ok-hand_over.ensures.handed_over)

pub returns-in-Err-clause-status : goal.returns-in-Err-clause-status
returns-in-Err-clause-status c = rw (c.in-Ok.is, c.hand_over_status.ensures) (refused_status _ _ c.in-Ok.shaped c.in-Err.fault c.requires c.in-Err.ensures.fault)
