use Rattle.cell_control.proofs.core_controller.Core.is_late.Goals as goal

pub returns : goal.returns
returns g c = rw (← c.self.view_is) c.is_past_due.ensures
