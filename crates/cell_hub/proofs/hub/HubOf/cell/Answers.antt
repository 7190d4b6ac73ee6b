use Rattle.std.proofs.Common.{ap, refl, ◌∙◌}
use Rattle.cell_hub.specs.Hub.{HubState, cell_at}
use Rattle.cell_hub.proofs.hub.HubOf.cell.Goals as goal

pub returns-clause-cell : goal.returns-clause-cell
returns-clause-cell g c = c.cell_in.ensures c.self.inside.next_serial ∙ ap (λ (h : HubState). cell_at h c.args.ticket) c.self.view_is

pub returns-clause-called : goal.returns-clause-called
returns-clause-called g c = (returns-clause-cell g c, refl)
