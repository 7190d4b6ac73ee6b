use Rattle.std.proofs.Common.{◌≡◌, ap}
use Rattle.cell_control.specs.Control.{Control}
use Rattle.cell_control.proofs.Reached.{own_recast, own_fault}
use Rattle.cell_control.proofs.core_controller.Core.rest_at.Goals as goal

pub returns-in-Ok-clause-cell : goal.returns-in-Ok-clause-cell
returns-in-Ok-clause-cell g c =
    let control = c.shaped-shaped.ensures.control in
    let plan : c.self.inside.cell.plan ≡ c.args.self.now.planned = ap (λ (v : Control). v.planned) c.self.view_is in
    let cell : c.self.inside.cell.cell ≡ c.args.self.now.cell = ap (λ (v : Control). v.cell) c.self.view_is in
    let recast = rw (plan, cell, c.shaped-shaped.ensures.plan) at c.in-Ok.ensures.recast in
    own_recast c.args.self.now.planned c.args.self.now.cell c.in-Ok.rest.cell control.ranks.shaped control.reached recast

pub returns-in-Err-take_over-clause-fault : goal.returns-in-Err-take_over-clause-fault
returns-in-Err-take_over-clause-fault g c =
    let control = c.shaped-shaped.ensures.control in
    let plan : c.self.inside.cell.plan ≡ c.args.self.now.planned = ap (λ (v : Control). v.planned) c.self.view_is in
    let cell : c.self.inside.cell.cell ≡ c.args.self.now.cell = ap (λ (v : Control). v.cell) c.self.view_is in
    let next = rw (c.in_default.ensures.present, cell) at c.in_default.ensures.moment in
    let fault = rw (plan, cell, c.shaped-shaped.ensures.plan) at c.in-Err-take_over.ensures.fault in
    own_fault c.args.self.now.planned c.args.self.now.cell c.args.present c.in-Err-take_over.fault control.ranks.shaped control.reached next fault
