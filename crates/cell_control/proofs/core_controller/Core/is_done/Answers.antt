use Rattle.std.proofs.Common.{◌↔◌, nat_eq, subst}
use Rattle.std.specs.Prelude.{IsTrue}
use Rattle.shop_base.specs.Ends.{HasEnded}
use Rattle.cell_control.specs.Control.{Control}
use Rattle.cell_control.proofs.Reading.{done_is}
use Rattle.cell_control.proofs.core_controller.Core.is_done.Goals as goal

pub returns : goal.returns
returns g c =
    let control = c.self.invariant.control in
    subst (λ (v : Control). IsTrue (nat_eq c.self.inside.left 0) ↔ HasEnded v.planned v.cell) c.self.view_is
    (done_is _ _ c.self.inside.left control.ranks.shaped control.sound control.at_rest control.counted)
