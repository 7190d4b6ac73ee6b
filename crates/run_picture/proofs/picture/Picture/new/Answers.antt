use Rattle.std.proofs.Common.{Option, subst, refl}
use Rattle.people_names.specs.declared.clock.Clock.{Clock}
use Rattle.run_picture.specs.Axis.{AreTicks}
use Rattle.run_picture.proofs.picture.Picture.new.Goals as goal

pub returns : goal.returns
returns c = record {
  ticks = c.new-ticks.result;
  are_ticks = subst (λ (clock : Option Clock). AreTicks clock c.args.sheet.last c.new-ticks.result) c.clock.ensures c.new-ticks.ensures;
  is = refl;
}
