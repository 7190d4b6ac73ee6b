use Rattle.std.proofs.Common.{ap, length, sym, ◌∙◌}
use Rattle.run_picture.proofs.Ticks.{length-moments_by}
use Rattle.run_picture.proofs.axis.Ticks.count.Goals as goal

pub returns : goal.returns
returns c = sym (length-moments_by c.self.inside.first c.self.inside.step c.self.inside.count) ∙ ap length c.self.view_is
