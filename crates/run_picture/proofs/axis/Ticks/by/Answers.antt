use Rattle.std.proofs.Common.{◌≡◌, ap, length, ◌∙◌, arith}
use Rattle.run_picture.specs.Axis.{ticks_by}
use Rattle.run_picture.proofs.Ticks.{length-moments_by}
use Rattle.run_picture.proofs.axis.Ticks.by.Goals as goal

pub overflow_cast-count : goal.overflow_cast-count
overflow_cast-count c =
    let count : length (ticks_by c.args.begin c.args.last c.args.step) ≡ c.tick_count-count.result =
    ap length (c.tick_count-count.ensures.count c.args.begin c.first_tick-first.ensures) ∙ length-moments_by _ _ _ in
    omega (arith, count, c.requires.few)
