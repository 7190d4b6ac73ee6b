use Rattle.std.proofs.Common.{ℕ, ◌+◌, ap, sym, ◌∙◌}
use Rattle.run_picture.specs.Steps.{moments_by}
use Rattle.run_picture.proofs.Ticks.{none_before, one_a_step}
use Rattle.run_picture.proofs.axis.tick_count.Goals as goal

pub returns-then-last-first-clause-count : goal.returns-then-last-first-clause-count
returns-then-last-first-clause-count c = λ begin is. none_before begin c.args.step c.args.first is c.args.last c.if-last-first.true

pub returns-clause-count : goal.returns-clause-count
returns-clause-count c =
    λ begin is. one_a_step begin c.args.step c.args.first is c.args.last c.if-last-first.false ∙ ap (λ (n : ℕ). moments_by c.args.first c.args.step (n + 1)) (sym c.from.ensures)
