use Rattle.std.proofs.Common.{◌≡◌, ℕ, ap, length, ◌∙◌, arith}
use Rattle.std.proofs.lemmas.Bool.{leb-true, leb-false}
use Rattle.run_picture.specs.Axis.{ticks_by}
use Rattle.run_picture.specs.Steps.{moments_by, IsFirstTick}
use Rattle.run_picture.proofs.Ticks.{length-moments_by}
use Rattle.run_picture.proofs.axis.has_few.Goals as goal

counted : (begin first last step count : ℕ) → ((b : ℕ) → IsFirstTick b step first → ticks_by b last step ≡ moments_by first step count) → IsFirstTick begin step first
    → length (ticks_by begin last step) ≡ count
counted begin first last step count are is = ap length (are begin is) ∙ length-moments_by first step count

pub returns-clause-few : goal.returns-clause-few
returns-clause-few c =
    λ few. omega (arith, counted _ _ _ _ _ c.tick_count.ensures.count c.first_tick.ensures, leb-true c.tick_count.result 10 few)

pub returns-clause-many : goal.returns-clause-many
returns-clause-many c =
    λ many. omega (arith, counted _ _ _ _ _ c.tick_count.ensures.count c.first_tick.ensures, leb-false c.tick_count.result 10 many)
