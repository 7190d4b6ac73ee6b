use Rattle.std.proofs.Common.{arith}
use Rattle.shop_base.specs.Cell.{Cell}
use Rattle.shop_base.specs.Run.{ends_in}
use Rattle.shop_base.specs.Report.{at, after_report}
use Rattle.shop_base.specs.Sound.{IsSound}
use Rattle.shop_base.proofs.Keeping.{run-sound, after_report-sound}
use Rattle.shop_base.proofs.MovesOnce.{moves_once}
use Rattle.shop_base.proofs.ReadyCount.{after_moves-ready_count}
use Rattle.shop_base.proofs.CellFacts.{ready_count-le}
use Rattle.shop_base.proofs.laws.no_job_moves_twice.Goals as goal

pub returns : goal.returns
returns c = λ p es r js shaped run step.
    let before : Cell = ends_in p es in
    let sound : IsSound p (after_report before r) = after_report-sound p before r shaped (run-sound p es shaped run) step.can in (
      moves_once p (after_report before r) (at r) js shaped sound step.moves,
      omega (arith, after_moves-ready_count p (after_report before r) (at r) js shaped sound step.moves, ready_count-le p (after_report before r)),
    )
