use Rattle.plan_decide.specs.Settings.{case_in}
use Rattle.plan_decide.proofs.Collecting.{alone_begin}
use Rattle.plan_decide.proofs.alone.all_alone.Goals as goal

pub loop-job-init : goal.loop-job-init
loop-job-init g c = alone_begin (case_in c.args.setting.now) c.args.standings.now c.new-listed.result.items c.new-listed.ensures.items
