use Rattle.plan_decide.specs.Settings.{case_in}
use Rattle.plan_decide.proofs.halving.halve_once.Goals as goal

pub returns-in-Ok-clause-halfway : goal.returns-in-Ok-clause-halfway
returns-in-Ok-clause-halfway g c = (c.narrowed.ensures (case_in c.args.setting.now) c.args.objective c.requires.halfway c.in-Ok.ensures).0

pub returns-in-Ok-clause-less : goal.returns-in-Ok-clause-less
returns-in-Ok-clause-less g c = (c.narrowed.ensures (case_in c.args.setting.now) c.args.objective c.requires.halfway c.in-Ok.ensures).1
