use Rattle.std.proofs.Common.{arith, refl}
use Rattle.plan_decide.specs.Settings.{case_in}
use Rattle.plan_decide.specs.Cases.{case_jobs}
use Rattle.plan_decide.proofs.Collecting.{many_open}
use Rattle.plan_decide.proofs.pairs.add_pairs.Goals as goal

pub returns-then-doubtful_jobs-gt-PAIRED_JOBS-clause-found : goal.returns-then-doubtful_jobs-gt-PAIRED_JOBS-clause-found
returns-then-doubtful_jobs-gt-PAIRED_JOBS-clause-found g c =
    let t = case_in c.args.setting.now in
    many_open t c.args.standings.now (case_jobs t) c.args.found.now _ c.requires.standings.count (c.doubtful_jobs.ensures.two (omega (arith, c.if-doubtful_jobs-gt-PAIRED_JOBS.true))) refl refl c.requires.found
