use Rattle.std.proofs.Common.{◌+◌, ◌∙◌, length, arith, ap, le_refl}
use Rattle.shop_base.specs.Plan.{PlannedShop, jobs}
use Rattle.plan_decide.specs.Settings.{case_in}
use Rattle.plan_decide.specs.Cases.{case_jobs}
use Rattle.plan_decide.proofs.Collecting.{row_begins, row_ends, row_without}
use Rattle.plan_decide.proofs.pairs.add_pairs_of.Goals as goal

pub returns-clause-found : goal.returns-clause-found
returns-clause-found g c =
    let t = case_in c.args.setting.now in
    row_ends t c.args.standings.now c.args.one c.loop-other.other (case_jobs t) c.loop-other.found c.requires.standings.count (omega (arith, c.loop-other-test.false, c.job_count-jobs.ensures.count, ap (λ (p : PlannedShop). jobs p) c.cell.ensures.plan)) c.loop-other.invariant.0

pub returns-in_default : goal.returns-in_default
returns-in_default g c = record {
  found = row_without (case_in c.args.setting.now) c.args.standings.now c.args.one c.args.found.now (λ doubt. c.in_default.not-Doubt (c.standing_of.ensures ∙ doubt)) c.requires.found;
  more = le_refl (length c.args.found.now.listed.items);
}

pub loop-other-init : goal.loop-other-init
loop-other-init g c = (row_begins (case_in c.args.setting.now) c.args.standings.now c.args.one (c.args.one + 1) c.args.found.now (le_refl (c.args.one + 1)) c.requires.found, le_refl (length c.args.found.now.listed.items))
