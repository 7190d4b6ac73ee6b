use Rattle.std.proofs.Common.{arith, refl, subst, vec_len}
use Rattle.plan_decide.specs.Settings.{case_in}
use Rattle.plan_decide.specs.Cases.{case_jobs}
use Rattle.plan_decide.specs.Listed.{ArePairedTo}
use Rattle.plan_decide.proofs.Collecting.{some_listed, exclusions_some}
use Rattle.plan_decide.proofs.promises.ask_all.Goals as goal

pub returns : goal.returns
returns g c =
    let t = case_in c.args.setting.now in
    let listed = c.in_ok-listed.listed in
    let some = some_listed listed.items (vec_len listed) c.is_empty.result (omega (arith, listed.ok.0)) c.is_empty.ensures c.if-is_empty.false in
    let paired = subst (λ ss. ArePairedTo t ss (case_jobs t) 0 c.in_ok-with_pairs.field-0) c.deref-2.ensures.value c.in_ok-with_pairs.ensures.found in
    exclusions_some t c.in_ok-standings.standings.items (case_jobs t) c.in_ok-with_pairs.field-0 refl c.in_ok-standings.ensures paired (omega (arith, some, c.in_ok-with_pairs.ensures.more))
