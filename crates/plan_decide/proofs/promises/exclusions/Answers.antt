use Rattle.std.proofs.Common.{arith, refl, vec_len}
use Rattle.plan_decide.specs.Settings.{case_in}
use Rattle.plan_decide.specs.Cases.{case_jobs}
use Rattle.plan_decide.proofs.Collecting.{some_listed, none_listed, exclusions_some, exclusions_one}
use Rattle.plan_decide.proofs.promises.exclusions.Goals as goal

pub returns-then-not-is_empty : goal.returns-then-not-is_empty
returns-then-not-is_empty g c =
    let t = case_in c.args.setting.now in
    let found = c.in_ok-found.found in
    exclusions_some t c.args.standings.now (case_jobs t) found refl c.requires.standings c.in_ok-found.ensures.found
    (some_listed found.listed.items (vec_len found.listed) c.is_empty.result (omega (arith, found.listed.ok.0)) c.is_empty.ensures c.if-not-is_empty.true)

pub returns-in_ok-list_one-in-Some : goal.returns-in_ok-list_one-in-Some
returns-in_ok-list_one-in-Some g c =
    let t = case_in c.args.setting.now in
    let found = c.in_ok-found.found in
    exclusions_one t c.args.standings.now (case_jobs t) found refl c.requires.standings c.in_ok-found.ensures.found c.in-Some.left c.list_one.new.found
    (none_listed found.listed.items (vec_len found.listed) c.is_empty.result (omega (arith, found.listed.ok.0)) c.is_empty.ensures c.if-not-is_empty.false) c.in_ok-list_one-in-Some.ensures.listed c.list_one.ensures.same (rw c.in-Some.is at c.in_ok-left.ensures.found) (rw c.in-Some.is at c.in_ok-left.ensures.several)
