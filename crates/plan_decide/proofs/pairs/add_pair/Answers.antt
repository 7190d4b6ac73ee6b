use Rattle.std.proofs.Common.{◌+◌, ◌∙◌, inr, length, arith, le_refl, refl, sym}
use Rattle.std.proofs.lemmas.Result.{on_ok_weaker}
use Rattle.plan_decide.specs.Settings.{case_in}
use Rattle.plan_decide.specs.Cases.{case_jobs}
use Rattle.plan_decide.proofs.Collecting.{doubt_is, pair_exclusion, pair_more, pair_open, pair_passed, this_left}
use Rattle.plan_decide.proofs.pairs.add_pair.Goals as goal

pub returns-in_ok-or_fewer-in-Never-clause-found : goal.returns-in_ok-or_fewer-in-Never-clause-found
returns-in_ok-or_fewer-in-Never-clause-found g c =
    let t = case_in c.args.setting.now in
    let ss = c.args.standings.now in
    let other_doubt = sym c.standing_of.ensures ∙ c.in-Doubt.is in
    let one_is = doubt_is t (case_jobs t) ss c.requires.standings c.args.one c.requires.doubt in
    let other_is = doubt_is t (case_jobs t) ss c.requires.standings c.args.other other_doubt in
    let exclusion = pair_exclusion t c.args.one c.args.other c.in_ok-or_fewer-in-Never.or_fewer c.requires.ascending one_is other_is (rw c.in-Never.is at c.in_ok-ask_both.ensures) c.in_ok-or_fewer-in-Never.ensures in
    on_ok_weaker c.list_one.result (λ is. pair_more t ss c.args.one c.args.other c.in_ok-or_fewer-in-Never.or_fewer c.args.found.now c.list_one.new.found is c.list_one.ensures.same exclusion c.requires.doubt other_doubt c.requires.found) c.list_one.ensures.listed

pub returns-in_default : goal.returns-in_default
returns-in_default g c =
    let t = case_in c.args.setting.now in
    record {
      found = pair_passed t c.args.standings.now c.args.one c.args.other c.args.found.now (λ doubt. absurd (c.in_default.not-Doubt (c.standing_of.ensures ∙ doubt))) c.requires.found;
      more = le_refl (length c.args.found.now.listed.items);
    }

pub returns-in-Kept-clause-found : goal.returns-in-Kept-clause-found
returns-in-Kept-clause-found g c =
    pair_passed (case_in c.args.setting.now) c.args.standings.now c.args.one c.args.other c.args.found.now (λ doubt. inr (rw c.in-Kept.is at c.in_ok-ask_both.ensures)) c.requires.found

pub returns-in-Open-clause-found : goal.returns-in-Open-clause-found
returns-in-Open-clause-found g c =
    let t = case_in c.args.setting.now in
    let ss = c.args.standings.now in
    let other_doubt = sym c.standing_of.ensures ∙ c.in-Doubt.is in
    pair_open t ss c.args.one c.args.other c.args.one (c.args.other + 1) c.args.found.now _ (inr (refl, omega arith)) refl refl
    (this_left t ss c.args.one c.args.other c.args.found.now c.requires.ascending c.requires.doubt other_doubt c.requires.found) c.requires.found
