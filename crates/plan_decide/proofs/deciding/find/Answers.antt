use Rattle.std.proofs.Common.{◌∙◌, sym, ap, subst}
use Rattle.plan_decide.specs.declared.decided.Exclusions.{Exclusions}
use Rattle.plan_decide.specs.Settings.{case_in}
use Rattle.plan_decide.specs.Excluding.{AreExclusions}
use Rattle.plan_decide.specs.Listed.{exclusions_of}
use Rattle.plan_decide.proofs.Deciders.{never_known}
use Rattle.plan_decide.proofs.deciding.find.Goals as goal

pub returns-in-Never-2-clause-found : goal.returns-in-Never-2-clause-found
returns-in-Never-2-clause-found g c =
    let t = case_in c.args.setting.now in
    let found = c.in-Never-2.found in
    subst (AreExclusions t) (sym (c.never_of.ensures ∙ ap (exclusions_of found) c.is_unfound.ensures)) (never_known t found c.in_ok-acyclic.acyclic (rw c.in-Never-2.is at c.in_ok-found.ensures) c.in_ok-acyclic.ensures.is)

pub returns-in-Never-2-clause-given : goal.returns-in-Never-2-clause-given
returns-in-Never-2-clause-given g c = λ opened. c.in_ok-acyclic.ensures.given (sym c.is_unfound.ensures ∙ sym (ap (λ (e : Exclusions). e.cycles_open) c.never_of.ensures) ∙ opened)
