use Rattle.std.proofs.Common.{sym, ◌∙◌}
use Rattle.std.proofs.lemmas.Bool.{not-false}
use Rattle.run_log.proofs.PossibleEntries.{open_there}
use Rattle.run_log.proofs.entry_check.check_target.Goals as goal

pub returns-clause-open : goal.returns-clause-open
returns-clause-open g c =
    open_there c.args.cell.now.plan c.args.cell.now.cell c.args.order.target c.in-At.machine c.args.order.job c.holder.result c.cleaned_since.result c.next_on.result
    c.shaped-plan.ensures.sound c.in-At.is c.holder.ensures (sym c.is_some.ensures ∙ c.if-is_some.false)
    c.cleaned_since.ensures.since (sym c.is_some-2.ensures ∙ c.if-is_some-2.false) c.next_on.ensures (not-false _ (sym c.ne.ensures ∙ c.if-ne.false))
