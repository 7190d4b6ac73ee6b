use Rattle.std.proofs.Common.{◌≡◌, ℕ, ◌<◌, Option, Some, arith, sym, ap, ◌∙◌}
use Rattle.shop_base.specs.{declared.job_state.JobState.JobState, Cell.{job_in, made}, Movers.due_of_job}
use Rattle.plan_verifier.specs.{CellBounds.{held_to, cleaned_at}, Held.later_than}
use Rattle.plan_verifier.proofs.Tables.{bound_passed, bound_next, bound_later, bound_in_table}
use Rattle.plan_verifier.proofs.cell_bounds.CellBoundsBounds.bound.Goals as goal

pub returns-then-node-state-clause-recorded : goal.returns-then-node-state-clause-recorded
returns-then-node-state-clause-recorded g c =
    let p = c.args.self.now.cell.now.plan in
    let cell = c.args.self.now.cell.now.cell in
    let t = c.args.self.now.present in
    let v = c.args.node in
    let passed : v.place < made cell v.job = omega (arith, c.if-node-state.true, ap (λ (s : JobState). s.made) c.job_state-state.ensures) in
    ap (λ (s : JobState). Some s.since) c.job_state-state.ensures ∙ sym (bound_in_table p cell t c.shaped-plan.ensures.sound v c.requires ∙ bound_passed p cell t v passed)

pub returns-in_err-cleaned-clause-recorded : goal.returns-in_err-cleaned-clause-recorded
returns-in_err-cleaned-clause-recorded g c =
    let p = c.args.self.now.cell.now.plan in
    let cell = c.args.self.now.cell.now.cell in
    let t = c.args.self.now.present in
    let v = c.args.node in
    let later : made cell v.job < v.place = omega (arith, c.if-state-node.true, ap (λ (s : JobState). s.made) c.job_state-state.ensures) in
    rw c.from_residual.ensures
    (sym (bound_in_table p cell t c.shaped-plan.ensures.sound v c.requires ∙ bound_later p cell t v later ∙ ap (held_to t) (sym c.cleaned_by-cleaned.ensures.due ∙ c.in_err-cleaned.was)))

pub returns-then-state-node-clause-recorded : goal.returns-then-state-node-clause-recorded
returns-then-state-node-clause-recorded g c =
    let p = c.args.self.now.cell.now.plan in
    let cell = c.args.self.now.cell.now.cell in
    let t = c.args.self.now.present in
    let v = c.args.node in
    let later : made cell v.job < v.place = omega (arith, c.if-state-node.true, ap (λ (s : JobState). s.made) c.job_state-state.ensures) in
    ap (λ (n : ℕ). Some n) c.later.ensures
    ∙ sym (bound_in_table p cell t c.shaped-plan.ensures.sound v c.requires ∙ bound_later p cell t v later ∙ ap (held_to t) (sym c.cleaned_by-cleaned.ensures.due ∙ c.in_ok-cleaned.was))

pub returns-clause-recorded : goal.returns-clause-recorded
returns-clause-recorded g c =
    let p = c.args.self.now.cell.now.plan in
    let cell = c.args.self.now.cell.now.cell in
    let t = c.args.self.now.present in
    let v = c.args.node in
    let next : made cell v.job ≡ v.place = omega (arith, c.if-node-state.false, c.if-state-node.false, ap (λ (s : JobState). s.made) c.job_state-state.ensures) in
    let first : c.later_of-moment.result ≡ later_than t (due_of_job p v.job (job_in cell v.job)) = c.later_of-moment.ensures ∙ ap (later_than t) c.job_due.ensures.due in
    let at : c.later_of.result ≡ later_than (later_than t (due_of_job p v.job (job_in cell v.job))) (cleaned_at p cell v) =
    c.later_of.ensures ∙ ap (λ (n : ℕ). later_than n c.cleaned_by-cleaned.result) first ∙ ap (λ (o : Option ℕ). later_than (later_than t (due_of_job p v.job (job_in cell v.job))) o) c.cleaned_by-cleaned.ensures.due in
    ap (λ (n : ℕ). Some n) at ∙ sym (bound_in_table p cell t c.shaped-plan.ensures.sound v c.requires ∙ bound_next p cell t v next)
