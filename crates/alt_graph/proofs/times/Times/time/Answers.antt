use Rattle.std.proofs.Common.{◌≡◌, ℕ, List, ◌+◌, ◌<◌, ◌≤◌, length, get_or, arith, sym, ap, subst, ◌∙◌}
use Rattle.std.proofs.lemmas.List.{get_or_read}
use Rattle.alt_graph.specs.Times.{NodeTimes, no_time, time_at, IsTimed}
use Rattle.alt_graph.specs.Layout.{number_of, IsCounted, LeadsBack}
use Rattle.alt_graph.proofs.Layouts.{time_by_job, timed_by_job, timed_counted}
use Rattle.alt_graph.proofs.times.Times.time.Goals as goal

pub returns-in_err-at-clause-known : goal.returns-in_err-at-clause-known
returns-in_err-at-clause-known c = rw c.from_residual.ensures (λ timed.
    let counted = timed_counted c.self.inside.firsts.items c.self.inside.rows.items c.args.node (subst (λ (t : NodeTimes). IsTimed t c.args.node) (sym c.self.view_is) timed) in
    c.in_err-at.ensures (subst (λ (firsts : List ℕ). IsCounted firsts c.args.node) (sym c.deref.ensures.value) counted))

pub returns-clause-known : goal.returns-clause-known
returns-clause-known c =
    let firsts = c.self.inside.firsts.items in
    let rows = c.self.inside.rows.items in
    let counted : IsCounted firsts c.args.node = subst (λ (l : List ℕ). IsCounted l c.args.node) c.deref.ensures.value c.in_ok-at.ensures.0 in
    let at : c.in_ok-at.at ≡ number_of firsts c.args.node = c.in_ok-at.ensures.1 ∙ ap (λ (l : List ℕ). number_of l c.args.node) c.deref.ensures.value in
    let few : get_or firsts (c.args.node.job + 1) 0 ≤ length rows = c.self.invariant.within c.args.node.job counted.job in
    let inside : c.in_ok-at.at < length rows = omega (arith, at, counted.place, few) in (
      subst (λ (t : NodeTimes). IsTimed t c.args.node) c.self.view_is (timed_by_job firsts rows c.args.node counted.job counted.place few),
      get_or_read rows c.in_ok-at.at c.index.result.now inside c.index.ensures no_time ∙ ap (λ (i : ℕ). get_or rows i no_time) at
          ∙ sym (time_by_job firsts rows c.args.node counted.job counted.place) ∙ ap (λ (t : NodeTimes). time_at t c.args.node) c.self.view_is,
    )

pub returns-clause-back : goal.returns-clause-back
returns-clause-back c =
    let known = returns-clause-known c in
    rw known.1 (subst (λ (t : NodeTimes). IsTimed t c.args.node → LeadsBack t c.args.node (time_at t c.args.node).before) c.self.view_is (c.self.invariant.back c.args.node) known.0)
