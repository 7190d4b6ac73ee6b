use Rattle.std.proofs.Common.{◌+◌, ◌*◌, ℕ, inl, inr, ap, ◌∙◌}
use Rattle.shop_base.specs.Plan.{PlannedShop, clean}
use Rattle.arc_choice.specs.declared.question.Arc.{Arc}
use Rattle.plan_bounds.specs.Bounds.{times_of}
use Rattle.plan_limits.specs.declared.moments.TheConstants.{FINE}
use Rattle.plan_limits.specs.Asked.{IsHolderArc}
use Rattle.plan_limits.proofs.KeptArcs.{fixed_push}
use Rattle.plan_limits.proofs.arcs.add_arcs_behind.Goals as goal
use Rattle.plan_limits.proofs.arcs.add_arcs_behind.Goals.{then-is_entry+in_ok-push, else-is_entry}

pub loop-enters-preserved : goal.loop-enters-preserved
loop-enters-preserved g c =
    let cell = c.args.cell.now in
    let t = times_of cell.plan in
    let nodes = c.args.nodes.now in
    let m = c.in-Some.machine in
    let n = c.args.number in
    let e = c.loop-enters.enters in
    let arc : Arc = record { from = n; to = e; length = c.clean_of.result * FINE + 1 } in
    elim c.if-is_entry.branch [
      | then-is_entry+in_ok-push w ↦ (
          let here : IsHolderArc t cell.cell nodes arc = record {
            machine = m;
            leaves = n;
            enters = e;
            inside = (c.requires.number, c.loop-enters-test.true);
            held = c.in-Some.ensures;
            visit = c.is_entry.ensures.0 w.if-is_entry.true;
            is = ap (λ (d : ℕ). record { from = n; to = e; length = d * FINE + 1 }) (c.clean_of.ensures ∙ ap (λ (p : PlannedShop). clean p m) c.shaped.ensures.plan);
          } in
          rw w.arcs-is (fixed_push t cell.cell nodes c.loop-enters.arcs.items w.push.new.self.items arc w.in_ok-push.ensures.items c.loop-enters.invariant (inr (inl here))))
      | else-is_entry w ↦ rw w.arcs-is c.loop-enters.invariant
    ]
