use Rattle.std.proofs.Common.{◌≡◌, List, [], sym, subst, rules}
use Rattle.run_gantt.specs.declared.visits.LinkedVisit.{LinkedVisit}
use Rattle.run_gantt.specs.Visits.{machine_visits}
use Rattle.run_gantt.specs.LinkedVisits.{rows_of}
use Rattle.run_gantt.proofs.Linked.{none-rows}
use Rattle.run_gantt.proofs.visits.Visits.none.Goals as goal

pub returns : goal.returns
returns c =
    subst (λ (table : List LinkedVisit). rows_of table c.in_ok-first.first.items ≡ machine_visits c.args.machines []) (sym c.new.ensures.items)
    (none-rows c.args.machines c.in_ok-first.first.items (c.in_ok-first.ensures.items_if_clones_equal (search rules)))
