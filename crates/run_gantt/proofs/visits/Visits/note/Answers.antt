use Rattle.std.proofs.Common.{◌<◌, ◌≤◌, List, [], ◌∷◌, length, get_or, set, sym, ap, ◌∙◌, arith}
use Rattle.run_gantt.specs.declared.visits.LoggedVisit.{LoggedVisit}
use Rattle.run_gantt.specs.declared.visit_ends.VisitEnd.{VisitEnd}
use Rattle.run_gantt.specs.Visits.{logged_visit_of}
use Rattle.run_gantt.proofs.MachineVisits.{machine_visits-count, machine_visits-passed, machine_visits-noted}
use Rattle.run_gantt.proofs.visits.Visits.note.Goals as goal

pub returns-then-machine-machine_count : goal.returns-then-machine-machine_count
returns-then-machine-machine_count c = λ n is.
    let later = c.args.later.now in
    let past : n ≤ c.in-At.machine = omega (arith, c.machine_count.ensures, ap length is, machine_visits-count n later) in
    rw c.in-Order.is (is ∙ sym (machine_visits-passed n c.in-Order.order later c.in-At.machine c.in-At.is past))

pub returns : goal.returns
returns c = λ n is.
    let later = c.args.later.now in
    let rows = c.args.self.now in
    let order = c.in-Order.order in
    let machine = c.in-At.machine in
    let inside : machine < n = omega (arith, c.machine_count.ensures, ap length is, machine_visits-count n later) in
    let visit : VisitEnd → LoggedVisit = λ end. record { job = order.job; enter = order.at; finish = end.finish; leave = end.leave } in
    rw c.in-Order.is (
    c.in_ok-put_first.ensures
    ∙ ap (λ (end : VisitEnd). set rows machine (visit end ∷ get_or rows machine [])) c.visit_end_at-end.ensures
    ∙ ap (λ (l : List (List LoggedVisit)). set l machine (logged_visit_of order machine later ∷ get_or l machine [])) is
    ∙ sym (machine_visits-noted n order later machine c.in-At.is inside))
