use Rattle.std.proofs.Common.{◌≡◌, ◌↔◌, IfOk, sym, subst}
use Rattle.plan_improve.proofs.Common.{Comes, IsAcceptable, IsSearched, PlannedShop, ReportedRounds, SaysAccepted, Watched, evident, judged, judged_same, ok_both, ok_each, whole_plan}
use Rattle.plan_improve.proofs.{Once.nothing_fixed, Searched.{came_on, back_same}}
use Rattle.plan_improve.proofs.improving.improve_on.Goals as goal

pub search-requires-clause-fixed : goal.search-requires-clause-fixed
search-requires-clause-fixed g c =
    rw c.in_ok-rest.ensures.start (nothing_fixed _ c.least_makespan-at_least.result.at_least (c.least_makespan-at_least.result.by, c.least_makespan-at_least.ensures))

pub returns : goal.returns
returns g c =
    let made = Watched (g.W.Watch.reported c.args.watch.now) (g.W.Watch.reported c.search.new.watch)
    (ReportedRounds whole_plan (λ b. (goal.Improver-dyn g (b.vtable, b.value)).may b.value) c.args.improvers.now c.args.rounds) in
    let p = c.plan_of.result in
    let comes : Comes whole_plan made c.args.start p = rw c.plan_of.ensures (rw c.in_ok-rest.ensures.start at c.in_ok-best.ensures.comes.0) in
    let verdict = c.verify.result in
    let same : IfOk verdict (λ found. judged found ≡ p) = ok_both verdict (λ found is refused. judged_same p found is refused) c.verify.ensures.accepted c.verify.ensures.refused in
    record {
      searched = ok_each verdict (λ found is. subst (IsSearched whole_plan made c.args.start) (sym is) (came_on made c.args.start p comes)) same;
      exact = ok_both verdict (λ found is exact. subst (λ (x : PlannedShop). SaysAccepted found ↔ IsAcceptable x) (sym is) exact) same c.verify.ensures.exact;
      reason = ok_each verdict (λ found refused. evident p found refused) c.verify.ensures.refused;
      handed_back = back_same whole_plan made c.args.start p verdict comes c.verify.ensures.handed_back;
    }
