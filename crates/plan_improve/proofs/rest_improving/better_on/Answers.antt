use Rattle.plan_improve.proofs.{Common.{ReportedRounds, Watched, rest_from}, Once.run_fixed, RestEnded.{improved_answer, begins_answer}, Searched.back_same}
use Rattle.plan_improve.proofs.rest_improving.better_on.Goals as goal

pub search-requires-clause-fixed : goal.search-requires-clause-fixed
search-requires-clause-fixed g c = run_fixed c.args.rest _ c.in-Ok.ensures

pub returns : goal.returns
returns g c =
    let cell = c.args.rest.cell in
    let present = c.args.rest.present in
    let start = c.args.rest.plan in
    let made = Watched (g.W.Watch.reported c.args.watch.now) (g.W.Watch.reported c.search.new.watch)
    (ReportedRounds (rest_from cell present) (λ b. (goal.Improver-dyn g (b.vtable, b.value)).may b.value) c.args.improvers.now c.args.rounds) in
    let comes = c.in_ok-best.ensures.comes in
    record {
      improved = improved_answer cell present made start c.in_ok-best.best c.judged.result comes c.judged.ensures.plan c.judged.ensures.verdict;
      begins = begins_answer cell present made start c.in_ok-best.best c.judged.result comes c.judged.ensures.plan;
      handed_back = back_same (rest_from cell present) made start c.in_ok-best.best.plan c.judged.result comes.0 c.judged.ensures.handed_back;
    }
