use Rattle.plan_improve.proofs.{Common.{ReportedRounds, Watched, judged, whole_plan}, Searched.{never_worse, unwatched, stays_accepted}}
use Rattle.plan_improve.proofs.improving.improve.Goals as goal

pub returns-in-Ok-improve_on : goal.returns-in-Ok-improve_on
returns-in-Ok-improve_on g c =
    let before = g.W.Watch.reported c.args.watch.now in
    let after = g.W.Watch.reported c.improve_on.new.watch in
    let made = ReportedRounds whole_plan (λ b. (goal.Improver-dyn g (b.vtable, b.value)).may b.value) c.args.improvers.now c.args.rounds in
    let start = c.args.start in
    let verdict = c.in-Ok-improve_on.verdict in
    let is = c.in-Ok-improve_on.ensures.searched in
    record {
      same = is.same;
      acyclic = is.no_worse.is.acyclic;
      never_worse = never_worse whole_plan (Watched before after made) start (judged verdict) is;
      found = unwatched whole_plan before after made start (judged verdict) is.found;
      reported = is.found;
      stays_accepted = stays_accepted (Watched before after made) start verdict is c.in-Ok-improve_on.ensures.exact;
      exact = c.in-Ok-improve_on.ensures.exact;
      reason = c.in-Ok-improve_on.ensures.reason;
      few_rounds = c.if-rounds-gt-MAX_ROUNDS.false;
      refused = tt;
      handed_back = tt;
    }
