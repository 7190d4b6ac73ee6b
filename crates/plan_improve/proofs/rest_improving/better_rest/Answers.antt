use Rattle.plan_improve.proofs.{Common.{ReportedRounds, Watched, rest_from}, RestEnded.{acyclic_unless, kept_there, stays_accepted}, Searched.{found_either, never_worse_either, same_numbers, stays_there, unwatched_either}}
use Rattle.plan_improve.proofs.rest_improving.better_rest.Goals as goal

pub returns-in-Ok-better_on : goal.returns-in-Ok-better_on
returns-in-Ok-better_on g c =
    let cell = c.args.rest.cell in
    let s = rest_from cell c.args.rest.present in
    let start = c.args.rest.plan in
    let before = g.W.Watch.reported c.args.watch.now in
    let after = g.W.Watch.reported c.better_on.new.watch in
    let reports = ReportedRounds s (λ b. (goal.Improver-dyn g (b.vtable, b.value)).may b.value) c.args.improvers.now c.args.rounds in
    let made = Watched before after reports in
    let found = c.in-Ok-better_on.found in
    let is = c.in-Ok-better_on.ensures.improved in
    let same = same_numbers s made start found.shaped is.came in
    record {
      same = same;
      kept = kept_there start found.shaped cell same c.in-Ok-better_on.ensures.begins;
      stays = stays_there s made start found.shaped is.came;
      acyclic = acyclic_unless cell c.args.rest.present made start found is;
      never_worse = never_worse_either s made start found.shaped is.came;
      found = unwatched_either s before after reports start found.shaped (found_either s made start found.shaped is.came);
      reported = found_either s made start found.shaped is.came;
      verdict = is.verdict;
      stays_accepted = stays_accepted cell c.args.rest.present made start found is;
      few_rounds = c.if-rounds-gt-MAX_ROUNDS.false;
      refused = tt;
      handed_back = tt;
    }
