use Rattle.std.proofs.Common.{inl, inr}
use Rattle.plan_improve.proofs.{Common.{ReportedRounds, Watched, setting_of}, Once.fixed_on, Searched.{begin_same, searched}, Standing.{stands_own, costs_own, rounds_back}}
use Rattle.plan_improve.proofs.searching.search.Goals as goal

pub ask_in_rounds-requires-clause-stands : goal.ask_in_rounds-requires-clause-stands
ask_in_rounds-requires-clause-stands g c =
    let first = rw c.in-Begins.is at c.in_ok-best.ensures.first in
    stands_own c.args.fixed.now c.args.start c.in-Begins.best.rest first.1

pub ask_in_rounds-requires-clause-cost : goal.ask_in_rounds-requires-clause-cost
ask_in_rounds-requires-clause-cost g c =
    let first = rw c.in-Begins.is at c.in_ok-best.ensures.first in
    costs_own c.args.fixed.now c.args.start c.in-Begins.best.rest first.1 c.in-Begins.best.rest.plan c.in-Begins.best.cost first.2

pub ask_in_rounds-requires-clause-fixed : goal.ask_in_rounds-requires-clause-fixed
ask_in_rounds-requires-clause-fixed g c =
    let first = rw c.in-Begins.is at c.in_ok-best.ensures.first in
    fixed_on c.args.fixed.now c.args.start c.in-Begins.best.rest c.requires.fixed first.1 (begin_same (setting_of c.args.fixed.now c.args.start) c.args.start.plan c.in-Begins.best.rest.plan first.0)

pub returns-in_ok-best-in-Begins-clause-comes : goal.returns-in_ok-best-in-Begins-clause-comes
returns-in_ok-best-in-Begins-clause-comes g c =
    let first = rw c.in-Begins.is at c.in_ok-best.ensures.first in
    let before = g.W.Watch.reported c.args.watch.now in
    let after = g.W.Watch.reported c.ask_in_rounds.new.watch in
    let last = rounds_back c.args.fixed.now c.args.start c.in-Begins.best.rest first.1 (λ b. (goal.Improver-dyn g (b.vtable, b.value)).may b.value) c.args.improvers.now before after c.args.rounds
    c.in-Begins.best.rest.plan c.in-Begins.best.cost c.in_ok-best-in-Begins.best c.in_ok-best-in-Begins.ensures.last in (
      inr (searched (setting_of c.args.fixed.now c.args.start) (Watched before after (ReportedRounds (setting_of c.args.fixed.now c.args.start) (λ b. (goal.Improver-dyn g (b.vtable, b.value)).may b.value) c.args.improvers.now c.args.rounds))
          c.args.start.plan c.in-Begins.best.rest.plan c.in-Begins.best.cost c.in_ok-best-in-Begins.best first.0 first.2 last),
      last.stands,
    )

pub returns-in-Stays-clause-comes : goal.returns-in-Stays-clause-comes
returns-in-Stays-clause-comes g c =
    let first = rw c.in-Stays.is at c.in_ok-best.ensures.first in
    (inl (first.2, first.0), first.1)
