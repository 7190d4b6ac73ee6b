use Rattle.std.proofs.Common.{arith, inl}
use Rattle.plan_improve.proofs.{Once.fixed_on, Keeping.{one_more_round, no_rounds, bound_met, rounds_end}, Standing.{stands_own, costs_own, round_back}}
use Rattle.plan_improve.proofs.rounds.ask_in_rounds.Goals as goal

pub loop-round-init : goal.loop-round-init
loop-round-init g c = no_rounds c.args.fixed.now c.args.best.rest (λ b. (goal.Improver-dyn g (b.vtable, b.value)).may b.value) c.args.improvers.now (g.W.Watch.reported c.args.watch.now) c.args.best c.requires.stands c.requires.cost

pub ask_each-requires-clause-stands : goal.ask_each-requires-clause-stands
ask_each-requires-clause-stands g c = stands_own c.args.fixed.now c.args.best.rest c.loop-round.best.rest c.loop-round.invariant.stands

pub ask_each-requires-clause-cost : goal.ask_each-requires-clause-cost
ask_each-requires-clause-cost g c =
    costs_own c.args.fixed.now c.args.best.rest c.loop-round.best.rest c.loop-round.invariant.stands c.loop-round.best.rest.plan c.loop-round.best.cost c.loop-round.invariant.is

pub ask_each-requires-clause-fixed : goal.ask_each-requires-clause-fixed
ask_each-requires-clause-fixed g c = fixed_on c.args.fixed.now c.args.best.rest c.loop-round.best.rest c.requires.fixed c.loop-round.invariant.stands c.loop-round.invariant.same

pub loop-round-preserved : goal.loop-round-preserved
loop-round-preserved g c = one_more_round c.args.fixed.now c.args.best.rest (λ b. (goal.Improver-dyn g (b.vtable, b.value)).may b.value) c.args.improvers.now (g.W.Watch.reported c.args.watch.now)
    (g.W.Watch.reported c.loop-round.watch) (g.W.Watch.reported c.round.new.self) c.loop-round.round c.args.best.cost c.loop-round.best c.in_ok-best.best
    c.requires.fixed (rw c.at_least-at_least.ensures at c.if-meets.ensures) c.loop-round.invariant
    (rw c.at_least-at_least.ensures at (rw c.bound_or_zero.ensures at c.round.ensures.reported))
    (round_back c.args.fixed.now c.args.best.rest c.loop-round.best.rest c.loop-round.invariant.stands (λ b. (goal.Improver-dyn g (b.vtable, b.value)).may b.value) c.args.improvers.now c.loop-round.round
    c.loop-round.best.rest.plan c.loop-round.best.cost c.in_ok-best.best c.in_ok-best.ensures.last)

pub returns-then-meets-clause-last : goal.returns-then-meets-clause-last
returns-then-meets-clause-last g c = bound_met c.args.fixed.now c.args.best.rest (λ b. (goal.Improver-dyn g (b.vtable, b.value)).may b.value) c.args.improvers.now (g.W.Watch.reported c.args.watch.now)
    (g.W.Watch.reported c.loop-round.watch) c.loop-round.round c.args.rounds c.args.best.cost c.loop-round.best
    c.loop-round.invariant (omega (arith, c.loop-round-test.true, c.loop-round.auto.round-end)) c.requires.fixed (rw c.at_least-at_least.ensures at c.if-meets.ensures)

pub returns-clause-last : goal.returns-clause-last
returns-clause-last g c = rounds_end c.args.fixed.now c.args.best.rest (λ b. (goal.Improver-dyn g (b.vtable, b.value)).may b.value) c.args.improvers.now (g.W.Watch.reported c.args.watch.now)
    (g.W.Watch.reported c.loop-round.watch) c.loop-round.round c.args.rounds c.args.best.cost c.loop-round.best
    c.loop-round.invariant (inl (omega (arith, c.loop-round-test.false, c.loop-round.auto.round-end)))
