use Rattle.std.proofs.Common.{arith, inl, inr}
use Rattle.plan_improve.proofs.{Common.{AfterSome, setting_of}, Once.fixed_on, Keeping.{at_bound, one_more_asked, nobody_asked, round_ends}}
use Rattle.plan_improve.proofs.Standing.{stands_own, costs_own, next_back}
use Rattle.plan_improve.proofs.rounds.ask_each.Goals as goal

pub loop-improver-init : goal.loop-improver-init
loop-improver-init g c = nobody_asked c.args.fixed.now c.args.best.rest (λ b. (goal.Improver-dyn g (b.vtable, b.value)).may b.value) c.args.improvers.now c.args.round c.args.best c.requires.stands c.requires.cost

pub ask_one-requires-clause-stands : goal.ask_one-requires-clause-stands
ask_one-requires-clause-stands g c = stands_own c.args.fixed.now c.args.best.rest c.loop-improver.best.rest c.loop-improver.invariant.stands

pub ask_one-requires-clause-cost : goal.ask_one-requires-clause-cost
ask_one-requires-clause-cost g c =
    costs_own c.args.fixed.now c.args.best.rest c.loop-improver.best.rest c.loop-improver.invariant.stands c.loop-improver.best.rest.plan c.loop-improver.best.cost c.loop-improver.invariant.is

pub ask_one-requires-clause-fixed : goal.ask_one-requires-clause-fixed
ask_one-requires-clause-fixed g c = fixed_on c.args.fixed.now c.args.best.rest c.loop-improver.best.rest c.requires.fixed c.loop-improver.invariant.stands c.loop-improver.invariant.same

pub loop-improver-preserved : goal.loop-improver-preserved
loop-improver-preserved g c = one_more_asked c.args.fixed.now c.args.best.rest (λ b. (goal.Improver-dyn g (b.vtable, b.value)).may b.value) c.args.improvers.now c.args.round c.loop-improver.improver-index
    c.args.best.cost c.loop-improver.best c.in_ok-best.best c.improver-item.result c.requires.fixed (rw c.at_least-bound.ensures at c.if-meets.ensures) (omega arith) c.improver-item.is
    c.loop-improver.invariant
    (next_back c.args.fixed.now c.args.best.rest c.loop-improver.best.rest c.loop-improver.invariant.stands _ c.loop-improver.best c.in_ok-best.best c.in_ok-best.ensures.asked)

pub returns-then-meets-clause-last : goal.returns-then-meets-clause-last
returns-then-meets-clause-last g c = round_ends c.args.fixed.now c.args.best.rest (λ b. (goal.Improver-dyn g (b.vtable, b.value)).may b.value) c.args.improvers.now c.args.round c.loop-improver.improver-index
    c.args.best.cost c.loop-improver.best c.loop-improver.invariant (inr (
      omega (arith, c.loop-improver-test.true),
      at_bound c.args.fixed.now c.args.best.rest
          (λ p. AfterSome (setting_of c.args.fixed.now c.args.best.rest) (λ b. (goal.Improver-dyn g (b.vtable, b.value)).may b.value) c.args.improvers.now c.args.round p c.loop-improver.improver-index)
          c.args.best.cost c.loop-improver.best c.loop-improver.invariant c.requires.fixed (rw c.at_least-bound.ensures at c.if-meets.ensures),
    ))

pub returns-clause-last : goal.returns-clause-last
returns-clause-last g c = round_ends c.args.fixed.now c.args.best.rest (λ b. (goal.Improver-dyn g (b.vtable, b.value)).may b.value) c.args.improvers.now c.args.round c.loop-improver.improver-index
    c.args.best.cost c.loop-improver.best c.loop-improver.invariant (inl (omega (arith, c.loop-improver-test.false, c.loop-improver.auto.improver-index-end)))
