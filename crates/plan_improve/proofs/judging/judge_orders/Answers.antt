use Rattle.std.proofs.Common.{sym, subst, ◌∙◌}
use Rattle.plan_improve.proofs.{Common.{BeginsWithEntries, Cell, PlannedShop, lists_of, reordered, setting_of}, Once.fixed_once}
use Rattle.plan_improve.proofs.{Keeping.{next_unfit, next_better, next_worse}, Standing.{stands_by, costs_begin, stands_own, costs_own, costs_back}}
use Rattle.plan_improve.proofs.judging.judge_orders.Goals as goal

pub returns-in-Stays-clause-judged : goal.returns-in-Stays-clause-judged
returns-in-Stays-clause-judged c =
    let x = c.args.best.rest in
    let order = lists_of c.args.order.items in
    next_unfit (setting_of c.args.fixed.now x) x c.in-Stays.rest c.args.best.cost order c.requires.stands c.requires.cost c.in-Stays.ensures.0 c.in-Stays.ensures.1 c.in-Stays.ensures.2
    (λ one. c.in-Stays.ensures.3 one.shaped (costs_begin c.args.fixed.now x (reordered x.plan order) one.cost c.requires.stands one.is))

pub cost_below-requires : goal.cost_below-requires
cost_below-requires c =
    let is = c.in-Fits.ensures in
    stands_own c.args.fixed.now c.args.best.rest c.in-Fits.rest
    (stands_by c.args.fixed.now c.args.best.rest c.in-Fits.rest (lists_of c.args.order.items) c.requires.stands is.0 is.1 is.2 is.5)

pub returns-in-Ok-Some-clause-judged : goal.returns-in-Ok-Some-clause-judged
returns-in-Ok-Some-clause-judged c =
    let x = c.args.best.rest in
    let y = c.in-Fits.rest in
    let is = c.in-Fits.ensures in
    let order = lists_of c.args.order.items in
    let there = stands_by c.args.fixed.now x y order c.requires.stands is.0 is.1 is.2 is.5 in
    let below = rw c.in-Ok-Some.field-0-is at c.in-Ok-Some.ensures in
    next_better (setting_of c.args.fixed.now x) x y c.args.best.cost c.in-Ok-Some.cost order c.requires.cost is.0 is.4 there
    (costs_back c.args.fixed.now x y there y.plan c.in-Ok-Some.cost below.0) below.1

pub reorder_by-requires-clause-shaped : goal.reorder_by-requires-clause-shaped
reorder_by-requires-clause-shaped c = rw (← c.in-Fits.ensures.3) c.shaped-plan.ensures.well_shaped

pub reorder_by-requires-clause-begins : goal.reorder_by-requires-clause-begins
reorder_by-requires-clause-begins c =
    subst (λ (p : PlannedShop). BeginsWithEntries c.in-Fits.rest.cell p) c.in-Fits.ensures.3
    (subst (λ (d : Cell). BeginsWithEntries d c.args.best.rest.plan) (sym c.in-Fits.ensures.1) c.shaped-plan.ensures.sound.in_order)

pub returns-in-Ok-None-clause-judged : goal.returns-in-Ok-None-clause-judged
returns-in-Ok-None-clause-judged c =
    let x = c.args.best.rest in
    let y = c.in-Fits.rest in
    let is = c.in-Fits.ensures in
    let order = lists_of c.args.order.items in
    let there = stands_by c.args.fixed.now x y order c.requires.stands is.0 is.1 is.2 is.5 in
    let none = rw c.in-Ok-None.field-0-is at c.in-Ok-None.ensures in
    next_worse (setting_of c.args.fixed.now x) (fixed_once c.args.fixed.now x) x y c.reorder_by.result c.args.best.cost order c.requires.stands c.requires.cost
    is.0 (λ d cost less. none d (costs_own c.args.fixed.now x y there y.plan d cost) less) (c.reorder_by.ensures.plan ∙ sym is.3) (c.reorder_by.ensures.cell ∙ is.1) (c.reorder_by.ensures.present ∙ is.2)
