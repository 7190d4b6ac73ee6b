use Rattle.std.proofs.Common.{subst, List}
use Rattle.arc_choice.specs.declared.exploring.Waiting.{Waiting}
use Rattle.arc_choice.specs.Waits.{AreWaiting, IsWithinSome}
use Rattle.arc_choice.proofs.Stacking.{waiting_pop, last_goes, last_fails}
use Rattle.arc_choice.proofs.exploring.next.Goals as goal

pub take-requires-clause-branch : goal.take-requires-clause-branch
take-requires-clause-branch g c =
    let q = c.args.question.now in
    (waiting_pop q c.pop.new.self.items c.in-Some.last (subst (AreWaiting q) c.in-Some.ensures.items c.loop-last.invariant.waiting)).1.branch

pub take-requires-clause-pair : goal.take-requires-clause-pair
take-requires-clause-pair g c =
    let q = c.args.question.now in
    (waiting_pop q c.pop.new.self.items c.in-Some.last (subst (AreWaiting q) c.in-Some.ensures.items c.loop-last.invariant.waiting)).1.pair

pub returns-in-Ok : goal.returns-in-Ok
returns-in-Ok g c =
    let q = c.args.question.now in
    last_goes q c.args.waiting.now.items c.pop.new.self.items c.in-Some.last
    (λ w answers some. subst (λ (xs : List Waiting). IsWithinSome q xs w) c.in-Some.ensures.items (c.loop-last.invariant.keeps w answers some))
    c.take.new.self (subst (AreWaiting q) c.in-Some.ensures.items c.loop-last.invariant.waiting) c.in-Ok.ensures

pub loop-last-preserved : goal.loop-last-preserved
loop-last-preserved g c =
    let q = c.args.question.now in
    record {
      waiting = (waiting_pop q c.pop.new.self.items c.in-Some.last (subst (AreWaiting q) c.in-Some.ensures.items c.loop-last.invariant.waiting)).0;
      keeps = last_fails q c.args.waiting.now.items c.pop.new.self.items c.in-Some.last
          (λ w answers some. subst (λ (xs : List Waiting). IsWithinSome q xs w) c.in-Some.ensures.items (c.loop-last.invariant.keeps w answers some)) c.in-Err.ensures;
    }
