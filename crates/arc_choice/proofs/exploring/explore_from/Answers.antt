use Rattle.std.proofs.Common.{inl, sym, subst}
use Rattle.arc_choice.specs.Choices.{IsImpossible}
use Rattle.arc_choice.specs.Waits.{AreWaiting}
use Rattle.arc_choice.proofs.Narrowing.{copied}
use Rattle.arc_choice.proofs.Stacking.{splits_from, never_open}
use Rattle.arc_choice.proofs.exploring.explore_from.Goals as goal

pub loop-init : goal.loop-init
loop-init g c = record {
  branch = c.requires.branch;
  waiting = subst (AreWaiting c.args.question.now) (sym c.new-waiting.ensures.items) tt;
  keeps = λ w answers. inl (c.requires.all w answers);
}

pub returns-in-None : goal.returns-in-None
returns-in-None g c =
    let q = c.args.question.now in
    let splits = splits_from q c.loop.branch c.choose.new.self c.loop.waiting.items c.split.new.waiting.items (copied q c.loop.branch c.choose.new.self c.loop.invariant.branch c.in-Some.ensures.copy) c.in_ok-split.ensures in
    λ w answers. c.in-None.ensures w answers (splits.keeps w answers (c.loop.invariant.keeps w answers))

pub loop-preserved : goal.loop-preserved
loop-preserved g c =
    let q = c.args.question.now in
    let splits = splits_from q c.loop.branch c.choose.new.self c.loop.waiting.items c.split.new.waiting.items (copied q c.loop.branch c.choose.new.self c.loop.invariant.branch c.in-Some.ensures.copy) c.in_ok-split.ensures in
    let goes = c.in-Some-next.ensures in
    record { branch = goes.is; waiting = goes.waiting; keeps = λ w answers. goes.keeps w answers (splits.keeps w answers (c.loop.invariant.keeps w answers)) }

pub returns : goal.returns
returns g c = never_open (IsImpossible c.args.question.now) c.into_outcome.result c.into_outcome.ensures
