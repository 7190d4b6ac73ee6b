use Rattle.std.proofs.Common.{◌++◌, List, [], ap, append-nil, map, subst, sym}
use Rattle.std.proofs.lemmas.List.{drop_all}
use Rattle.plan_revise.specs.declared.change.Change.{Change}
use Rattle.command_words.specs.declared.words.changes.AskedChange.{AskedChange}
use Rattle.command_run.specs.Revisions.{AreChangesOf, values_asked}
use Rattle.command_run.proofs.Revising.{next_change, next_value}
use Rattle.command_run.proofs.revisions.add_changes.Goals as goal

pub loop-one-init : goal.loop-one-init
loop-one-init c = record {
  are = λ rest are. subst (λ (cs : List Change). AreChangesOf c.args.asked.now (cs ++ rest)) (sym c.requires.changes) are;
  texts = ap (λ vs. map (λ v. v.now) vs ++ values_asked c.args.asked.now) c.requires.values;
}

pub loop-one-preserved : goal.loop-one-preserved
loop-one-preserved c = record {
  are = next_change c.args.asked.now c.loop-one.one-index c.one-item.result c.loop-one-test.true c.one-item.is
      c.loop-one.changes.items c.push.new.self.items c.change_of.result c.in_ok-push.ensures.items c.change_of.ensures c.loop-one.invariant.are;
  texts = next_value c.args.asked.now c.loop-one.one-index c.one-item.result c.loop-one-test.true c.one-item.is
      c.loop-one.values.items c.push-in-loop-one.new.self.items c.as_str.result c.in_ok-push-2.ensures.items c.as_str.ensures.value c.loop-one.invariant.texts;
}

pub returns-clause-are : goal.returns-clause-are
returns-clause-are c =
    let all = drop_all c.loop-one.one-index c.args.asked.now c.loop-one-test.false in
    subst (λ (changes : List Change). AreChangesOf c.args.asked.now changes) (append-nil c.loop-one.changes.items)
    (c.loop-one.invariant.are [] (subst (λ (some : List AskedChange). AreChangesOf some []) (sym all) tt))
