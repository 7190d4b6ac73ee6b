use Rattle.std.proofs.Common.{◌≡◌, ◌<◌, [], length, get_or, refl, ap, ◌∙◌, arith}
use Rattle.std.proofs.lemmas.List.{get_or_default, length-map}
use Rattle.run_gantt.specs.LinkedVisits.{no_visit, linked_from}
use Rattle.run_gantt.proofs.Linked.{row-chain}
use Rattle.run_gantt.proofs.Showing.{left-within, left-falls, left-fewer, all_words, all_signs}
use Rattle.run_gantt.proofs.visits.Visits.push_visits.Goals as goal

pub loop-next-init : goal.loop-next-init
loop-next-init c =
    let table = c.self.inside.table.items in
    let first = c.self.inside.first.items in
    let inside : c.args.machine < length first = omega (arith, c.requires.machine, ap length c.self.view_is, length-map first (linked_from table (length table))) in
    record {
      rest = get_or c.args.self.now c.args.machine [];
      chain = row-chain table first c.args.self.now c.args.machine _ c.self.invariant c.self.view_is inside (c.index-next.ensures ∙ get_or_default _ _ _ _ inside);
      text = refl;
      bar = λ n within. refl;
    }

pub index-linked-requires : goal.index-linked-requires
index-linked-requires c = omega (arith, left-within _ _ _ _ _ _ _ _ _ c.loop-next.invariant c.in-Some.place c.in-Some.is)

pub loop-next-smaller : goal.loop-next-smaller
loop-next-smaller c =
    let left = c.loop-next.invariant in
    let within = left-within _ _ _ _ _ _ _ _ _ left c.in-Some.place c.in-Some.is in
    let found : c.index-linked.result.now ≡ get_or c.self.inside.table.items c.in-Some.place no_visit = c.index-linked.ensures ∙ get_or_default _ _ _ _ within in
    left-falls _ _ _ _ _ _ _ _ _ left c.in-Some.place _ c.in-Some.is found

pub loop-next-preserved : goal.loop-next-preserved
loop-next-preserved c =
    let left = c.loop-next.invariant in
    let within = left-within _ _ _ _ _ _ _ _ _ left c.in-Some.place c.in-Some.is in
    let found : c.index-linked.result.now ≡ get_or c.self.inside.table.items c.in-Some.place no_visit = c.index-linked.ensures ∙ get_or_default _ _ _ _ within in
    left-fewer _ _ _ _ _ _ _ _ _ left _ _ c.in-Some.place _ c.in-Some.is found c.in_ok-push_visit.ensures c.sign_visit.ensures

pub returns-clause-text : goal.returns-clause-text
returns-clause-text c = all_words _ _ _ _ _ _ _ _ _ c.loop-next.invariant c.in_default.is

pub returns-clause-bar : goal.returns-clause-bar
returns-clause-bar c = all_signs _ _ _ _ _ _ _ _ _ c.loop-next.invariant c.in_default.is
