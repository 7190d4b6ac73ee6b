use Rattle.std.proofs.Common.{◌≡◌, ◌+◌, ◌*◌, ◌∙◌, ◌<◌, ℕ, List, [], ◌∷◌, ◌++◌, length, get_or, arith, sym, ap, subst}
use Rattle.shop_base.proofs.Visits.{visits_machine}
use Rattle.alt_graph.specs.Places.{node_at}
use Rattle.arc_choice.specs.Choices.{no_pair}
use Rattle.plan_bounds.specs.Bounds.{times_of}
use Rattle.plan_limits.specs.declared.moments.TheConstants.{FINE}
use Rattle.plan_limits.specs.Asked.{IsEntry, IsMachinePair, AreMachinePairs, pair_between}
use Rattle.plan_limits.proofs.Numbered.{pushed}
use Rattle.plan_limits.proofs.Entries.{row_of, row_at, entry_at, entries_on, entries_push}
use Rattle.plan_limits.proofs.pairs.add_pairs.Goals as goal
use Rattle.plan_limits.proofs.pairs.add_pairs.Goals.{then-nodes-earlier+in_ok-push, else-nodes-earlier}

pub returns-in_default-clause-entries : goal.returns-in_default-clause-entries
returns-in_default-clause-entries c = entries_on (times_of c.args.shaped.now) c.args.nodes.now c.args.number c.args.entries.now.items c.requires.entries

pub clean_of-requires : goal.clean_of-requires
clean_of-requires c =
    let node = node_at c.args.nodes.now c.args.number in
    visits_machine c.args.shaped.now node.job node.place c.in-Some.machine c.in-Some.ensures.well_shaped c.in-Some.ensures.machine

pub index-requires : goal.index-requires
index-requires c =
    let node = node_at c.args.nodes.now c.args.number in
    omega (arith, visits_machine c.args.shaped.now node.job node.place c.in-Some.machine c.in-Some.ensures.well_shaped c.in-Some.ensures.machine, c.requires.entries.count)

pub index_mut-requires : goal.index_mut-requires
index_mut-requires c =
    let node = node_at c.args.nodes.now c.args.number in
    omega (arith, visits_machine c.args.shaped.now node.job node.place c.in-Some.machine c.in-Some.ensures.well_shaped c.in-Some.ensures.machine, c.requires.entries.count)

pub pair_of-requires-clause-other : goal.pair_of-requires-clause-other
pair_of-requires-clause-other c = omega (arith, c.requires.number, c.requires.few)

pub pair_of-requires-clause-one : goal.pair_of-requires-clause-one
pair_of-requires-clause-one c =
    let p = c.args.shaped.now in
    let rows = c.args.entries.now.items in
    let m = c.in-Some.machine in
    let node = node_at c.args.nodes.now c.args.number in
    let within : m < length rows = omega (arith, visits_machine p node.job node.place m c.in-Some.ensures.well_shaped c.in-Some.ensures.machine, c.requires.entries.count) in
    let row : c.deref-earlier-items.result.now ≡ row_of rows m = c.deref-earlier-items.ensures.value ∙ row_at rows m c.index.result.now within c.index.ensures in
    let entry = entry_at (times_of p) c.args.nodes.now m c.args.number c.loop-earlier.earlier-index rows c.deref-earlier-items.result.now c.requires.entries row c.loop-earlier-test.true in
    omega (arith, entry.inside, c.requires.few)

pub bounds-nodes-earlier : goal.bounds-nodes-earlier
bounds-nodes-earlier c =
    let p = c.args.shaped.now in
    let rows = c.args.entries.now.items in
    let m = c.in-Some.machine in
    let node = node_at c.args.nodes.now c.args.number in
    let within : m < length rows = omega (arith, visits_machine p node.job node.place m c.in-Some.ensures.well_shaped c.in-Some.ensures.machine, c.requires.entries.count) in
    let row : c.deref-earlier-items.result.now ≡ row_of rows m = c.deref-earlier-items.ensures.value ∙ row_at rows m c.index.result.now within c.index.ensures in
    (entry_at (times_of p) c.args.nodes.now m c.args.number c.loop-earlier.earlier-index rows c.deref-earlier-items.result.now c.requires.entries row c.loop-earlier-test.true).inside

pub loop-earlier-preserved : goal.loop-earlier-preserved
loop-earlier-preserved c =
    let p = c.args.shaped.now in
    let t = times_of p in
    let nodes = c.args.nodes.now in
    let rows = c.args.entries.now.items in
    let m = c.in-Some.machine in
    let n = c.args.number in
    let node = node_at nodes n in
    let visit = c.in-Some.ensures.machine in
    let within : m < length rows = omega (arith, visits_machine p node.job node.place m c.in-Some.ensures.well_shaped visit, c.requires.entries.count) in
    let row : c.deref-earlier-items.result.now ≡ row_of rows m = c.deref-earlier-items.ensures.value ∙ row_at rows m c.index.result.now within c.index.ensures in
    let e : ℕ = get_or c.deref-earlier-items.result.now c.loop-earlier.earlier-index 0 in
    let one = entry_at t nodes m n c.loop-earlier.earlier-index rows c.deref-earlier-items.result.now c.requires.entries row c.loop-earlier-test.true in
    let other : IsEntry t nodes m (n + 1) n = record { inside = c.requires.number; earlier = omega arith; visit = record { within = visit.within; here = visit.here } } in
    let long = ap (λ (d : ℕ). pair_between e n (d * FINE + 1)) c.clean_of.ensures in
    elim c.if-nodes-earlier.branch [
      | then-nodes-earlier+in_ok-push w ↦ (
          let here : IsMachinePair t nodes w.pair_of.result = record { machine = m; one = e; other = n; earlier = one; later = other; apart = λ same. omega (arith, same, w.if-nodes-earlier); is = w.pair_of.ensures ∙ long } in
          rw w.pairs-is (subst (AreMachinePairs t nodes) (sym w.in_ok-push.ensures.items) (pushed (λ a x. IsMachinePair t nodes x) c.loop-earlier.pairs.items w.pair_of.result no_pair c.loop-earlier.invariant here)))
      | else-nodes-earlier w ↦ rw w.pairs-is c.loop-earlier.invariant
    ]

pub returns-clause-entries : goal.returns-clause-entries
returns-clause-entries c =
    let p = c.args.shaped.now in
    let nodes = c.args.nodes.now in
    let rows = c.args.entries.now.items in
    let m = c.in-Some.machine in
    let n = c.args.number in
    let node = node_at nodes n in
    let visit = c.in-Some.ensures.machine in
    let within : m < length rows = omega (arith, visits_machine p node.job node.place m c.in-Some.ensures.well_shaped visit, c.requires.entries.count) in
    let row = row_at rows m c.index_mut.result.now within c.index_mut.ensures.value in
    let other : IsEntry (times_of p) nodes m (n + 1) n = record { inside = c.requires.number; earlier = omega arith; visit = record { within = visit.within; here = visit.here } } in
    entries_push (times_of p) nodes n m rows c.push-2.new.self c.requires.entries within (subst (λ (r : List ℕ). c.push-2.new.self.items ≡ r ++ n ∷ []) row c.in_ok-push-2.ensures.items) other
