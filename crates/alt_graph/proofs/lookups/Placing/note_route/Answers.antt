use Rattle.std.proofs.Common.{◌≡◌, ◌+◌, ◌-◌, ◌<◌, arith, refl, ap, length, get_or, ◌∙◌, inl, inr}
use Rattle.std.proofs.lemmas.Bool.{cases_eq}
use Rattle.std.proofs.lemmas.List.{get_or_read, length-set}
use Rattle.shop_base.specs.Shop.{no_step}
use Rattle.shop_base.specs.Graph.{node}
use Rattle.shop_base.specs.Plan.{Visits}
use Rattle.shop_base.proofs.Visits.{visits_machine}
use Rattle.alt_graph.specs.Layout.{number_of}
use Rattle.alt_graph.specs.Placing.{slot_of}
use Rattle.alt_graph.proofs.Filling.{none_next, row_inside, slot_inside, linked_still, next_still, route_linked, route_next}
use Rattle.alt_graph.proofs.lookups.Placing.note_route.Goals as goal

pub loop-step-init : goal.loop-step-init
loop-step-init c = record {
  tables = c.requires.noted.tables;
  linked = c.requires.noted.linked;
  first = c.requires.noted.first;
  here = λ m k l from visits. absurd (omega (arith, from, visits.within, ap length c.route_of-route.ensures.route));
  ahead = λ m. rw c.route_of-route.ensures.route (none_next _ _ m c.args.job);
  row = get_or_read c.args.self.now.lookups.firsts.items c.args.job c.index.result.now (omega (arith, c.requires.job, c.requires.noted.tables.numbers.size)) c.index.ensures 0;
  size = c.requires.noted.size;
  gap = c.requires.noted.gap;
}

pub index_mut-requires : goal.index_mut-requires
index_mut-requires c =
    let step = c.loop-step.step - 1 in
    let visits : Visits c.args.shaped.now c.args.job step (get_or c.route_of-route.result.now step no_step).machine =
    rw c.route_of-route.ensures.route (record { within = omega (arith, c.loop-step-test.true, c.loop-step.auto.step, ap length c.route_of-route.ensures.route); here = refl }) in
    let before = c.loop-step.invariant in
    omega (arith, before.row, row_inside _ _ _ before.tables.numbers before.tables.links c.args.job step _ 0 visits, c.loop-step.self.behind.ok.0)

pub loop-step-preserved : goal.loop-step-preserved
loop-step-preserved c =
    let p = c.args.shaped.now in
    let j = c.args.job in
    let step = c.loop-step.step - 1 in
    let m = (get_or c.route_of-route.result.now step no_step).machine in
    let visits : Visits p j step m =
    rw c.route_of-route.ensures.route (record { within = omega (arith, c.loop-step-test.true, c.loop-step.auto.step, ap length c.route_of-route.ensures.route); here = refl }) in
    let before = c.loop-step.invariant in
    let tables = before.tables in
    let next = c.loop-step.self.next.items in
    let behind = c.loop-step.self.behind.items in
    let row = number_of c.loop-step.self.lookups.firsts.items (node j step) in
    let x = get_or next (slot_of m j) 0 in
    let inside : c.slot-slot.result < length next = omega (arith, c.slot-slot.ensures, slot_inside _ _ _ _ _ tables m j (visits_machine _ _ _ _ tables.shaped visits) c.requires.job) in
    let read : c.index-in-loop-step.result.now ≡ x = get_or_read next c.slot-slot.result c.index-in-loop-step.result.now inside c.index-in-loop-step.ensures 0 ∙ ap (λ i. get_or next i 0) c.slot-slot.ensures in
    let at : c.index.result.now + step ≡ row = ap (λ i. i + step) before.row in
    let above : step + 1 ≡ c.loop-step.step = omega (arith, c.loop-step-test.true) in
    rw (at, read, c.slot-slot.ensures) (record {
      tables = record { shaped = tables.shaped; numbers = tables.numbers; rows = tables.rows; links = length-set behind row x ∙ tables.links; slots = length-set next (slot_of m j) step ∙ tables.slots };
      linked = λ i less. linked_still _ _ _ tables.numbers tables.links j step m x visits i 0 (λ same. omega (arith, same, less)) (before.linked i less);
      first = λ n i less. next_still _ _ _ _ _ tables j step m visits step n i 0 (λ _ same. omega (arith, same, less)) (before.first n i less);
      here = route_linked _ _ _ _ _ tables j step m visits (rw above before.here) (rw above before.ahead);
      ahead = route_next _ _ _ _ _ tables j step m visits (rw above before.here) (rw above before.ahead);
      row = before.row;
      size = before.size;
      gap = before.gap;
    })

pub returns : goal.returns
returns c =
    let all = c.loop-step.invariant in
    let end : c.loop-step.step ≡ 0 = omega (arith, c.loop-step-test.false) in
    record {
      tables = all.tables;
      linked = λ i less. elim (cases_eq i c.args.job) [
        | inl same ↦ rw same (rw end at all.here)
        | inr other ↦ all.linked i (omega (arith, less, other))
      ];
      first = λ m i less. elim (cases_eq i c.args.job) [
        | inl same ↦ rw same (rw end at (all.ahead m))
        | inr other ↦ all.first m i (omega (arith, less, other))
      ];
      size = all.size;
      gap = all.gap;
    }
