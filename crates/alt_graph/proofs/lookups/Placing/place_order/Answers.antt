use Rattle.std.proofs.Common.{◌≡◌, ◌+◌, ◌<◌, ◌∷◌, ◌++◌, [], arith, refl, ap, length, get_or, ◌∙◌, inl, inr}
use Rattle.std.proofs.lemmas.Bool.{cases_eq}
use Rattle.std.proofs.lemmas.List.{get_or_read, get_or_push, length_push, length-set}
use Rattle.shop_base.specs.Graph.{node}
use Rattle.shop_base.specs.Plan.{order}
use Rattle.shop_base.proofs.Visits.{visits_job}
use Rattle.shop_base.proofs.Sizes.{order_few}
use Rattle.alt_graph.specs.Layout.{number_of}
use Rattle.alt_graph.specs.Lookups.{IsGap, AreVisitsOf}
use Rattle.alt_graph.specs.Placing.{slot_of}
use Rattle.alt_graph.proofs.Filling.{slot_here, stands_here, row_inside, next_still, found_new, found_still, order_next, gap_still, visit_still, visits_still}
use Rattle.alt_graph.proofs.lookups.Placing.place_order.Goals as goal

pub loop-place-init : goal.loop-place-init
loop-place-init c =
    let all = c.requires.placed in
    let (last, gap, size, few) = all.gap in
    rw c.in_ok-reserve.ensures.items (record {
      tables = all.tables;
      linked = all.linked;
      first = λ n j less. all.first n j (omega (arith, less));
      ahead = λ j. all.first c.args.machine j (omega arith);
      placed = all.placed;
      gap = last;
      begins = gap;
      size = omega (arith, size);
      room = omega (arith, c.in_ok-reserve.ensures.ok, c.reserve.new.self.ok.0, ap length c.in_ok-reserve.ensures.items, ap length c.order_of-order.ensures.order);
      few = few;
      stand = λ a less. absurd (omega (arith, less));
      found = λ a j k less. absurd (omega (arith, less));
    })

pub index-requires : goal.index-requires
index-requires c =
    omega (arith, slot_here _ _ _ _ _ c.loop-place.invariant.tables c.args.machine c.loop-place.place _ _ c.order_of-order.ensures.order c.requires.machine c.loop-place-test.true c.slot-slot.ensures, c.loop-place.self.next.ok.0)

pub number-at-requires : goal.number-at-requires
number-at-requires c =
    let before = c.loop-place.invariant in
    let stands = stands_here _ _ _ _ _ before.tables c.args.machine c.loop-place.place _ _ c.order_of-order.ensures.order c.requires.machine c.loop-place-test.true c.slot-slot.ensures _ c.index.ensures before.ahead in
    omega (arith, visits_job _ _ _ _ stands.visits, before.tables.numbers.size, ap length c.deref.ensures.value)

pub index-requires-in-loop-place : goal.index-requires-in-loop-place
index-requires-in-loop-place c =
    let before = c.loop-place.invariant in
    let stands = stands_here _ _ _ _ _ before.tables c.args.machine c.loop-place.place _ _ c.order_of-order.ensures.order c.requires.machine c.loop-place-test.true c.slot-slot.ensures _ c.index.ensures before.ahead in
    omega (arith, rw c.deref.ensures.value at c.number-at.ensures, row_inside _ _ _ before.tables.numbers before.tables.links _ _ _ 0 stands.visits, c.loop-place.self.behind.ok.0)

pub index_mut-requires : goal.index_mut-requires
index_mut-requires c =
    omega (arith, slot_here _ _ _ _ _ c.loop-place.invariant.tables c.args.machine c.loop-place.place _ _ c.order_of-order.ensures.order c.requires.machine c.loop-place-test.true c.slot-slot.ensures, c.loop-place.self.next.ok.0)

pub overflow_cast-len : goal.overflow_cast-len
overflow_cast-len c =
    omega (
      arith,
      c.len.ensures,
      c.loop-place.self.lookups.visits.ok.0,
      c.loop-place.invariant.size,
      c.loop-place.invariant.few,
      c.loop-place-test.true,
      ap length c.order_of-order.ensures.order,
      order_few _ c.order_of-order.ensures.well_shaped _ c.requires.machine,
      c.order_of-order.ensures.well_shaped.shop.counts.few_machines,
      c.requires.machine,
    )

pub index_mut-requires-in-loop-place : goal.index_mut-requires-in-loop-place
index_mut-requires-in-loop-place c =
    let before = c.loop-place.invariant in
    let stands = stands_here _ _ _ _ _ before.tables c.args.machine c.loop-place.place _ _ c.order_of-order.ensures.order c.requires.machine c.loop-place-test.true c.slot-slot.ensures _ c.index.ensures before.ahead in
    omega (arith, rw c.deref.ensures.value at c.number-at.ensures, row_inside _ _ _ before.tables.numbers before.tables.rows _ _ _ 0 stands.visits, c.loop-place.self.lookups.places.ok.0)

pub loop-place-preserved : goal.loop-place-preserved
loop-place-preserved c =
    let m = c.args.machine in
    let a = c.loop-place.place in
    let j = get_or c.order_of-order.result.now a 0 in
    let k = c.index.result.now in
    let before = c.loop-place.invariant in
    let tables = before.tables in
    let places = c.loop-place.self.lookups.places.items in
    let behind = c.loop-place.self.behind.items in
    let visits = c.loop-place.self.lookups.visits.items in
    let stands = stands_here _ _ _ _ _ tables m a _ _ c.order_of-order.ensures.order c.requires.machine c.loop-place-test.true c.slot-slot.ensures k c.index.ensures before.ahead in
    let row = number_of c.loop-place.self.lookups.firsts.items (node j k) in
    let at : c.number-at.result ≡ row = rw (c.deref.ensures.value, c.from.ensures) at c.number-at.ensures in
    let inside : c.number-at.result < length behind = omega (arith, at, row_inside _ _ _ tables.numbers tables.links j k m 0 stands.visits) in
    let x = get_or behind row 0 in
    let read : c.index-in-loop-place.result.now ≡ x = get_or_read behind c.number-at.result c.index-in-loop-place.result.now inside c.index-in-loop-place.ensures 0 ∙ ap (λ i. get_or behind i 0) at in
    let place : c.len.result ≡ before.gap + (a + 1) = omega (arith, c.len.ensures, c.loop-place.self.lookups.visits.ok.0, before.size) in
    rw (at, read, place, c.slot-slot.ensures, c.push_reserved.ensures.items, c.from.ensures) (record {
      tables = record { shaped = tables.shaped; numbers = tables.numbers; rows = length-set places row (before.gap + (a + 1)) ∙ tables.rows; links = tables.links; slots = length-set c.loop-place.self.next.items (slot_of m j) x ∙ tables.slots };
      linked = before.linked;
      first = λ n i less. next_still _ _ _ _ _ tables j k m stands.visits x n i 0 (λ same _. omega (arith, same, less)) (before.first n i less);
      ahead = order_next _ _ _ _ _ tables j k m stands.visits a stands (before.linked j) before.ahead;
      placed = λ n less. (
          let (gap, are) = before.placed n less in
          (gap, visits_still visits (node j k) _ _ _ _ n gap are (λ b i l. found_still _ _ _ _ _ tables j k m stands.visits a (before.gap + (a + 1)) n b i l (λ same _. omega (arith, same, less)) stands)));
      gap = before.gap;
      begins = gap_still visits (node j k) before.gap (omega (arith, before.size)) before.begins;
      size = omega (arith, before.size, length_push visits (node j k));
      room = omega (arith, before.room, length_push visits (node j k), c.push_reserved.ensures.capacity);
      few = before.few;
      stand = λ b less. elim (cases_eq b a) [
        | inl same ↦ rw (same, get_or_push visits (node j k) (node 0 0) (before.gap + (a + 1)) before.size) stands
        | inr other ↦ visit_still visits (node j k) _ m b (before.gap + (b + 1)) (omega (arith, before.size, less)) (before.stand b (omega (arith, less, other)))
      ];
      found = λ b i l less other. elim (cases_eq b a) [
        | inl same ↦ rw same (found_new _ _ _ _ _ tables j k m stands.visits a (before.gap + (a + 1)) stands i l (rw same at other))
        | inr apart ↦ found_still _ _ _ _ _ tables j k m stands.visits a (before.gap + (a + 1)) m b i l (λ _ same. apart same) stands other ∙ before.found b i l (omega (arith, less, apart)) other
      ];
    })

pub returns : goal.returns
returns c =
    let m = c.args.machine in
    let all = c.loop-place.invariant in
    let p = c.args.shaped.now in
    let visits = c.loop-place.self.lookups.visits.items in
    let v = c.gap.result in
    let end : c.loop-place.place ≡ length (order p m) = omega (arith, c.loop-place.auto.place-end, c.loop-place-test.false, ap length c.order_of-order.ensures.order) in
    let last = all.gap + (c.loop-place.place + 1) in
    let behind : IsGap (visits ++ v ∷ []) last = rw (get_or_push visits v (node 0 0) last all.size) c.gap.ensures in
    let here : AreVisitsOf p c.loop-place.self.lookups.firsts.items (visits ++ v ∷ []) c.loop-place.self.lookups.places.items m all.gap = record {
      ahead = gap_still visits v all.gap (omega (arith, all.size)) all.begins;
      stand = λ a less. visit_still visits v p m a (all.gap + (a + 1)) (omega (arith, all.size, less, end)) (all.stand a (omega (arith, less, end)));
      behind = rw end at behind;
      within = omega (arith, all.size, end, length_push visits v);
      found = λ a j k stands. all.found a j k (omega (arith, stands.within, end)) stands;
    } in
    record {
      tables = all.tables;
      linked = all.linked;
      first = λ n j le. all.first n j (omega (arith, le));
      placed = rw c.push_reserved-2.ensures.items (λ n less. elim (cases_eq n m) [
        | inl same ↦ rw same (all.gap, here)
        | inr other ↦ (let (gap, are) = all.placed n (omega (arith, less, other)) in (gap, visits_still visits v p _ _ _ n gap are (λ _ _ _ _. refl)))
      ]);
      gap = rw c.push_reserved-2.ensures.items (last, behind, omega (arith, all.size, length_push visits v), omega (arith, all.few, end, order_few _ c.order_of-order.ensures.well_shaped _ c.requires.machine));
    }
