use Rattle.std.proofs.Common.{◌≡◌, ℕ, ◌+◌, ◌*◌, ◌<◌, ◌≤◌, length, get_or}
use Rattle.std.specs.Prelude.{vec_capacity}
use Rattle.shop_base.specs.declared.limits.TheConstants.{MAX_JOBS, MAX_MACHINES}
use Rattle.shop_base.specs.Plan.{order, places_before, Stands}
use Rattle.shop_base.specs.Graph.{node}
use Rattle.alt_graph.specs.Layout.{number_of}
use Rattle.alt_graph.specs.Lookups.{IsGap, IsVisitAt, AreVisitsOf}
use Rattle.alt_graph.specs.Placing.{AreTables, AreLinked, IsNext}
use Rattle.alt_graph.proofs.lookups.Placing.place_order.Given as goal

-- the visits of the places looked at stand behind a gap, there is room for the others, and those of the machines before are placed
abbrev pub invariant-loop-place : goal.invariant-loop-place
invariant-loop-place l = record {
  tables : AreTables l.shaped l.self.lookups.firsts.items l.self.lookups.places.items l.self.behind.items l.self.next.items;
  linked : (j : ℕ) → AreLinked l.shaped l.self.lookups.firsts.items l.self.behind.items j 0;
  first : (n j : ℕ) → l.machine < n → IsNext l.shaped l.self.next.items n j 0;
  ahead : (j : ℕ) → IsNext l.shaped l.self.next.items l.machine j (places_before l.shaped l.machine j l.place);
  placed : (n : ℕ) → n < l.machine → (gap : ℕ) × AreVisitsOf l.shaped l.self.lookups.firsts.items l.self.lookups.visits.items l.self.lookups.places.items n gap;
  gap : ℕ;
  begins : IsGap l.self.lookups.visits.items gap;
  size : length l.self.lookups.visits.items ≡ gap + (l.place + 1);
  room : length l.self.lookups.visits.items + (length (order l.shaped l.machine) + 1) ≤ vec_capacity l.self.lookups.visits + l.place;
  few : gap ≤ l.machine * (MAX_JOBS * MAX_MACHINES + 1);
  stand : (a : ℕ) → a < l.place → IsVisitAt l.shaped l.machine a l.self.lookups.visits.items (gap + (a + 1));
  found : (a j k : ℕ) → a < l.place → Stands l.shaped l.machine a j k → get_or l.self.lookups.places.items (number_of l.self.lookups.firsts.items (node j k)) 0 ≡ gap + (a + 1);
}
