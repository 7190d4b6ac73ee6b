use Rattle.std.proofs.Common.{◌≡◌, ℕ, ◌<◌, length, get_or}
use Rattle.shop_base.specs.Plan.{visits_before}
use Rattle.alt_graph.specs.Lookups.{IsGap}
use Rattle.alt_graph.specs.Placing.{AreTables, AreLinked, IsNext}
use Rattle.alt_graph.proofs.lookups.Placing.note_route.Given as goal

-- the job's steps from this one on are noted, and the routes of the jobs before it
abbrev pub invariant-loop-step : goal.invariant-loop-step
invariant-loop-step l = record {
  tables : AreTables l.shaped l.self.lookups.firsts.items l.self.lookups.places.items l.self.behind.items l.self.next.items;
  linked : (i : ℕ) → i < l.job → AreLinked l.shaped l.self.lookups.firsts.items l.self.behind.items i 0;
  first : (m i : ℕ) → i < l.job → IsNext l.shaped l.self.next.items m i 0;
  here : AreLinked l.shaped l.self.lookups.firsts.items l.self.behind.items l.job l.step;
  ahead : (m : ℕ) → IsNext l.shaped l.self.next.items m l.job (visits_before l.shaped l.job m l.step);
  row : l.first ≡ get_or l.self.lookups.firsts.items l.job 0;
  size : length l.self.lookups.visits.items ≡ 1;
  gap : IsGap l.self.lookups.visits.items 0;
}
