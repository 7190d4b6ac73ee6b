use Rattle.std.proofs.Common.{◌≡◌, ◌++◌, drop, Some}
use Rattle.toml.specs.View.{items_view}
use Rattle.plan_text.specs.Listing.{number_faults, each_faults}
use Rattle.plan_text.specs.Reading.{number_in, each_item}
use Rattle.plan_text.specs.declared.keys.PlanKey.TheVariants.{Order}
use Rattle.plan_text.proofs.values.jobs_of.Given as goal

abbrev pub invariant-loop-place : goal.invariant-loop-place
invariant-loop-place l = record {
  faults : each_faults (number_faults Order (Some l.row)) l.place (items_view (drop l.place l.items)) ≡ each_faults (number_faults Order (Some l.row)) 0 (items_view l.items);
  numbers : l.jobs.items ++ each_item number_in (items_view (drop l.place l.items)) ≡ each_item number_in (items_view l.items);
}
