use Rattle.std.proofs.Common.{rules, ◌≢◌, [], map, string_bytes}
use Rattle.toml.specs.View.{items_view}
use Rattle.people_names.specs.declared.names_fault.NamesFault.TheVariants.{Memory}
use Rattle.people_names.specs.Documents.{IsFirstOf}
use Rattle.people_names.specs.Faults.{each_faults}
use Rattle.people_names.proofs.Places.{faults_go_on, names_go_on, refused_here}
use Rattle.people_names.proofs.lists.names_of_items.Goals as goal

pub returns-in_err-push_name-clause-faults : goal.returns-in_err-push_name-clause-faults
returns-in_err-push_name-clause-faults c =
    let whole = each_faults c.args.key 0 [] (items_view c.args.items.now) in
    let refused : c.in_err-push_name.field-0.0 ≢ Memory → IsFirstOf (each_faults c.args.key 0 [] (items_view c.args.items.now)) c.in_err-push_name.field-0.0 =
    λ other. refused_here c.args.key c.args.items.now c.loop-place.place c.index-items-place.result c.loop-place-test.true c.index-items-place.is
    (map string_bytes c.loop-place.names.items) _ c.in_err-push_name.field-0.0 c.loop-place.invariant.faults (c.in_err-push_name.ensures.faults other) in
    search rules

pub loop-place-preserved : goal.loop-place-preserved
loop-place-preserved c = record {
  faults = faults_go_on c.args.key c.args.items.now c.loop-place.place c.index-items-place.result c.loop-place-test.true c.index-items-place.is
      (map string_bytes c.loop-place.names.items) (map string_bytes c.push_name.new.names.items) _ c.in_ok-push_name.ensures.faults c.in_ok-push_name.ensures.value c.loop-place.invariant.faults;
  names = names_go_on c.args.key c.args.items.now c.loop-place.place c.index-items-place.result c.loop-place-test.true c.index-items-place.is
      (map string_bytes c.loop-place.names.items) (map string_bytes c.push_name.new.names.items) _ c.in_ok-push_name.ensures.value c.loop-place.invariant.names;
  short = c.in_ok-push_name.ensures.short;
  seen = c.in_ok-push_name.ensures.seen;
}
