use Rattle.std.proofs.Common.{◌≡◌, ◌++◌, [], drop, map, string_bytes}
use Rattle.toml.specs.View.{items_view}
use Rattle.people_names.specs.Faults.{each_faults}
use Rattle.people_names.specs.Lists.{AreShort, HasSeen}
use Rattle.people_names.specs.Reading.{texts_in}
use Rattle.people_names.proofs.lists.names_of_items.Given as goal

abbrev pub invariant-loop-place : goal.invariant-loop-place
invariant-loop-place l = record {
  faults : each_faults l.key l.place (map string_bytes l.names.items) (items_view (drop l.place l.items)) ≡ each_faults l.key 0 [] (items_view l.items);
  names : map string_bytes l.names.items ++ texts_in (items_view (drop l.place l.items)) ≡ texts_in (items_view l.items);
  short : AreShort (map string_bytes l.names.items);
  seen : HasSeen l.seen (map string_bytes l.names.items);
}
