use Rattle.std.proofs.Common.{◌≡◌, ◌≤◌, map, string_bytes, take}
use Rattle.people_names.proofs.kept.first_names.Given as goal

abbrev pub invariant-loop-place : goal.invariant-loop-place
invariant-loop-place l = record {
  so_far : map string_bytes l.kept.items ≡ take l.place (map string_bytes l.names);
  few : l.place ≤ l.most;
}
