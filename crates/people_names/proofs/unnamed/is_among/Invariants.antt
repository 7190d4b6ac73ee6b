use Rattle.std.proofs.Common.{◌≡◌, drop, map, string_bytes}
use Rattle.people_names.specs.Faults.{is_among}
use Rattle.people_names.proofs.unnamed.is_among.Given as goal

abbrev pub invariant-loop-other : goal.invariant-loop-other
invariant-loop-other l = is_among l.name (map string_bytes l.names) ≡ is_among l.name (map string_bytes (drop l.other-index l.names))
