use Rattle.std.proofs.Common.{◌≡◌, ◌++◌, drop, map, string_bytes}
use Rattle.people_names.specs.NameLines.{more_names}
use Rattle.people_names.proofs.document.push_more_names.Given as goal

abbrev pub invariant-loop-name : goal.invariant-loop-name
invariant-loop-name l = l.text.items ++ more_names (map string_bytes (drop l.name-index l.names)) ≡ l.initial.text.items ++ more_names (map string_bytes l.names)
