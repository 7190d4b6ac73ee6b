use Rattle.std.proofs.Common.{◌≡◌, ◌++◌, map, take}
use Rattle.std.specs.String.{string_bytes}
use Rattle.command_words.proofs.words.add_values.Given as goal

abbrev pub invariant-loop-value : goal.invariant-loop-value
invariant-loop-value l = map string_bytes l.files.items ≡ map string_bytes l.initial.files.items ++ map (λ v. v.now) (take l.value-index l.values)
