use Rattle.std.proofs.Common.{◌≡◌, ◌++◌, drop, string_bytes}
use Rattle.plan_text.specs.Lines.{after_first}
use Rattle.plan_text.proofs.document.push_more_numbers.Given as goal

abbrev pub invariant-loop-number : goal.invariant-loop-number
invariant-loop-number g l = string_bytes l.text ++ after_first g.I.Integer.text (drop l.number-index l.numbers) ≡ string_bytes l.initial.text ++ after_first g.I.Integer.text l.numbers
