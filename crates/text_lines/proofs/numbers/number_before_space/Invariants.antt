use Rattle.std.proofs.Common.{◌≡◌, ◌^◌, ◌<◌, true, take}
use Rattle.std.specs.List.{list_all}
use Rattle.text_lines.specs.Numbers.{is_digit, value_of}
use Rattle.text_lines.proofs.numbers.number_before_space.Given as goal

abbrev pub invariant-loop-end : goal.invariant-loop-end
invariant-loop-end l = record {
  digits : list_all is_digit (take l.end l.bytes) ≡ true;
  value : l.value ≡ value_of (take l.end l.bytes);
  below : l.value < 10 ^ l.end;
}
