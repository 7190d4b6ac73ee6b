use Rattle.std.proofs.Common.{◌≡◌, ◌^◌, ◌<◌, true, take}
use Rattle.std.specs.List.{list_all}
use Rattle.text_lines.specs.Numbers.{is_digit, value_of}
use Rattle.text_lines.proofs.numbers.number_of.Given as goal

abbrev pub invariant-loop-byte : goal.invariant-loop-byte
invariant-loop-byte l = record {
  digits : list_all is_digit (take l.byte-index l.word) ≡ true;
  value : l.value ≡ value_of (take l.byte-index l.word);
  below : l.value < 10 ^ l.byte-index;
}
