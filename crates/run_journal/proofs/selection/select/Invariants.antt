use Rattle.std.{proofs.Common.{◌+◌, ◌≤◌, length, take}, specs.Vec.{vec_len, vec_capacity}}
use Rattle.run_journal.specs.{declared.selection.TheConstants.DECIDING, Selecting.{Gets, undecided}}
use Rattle.run_journal.proofs.selection.select.Given as goal

abbrev pub invariant-loop-byte : goal.invariant-loop-byte
invariant-loop-byte l = record {
  gets : Gets l.initial.front.items (take l.byte-index l.bytes) l.front.items l.initial.events.items l.events.items;
  few : length l.front.items ≤ DECIDING;
  room : vec_len l.events + undecided l.front.items ≤ vec_len l.initial.events + undecided l.initial.front.items + l.byte-index;
  front_capacity : vec_capacity l.initial.front ≤ vec_capacity l.front;
  capacity : vec_capacity l.initial.events ≤ vec_capacity l.events;
}
