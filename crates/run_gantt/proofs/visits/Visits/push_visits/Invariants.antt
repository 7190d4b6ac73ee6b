use Rattle.std.proofs.Common.{[], get_or, string_bytes}
use Rattle.run_gantt.proofs.Showing.{above, AreLeft}
use Rattle.run_gantt.proofs.visits.Visits.push_visits.Given as goal

abbrev pub invariant-loop-next : goal.invariant-loop-next
invariant-loop-next l = AreLeft l.names l.self-inside.table.items l.next (get_or l.self l.machine []) (string_bytes l.initial.text) (string_bytes l.text) l.initial.bar l.bar l.scale

abbrev pub decreases-loop-next : goal.decreases-loop-next
decreases-loop-next l = above l.next
