use Rattle.std.proofs.Common.{length, string_bytes, sym, ap, ◌∙◌}
use Rattle.shop_base.specs.Plan.{machines}
use Rattle.run_gantt.proofs.MachineVisits.{machine_visits-count}
use Rattle.run_gantt.proofs.Lines.{text-drawn}
use Rattle.run_gantt.proofs.gantt_text.gantt_for.Goals as goal

pub push_machines-requires-clause-machines : goal.push_machines-requires-clause-machines
push_machines-requires-clause-machines c =
    ap length c.in_ok-visits.ensures ∙ machine_visits-count (machines c.args.shaped.now) c.args.entries.now ∙ sym c.machine_count.ensures.count

pub returns : goal.returns
returns c =
    text-drawn c.args.names.now (machines c.args.shaped.now) c.machine_count.result c.last_moment-last.result c.scale_for-scale.result c.columns_for-columns.result
    c.args.entries.now c.in_ok-visits.visits
    (string_bytes c.new-text.result) (string_bytes c.push_str.new.self) (string_bytes c.push_number.new.text) (string_bytes c.push_str-2.new.self) (string_bytes c.push_machines.new.text)
    c.machine_count.ensures.count c.last_moment-last.ensures c.scale_for-scale.ensures.scale c.columns_for-columns.ensures.columns c.in_ok-visits.ensures
    c.new-text.ensures.bytes c.in_ok-push_str.ensures.bytes c.in_ok-push_number.ensures c.in_ok-push_str-2.ensures.bytes c.in_ok-push_machines.ensures
