use Rattle.std.proofs.Common.{◌++◌, ℕ, List, [], get_or, string_bytes, codes, refl, ap, ◌∙◌}
use Rattle.std.specs.Prelude.{flat_map}
use Rattle.people_names.specs.Words.{machine_word}
use Rattle.run_gantt.specs.GanttText.{gantt_visit_word, bar_of}
use Rattle.run_gantt.proofs.Bars.{bar-shown, bar-text, columns-ascii, six_parts}
use Rattle.run_gantt.proofs.visits.Visits.push_machine.Goals as goal

pub push_columns-requires : goal.push_columns-requires
push_columns-requires c =
    let visits = get_or c.args.self.now c.args.machine [] in
    let shown = bar-shown _ c.push_visits.new.bar c.args.scale visits refl c.in_ok-push_visits.ensures.bar in
    columns-ascii c.push_visits.new.bar c.args.scale c.args.columns visits c.push_visits.array_long c.requires.columns shown

pub returns : goal.returns
returns c =
    let visits = get_or c.args.self.now c.args.machine [] in
    let shown = bar-shown _ c.push_visits.new.bar c.args.scale visits refl c.in_ok-push_visits.ensures.bar in
    let columns = bar-text c.push_visits.new.bar c.args.scale c.args.columns visits c.push_visits.array_long c.requires.columns shown in
    six_parts (string_bytes c.args.text.now)
    (codes "machine ") (machine_word c.args.names.now c.args.machine) (flat_map (gantt_visit_word c.args.names.now) visits) (codes "\nbar ") (bar_of c.args.scale c.args.columns visits) (codes "\n")
    (string_bytes c.push_str.new.self) (string_bytes c.push_machine_word.new.text) (string_bytes c.push_visits.new.text)
    (string_bytes c.push_str-2.new.self) (string_bytes c.push_columns.new.text) (string_bytes c.push_str-3.new.self)
    c.in_ok-push_str.ensures.bytes
    c.in_ok-push_machine_word.ensures
    c.in_ok-push_visits.ensures.text
    c.in_ok-push_str-2.ensures.bytes
    (c.in_ok-push_columns.ensures ∙ ap (λ (l : List ℕ). string_bytes c.push_str-2.new.self ++ l) columns)
    c.in_ok-push_str-3.ensures.bytes
