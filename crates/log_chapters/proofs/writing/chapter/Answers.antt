use Rattle.std.proofs.Common.{◌≡◌, ℕ, List, ◌++◌, option_copied, append_assoc}
use Rattle.event_lines.specs.EventLines.{entry_lines}
use Rattle.event_lines.specs.RunDigits.{plan_line}
use Rattle.log_chapters.specs.Chapters.{no_digits, file_lines, plan_text_lines, names_lines, number_lines}
use Rattle.log_chapters.proofs.writing.chapter.Goals as goal

-- seven texts, each written behind what there is
seven_parts : (a b c d e f g : List ℕ) → a ++ b ++ c ++ d ++ e ++ f ++ g ≡ a ++ (b ++ (c ++ (d ++ (e ++ (f ++ g)))))
seven_parts a b c d e f g = simp append_assoc

pub returns : goal.returns
returns c =
    let texts = c.args.texts.now in
    rw (
      c.in_ok-push_plan_line-2.ensures,
      c.in_ok-push_entries.ensures,
      c.in_ok-push_numbers.ensures,
      c.in_ok-push_names.ensures,
      c.in_ok-push_lines-2.ensures,
      c.in_ok-push_lines.ensures,
      c.in_ok-push_plan_line.ensures,
      c.new-text.ensures.items,
      c.no_digits-zeros.ensures,
    )
    (seven_parts (plan_line no_digits) (file_lines texts.file.now) (plan_text_lines texts.plan.now) (names_lines (option_copied texts.names)) (number_lines 0 c.args.origins.now) (entry_lines c.args.entries.now) (plan_line c.args.digits.now))
