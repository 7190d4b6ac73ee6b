use Rattle.std.proofs.Common.{◌∙◌, is_some}
use Rattle.std.specs.Option.{option_copied}
use Rattle.command_answers.specs.Chapters.{printed_names}
use Rattle.command_answers.proofs.ChapterTexts.{chapter_by, still_there}
use Rattle.command_answers.proofs.chapters.chapter_answer.Goals as goal

pub returns : goal.returns
returns c = record {
  file = c.in_ok-file.file;
  is_file = rw (← c.shop.ensures.same) c.in_ok-file.ensures;
  plan = c.in_ok-plan.plan;
  is_plan = rw (← c.plan.ensures.same) c.in_ok-plan.ensures;
  text = chapter_by c.args.wanted.changes.now c.args.next.now c.in_ok-answer.field-0.text.items c.deref.result.now c.deref-2.result.now c.in_ok-file.file.text.items c.in_ok-plan.plan.text.items
      (option_copied c.lent.result) (printed_names c.args.names.now (is_some (option_copied c.args.wanted.names))) c.in_ok-answer.ensures.0 c.deref.ensures.value c.deref-2.ensures.value
      (c.lent.ensures ∙ rw (c.is_some.ensures, still_there c.args.wanted.names) at c.in_ok-names.ensures);
  good = c.in_ok-answer.ensures.1;
}
