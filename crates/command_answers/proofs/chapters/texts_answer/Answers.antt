use Rattle.std.proofs.Common.{◌∙◌, refl}
use Rattle.std.specs.Option.{option_copied}
use Rattle.command_answers.proofs.ChapterTexts.{chapter_of}
use Rattle.command_answers.proofs.chapters.texts_answer.Goals as goal

pub returns : goal.returns
returns c = (
  chapter_of c.args.changes.now c.args.next.now c.in_ok-text.text.items c.args.texts.file.now c.args.texts.plan.now (option_copied c.args.texts.names) c.deref.result.now c.deref-2.result.now
      c.in_ok-digits.digits c.in_ok-text.ensures (c.deref.ensures.value ∙ c.in_ok-origins.ensures) c.deref-2.ensures.value (rw (c.shop.ensures.same, c.plan.ensures.same) at c.in_ok-digits.ensures.is),
  refl,
)
