use Rattle.std.proofs.Common.{sym, ◌∙◌}
use Rattle.orlib_read.proofs.Parts.{before_some, after_some, before_none, after_none}
use Rattle.orlib_read.proofs.words.split_around.Goals as goal

pub returns-in-Some-clause-before : goal.returns-in-Some-clause-before
returns-in-Some-clause-before c = λ ends h. before_some ends c.args.bytes.now c.in-Some.place (sym h ∙ c.in-Some.is)

pub returns-in-Some-clause-after : goal.returns-in-Some-clause-after
returns-in-Some-clause-after c = λ ends h. after_some ends c.args.bytes.now c.in-Some.place (sym h ∙ c.in-Some.is)

pub returns-in-None-clause-before : goal.returns-in-None-clause-before
returns-in-None-clause-before c = λ ends h. before_none ends c.args.bytes.now (sym h ∙ c.in-None.is)

pub returns-in-None-clause-after : goal.returns-in-None-clause-after
returns-in-None-clause-after c = λ ends h. after_none ends c.args.bytes.now (sym h ∙ c.in-None.is)
