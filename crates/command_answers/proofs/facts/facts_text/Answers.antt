use Rattle.std.proofs.Common.{refl, arith}
use Rattle.shop_base.proofs.Bounds.{operations_of-le}
use Rattle.command_answers.specs.Facts.{facts_line}
use Rattle.command_answers.proofs.facts.facts_text.Goals as goal

pub overflow_add-jobs : goal.overflow_add-jobs
overflow_add-jobs c = omega (arith, operations_of-le _ c.jobs.ensures.sound, c.jobs.ensures.sound.counts.few_jobs)

pub returns : goal.returns
unfolding facts_line
returns c =
    rw (
      c.in_ok-push.ensures.items,
      c.in_ok-push_fact-5.ensures,
      c.in_ok-push_fact-4.ensures,
      c.in_ok-push_fact-3.ensures,
      c.in_ok-push_fact-2.ensures,
      c.in_ok-push_fact.ensures,
      c.new-text.ensures.items,
      c.work.ensures,
      c.operations-2.ensures,
      c.operations.ensures,
      c.from.ensures,
      c.machines.ensures.count,
      c.from-jobs.ensures,
      c.jobs.ensures.count,
    ) refl
