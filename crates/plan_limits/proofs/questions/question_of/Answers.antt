use Rattle.arc_choice.specs.declared.question.Question.{Question}
use Rattle.plan_limits.proofs.Asks.{question_sound, question_asks}
use Rattle.plan_limits.proofs.questions.question_of.Goals as goal

pub returns-clause-sound : goal.returns-clause-sound
returns-clause-sound g c =
    let q : Question = record { first = c.in_ok-first.first; last = c.in_ok-last.last; arcs = c.in_ok-arcs.arcs; pairs = c.in_ok-pairs.pairs } in
    question_sound c.args.cell.now.plan c.args.cell.now.cell c.args.present c.args.nodes.now c.args.limits.now q c.requires.numbered c.requires.few
    c.in_ok-first.ensures.count c.in_ok-last.ensures.count c.in_ok-first.ensures.first (c.in_ok-last.ensures.last c.args.present) c.in_ok-arcs.ensures.arcs (rw c.shaped.ensures.plan at c.in_ok-pairs.ensures.pairs)

pub returns-clause-asks : goal.returns-clause-asks
returns-clause-asks g c =
    let q : Question = record { first = c.in_ok-first.first; last = c.in_ok-last.last; arcs = c.in_ok-arcs.arcs; pairs = c.in_ok-pairs.pairs } in
    question_asks c.args.cell.now.plan c.args.cell.now.cell c.args.present c.args.nodes.now c.args.limits.now q c.requires.numbered c.requires.few
    c.in_ok-first.ensures.count c.in_ok-last.ensures.count c.in_ok-first.ensures.first (c.in_ok-last.ensures.last c.args.present) c.in_ok-arcs.ensures.arcs (rw c.shaped.ensures.plan at c.in_ok-pairs.ensures.pairs)
