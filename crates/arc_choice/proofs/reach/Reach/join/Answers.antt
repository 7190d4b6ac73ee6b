use Rattle.std.proofs.Common.{arith, ◌∙◌}
use Rattle.arc_choice.specs.Reach.{HasBit}
use Rattle.arc_choice.proofs.Reaching.{word_more, whole_row}
use Rattle.arc_choice.proofs.reach.Reach.join.Goals as goal

pub returns-clause-bits : goal.returns-clause-bits
returns-clause-bits c =
    whole_row c.args.self.now c.loop-word.self c.args.from c.args.to c.loop-word.word (omega (arith, c.loop-word-test.false, c.word_count-word-end.ensures.wide)) c.loop-word.invariant.bits

pub loop-word-preserved : goal.loop-word-preserved
loop-word-preserved c = record {
  nodes = c.join_word.ensures.nodes ∙ c.loop-word.invariant.nodes;
  words = c.join_word.ensures.words ∙ c.loop-word.invariant.words;
  bits = word_more c.args.self.now.nodes c.args.from c.args.to c.loop-word.word (HasBit c.args.self.now) (HasBit c.loop-word.self) (HasBit c.join_word.new.self) c.requires.to c.loop-word.invariant.bits
      (λ a b in_a in_b. c.join_word.ensures.bits a b (omega (arith, in_a, c.loop-word.invariant.nodes)) (omega (arith, in_b, c.loop-word.invariant.nodes)));
}
