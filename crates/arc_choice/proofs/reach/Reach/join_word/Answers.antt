use Rattle.std.proofs.Common.{arith, length, ap}
use Rattle.std.proofs.lemmas.List.{get_or_read}
use Rattle.arc_choice.specs.Reach.{Order}
use Rattle.arc_choice.proofs.Reaching.{joined_at}
use Rattle.arc_choice.proofs.reach.Reach.join_word.Goals as goal

pub returns-clause-bits : goal.returns-clause-bits
returns-clause-bits c =
    let o : Order = record { nodes = c.self.inside.nodes; words = c.self.inside.words; bits = c.self.inside.bits.items } in
    let size = ap (λ (m : Order). length m.bits) c.self.view_is in
    joined_at o c.args.self.now c.self.invariant c.self.view_is c.args.from c.args.to c.args.word c.place-here.result c.place-there.result c.index_mut.result.now c.index-more.result.now
    c.requires.from c.requires.to c.requires.word c.place-here.ensures.place c.place-there.ensures.place
    (get_or_read o.bits _ _ (omega (arith, size, c.place-here.ensures.inside)) c.index_mut.ensures.value 0)
    (get_or_read o.bits _ _ (omega (arith, size, c.place-there.ensures.inside)) c.index-more.ensures 0)
