use Rattle.std.proofs.Common.{arith, ◌%◌, length, ap}
use Rattle.std.proofs.lemmas.List.{get_or_read}
use Rattle.std.proofs.lemmas.Nat.Bits.{bit_at_set_same, bit_at_set_other}
use Rattle.arc_choice.specs.Reach.{Order}
use Rattle.arc_choice.proofs.Reaching.{owned_at}
use mir.Syntax.{w64}
use Rattle.arc_choice.proofs.reach.Reach.own.Goals as goal

pub returns-clause-bits : goal.returns-clause-bits
returns-clause-bits c =
    let o : Order = record { nodes = c.self.inside.nodes; words = c.self.inside.words; bits = c.self.inside.bits.items } in
    let size = ap (λ (m : Order). length m.bits) c.self.view_is in
    owned_at o c.args.self.now c.self.invariant c.self.view_is c.args.node c.place_of-place.result c.index_mut.result.now _
    c.requires c.place_of-place.ensures.place
    (get_or_read o.bits _ _ (omega (arith, size, c.place_of-place.ensures.inside)) c.index_mut.ensures.value 0)
    (bit_at_set_same w64 c.index_mut.result.now (c.args.node % 64) (omega arith))
    (λ i other. bit_at_set_other w64 c.index_mut.result.now (c.args.node % 64) (omega arith) i other)
