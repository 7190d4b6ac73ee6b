use Rattle.std.proofs.Common.{rules, ◌≡◌, ◌++◌, ◌∙◌, length, take, arith, length-append}
use Rattle.std.proofs.lemmas.List.{length-take-le}
use Rattle.std.proofs.KnownBytes.{Consumes-trans}
use Rattle.command_run.proofs.input.read_pieces.Goals as goal

pub returns-then-count-left : goal.returns-then-count-left
returns-then-count-left g c =
    let piece = take c.in-Ok.count c.get.new.room in
    let longer = length-append c.reads.text.items piece in
    let piece_length = length-take-le c.in-Ok.count c.get.new.room c.in-Ok.ensures.count in
    let so_far = c.reads.invariant.count in
    let past = c.if-count-left.true in
    let few = c.in-Ok.ensures.count in
    let same : length c.get.new.room ≡ length c.reads.room = search rules in
    let fits = c.reads.invariant.piece in
    (c.reads.text.items ++ piece, Consumes-trans _ _ _ _ _ c.reads.invariant.was_read c.in-Ok.ensures.given.0, omega (arith, longer, piece_length, so_far, past), omega (arith, longer, piece_length, so_far, few, same, fits), c.in-Ok.ensures.unfailed ∙ c.reads.invariant.unfailed)
