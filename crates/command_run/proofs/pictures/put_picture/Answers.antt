use Rattle.std.proofs.Common.{refl, []}
use Rattle.std.proofs.KnownBytes.{Appends-kept}
use Rattle.std.proofs.lemmas.List.{append-nil}
use Rattle.command_run.proofs.pictures.put_picture.Goals as goal

pub returns-in-Err-flush : goal.returns-in-Err-flush
returns-in-Err-flush g c =
    (refl, ([], record { out = c.args.picture.now; took = Appends-kept _ _ _ c.args.picture.now c.in-Ok.ensures.wrote c.in-Err-flush.ensures.written; whole = append-nil c.args.picture.now }), c.in-Err-flush.ensures.failed)
