use Rattle.std.proofs.{Common.{List, Err, ap, ◌∙◌, subst}, lemmas.Result.err_from_is_err_and}
use Rattle.byte_streams.specs.Lent.{streams_of}
use Rattle.plan_verifier.specs.Accepted.{VerifiedPlan}
use Rattle.cell_drive.specs.{declared.protocol.Protocol.Protocol, Protocols.plain_from, ProtocolCells.AreDrivesIn}
use Rattle.cell_drive.proofs.OneText.{undriven_hub}
use Rattle.cell_drive.proofs.hub.drive_hub.Goals as goal

pub returns-clause-driven : goal.returns-clause-driven
returns-clause-driven g c =
    let before = streams_of g.R.Source g.W.Sink g.W.BufferedSink.pending c.args.reader.now c.args.writer.now in
    let after = streams_of g.R.Source g.W.Sink g.W.BufferedSink.pending c.drive_hub_in.new.reader c.drive_hub_in.new.writer in
    subst (λ (plans : List VerifiedPlan). AreDrivesIn (plain_from 0) plans before after c.drive_hub_in.result) c.in_ok-cells.ensures
    (subst (λ (protocol : Protocol). AreDrivesIn protocol c.in_ok-cells.cells.items before after c.drive_hub_in.result) c.plain.ensures c.drive_hub_in.ensures.driven)

pub returns-in_err-cells-clause-driven : goal.returns-in_err-cells-clause-driven
returns-in_err-cells-clause-driven g c =
    let p = err_from_is_err_and c.from_residual.result c.from_residual.ensures.1 in undriven_hub c.args.cells.items (plain_from 0) _ _ (p.1 ∙ ap Err p.2)
