use Rattle.command_run.specs.Streams.{errors_of}
use Rattle.command_run.proofs.Printing.{printed_by}
use Rattle.command_run.proofs.ending.print_line.Goals as goal

pub returns-clause-printed : goal.returns-clause-printed
returns-clause-printed g c =
    let seen = errors_of g.E.Sink in
    printed_by c.put_all.result _ (seen c.args.errors.now) (seen c.put_all.new.writer) c.put_all.ensures.wrote c.put_all.ensures.unfailed
