use Rattle.clap.specs.Words.{new_app}
use Rattle.command_words.specs.CommandLine.{Describes}
use Rattle.command_words.proofs.words.command_line.on_instance.Goals as goal

pub returns : goal.returns
returns c =
    let begun : Describes (new_app c.args.name.now) c.about.result = record {
      app = rw c.about.ensures c.new.ensures.app;
      local = rw c.about.ensures c.new.ensures.local;
    } in
    let command = c.with_arg-command.ensures _ _ begun c.instance.ensures.rule c.instance.ensures.local in
    c.with_arg.ensures _ _ command c.file.ensures.rule c.file.ensures.local
