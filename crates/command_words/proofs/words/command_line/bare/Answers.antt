use Rattle.std.proofs.Common.{ap, true}
use Rattle.clap.specs.Words.{App}
use Rattle.command_words.proofs.words.command_line.bare.Goals as goal

pub returns : goal.returns
returns c = record {
  app = rw (c.disable_help_subcommand.ensures, c.after_help.ensures, c.about.ensures, c.version.ensures)
      (ap (λ (a : App). record a { top = record a.top { disable_help_subcommand = true; has_version = true } }) c.new.ensures.app);
  local = rw (c.disable_help_subcommand.ensures, c.after_help.ensures, c.about.ensures, c.version.ensures) c.new.ensures.local;
}
