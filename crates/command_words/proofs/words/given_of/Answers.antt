use Rattle.command_words.proofs.words.given_of.Goals as goal

pub returns : goal.returns
returns c = record {
  files = c.in_ok-files_of.ensures;
  instance = c.in_ok-text_of.ensures;
  after = c.in_ok-text_of-2.ensures;
  log = c.in_ok-text_of-3.ensures;
  names = c.in_ok-text_of-4.ensures;
}
