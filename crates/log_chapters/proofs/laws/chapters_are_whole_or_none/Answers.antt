use Rattle.log_chapters.proofs.Beginnings.{chapters_are_whole_or_none-holds}
use Rattle.log_chapters.proofs.laws.chapters_are_whole_or_none.Goals as goal

pub returns : goal.returns
returns c = chapters_are_whole_or_none-holds
