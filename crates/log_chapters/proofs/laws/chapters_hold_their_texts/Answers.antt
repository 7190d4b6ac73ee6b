use Rattle.log_chapters.proofs.TakenOut.{chapters_hold_their_texts-holds}
use Rattle.log_chapters.proofs.laws.chapters_hold_their_texts.Goals as goal

pub returns : goal.returns
returns c = chapters_hold_their_texts-holds
