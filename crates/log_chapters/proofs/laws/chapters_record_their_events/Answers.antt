use Rattle.log_chapters.proofs.Recorded.{chapters_record_their_events-holds}
use Rattle.log_chapters.proofs.laws.chapters_record_their_events.Goals as goal

pub returns : goal.returns
returns c = chapters_record_their_events-holds
