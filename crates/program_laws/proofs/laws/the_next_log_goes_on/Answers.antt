use Rattle.program_laws.proofs.NextLogs.{the_next_log_goes_on}
use Rattle.program_laws.proofs.laws.the_next_log_goes_on.Goals as goal

pub returns : goal.returns
returns c = the_next_log_goes_on c.what_is_left_needs_no_spare.ensures c.chapters_record_their_events.ensures c.chapters_are_whole_or_none.ensures
