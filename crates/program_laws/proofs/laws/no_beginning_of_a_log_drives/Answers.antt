use Rattle.program_laws.proofs.NextLogs.{no_beginning_drives, no_beginning_is_revised}
use Rattle.program_laws.proofs.laws.no_beginning_of_a_log_drives.Goals as goal

pub returns-clause-drives : goal.returns-clause-drives
returns-clause-drives g c = no_beginning_drives c.chapters_are_whole_or_none.ensures g.T.Texts.gives

pub returns-clause-revised : goal.returns-clause-revised
returns-clause-revised g c = no_beginning_is_revised c.chapters_are_whole_or_none.ensures
