use Rattle.event_lines.proofs.WrittenWords.{what_is_written_is_read, numbered_lines_are_lines}
use Rattle.event_lines.proofs.EntryParses.{written_entries_parse, others_parse_none}
use Rattle.event_lines.proofs.laws.what_is_written_is_read.Goals as goal

pub returns-clause-words : goal.returns-clause-words
returns-clause-words c = what_is_written_is_read

pub returns-clause-numbered : goal.returns-clause-numbered
returns-clause-numbered c = numbered_lines_are_lines

pub returns-clause-parsed : goal.returns-clause-parsed
returns-clause-parsed c = written_entries_parse

pub returns-clause-passed_over : goal.returns-clause-passed_over
returns-clause-passed_over c = others_parse_none
