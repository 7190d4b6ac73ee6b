use Rattle.event_lines.proofs.Readings.{one_entry, one_report, one_cell_report, one_request, one_cell_request}
use Rattle.event_lines.proofs.laws.a_line_has_one_reading.Goals as goal

pub returns-clause-parsed : goal.returns-clause-parsed
returns-clause-parsed c = one_entry

pub returns-clause-sent : goal.returns-clause-sent
returns-clause-sent c = one_report

pub returns-clause-on_cells : goal.returns-clause-on_cells
returns-clause-on_cells c = one_cell_report

pub returns-clause-requested : goal.returns-clause-requested
returns-clause-requested c = one_request

pub returns-clause-requested_on_cells : goal.returns-clause-requested_on_cells
returns-clause-requested_on_cells c = one_cell_request
