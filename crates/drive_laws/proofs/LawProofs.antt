-- The proofs of each law that has several clauses.
use Rattle.cell_drive.proofs.{CutLogs.{a_cut_log_has_its_orders, a_cut_log_is_recovered}, ReplayLines.plain_replay}
use Rattle.cell_drive.proofs.{Sessions.a_session_answers_so, OneText.{one_answer_text, one_text_for_lines}}
use Rattle.drive_laws.proofs.GoneOnAsOne.{it_is_recovered_as_one, it_is_one_so_far, the_first_events_have_their_orders}
use Rattle.drive_laws.proofs.LeftOut.{only_clean_machines_are_left_out, only_gone_jobs_are_left_out}
use Rattle.drive_laws.proofs.ResumedOnce.{nothing_of_a_log_is_accepted_again, nothing_of_a_run_is_claimed_again, a_run_refuses_copies, a_run_that_goes_on_refuses_copies}
use Rattle.drive_laws.proofs.Resumes.{what_was_resumed_is_recovered, what_was_driven_has_its_orders, what_was_driven_is_recovered}
use Rattle.drive_laws.proofs.SentTruly.{a_driven_cell_orders_rightly, a_run_that_goes_on_orders_rightly, each_cell_orders_rightly}
use Rattle.drive_laws.proofs.SettledCuts.{it_is_recoverable, it_is_recovered_with_its_orders}
use Rattle.drive_laws.proofs.ShortLines.{late_lines_are_short, refusals_are_short, state_lines_are_short}
use Rattle.drive_laws.proofs.ShortNumbers.{standings_are_short, details_are_short, line_numbers_are_short, overdue_is_short}
use Rattle.drive_laws.proofs.Versions.{version_2_only_adds, version_2_only_adds_for_cells}
use Rattle.drive_laws.proofs.{OnlyAdds.resuming_only_adds, Plainly.{plainly_as_ever, plainly_as_ever_for_cells}}
use Rattle.drive_laws.proofs.{ReportLines.each_report_has_a_line, SameReports.the_same_reports_of_a_cell}
use Rattle.drive_laws.proofs.OrderedRightly.{nothing_is_ordered_wrongly}

pub ruleset of_a_cut_log_has_its_orders = (a_cut_log_has_its_orders, what_was_driven_has_its_orders, it_is_recoverable, it_is_recovered_with_its_orders)

pub ruleset of_a_cut_log_is_recovered = (a_cut_log_is_recovered, what_was_driven_is_recovered, what_was_resumed_is_recovered)

pub ruleset of_a_driven_run_goes_on_as_one = (it_is_recovered_as_one, it_is_one_so_far, the_first_events_have_their_orders)

pub ruleset of_a_state_leaves_nothing_out = (only_gone_jobs_are_left_out, only_clean_machines_are_left_out)

pub ruleset of_copies_are_refused = (a_run_refuses_copies, a_run_that_goes_on_refuses_copies)

pub ruleset of_lines_of_version_2_are_short = (state_lines_are_short, refusals_are_short, late_lines_are_short, standings_are_short, details_are_short, overdue_is_short, line_numbers_are_short)

pub ruleset of_nothing_is_accepted_twice = (nothing_of_a_log_is_accepted_again, nothing_of_a_run_is_claimed_again)

pub ruleset of_nothing_is_ordered_wrongly = (nothing_is_ordered_wrongly, a_driven_cell_orders_rightly, a_run_that_goes_on_orders_rightly, each_cell_orders_rightly)

pub ruleset of_one_answer_text = (one_answer_text, one_text_for_lines, a_session_answers_so)

pub ruleset of_plainly_as_ever = (plainly_as_ever, plainly_as_ever_for_cells, plain_replay)

pub ruleset of_version_2_only_adds = (version_2_only_adds, resuming_only_adds, version_2_only_adds_for_cells, the_same_reports_of_a_cell, each_report_has_a_line)
