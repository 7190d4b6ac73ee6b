use Rattle.cell_drive.proofs.OneText.{one_cells_text, one_cells_text_for_lines}
use Rattle.drive_laws.proofs.laws.one_answer_text_of_cells.Goals as goal

pub returns-clause-whole : goal.returns-clause-whole
returns-clause-whole c = one_cells_text

pub returns-clause-lines : goal.returns-clause-lines
returns-clause-lines c = one_cells_text_for_lines
