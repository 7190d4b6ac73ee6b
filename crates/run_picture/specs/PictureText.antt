-- The text of a picture.
use Rattle.std.specs.Prelude.{◌≡◌, ℕ, zero, suc, ◌+◌, ◌/◌, Bool, true, false, List, [], ◌∷◌, ◌++◌, flat_map, codes, decimal, Option, None, Some}
use Rattle.std.specs.List.{range_with_len}
use Rattle.run_picture.specs.Parts.{before}
use Rattle.people_names.specs.NameBooks.{NameBook}
use Rattle.run_picture.specs.Words.{machine_word, moment_word}
use Rattle.run_picture.specs.declared.visit.DrawnVisit.{DrawnVisit}
use Rattle.run_picture.specs.declared.head.Head.{Head}
use Rattle.run_picture.specs.declared.head.Head.TheVariants.{Accepted, Late, Log}
use Rattle.run_picture.specs.declared.head.Sheet.{Sheet}
use Rattle.run_picture.specs.declared.late_leaving.LateLeaving.{LateLeaving}
use Rattle.run_picture.specs.Axis.{x_at, AreTicks}
use Rattle.run_picture.specs.Frame.{bottom_of, foot_of, rows_end, height_for, left_margin}
use Rattle.run_picture.specs.Boxes.{boxes_of}
use Rattle.run_picture.specs.BoxText.{box_text}

-- how texts, outlines and kinds of boxes are drawn
unfoldable pub style_text : List ℕ
style_text = codes "<style>text{font:110px sans-serif;fill:#222;text-anchor:middle;pointer-events:none}.row{text-anchor:end}.head{text-anchor:start;font-weight:bold}path{stroke:#222;stroke-width:5}.paper{fill:#fff;stroke:none}.line{fill:none;stroke:#ccc}.wait{fill-opacity:.35}.clean{fill:#c8c8c8;color:#c8c8c8}.thin{stroke:currentColor}.late{stroke:#d00;stroke-width:18}.mark{fill:#d00;stroke:#d00;stroke-width:18}.now{fill:none;stroke:#06c;stroke-width:18}\n"

-- the colours of jobs, and the ink of their numbers
unfoldable pub colour_text : List ℕ
colour_text = codes ".c0{fill:#3399ff;color:#3399ff}.c1{fill:#bbaa88;color:#bbaa88}.c2{fill:#227722;color:#227722}.c3{fill:#bbeeff;color:#bbeeff}.c4{fill:#775577;color:#775577}.c5{fill:#999922;color:#999922}.c6{fill:#88ffcc;color:#88ffcc}.c7{fill:#3366cc;color:#3366cc}.c8{fill:#bb99bb;color:#bb99bb}.c9{fill:#446655;color:#446655}.c10{fill:#bbdd66;color:#bbdd66}.c11{fill:#998888;color:#998888}.c12{fill:#ff7766;color:#ff7766}.c13{fill:#22aa99;color:#22aa99}.c14{fill:#eebbaa;color:#eebbaa}.c15{fill:#8888cc;color:#8888cc}.c16{fill:#55aa55;color:#55aa55}.c17{fill:#ee7799;color:#ee7799}.c18{fill:#aabbdd;color:#aabbdd}.c19{fill:#996666;color:#996666}.c20{fill:#ffdd99;color:#ffdd99}.c21{fill:#22bbee;color:#22bbee}.c22{fill:#bb4499;color:#bb4499}.c23{fill:#bb3355;color:#bb3355}.t2,.t4,.t7,.t9,.t19,.t22,.t23{fill:#fff}</style>\n"

-- the left edge of a picture that goes so far to the left of 0
abbrev pub left_edge : ℕ → List ℕ
left_edge zero = codes "0"
left_edge (suc margin) = codes "-" ++ decimal (suc margin)

-- how large the picture of so many machines is
unfoldable pub size_text : ℕ → ℕ → List ℕ
size_text margin machines =
    before (codes "<svg xmlns=\"http://www.w3.org/2000/svg\" width=\"" ∷ decimal ((12000 + margin) / 10) ∷ codes "\" height=\"" ∷ decimal (height_for machines / 10) ∷ codes "\" viewBox=\"" ∷ left_edge margin ∷ codes " 0 " ∷ decimal (12000 + margin) ∷ codes " " ∷ decimal (height_for machines) ∷ []) (codes "\">\n")

-- its ground, and what the rows are
unfoldable pub ground_text : ℕ → ℕ → List ℕ
ground_text margin machines =
    before (codes "<path class=\"paper\" d=\"M" ∷ left_edge margin ∷ codes " 0H12000V" ∷ decimal (height_for machines) ∷ codes "H" ∷ left_edge margin ∷ []) (codes "Z\"/>\n<text class=\"row\" x=\"600\" y=\"370\">machine</text>\n")

-- whether the run of a log has ended, in words
abbrev pub end_word : Bool → List ℕ
end_word true = codes " complete"
end_word false = codes " partial"

-- what stands above the rows, in words: `accepted makespan 349`, `late by 15`, `log last 55 complete`
abbrev pub head_words : Head → List ℕ
head_words (Accepted makespan) = codes "accepted makespan " ++ decimal makespan
head_words (Late by) = codes "late by " ++ decimal by
head_words (Log last complete) = codes "log last " ++ decimal last ++ end_word complete

unfoldable pub words_text : Head → List ℕ
words_text head = before (codes "<text class=\"head\" x=\"700\" y=\"130\">" ∷ head_words head ∷ []) (codes "</text>\n")

-- a moment on the axis: a line through all rows, and the moment above them
unfoldable pub moment_text : NameBook → ℕ → ℕ → ℕ → List ℕ
moment_text names machines last t =
    before (codes "<path class=\"line\" d=\"M" ∷ decimal (x_at last t) ∷ codes " 330V" ∷ decimal (rows_end machines) ∷ codes "\"/><text x=\"" ∷ decimal (x_at last t) ∷ codes "\" y=\"290\">" ∷ moment_word names t ∷ []) (codes "</text>\n")

-- machine m before its row
unfoldable pub row_text : NameBook → ℕ → List ℕ
row_text names m = before (codes "<text class=\"row\" x=\"600\" y=\"" ∷ decimal (foot_of m) ∷ codes "\">" ∷ machine_word names m ∷ []) (codes "</text>\n")

-- the boxes of a visit
unfoldable pub visit_text : NameBook → ℕ → List (Option LateLeaving) → DrawnVisit → List ℕ
visit_text names last late visit = flat_map (box_text names last) (boxes_of last late visit)

-- the mark of a late leaving: a flag, in the row of the machine that the job leaves
unfoldable pub mark_text : ℕ → Option LateLeaving → List ℕ
mark_text last None = []
mark_text last (Some leaving) =
    before (codes "<path class=\"mark\" d=\"M" ∷ decimal (x_at last leaving.at) ∷ codes " " ∷ decimal (bottom_of leaving.machine) ∷ []) (codes "v-220l90 45l-90 45\"/>\n")

-- the line through all rows at the present moment, if there is one
unfoldable pub present_text : ℕ → ℕ → Option ℕ → List ℕ
present_text machines last None = []
present_text machines last (Some t) =
    before (codes "<path class=\"now\" d=\"M" ∷ decimal (x_at last t) ∷ codes " 330V" ∷ decimal (rows_end machines) ∷ []) (codes "\"/>\n")

-- what stands before the axis, of a picture that goes so far to the left of 0
unfoldable pub frame_text : ℕ → ℕ → Head → List ℕ
frame_text margin machines head = before (size_text margin machines ∷ style_text ∷ colour_text ∷ ground_text margin machines ∷ []) (words_text head)

module _ (names : NameBook) where
  -- the moments that the axis names
  abbrev pub axis_text : ℕ → ℕ → List ℕ → List ℕ
  axis_text machines last ticks = flat_map (moment_text names machines last) ticks

  abbrev pub rows_text : ℕ → List ℕ
  rows_text machines = flat_map (row_text names) (range_with_len 0 machines)

  abbrev pub visits_text : ℕ → List (Option LateLeaving) → List DrawnVisit → List ℕ
  visits_text last late visits = flat_map (visit_text names last late) visits

abbrev pub marks_text : ℕ → List (Option LateLeaving) → List ℕ
marks_text last late = flat_map (mark_text last) late

-- the picture of visits, with marks at late leavings, whose axis names these moments
abbrev pub picture_text : NameBook → Sheet → List DrawnVisit → List (Option LateLeaving) → List ℕ → List ℕ
picture_text names sheet visits late ticks =
    before (frame_text (left_margin names sheet.machines) sheet.machines sheet.head ∷ axis_text names sheet.machines sheet.last ticks ∷ rows_text names sheet.machines ∷ visits_text names sheet.last late visits ∷ marks_text sheet.last late ∷ present_text sheet.machines sheet.last sheet.present ∷ []) (codes "</svg>\n")

-- the picture of visits, with these names, of which those of late jobs are marked
pub record IsPicture (names : NameBook) (sheet : Sheet) (visits : List DrawnVisit) (late : List (Option LateLeaving)) (text : List ℕ) : Type 0 where
  pub ticks : List ℕ
  pub are_ticks : AreTicks names.clock sheet.last ticks
  pub is : text ≡ picture_text names sheet visits late ticks
