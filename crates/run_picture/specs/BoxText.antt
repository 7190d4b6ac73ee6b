-- The text of a box. Each part stands before what follows it.
use Rattle.std.specs.Prelude.{ℕ, ◌+◌, ◌*◌, ◌/◌, ◌%◌, nat_lt, nat_le, Bool, true, false, if◌then◌else◌, List, [], ◌∷◌, ◌++◌, codes, decimal}
use Rattle.run_picture.specs.Parts.{before}
use Rattle.people_names.specs.NameBooks.{NameBook}
use Rattle.people_names.specs.Words.{job_word as job_name}
use Rattle.run_picture.specs.Words.{width_of, job_word, machine_word, moment_word}
use Rattle.run_picture.specs.declared.drawn_box.BoxKind.{BoxKind}
use Rattle.run_picture.specs.declared.drawn_box.BoxKind.TheVariants.{Work, Wait, Clean}
use Rattle.run_picture.specs.declared.drawn_box.DrawnBox.{DrawnBox}
use Rattle.run_picture.specs.declared.box_parts.Edges.{Edges}
use Rattle.run_picture.specs.Axis.{x_at}
use Rattle.run_picture.specs.Frame.{top_of, bottom_of, foot_of}

-- where a box lies: from the place of its first moment to that of its last one, in its machine's row
abbrev pub edges_of : ℕ → DrawnBox → Edges
edges_of last drawn = record {
  left = x_at last drawn.from;
  right = x_at last drawn.to;
  top = top_of drawn.machine;
  bottom = bottom_of drawn.machine;
  foot = foot_of drawn.machine;
}

-- whether the job of a box is late
abbrev pub late_onto : Bool → List ℕ → List ℕ
late_onto true rest = before (codes " late" ∷ []) rest
late_onto false rest = rest

-- whether a box is so narrow, less than 20, that an outline would hide its colour
abbrev pub thin_onto : Edges → List ℕ → List ℕ
thin_onto edges rest = if nat_lt edges.right (edges.left + 20) then before (codes " thin" ∷ []) rest else rest

-- the class of a box: its kind, and the number of its job's colour, of which there are 24; a cleaning has none
abbrev pub class_onto : BoxKind → ℕ → List ℕ → List ℕ
class_onto Work job rest = before (codes "work c" ∷ decimal (job % 24) ∷ []) rest
class_onto Wait job rest = before (codes "wait c" ∷ decimal (job % 24) ∷ []) rest
class_onto Clean job rest = before (codes "clean" ∷ []) rest

-- the edge on the right, which is left out where what the box shows isn't over
abbrev pub edge_onto : Bool → List ℕ → List ℕ
edge_onto true rest = before (codes "Z" ∷ []) rest
edge_onto false rest = rest

-- the path along the edges
abbrev pub path_onto : Edges → Bool → List ℕ → List ℕ
path_onto edges over rest =
    before (codes "M" ∷ decimal edges.right ∷ codes " " ∷ decimal edges.top ∷ codes "H" ∷ decimal edges.left ∷ codes "V" ∷ decimal edges.bottom ∷ codes "H" ∷ decimal edges.right ∷ []) (edge_onto over rest)

abbrev pub kind_onto : BoxKind → List ℕ → List ℕ
kind_onto Work rest = before (codes "work" ∷ []) rest
kind_onto Wait rest = before (codes "wait" ∷ []) rest
kind_onto Clean rest = before (codes "clean" ∷ []) rest

-- the numbers of a box, and its kind
abbrev pub numbers_onto : DrawnBox → List ℕ → List ℕ
numbers_onto drawn rest =
    before (codes " data-job=\"" ∷ decimal drawn.job ∷ codes "\" data-machine=\"" ∷ decimal drawn.machine ∷ codes "\" data-from=\"" ∷ decimal drawn.from ∷ codes "\" data-to=\"" ∷ decimal drawn.to ∷ codes "\" data-kind=\"" ∷ []) (kind_onto drawn.kind (codes "\"" ++ rest))

-- whether what a box shows is over, in words
abbrev pub over_onto : Bool → List ℕ → List ℕ
over_onto true rest = rest
over_onto false rest = before (codes ", not over" ∷ []) rest

module _ (names : NameBook) where
  -- what a box shows, in words
  abbrev pub name_onto : BoxKind → ℕ → ℕ → List ℕ → List ℕ
  name_onto Work job machine rest = before (codes "job " ∷ job_word names job ∷ codes " on machine " ∷ machine_word names machine ∷ []) rest
  name_onto Wait job machine rest = before (codes "job " ∷ job_word names job ∷ codes " waits on machine " ∷ machine_word names machine ∷ []) rest
  name_onto Clean job machine rest = before (codes "machine " ∷ machine_word names machine ∷ codes " cleaned after job " ∷ job_word names job ∷ []) rest

  abbrev pub title_onto : DrawnBox → List ℕ → List ℕ
  title_onto drawn rest =
      name_onto drawn.kind drawn.job drawn.machine (before (codes " from " ∷ moment_word names drawn.from ∷ codes " to " ∷ moment_word names drawn.to ∷ []) (over_onto drawn.over rest))

  -- the job in the middle of a box, in the ink of its colour
  abbrev pub label_onto : ℕ → Edges → List ℕ → List ℕ
  label_onto job edges rest =
      before (codes "<text class=\"t" ∷ decimal (job % 24) ∷ codes "\" x=\"" ∷ decimal ((edges.left + edges.right) / 2) ∷ codes "\" y=\"" ∷ decimal edges.foot ∷ codes "\">" ∷ job_word names job ∷ codes "</text>" ∷ []) rest

  -- whether there is room for the job between the edges: 70 for each byte of its name, more for a broad letter, and 40
  abbrev pub has_room : ℕ → Edges → Bool
  has_room job edges = nat_le (edges.left + (40 + width_of 70 (job_name names job))) edges.right

  -- the job in the box of an operation, where there is room
  abbrev pub label_if_room : BoxKind → ℕ → Edges → List ℕ → List ℕ
  label_if_room Work job edges rest = if has_room job edges then label_onto job edges rest else rest
  label_if_room Wait job edges rest = rest
  label_if_room Clean job edges rest = rest

  -- the text of a box between these edges
  unfoldable pub box_text_at : Edges → DrawnBox → List ℕ
  box_text_at edges drawn =
      codes "<path class=\"" ++ class_onto drawn.kind drawn.job (late_onto drawn.late (thin_onto edges (codes "\" d=\"" ++ path_onto edges drawn.over (codes "\"" ++ numbers_onto drawn (
      codes "><title>" ++ title_onto drawn (codes "</title></path>" ++ label_if_room drawn.kind drawn.job edges (codes "\n")))))))

  -- the text of a box
  abbrev pub box_text : ℕ → DrawnBox → List ℕ
  box_text last drawn = box_text_at (edges_of last drawn) drawn
