-- The text of a visit's boxes.
use Rattle.std.proofs.Common.{◌≡◌, ℕ, Bool, Option, List, [], ◌∷◌, ◌++◌, sym, ap, ◌∙◌, append-nil}
use Rattle.std.specs.List.{flat_map}
use Rattle.std.proofs.lemmas.List.Concat.{flat_map-cons, flat_map-append}
use Rattle.people_names.specs.NameBooks.{NameBook}
use Rattle.run_picture.specs.declared.visit.DrawnVisit.{DrawnVisit}
use Rattle.run_picture.specs.declared.drawn_box.DrawnBox.{DrawnBox}
use Rattle.run_picture.specs.declared.late_leaving.LateLeaving.{LateLeaving}
use Rattle.run_picture.specs.Late.{is_late}
use Rattle.run_picture.specs.Boxes.{work_box, wait_box, clean_box, visit_boxes, if_any}
use Rattle.run_picture.specs.BoxText.{box_text}
use Rattle.run_picture.specs.PictureText.{visit_text}

-- the texts of its boxes, one after another
pub visit_parts : (names : NameBook) (last : ℕ) (late : List (Option LateLeaving)) (visit : DrawnVisit) (of_late : Bool) → of_late ≡ is_late late visit.job
    → box_text names last (work_box last of_late visit) ++ (flat_map (box_text names last) (if_any (wait_box last of_late visit)) ++ flat_map (box_text names last) (if_any (clean_box last visit))) ≡ visit_text names last late visit
unfolding visit_text
visit_parts names last late visit of_late is =
    let one = box_text names last in
    let waits = if_any (wait_box last of_late visit) in
    let cleans = if_any (clean_box last visit) in
    sym (flat_map-cons one (work_box last of_late visit) (waits ++ cleans) ∙ ap (λ (l : List ℕ). one (work_box last of_late visit) ++ l) (flat_map-append one waits cleans))
    ∙ ap (λ (b : Bool). flat_map one (visit_boxes last b visit)) is

-- the text of one box alone
pub one_box : (text : DrawnBox → List ℕ) (drawn : DrawnBox) → text drawn ≡ flat_map text (drawn ∷ [])
one_box text drawn = sym (flat_map-cons text drawn [] ∙ append-nil (text drawn))
