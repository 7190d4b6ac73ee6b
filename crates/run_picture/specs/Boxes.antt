-- The boxes of a visit.
use Rattle.std.specs.Prelude.{ℕ, nat_lt, Bool, true, false, if◌then◌else◌, List, [], ◌∷◌, ◌++◌, Option, None, Some}
use Rattle.run_picture.specs.declared.visit.Cleaned.{Cleaned}
use Rattle.run_picture.specs.declared.visit.Cleaned.TheVariants.{Never, NotYet, By}
use Rattle.run_picture.specs.declared.visit.DrawnVisit.{DrawnVisit}
use Rattle.run_picture.specs.declared.drawn_box.BoxKind.TheVariants.{Work, Wait, Clean}
use Rattle.run_picture.specs.declared.drawn_box.DrawnBox.{DrawnBox}
use Rattle.run_picture.specs.declared.late_leaving.LateLeaving.{LateLeaving}
use Rattle.run_picture.specs.Late.{is_late}

-- when something ends: as it is known, else at the last moment
abbrev pub end_of : ℕ → Option ℕ → ℕ
end_of last None = last
end_of last (Some t) = t

-- its end is known
abbrev pub is_known : Option ℕ → Bool
is_known None = false
is_known (Some t) = true

-- the box of a visit's operation: from the entry of the job to the operation's end; it is late where the job is
abbrev pub work_box : ℕ → Bool → DrawnVisit → DrawnBox
work_box last late visit = record {
  kind = Work;
  job = visit.job;
  machine = visit.machine;
  from = visit.enter;
  to = end_of last visit.finish;
  over = is_known visit.finish;
  late = late;
}

-- the box of a wait that begins as the operation ends: to the leaving of the job; none where no time is between
abbrev pub wait_from : ℕ → Bool → DrawnVisit → Option ℕ → Option DrawnBox
wait_from last late visit None = None
wait_from last late visit (Some from) =
    if nat_lt from (end_of last visit.leave)
    then Some (record { kind = Wait; job = visit.job; machine = visit.machine; from = from; to = end_of last visit.leave; over = is_known visit.leave; late = late })
    else None

abbrev pub wait_box : ℕ → Bool → DrawnVisit → Option DrawnBox
wait_box last late visit = wait_from last late visit visit.finish

-- the box of a cleaning that begins as the job leaves, which is never late
abbrev pub clean_from : ℕ → DrawnVisit → Option ℕ → Cleaned → Option DrawnBox
clean_from last visit None cleaned = None
clean_from last visit (Some from) Never = None
clean_from last visit (Some from) NotYet = Some (record { kind = Clean; job = visit.job; machine = visit.machine; from = from; to = last; over = false; late = false })
clean_from last visit (Some from) (By end) = Some (record { kind = Clean; job = visit.job; machine = visit.machine; from = from; to = end; over = true; late = false })

abbrev pub clean_box : ℕ → DrawnVisit → Option DrawnBox
clean_box last visit = clean_from last visit visit.leave visit.cleaned

-- a box, if there is one
abbrev pub if_any : Option DrawnBox → List DrawnBox
if_any None = []
if_any (Some one) = one ∷ []

-- the boxes of a visit: that of its operation, that of its wait and that of the cleaning after it; the first two are late where its job is
abbrev pub visit_boxes : ℕ → Bool → DrawnVisit → List DrawnBox
visit_boxes last late visit = work_box last late visit ∷ if_any (wait_box last late visit) ++ if_any (clean_box last visit)

abbrev pub boxes_of : ℕ → List (Option LateLeaving) → DrawnVisit → List DrawnBox
boxes_of last late visit = visit_boxes last (is_late late visit.job) visit
