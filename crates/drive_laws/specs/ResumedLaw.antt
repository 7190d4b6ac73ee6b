-- The laws of runs that were recovered.
use Rattle.std.specs.Prelude.{ℕ, List, ◌∷◌, ◌++◌, Bool, true, false, Option}
use Rattle.shop_base.specs.{declared.report.Report.Report, Plan.PlannedShop, Plan.IsWellShaped}
use Rattle.cell_tables.specs.{declared.claim.Claim.Claim, declared.entry.Entry.Entry, declared.entry.Entry.TheVariants.Report as ReportEntry}
use Rattle.cell_control.specs.{Claims.CanClaim, OnceLaw.NamedEnd, OnceLaw.ReportsEnd, OnceLaw.Names}
use Rattle.byte_streams.specs.Answering.{AnswerAll}
use Rattle.cell_drive.specs.{declared.protocol.Protocol.Protocol, AnswerText.DrivenCell}
use Rattle.cell_drive.specs.{OneRun.cell_after, ProtocolText.ProtocolAnswers}
use Rattle.cell_drive.specs.Resuming.{again_text, driven_so_far, IsRunToRest}
use Rattle.drive_laws.specs.VersionsLaw.{AreOfVersion1, IsPlainText, in_version}

-- so it is while lines are answered behind a run to rest in which it was reported
abbrev pub NothingOfALogIsAcceptedAgain : Type 0
NothingOfALogIsAcceptedAgain = (p : PlannedShop) (protocol : Protocol) (before after : List Entry) (report : Report) (lines : List (Option (List ℕ))) (number : ℕ) (text : List ℕ) (end : DrivenCell) (again : Claim) (ended : NamedEnd)
    → IsWellShaped p → IsRunToRest p (before ++ ReportEntry report ∷ after) → ReportsEnd p (cell_after p before) report ended
    → AnswerAll (ProtocolAnswers p protocol) (driven_so_far p (before ++ ReportEntry report ∷ after)) number lines text end → Names p again ended → CanClaim p end.cell again → ⊥

-- where the lines are those that version 1 has, what is written in version 1 is what is written in version 2 without what that adds, from the events that are written again on
abbrev pub ResumingOnlyAdds : Type 0
ResumingOnlyAdds = (p : PlannedShop) (max_gap : Option ℕ) (from : ℕ) (entries : List Entry) (late : List Bool) (lines : List (Option (List ℕ))) (text : List ℕ) (end : DrivenCell) → AreOfVersion1 lines
    → AnswerAll (ProtocolAnswers p (in_version true max_gap from)) (driven_so_far p entries) 1 lines text end
    → (other : List ℕ) × AnswerAll (ProtocolAnswers p (in_version false max_gap from)) (driven_so_far p entries) 1 lines other end
    × IsPlainText (again_text p (in_version true max_gap from) entries late ++ text) (again_text p (in_version false max_gap from) entries late ++ other)
