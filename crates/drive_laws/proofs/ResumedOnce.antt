-- What was reported in a run isn't accepted again, where the run goes on either; nor are copies of it, but where they may be.
use Rattle.std.proofs.Common.{◌≡◌, List, ◌∷◌, ◌++◌, sym, ap, ◌∙◌, subst, append_assoc}
use Rattle.shop_base.specs.{Cell.{Cell, start}, Run.{Event, Reported, after_all, IsRun, ends_in}}
use Rattle.shop_base.proofs.{ControlledRuns.{events_join, after_all_join}, Keeping.run-sound}
use Rattle.cell_tables.specs.{Claims.claimed, declared.entry.Entry.{TheVariants.Report as ReportEntry}, Events.events_of}
use Rattle.cell_control.{specs.{Claims.CanClaim, OnceLaw.copy_at}, proofs.{ClaimReasons.claim_can, Once.{once, claim_reports, copy_refused}}}
use Rattle.run_log.proofs.Audits.{events-join}
use Rattle.cell_drive.specs.{OneRun.cell_after, Resuming.driven_so_far}
use Rattle.cell_drive.specs.ProtocolLaw.{NothingOfARunIsClaimedAgain}
use Rattle.drive_laws.specs.{ResumedLaw.NothingOfALogIsAcceptedAgain, CopiesLaw.{ARunRefusesCopies, ARunThatGoesOnRefusesCopies}}
use Rattle.drive_laws.proofs.{Resumes.rests_on_course, AcceptedOnce.answers_parsed}

pub nothing_of_a_run_is_claimed_again : NothingOfARunIsClaimedAgain
nothing_of_a_run_is_claimed_again p before after report again ended shaped run parses names can =
    let whole : events_of (before ++ ReportEntry report ∷ after) ≡ events_of before ++ Reported report ∷ events_of after = events-join before (ReportEntry report ∷ after) in
    let can_then : CanClaim p (after_all p (start p) (events_of before ++ Reported report ∷ events_of after)) again =
    subst (λ (es : List Event). CanClaim p (after_all p (start p) es) again) whole can in
    once p (events_of before) (events_of after) report (claimed p again) ended shaped (subst (IsRun p) whole run) parses
    (claim_reports p (after_all p (start p) (events_of before ++ Reported report ∷ events_of after)) again ended shaped (run-sound p (events_of before ++ Reported report ∷ events_of after) shaped (subst (IsRun p) whole run)) names can_then)
    (claim_can p (after_all p (start p) (events_of before ++ Reported report ∷ events_of after)) again can_then)

pub nothing_of_a_log_is_accepted_again : NothingOfALogIsAcceptedAgain
nothing_of_a_log_is_accepted_again p protocol before after report lines number text end again ended shaped run parses answered names can =
    let entries = before ++ ReportEntry report ∷ after in
    let further = answers_parsed p protocol shaped lines (driven_so_far p entries) end number text (rests_on_course p entries shaped run) answered in
    let all = before ++ ReportEntry report ∷ (after ++ further.more) in
    let parts : entries ++ further.more ≡ all = append_assoc before (ReportEntry report ∷ after) further.more in
    let joined : events_of entries ++ events_of further.more ≡ events_of all = sym (events-join entries further.more) ∙ ap events_of parts in
    let is_run : IsRun p (events_of all) = subst (IsRun p) joined (events_join p (start p) (events_of entries) (events_of further.more) run.0 further.events) in
    let to_end : end.cell ≡ cell_after p all = further.cell ∙ sym (after_all_join p (start p) (events_of entries) (events_of further.more)) ∙ ap (after_all p (start p)) joined in
    nothing_of_a_run_is_claimed_again p before (after ++ further.more) report again ended shaped is_run parses names (subst (λ (x : Cell). CanClaim p x again) to_end can)

pub a_run_refuses_copies : ARunRefusesCopies
a_run_refuses_copies p before after claim t shaped run could can =
    let whole : events_of (before ++ ReportEntry (claimed p claim) ∷ after) ≡ events_of before ++ Reported (claimed p claim) ∷ events_of after = events-join before (ReportEntry (claimed p claim) ∷ after) in
    copy_refused p (events_of before) (events_of after) claim t shaped (subst (IsRun p) whole run) could
    (subst (λ (es : List Event). CanClaim p (ends_in p es) (copy_at claim t)) whole can)

pub a_run_that_goes_on_refuses_copies : ARunThatGoesOnRefusesCopies
a_run_that_goes_on_refuses_copies p protocol before after claim t lines number text end shaped run could answered can =
    let entries = before ++ ReportEntry (claimed p claim) ∷ after in
    let further = answers_parsed p protocol shaped lines (driven_so_far p entries) end number text (rests_on_course p entries shaped run) answered in
    let all = before ++ ReportEntry (claimed p claim) ∷ (after ++ further.more) in
    let parts : entries ++ further.more ≡ all = append_assoc before (ReportEntry (claimed p claim) ∷ after) further.more in
    let joined : events_of entries ++ events_of further.more ≡ events_of all = sym (events-join entries further.more) ∙ ap events_of parts in
    let is_run : IsRun p (events_of all) = subst (IsRun p) joined (events_join p (start p) (events_of entries) (events_of further.more) run.0 further.events) in
    let to_end : end.cell ≡ cell_after p all = further.cell ∙ sym (after_all_join p (start p) (events_of entries) (events_of further.more)) ∙ ap (after_all p (start p)) joined in
    (after ++ further.more, further.entries ∙ parts, a_run_refuses_copies p before (after ++ further.more) claim t shaped is_run could (subst (λ (x : Cell). CanClaim p x (copy_at claim t)) to_end can))
