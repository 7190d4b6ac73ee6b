-- What follows a plan that was loaded, by whether it is accepted.
use Rattle.std.proofs.Common.{◌≡◌, Result, Ok, Err, sym, subst}
use Rattle.plan_verifier.specs.Accepted.{VerifiedPlan}
use Rattle.plan_verifier.specs.declared.verdict.Verdict.TheVariants.{Accepted, Refused}
use Rattle.cell_drive.specs.declared.protocol.Protocol.{Protocol}
use Rattle.command_answers.specs.declared.answer.Answer.{Answer}
use Rattle.command_answers.specs.declared.command_fault.CommandFault.{CommandFault}
use Rattle.command_answers.specs.declared.loading.Loaded.{Loaded}
use Rattle.command_answers.specs.declared.loading.Loaded.TheVariants.{NotShaped, Judged}
use Rattle.command_answers.specs.Checks.{accepted_in}
use Rattle.command_run.specs.Streams.{Streams}
use Rattle.command_run.specs.Drives.{DrivesCell, Drives, IsLineAnswer}

same_line : (loaded other : Loaded) (outcome : Result Answer CommandFault) → loaded ≡ other → IsLineAnswer other outcome → IsLineAnswer loaded outcome
same_line loaded other outcome same answered = subst (λ (l : Loaded). IsLineAnswer l outcome) (sym same) answered

pub drives_accepted : (protocol : Protocol) (loaded : Loaded) (v : VerifiedPlan) (before after : Streams) (outcome : Result Answer CommandFault) → accepted_in loaded ≡ Ok v → DrivesCell protocol v before after outcome
    → Drives protocol (Ok loaded) before after outcome
drives_accepted protocol (NotShaped fault) v before after outcome is cell = absurd (cc is)
drives_accepted protocol (Judged (Refused back why)) v before after outcome is cell = absurd (cc is)
drives_accepted protocol (Judged (Accepted w)) v before after outcome is cell = (let same : w ≡ v = cc is in subst (λ (x : VerifiedPlan). DrivesCell protocol x before after outcome) (sym same) cell)

pub drives_known : (protocol : Protocol) (loaded other : Loaded) (before after : Streams) (outcome : Result Answer CommandFault) → accepted_in loaded ≡ Err other → IsLineAnswer other outcome → after ≡ before
    → Drives protocol (Ok loaded) before after outcome
drives_known protocol (NotShaped fault) other before after outcome is answered same = (same_line (NotShaped fault) other outcome (cc is) answered, same)
drives_known protocol (Judged (Refused back why)) other before after outcome is answered same = (same_line (Judged (Refused back why)) other outcome (cc is) answered, same)
drives_known protocol (Judged (Accepted w)) other before after outcome is answered same = absurd (cc is)
