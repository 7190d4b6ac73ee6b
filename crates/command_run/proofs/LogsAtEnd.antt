-- What the log of a driven cell has at the end of the program.
use Rattle.std.proofs.Common.{◌≡◌, ◌≤◌, ◌++◌, ℕ, List, [], ◌∷◌, Bool, Option, None, Some, IfSome, Result, Ok, Err, IfOk, inl, inr, ap, sym, ◌∙◌, subst, arith, refl}
use Rattle.std.specs.Prelude.{IsOk}
use Rattle.std.specs.Io.KnownBytes.{Appends}
use Rattle.std.proofs.lemmas.List.{append-nil}
use Rattle.shop_base.specs.Plan.{PlannedShop}
use Rattle.cell_tables.specs.declared.entry.Entry.{Entry}
use Rattle.run_journal.specs.declared.file_fault.FileFault.{FileFault}
use Rattle.run_journal.specs.Logged.{Held}
use Rattle.logged_drive.specs.CrashLaw.{IsRecoveredAfter}
use Rattle.logged_drive.specs.LoggedRuns.{IsAllInLog, KeepsShown}
use Rattle.command_answers.specs.declared.answer.Answer.{Answer}
use Rattle.command_answers.specs.declared.command_fault.CommandFault.{CommandFault}
use Rattle.command_run.specs.Streams.{Errors, Output}
use Rattle.command_run.specs.Ending.{Ends, IsPrinted}
use Rattle.command_run.specs.Logs.{Driven, NotRecovered, Left, Found, Unread, Unlined, IsHeldAfter, IsLogAfter, KeepsInLog, LogEnd}
use Rattle.command_run.proofs.Endings.{IsOwnOr, fault_ends}
use Rattle.command_run.proofs.LoggedEndings.{IsDriven}

no_more : (before after : Option (List ℕ)) (start text : List ℕ) → before ≡ Some start → Appends before after text → text ≡ [] → after ≡ before
no_more None after start text was grown none = absurd (cc was)
no_more (Some xs) None start text was grown none = absurd grown
no_more (Some xs) (Some ys) start text was grown none = ap Some (grown ∙ ap (λ zs. xs ++ zs) none ∙ append-nil xs)

no_first : (out rest text : List ℕ) → out ++ rest ≡ text → text ≡ [] → out ≡ []
no_first [] rest text whole none = refl
no_first (byte ∷ out) rest text whole none = absurd (cc (whole ∙ none))

-- of an answer without a text nothing is printed
silent_print : (answer : Answer) (printed : Result ℕ CommandFault) (before after : Output) (start : List ℕ) → before.written ≡ Some start → answer.text.items ≡ []
    → IsPrinted answer before after printed → after.written ≡ before.written
silent_print answer (Ok status) before after start was none is = no_more before.written after.written start answer.text.items was is.1 none
silent_print answer (Err fault) before after start was none is =
    let part = is.1 in no_more before.written after.written start part.1.out was part.1.took (no_first part.1.out part.0 answer.text.items part.1.whole none)

abbrev IsGood : Result Answer CommandFault → Type 0
IsGood outcome = IsOk outcome

-- so the log has at the end what it had before
moved : (seen : Option (List ℕ)) (crash_states : List ℕ → Type 0) (before after : Option (List ℕ)) (one other : Type 0) (p : PlannedShop) (events : List Entry) (held : Held) (known : List ℕ × List ℕ)
    → after ≡ before → (other → one) → KeepsInLog seen crash_states before one p events held known → KeepsInLog seen crash_states after other p events held known
moved seen crash_states before after one other p events held known same is_good keeps = record {
  in_step = keeps.in_step;
  crash = subst (KeepsShown known.0 known.1 crash_states) (sym same) keeps.crash;
  recoverable = subst (IsRecoveredAfter p events known.1 crash_states) (sym same) keeps.recoverable;
  in_log = λ good. subst (IsAllInLog known.0 known.1 seen crash_states) (sym same) (keeps.in_log (is_good good));
}

too_low : (own status : ℕ) → 2 ≤ own → status ≤ 1 → IsOwnOr own status → ⊥
too_low own status high low (inl same) = omega (arith, high, low, same)
too_low own status high low (inr (five, six)) = omega (arith, low, six)

kept_one : (seen : Option (List ℕ)) (crash_states : List ℕ → Type 0) (outcome : Result Answer CommandFault) (before after : Output) (printed_before printed_after : Errors) (own status : ℕ)
    (p : PlannedShop) (events : List Entry) (held : Held) (known : List ℕ × List ℕ) → IfOk outcome (λ answer. answer.text.items ≡ []) → Ends outcome before after printed_before printed_after own → IsOwnOr own status
    → KeepsInLog seen crash_states before.written (IsOk outcome) p events held known → KeepsInLog seen crash_states after.written (status ≤ 1) p events held known
kept_one seen crash_states (Ok answer) before after printed_before printed_after own status p events held known none ends rel keeps =
    moved seen crash_states before.written after.written (IsGood (Ok answer)) (status ≤ 1) p events held known
    (silent_print answer ends.printed before after _ keeps.crash.output none ends.is) (λ low. refl) keeps
kept_one seen crash_states (Err fault) before after printed_before printed_after own status p events held known none ends rel keeps =
    let high = (fault_ends fault after printed_before printed_after own ends.1).high in
    moved seen crash_states before.written after.written (IsGood (Err fault)) (status ≤ 1) p events held known
    (ap (λ (o : Output). o.written) ends.0) (λ low. absurd (too_low own status high low rel)) keeps

kept_at_end : (known : Option (List ℕ × List ℕ)) (seen : Option (List ℕ)) (crash_states : List ℕ → Type 0) (outcome : Result Answer CommandFault) (before after : Output) (printed_before printed_after : Errors) (own status : ℕ)
    (end : LogEnd) → (IsDriven (Some end) → IfOk outcome (λ answer. answer.text.items ≡ [])) → Ends outcome before after printed_before printed_after own → IsOwnOr own status
    → IfSome known (IsLogAfter seen crash_states before.written (IsOk outcome) end) → IfSome known (IsLogAfter seen crash_states after.written (status ≤ 1) end)
kept_at_end None seen crash_states outcome before after printed_before printed_after own status end silent ends rel is = tt
kept_at_end (Some t) seen crash_states outcome before after printed_before printed_after own status (Driven p events held) silent ends rel keeps =
    kept_one seen crash_states outcome before after printed_before printed_after own status p events held t (silent tt) ends rel keeps
kept_at_end (Some t) seen crash_states outcome before after printed_before printed_after own status (NotRecovered p text fault) silent ends rel is = is
kept_at_end (Some t) seen crash_states outcome before after printed_before printed_after own status Left silent ends rel is = is
kept_at_end (Some t) seen crash_states outcome before after printed_before printed_after own status (Found bytes) silent ends rel is = is
kept_at_end (Some t) seen crash_states outcome before after printed_before printed_after own status (Unread fault) silent ends rel is = is
kept_at_end (Some t) seen crash_states outcome before after printed_before printed_after own status (Unlined p) silent ends rel is = is

-- of the log that is held
pub held_at_end : {D : Type 0} (seen : D → Option (List ℕ)) (crash_states : D → List ℕ → Type 0) (fault : D → Option FileFault) (written : D → Bool) (known : Option (List ℕ × List ℕ)) (outcome : Result Answer CommandFault)
    (before after : Output) (printed_before printed_after : Errors) (own status : ℕ) (log : Option D) (end : Option LogEnd) → (IsDriven end → IfOk outcome (λ answer. answer.text.items ≡ []))
    → Ends outcome before after printed_before printed_after own → IsOwnOr own status → IsHeldAfter seen crash_states fault written known before.written (IsOk outcome) log end
    → IsHeldAfter seen crash_states fault written known after.written (status ≤ 1) log end
held_at_end seen crash_states fault written known outcome before after printed_before printed_after own status None None silent ends rel is = tt
held_at_end seen crash_states fault written known outcome before after printed_before printed_after own status None (Some end) silent ends rel is = is
held_at_end seen crash_states fault written known outcome before after printed_before printed_after own status (Some l) None silent ends rel is = is
held_at_end seen crash_states fault written known outcome before after printed_before printed_after own status (Some l) (Some end) silent ends rel is =
    (is.0, is.1, kept_at_end known (seen l) (crash_states l) outcome before after printed_before printed_after own status end silent ends rel is.2)
