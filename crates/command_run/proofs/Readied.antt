-- What is ready, as something else too.
use Rattle.std.proofs.Common.{List, ℕ, Bool, Option, Result, Ok, Err}
use Rattle.run_journal.specs.declared.file_fault.FileFault.{FileFault}
use Rattle.run_journal.proofs.Fronts.{if_some-map}
use Rattle.command_run.specs.declared.readiness.Ready.{Ready}
use Rattle.command_run.specs.declared.readiness.Undriven.{Undriven}
use Rattle.command_run.specs.Logs.{Step, step_of}
use Rattle.command_run.specs.Readiness.{IsReadied}
use Rattle.command_run.proofs.HeldLogs.{held_as}

-- where each step of one kind is one of the other, and what was had before of the other was had of the one
pub readied_as : {D : Type 0} (seen : D → Option (List ℕ)) (crash_states : D → List ℕ → Type 0) (fault : D → Option FileFault) (written : D → Bool)
    (HadOne HadOther : Option (List ℕ) → List ℕ × List ℕ → Type 0) (One Other : Step → Type 0) (result : Result (Ready D) (Undriven D)) → IsReadied seen crash_states fault written HadOne One result
    → ((step : Step) → One step → Other step) → ((output : Option (List ℕ)) (known : List ℕ × List ℕ) → HadOther output known → HadOne output known)
    → IsReadied seen crash_states fault written HadOther Other result
readied_as seen crash_states fault written HadOne HadOther One Other (Ok run) is becomes had = record {
  ready = record {
    log = is.ready.log;
    holds = λ output known was. is.ready.holds output known (had output known was);
    makes = λ step drives. becomes step (is.ready.makes step drives);
  };
  undriven = tt;
}
readied_as seen crash_states fault written HadOne HadOther One Other (Err left) is becomes had = record {
  ready = tt;
  undriven = λ known before was.
      held_as _ _ _ _ _ _ _ _ _ _ (λ end done. (done.0, becomes (step_of before left.outcome before end) done.1))
      (is.undriven known before (if_some-map known (λ t of. had before.output.written t of) was));
}
