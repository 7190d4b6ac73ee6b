use Rattle.std.proofs.Common.{◌≡◌, ℕ, List, true, Ok, Err, Some, IfSome, ap, sym, ◌∙◌, subst, refl}
use Rattle.event_lines.specs.RunDigits.{AreDigits}
use Rattle.event_lines.specs.declared.run_digits.RunDigits.{RunDigits}
use Rattle.run_log.proofs.SixteenDigits.{digits_are}
use Rattle.run_journal.specs.LogFiles.{IsDurable}
use Rattle.run_journal.specs.LogRuns.{IsNamedFor, IsNamedOrNot}
use Rattle.run_journal.specs.TornEnds.{is_torn}
use Rattle.run_journal.specs.WholeLines.{torn_end, whole_lines}
use Rattle.run_journal.proofs.Fronts.{if_some-at, if_some-map}
use Rattle.command_run.specs.Logs.{NotRecovered, digits_in}
use Rattle.command_run.proofs.KnownLogs.{few_lines, old_named, old_recovered}
use Rattle.command_run.proofs.readiness.ready_recovered.Goals as goal

pub recover_log-requires-clause-digits : goal.recover_log-requires-clause-digits
recover_log-requires-clause-digits g c = subst AreDigits (sym c.requires.digits) (digits_are c.args.shaped.shop c.args.shaped.plan)

pub unrecovered_log_answer-requires : goal.unrecovered_log_answer-requires
unrecovered_log_answer-requires g c = few_lines c.args.shaped c.args.asked.at c.args.text.now c.in-Err.fault c.requires.at_most c.requires.within c.in-Err.ensures.fault

pub returns-in-Ok : goal.returns-in-Ok
returns-in-Ok g c =
    let p = c.args.shaped in
    let asked = c.args.asked in
    let text = c.args.text.now in
    let seen = g.D.LogFile.seen c.args.log in
    let now = g.D.LogFile.seen c.recover_log.new.log in
    let t = c.in-Ok.recovered.recovered in
    let named = subst (λ (d : RunDigits). IfSome seen (λ file. (base : List ℕ) × IsNamedFor d (whole_lines file) base × (now ≡ Some base))) c.requires.digits c.in-Ok.ensures.named in
    record {
      ready = record {
        log = record { durable = c.in-Ok.ensures.durable; unfailed = c.in-Ok.ensures.unfailed };
        holds = λ output known had. (
          old_named p asked.protocol asked.at text output seen now (Some known) had named,
          old_recovered p asked.protocol asked.at text output (Some known) had.1 t c.in-Ok.ensures.recovered,
          had.1.output t c.in-Ok.ensures.recovered,
        );
        makes = λ step drives. record {
          recovered = Ok t;
          takes = record { is = c.in-Ok.ensures.recovered; torn = c.in-Ok.ensures.torn; fault = tt; only_fault = tt; only = λ can torn. tt };
          goes_on = drives;
        };
      };
      undriven = tt;
    }

pub returns-in-Err : goal.returns-in-Err
returns-in-Err g c =
    let log = c.args.log in
    let log_now = c.recover_log.new.log in
    let had = c.in-Err.ensures in
    let text = c.args.text.now in
    let crash = subst (λ (d : RunDigits). IfSome (g.D.LogFile.seen log) (λ file. (left : List ℕ) → g.D.LogFile.crash_states log_now left → IsNamedOrNot d (whole_lines file) (whole_lines left))) c.requires.digits had.crash in
    record {
      ready = tt;
      undriven = λ known before was. record {
        end = Some (NotRecovered c.args.shaped text c.in-Err.fault);
        is = (
          refl,
          record {
            recovered = Err c.in-Err.fault;
            takes = record { is = tt; torn = tt; fault = had.fault; only_fault = had.only_fault; only = had.only };
            goes_on = (c.unrecovered_log_answer.ensures, record { same = refl; is = refl });
          },
        );
        held = (
          had.known,
          λ of_text. ap g.D.LogFile.written (had.untouched of_text) ∙ c.requires.unwritten,
          if_some-map known (λ t is. record {
            untouched = λ of_text. (
              ap g.D.LogFile.seen (had.untouched of_text) ∙ is.0,
              subst (λ l. IsDurable (g.D.LogFile.seen l) (g.D.LogFile.crash_states l)) (sym (had.untouched of_text)) c.requires.ready.durable,
            );
            crash = if_some-at (g.D.LogFile.seen log) text (λ file. (left : List ℕ) → g.D.LogFile.crash_states log_now left → IsNamedOrNot (digits_in c.args.shaped) (whole_lines file) (whole_lines left)) is.0 crash;
            torn_again = if_some-at (g.D.LogFile.seen log) text (λ file. is_torn (torn_end file) ≡ true → (left : List ℕ) → g.D.LogFile.crash_states log_now left → is_torn (torn_end left) ≡ true) is.0 had.torn_again;
          }) was,
        );
      };
    }
