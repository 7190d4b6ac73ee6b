use Rattle.std.proofs.Common.{rules, ap}
use Rattle.people_names.specs.Documents.{IsNamesText, IsFirstNamesFault}
use Rattle.command_answers.specs.Naming.{names_command_fault}
use Rattle.command_answers.proofs.Passing.{passed_memory, passed_names}
use Rattle.command_answers.proofs.naming.load_names.Goals as goal

pub returns-in_err-read_names : goal.returns-in_err-read_names
returns-in_err-read_names c = record {
  found = search rules;
  only = λ names is. (
      let there : IsNamesText c.job_count-jobs.result c.machine_count-machines.result c.args.text.now names = rw (c.job_count-jobs.ensures.count, c.machine_count-machines.ensures.count) is in
      passed_memory _ _ _ (ap names_command_fault (c.in_err-read_names.ensures.only names there)) c.from_residual.ensures.1);
  fault = search rules;
  first = λ fault is. (
      let first : IsFirstNamesFault c.job_count-jobs.result c.machine_count-machines.result c.args.text.now fault = rw (c.job_count-jobs.ensures.count, c.machine_count-machines.ensures.count) is in
      passed_names _ _ fault (c.in_err-read_names.ensures.first fault first) c.from_residual.ensures.1);
}
