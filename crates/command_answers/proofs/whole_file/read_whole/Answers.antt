use Rattle.std.proofs.Common.{◌≡◌, ℕ, ◌<◌, ◌≤◌, ◌++◌, List, [], length, take, Option, None, Some, Result, Ok, Err, IfSome, IfOk, IfErr, IsErrAnd, OnOk, Vec, Global, vec_len, arith, ◌∙◌, ap, inl, inr}
use Rattle.std.specs.Option.{option_map}
use Rattle.std.specs.declared.io.Error.{Error}
use Rattle.std.proofs.lemmas.List.{take_all, length-take-le}
use Rattle.std.proofs.lemmas.Bool.{cases_lt}
use Rattle.text_lines.specs.declared.limits.TheConstants.{MAX_INPUT}
use Rattle.command_answers.specs.FileFaults.{IsFaultOfSystem}
use Rattle.command_answers.specs.declared.command_fault.CommandFault.{CommandFault}
use Rattle.command_answers.specs.declared.command_fault.CommandFault.TheVariants.{InputTooLong}
use Rattle.command_answers.specs.Texts.{IsFileFault}
use Rattle.command_answers.proofs.whole_file.read_whole.Goals as goal

-- what was read of all that there is, up to a limit that it stays below, is all
whole_below : (given : Option (List ℕ)) (limit : ℕ) (start items : List ℕ) → start ≡ []
    → IfSome (option_map (take limit) given) (λ xs. items ≡ start ++ xs) → length items < limit
    → IfSome given (λ all. items ≡ all)
whole_below None limit start items empty read below = tt
whole_below (Some all) limit start items empty read below =
    let is : items ≡ take limit all = rw empty at read in
    elim (cases_lt (length all) limit) [
      | inl short ↦ is ∙ take_all limit all (omega arith)
      | inr long ↦ absurd (omega (arith, ap length is, length-take-le limit all long))
    ]

-- no bytes are printed at a fault
none_at_fault : (P : Vec ℕ Global → Type 0) (Q : CommandFault → Type 0) (answer : Result (Vec ℕ Global) CommandFault) → IsErrAnd answer Q → IfOk answer P
none_at_fault P Q (Ok bytes) failed = absurd failed
none_at_fault P Q (Err fault) failed = tt

whole_read : (given : Option (List ℕ)) (start : List ℕ) (buf : Vec ℕ Global) (read : Result ℕ Error) (answer : Result (Vec ℕ Global) CommandFault) → start ≡ []
    → OnOk read (IfSome (option_map (take 67108865) given) (λ xs. buf.items ≡ start ++ xs))
    → IfOk read (λ n. vec_len buf ≤ MAX_INPUT → answer ≡ Ok buf) → IfOk read (λ n. MAX_INPUT < vec_len buf → answer ≡ Err InputTooLong)
    → IfErr read (λ error. IsErrAnd answer (IsFaultOfSystem error)) → IfOk answer (λ bytes. IfSome given (λ all. bytes.items ≡ all))
whole_read given start buf (Ok n) answer empty bytes within beyond failed =
    elim (cases_lt MAX_INPUT (vec_len buf)) [
      | inl over ↦ rw (beyond over) tt
      | inr below ↦ rw (within below) (whole_below given 67108865 start buf.items empty bytes (omega (arith, buf.ok.0)))
    ]
whole_read given start buf (Err error) answer empty bytes within beyond failed = none_at_fault _ _ answer failed

-- each fault is a file's
faults_are : (buf : Vec ℕ Global) (read : Result ℕ Error) (answer : Result (Vec ℕ Global) CommandFault)
    → IfOk read (λ n. vec_len buf ≤ MAX_INPUT → answer ≡ Ok buf) → IfOk read (λ n. MAX_INPUT < vec_len buf → answer ≡ Err InputTooLong)
    → IfErr read (λ error. IsErrAnd answer (IsFaultOfSystem error)) → IfErr answer IsFileFault
faults_are buf (Ok n) answer within beyond failed =
    elim (cases_lt MAX_INPUT (vec_len buf)) [
      | inl over ↦ rw (beyond over) tt
      | inr below ↦ rw (within below) tt
    ]
faults_are buf (Err error) (Ok bytes) within beyond failed = absurd failed
faults_are buf (Err error) (Err fault) within beyond failed = failed.is

pub returns-clause-fault : goal.returns-clause-fault
returns-clause-fault g c = faults_are c.read_to_end-read.new.buf c.read_to_end-read.result c.whole_of.result c.whole_of.ensures.within c.whole_of.ensures.beyond c.whole_of.ensures.fault

pub returns-clause-whole : goal.returns-clause-whole
returns-clause-whole g c =
    let limit : c.take-limited.result.limit ≡ 67108865 = c.take-limited.ensures.limit in
    let bytes = rw (limit, c.take-limited.ensures.inner) at c.read_to_end-read.ensures.bytes in
    whole_read _ _ c.read_to_end-read.new.buf c.read_to_end-read.result c.whole_of.result c.in_ok-bytes.ensures.items bytes
    c.whole_of.ensures.within c.whole_of.ensures.beyond c.whole_of.ensures.fault
