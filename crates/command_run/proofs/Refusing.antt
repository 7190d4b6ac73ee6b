-- What words that choose no command come to.
use Rattle.std.proofs.Common.{◌≡◌, ℕ, List, true, false, None, Result, Ok, Err, String, Global, string_bytes, subst, refl}
use Rattle.command_words.specs.declared.words.WordsFault.{WordsFault}
use Rattle.command_words.specs.declared.words.WordsFault.TheVariants.{Usage, Memory}
use Rattle.command_answers.specs.declared.answer.Answer.{Answer}
use Rattle.command_answers.specs.declared.command_fault.CommandFault.{CommandFault}
use Rattle.command_run.specs.Streams.{Devices}
use Rattle.command_run.specs.declared.unchosen.Unchosen.TheVariants.{Usage as Wrong}
use Rattle.command_run.specs.Ending.{Ends, WasPrinted}
use Rattle.command_run.specs.Unchosen.{IsOutcomeOf, Comes}
use Rattle.command_run.specs.Program.{Follows}

pub refused_ends : {W : Type 0} (gives : W → List ℕ → Result (List ℕ) CommandFault → W → Type 0) (fault : WordsFault) (outcome : Result Answer CommandFault)
    (before : Devices W) (status : ℕ) (after : Devices W) → IsOutcomeOf fault outcome → Ends outcome before.streams.output after.streams.output before.errors after.errors status
    → after.texts ≡ before.texts → after.streams.input ≡ before.streams.input → after.folder ≡ before.folder → Follows gives (Err fault) before status after None
refused_ends gives (Usage true text) (Ok answer) before status after comes ends same_texts same_input same_logs =
    record { help = answer; text_is = comes; ends = ends; same = (same_texts, same_input); logs = (same_logs, refl) }
refused_ends gives (Usage true text) (Err f) before status after comes ends same_texts same_input same_logs = absurd comes
refused_ends gives (Usage false text) (Ok answer) before status after comes ends same_texts same_input same_logs = absurd comes
refused_ends gives (Usage false text) (Err f) before status after comes ends same_texts same_input same_logs = absurd comes
refused_ends gives Memory (Ok answer) before status after comes ends same_texts same_input same_logs = absurd comes
refused_ends gives Memory (Err f) before status after comes ends same_texts same_input same_logs =
    (subst (λ (f : CommandFault). Ends (Err f) before.streams.output after.streams.output before.errors after.errors status) comes ends, same_texts, same_input, (same_logs, refl))

pub refused_words : {W : Type 0} (gives : W → List ℕ → Result (List ℕ) CommandFault → W → Type 0) (fault : WordsFault) (message : String Global)
    (before : Devices W) (status : ℕ) (after : Devices W) → Comes fault (Wrong message) → WasPrinted (string_bytes message) before.errors after.errors → status ≡ 2
    → after.texts ≡ before.texts → after.streams ≡ before.streams → after.folder ≡ before.folder → Follows gives (Err fault) before status after None
refused_words gives (Usage true text) message before status after comes was two same_texts same_streams same_logs = absurd comes
refused_words gives (Usage false text) message before status after comes was two same_texts same_streams same_logs =
    (subst (λ (s : String Global). WasPrinted (string_bytes s) before.errors after.errors) comes was, two, same_texts, same_streams, (same_logs, refl))
refused_words gives Memory message before status after comes was two same_texts same_streams same_logs = absurd comes
