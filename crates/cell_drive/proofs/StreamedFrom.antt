-- A stream of answers, as what driving comes to.
use Rattle.std.proofs.Common.{◌≡◌, ℕ, List, Option, Result, Ok, Err, OnOk, subst, arith}
use Rattle.byte_streams.specs.declared.drive_fault.DriveFault.{DriveFault, TheVariants.{Read, Write, InputTooLong, Memory}}
use Rattle.byte_streams.specs.{Lent.Streams, Streams.{ComesTo, IsStreamed}}
use Rattle.cell_drive.specs.OneRun.{IsStreamedFrom}

module _ {S : Type 0} (answers : S → ℕ → Option (List ℕ) → List ℕ → S → Type 0) (closes : S → List ℕ → Type 0) (start end : S) (before after : Streams) where
  -- whatever it gives back
  pub ended_so : {T U : Type 0} {room : ℕ} (x : T) (y : U) → IsStreamed (Ok x) room answers closes start end before after → IsStreamed (Ok y) 65536 answers closes start end before after
  ended_so x y is = record { input = is.input; was_read = is.was_read; comes_to = is.comes_to; shown = is.shown }

  answered_so : (T U : Type 0) (room : ℕ) (fault : DriveFault) (input : List ℕ) → room ≡ 65536 → ComesTo {T = T} (Err fault) room answers closes start input end before after
      → ComesTo {T = U} (Err fault) 65536 answers closes start input end before after
  answered_so T U room Read input same is = is
  answered_so T U room Write input same is = is
  answered_so T U room InputTooLong input same is = let most = is.1 in (is.0, omega (arith, most, same), is.2, is.3)
  answered_so T U room Memory input same is = is

  pub broken_so : {T : Type 0} {room : ℕ} (U : Type 0) (fault : DriveFault) → room ≡ 65536 → IsStreamed {T = T} (Err fault) room answers closes start end before after
      → IsStreamed {T = U} (Err fault) 65536 answers closes start end before after
  broken_so {T} {room} U fault same is = record { input = is.input; was_read = is.was_read; comes_to = answered_so T U room fault is.input same is.comes_to; shown = is.shown }

  from_broken : (U : Type 0) (fault : DriveFault) → IsStreamed {T = U} (Err fault) 65536 answers closes start end before after → IsStreamedFrom {T = U} answers closes start (Err fault) end before after
  from_broken U Read is = is
  from_broken U Write is = is
  from_broken U InputTooLong is = is
  from_broken U Memory is = absurd is.comes_to

  -- from where it was started
  pub streamed_to_end : {T U : Type 0} {room : ℕ} (x : T) (y : U) (first : S) → start ≡ first → IsStreamed (Ok x) room answers closes start end before after
      → IsStreamedFrom answers closes first (Ok y) end before after
  streamed_to_end {T} {U} x y first same is = subst (λ (s : S). IsStreamedFrom {T = U} answers closes s (Ok y) end before after) same (ended_so x y is)

  pub streamed_to_fault : {T : Type 0} {room : ℕ} (U : Type 0) (fault : DriveFault) (first : S) → start ≡ first → room ≡ 65536
      → IsStreamed {T = T} (Err fault) room answers closes start end before after → IsStreamedFrom {T = U} answers closes first (Err fault) end before after
  streamed_to_fault U fault first same size is =
      subst (λ (s : S). IsStreamedFrom {T = U} answers closes s (Err fault) end before after) same (from_broken U fault (broken_so U fault size is))

  pub streamed_from : {T : Type 0} (outcome : Result T DriveFault) (first : S) → start ≡ first → IsStreamed outcome 65536 answers closes start end before after
      → IsStreamedFrom answers closes first outcome end before after
  streamed_from (Ok x) first same is = streamed_to_end x x first same is
  streamed_from {T} (Err fault) first same is = subst (λ (s : S). IsStreamedFrom {T = T} answers closes s (Err fault) end before after) same (from_broken T fault is)

  pub never_memory : {T : Type 0} (outcome : Result T DriveFault) → IsStreamed outcome 65536 answers closes start end before after → outcome ≡ Err Memory → ⊥
  never_memory {T} outcome is memory =
      let so : IsStreamed {T = T} (Err Memory) 65536 answers closes start end before after = subst (λ (o : Result T DriveFault). IsStreamed o 65536 answers closes start end before after) memory is in
      absurd so.comes_to

-- what holds anyway holds of a success
pub on_ok : {T E : Type 0} {P : Type 0} (outcome : Result T E) → P → OnOk outcome P
on_ok (Ok x) p = p
on_ok (Err e) p = tt
