use Rattle.std.proofs.Common.{inl, refl}
use Rattle.run_journal.proofs.Steps.{starts}
use Rattle.run_journal.proofs.logged.Logged.new.Goals as goal

pub invariant_of-result : goal.invariant_of-result
invariant_of-result g c =
    let room = c.room.invariant in (
      starts _ _ _ _ _ _ _ _ _ c.requires.before c.requires.durable room.0 room.1 room.2 room.3 room.4,
      inl c.requires.shown,
      record { known = c.requires.unfailed; none = λ yes. refl; output = λ no. absurd (cc no) },
    )
