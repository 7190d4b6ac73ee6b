-- By which protocol a cell is driven: which lines are read, what is printed, and which moments leap.
use Rattle.std.specs.Prelude.{ℕ, ◌-◌, nat_lt, Bool, false, Option, None, Some, if◌then◌else◌}
use Rattle.cell_drive.specs.declared.protocol.Protocol.{Protocol}

-- the lines of version 1, and no moment leaps
abbrev pub plain_from : ℕ → Protocol
plain_from from = record { version_2 = false; max_gap = None; from = from }

-- the moment from which a leap counts: the last one, or that from which the run goes on where it is later
abbrev pub leap_base : Protocol → ℕ → ℕ
leap_base protocol last = if nat_lt last protocol.from then protocol.from else last

-- whether a time is longer than the longest that may pass
abbrev pub is_too_long : Option ℕ → ℕ → Bool
is_too_long None time = false
is_too_long (Some max_gap) time = nat_lt max_gap time

-- whether moment `at` leaps, where `last` is the last one
abbrev pub leaps : Protocol → ℕ → ℕ → Bool
leaps protocol last at = is_too_long protocol.max_gap (at - leap_base protocol last)
