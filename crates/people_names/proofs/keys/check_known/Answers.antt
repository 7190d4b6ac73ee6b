use Rattle.std.proofs.Common.{◌≡◌, sym, string_bytes}
use Rattle.people_names.specs.Keys.{printable_part}
use Rattle.people_names.proofs.Known.{unknown_first, unknown_none}
use Rattle.people_names.proofs.keys.check_known.Goals as goal

pub returns-in_ok-of-in-Some : goal.returns-in_ok-of-in-Some
returns-in_ok-of-in-Some c = λ other.
    let printed : c.in_ok-of-in-Some.field-0 ≡ printable_part (string_bytes c.in-Some.key.now) = cc (c.in_ok-of-in-Some.ensures, c.deref.ensures) in
    rw printed (unknown_first c.args.table.now.entries c.in-Some.key.now (sym c.in-Some.ensures))

pub returns-in-None : goal.returns-in-None
returns-in-None c = unknown_none c.args.table.now.entries (sym c.in-None.ensures)
