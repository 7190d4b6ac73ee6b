-- A cell is carried to one cell.
use Rattle.std.proofs.{Common.{◌≡◌, ◌<◌, refl, sym, ◌∙◌, arith}, lemmas.List.ext_get_or}
use Rattle.shop_base.specs.{Plan.{PlannedShop, jobs, machines}, Cell.{Cell, MachineState, absent, unused, machine_in}}
use Rattle.cell_tables.specs.Carried.{IsCarried}

-- a machine's state is its two parts, and a cell its three
same_machine : (a b : MachineState) → a.entries ≡ b.entries → a.cleaning ≡ b.cleaning → a ≡ b
same_machine a b one two =
    let whole : (x : MachineState) → MachineState = λ x. record { entries = x.entries; cleaning = x.cleaning } in
    let parts : whole a ≡ whole b = rw (one, two) refl in
    parts

same_cell : (a b : Cell) → a.jobs ≡ b.jobs → a.machines ≡ b.machines → a.last ≡ b.last → a ≡ b
same_cell a b one two three =
    let whole : (x : Cell) → Cell = λ x. record { jobs = x.jobs; machines = x.machines; last = x.last } in
    let parts : whole a ≡ whole b = rw (one, two, three) refl in
    parts

pub carried_alone : (p : PlannedShop) (c : Cell) (q : PlannedShop) (a b : Cell) → IsCarried p c q a → IsCarried p c q b → a ≡ b
carried_alone p c q a b one two = same_cell a b
    (ext_get_or absent a.jobs b.jobs (one.job_count ∙ sym two.job_count)
    (λ j inside. let within : j < jobs q = omega (arith, inside, one.job_count) in one.jobs_same j within ∙ sym (two.jobs_same j within)))
    (ext_get_or unused a.machines b.machines (one.machine_count ∙ sym two.machine_count)
    (λ m inside. let within : m < machines q = omega (arith, inside, one.machine_count) in
    same_machine (machine_in a m) (machine_in b m) (one.entries_same m within ∙ sym (two.entries_same m within)) (one.cleaning_is m within ∙ sym (two.cleaning_is m within))))
    (one.last_same ∙ sym two.last_same)
