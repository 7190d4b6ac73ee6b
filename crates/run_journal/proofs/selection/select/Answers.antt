use Rattle.std.proofs.Common.{◌≡◌, ◌+◌, ◌++◌, [], ◌∷◌, take, get_or, sym, subst, arith}
use Rattle.std.proofs.lemmas.List.{take_all, take_more}
use Rattle.run_journal.{specs.Selecting.Gets, proofs.Selected.{few_undecided, gets-none, gets-more}}
use Rattle.run_journal.proofs.selection.select.Goals as goal

pub loop-byte-init : goal.loop-byte-init
loop-byte-init c = record {
  gets = gets-none c.args.front.now.items c.args.events.now.items;
  few = c.requires.few;
  room = omega arith;
  front_capacity = omega arith;
  capacity = omega arith;
}

pub select_byte-requires-clause-room : goal.select_byte-requires-clause-room
select_byte-requires-clause-room c =
    let so_far = c.loop-byte.invariant in
    omega (arith, so_far.room, so_far.capacity, few_undecided c.args.front.now.items c.requires.few, c.requires.room, c.loop-byte-test.true)

pub loop-byte-preserved : goal.loop-byte-preserved
loop-byte-preserved c =
    let bytes = c.args.bytes.now in
    let n = c.loop-byte.byte-index in
    let so_far = c.loop-byte.invariant in
    let next : take (n + 1) bytes ≡ take n bytes ++ get_or bytes n 0 ∷ [] = take_more bytes n 0 (omega (arith, c.loop-byte-test.true)) in
    record {
      gets = subst (λ b. Gets c.args.front.now.items b c.select_byte.new.front.items c.args.events.now.items c.select_byte.new.events.items) (sym next)
          (gets-more _ _ _ _ _ _ _ _ so_far.gets c.select_byte.ensures.gets);
      few = c.select_byte.ensures.few;
      room = omega (arith, so_far.room, c.select_byte.ensures.room);
      front_capacity = omega (arith, so_far.front_capacity, c.select_byte.ensures.front_capacity);
      capacity = omega (arith, so_far.capacity, c.select_byte.ensures.capacity);
    }

pub returns-clause-gets : goal.returns-clause-gets
returns-clause-gets c =
    subst (λ b. Gets c.args.front.now.items b c.loop-byte.front.items c.args.events.now.items c.loop-byte.events.items) (take_all c.loop-byte.byte-index c.args.bytes.now (omega (arith, c.loop-byte-test.false)))
    c.loop-byte.invariant.gets
