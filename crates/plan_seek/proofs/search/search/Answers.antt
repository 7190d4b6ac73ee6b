use Rattle.std.proofs.Common.{inl}
use Rattle.plan_seek.proofs.search.search.Goals as goal

pub returns-in-Accepted : goal.returns-in-Accepted
returns-in-Accepted g c = record {
  same = c.in-Accepted.ensures.0.same;
  accepted = c.in-Accepted.ensures.0.accepted;
  sought = inl c.in-Accepted.ensures.1;
  refused = tt;
  given_back = tt;
}
