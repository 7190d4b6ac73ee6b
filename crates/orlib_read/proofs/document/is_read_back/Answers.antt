use Rattle.orlib_read.proofs.Documents.{decided}
use Rattle.orlib_read.proofs.document.is_read_back.Goals as goal

pub returns-in-Ok-clause-decided : goal.returns-in-Ok-clause-decided
returns-in-Ok-clause-decided c =
    decided c.args.text.now c.args.description.now c.args.shop.now c.in-Ok.named.description.items c.in-Ok.named.shop c.is_same.result c.in-Ok.ensures.found c.in-Ok.ensures.only c.is_same.ensures

pub returns-in_default : goal.returns-in_default
returns-in_default c = record {
  decided = λ h. c.in_default.not-Memory (c.in-Err.ensures.only c.args.description.now c.args.shop.now h);
  memory = tt;
}
