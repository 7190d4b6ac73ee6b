use Rattle.std.proofs.Common.{refl}
use Rattle.log_chapters.proofs.writing.push_number.Goals as goal

pub returns : goal.returns
returns c =
    rw (c.in_ok-extend_from_slice.ensures.items, c.bytes.ensures, c.put_text.ensures.written, c.put_number.ensures.written, c.put_origin.ensures.written, c.ended-line.ensures)
    refl
