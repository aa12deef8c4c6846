-- A read that is not malformed is of one to eight bytes, and main flash has whole rows.
use Rattle.std.proofs.Common.{sym, ◌∙◌}
use Rattle.cached.proofs.Done.{rows_fit}
use Rattle.part.proofs.Bytes.{wide}
use Rattle.part.proofs.Entries.{access_is, sized}
use Rattle.part.specs.Lent.{part_of}
use Rattle.calls.proofs.perform.Goals as goal

pub on_read-requires : goal.on_read-requires
on_read-requires c =
    let a = c.args in
    let to = c.in-Read.a in
    let (some, few) = wide to (sized to (sym (access_is to) ∙ rw c.in-Read.is at c.requires.0)) in
    (rows_fit a.timings.now (part_of a.r a.cells.now) c.requires.1, some, few)
