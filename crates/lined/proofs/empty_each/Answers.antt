-- The front is emptied, and then the back of what stands there.
use Rattle.std.proofs.Common.{arith}
use Rattle.cached.specs.Lines.{emptied_if}
use Rattle.lined.proofs.Parts.{both}
use Rattle.lined.proofs.empty_each.Goals as goal

pub returns-clause-lined : goal.returns-clause-lined
returns-clause-lined c =
    let a = c.args in
    let x = c.empty_if in
    let y = c.empty_if-2 in
    both a.lines.now.tags.now a.lines.now.bytes.now (omega arith, omega arith) x.new.tags x.new.bytes x.auto.tags x.auto.bytes (emptied_if a.reads) (emptied_if a.fetches) y.new.tags y.new.bytes
    x.ensures y.ensures
