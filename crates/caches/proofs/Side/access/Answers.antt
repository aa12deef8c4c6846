-- Where the bytes lie in two lines.
use Rattle.std.proofs.Common.{arith}
use Rattle.caches.specs.Held.{side_of}
use Rattle.caches.proofs.Steps.{access_two}
use Rattle.caches.proofs.Side.access.Goals as goal

pub returns-clause-done : goal.returns-clause-done
returns-clause-done c =
    let a = c.args in
    let low = c.touch-line in
    let up = c.touch in
    access_two a.main.now a.at a.width (side_of a.self.now) (omega arith) (omega arith) c.value_at-2.result low.result up.result
    c.as_flattened.result.now (side_of low.new.self) (side_of up.new.self) c.if-low-high.false low.ensures.found low.ensures.done up.ensures.found
    up.ensures.done c.as_flattened.ensures.value c.value_at-2.ensures
