-- At the start no line is put, a turn puts one more, and after all turns these are the lines.
use Rattle.std.proofs.Common.{arith}
use Rattle.lines.proofs.Text.{start, next, ends}
use Rattle.lines.proofs.put_all.Goals as goal

pub loop-i-init : goal.loop-i-init
loop-i-init c = start

pub loop-i-preserved : goal.loop-i-preserved
loop-i-preserved c = next c.loop-i-test.true (omega arith) c.loop-i.invariant c.put_answer.ensures

pub returns : goal.returns
returns c = ends (omega (arith, c.loop-i.auto.i-end, c.loop-i-test.false)) c.loop-i.invariant
