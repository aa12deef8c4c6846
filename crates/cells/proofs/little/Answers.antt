-- In a turn the value leaves room for one more byte, which the closure gives.
use Rattle.std.proofs.Common.{◌+◌, ◌-◌, arith}
use Rattle.cells.proofs.Turns.{little_down, room_down, room_left}
use Rattle.cells.proofs.little.Goals as goal

pub overflow_mul-v : goal.overflow_mul-v
overflow_mul-v g c = let r = room_left c.loop-i.i (c.args.at + c.args.n) c.loop-i.v (omega arith) c.loop-i.invariant.1 in omega (arith, r)

pub overflow_add-v : goal.overflow_add-v
overflow_add-v g c = let r = room_left c.loop-i.i (c.args.at + c.args.n) c.loop-i.v (omega arith) c.loop-i.invariant.1 in omega (arith, r)

pub loop-i-preserved : goal.loop-i-preserved
loop-i-preserved g c =
    let l = c.loop-i in
    let end = c.args.at + c.args.n in (
      omega arith,
      room_down l.i end l.v c.byte.result (omega arith) l.auto.i (omega arith) l.invariant.1,
      λ f is. little_down f l.i end l.v c.byte.result (omega arith) l.auto.i (is (l.i - 1) c.byte.result (omega arith) (omega arith) c.byte.ensures) (l.invariant.2 f is),
    )
