-- After i turns the first i bytes are the other buffer's, and the others as they were.
use Rattle.std.proofs.Common.{take, drop, ◌++◌, ◌≡◌}
use Rattle.cells.proofs.copy.Given as goal

abbrev pub invariant-loop-i : goal.invariant-loop-i
invariant-loop-i l = l.to ≡ take l.i l.from ++ drop l.i l.fn.to
