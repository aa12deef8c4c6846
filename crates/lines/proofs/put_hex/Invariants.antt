-- What is left to store, from each digit on, ends as the whole does.
use Rattle.std.proofs.Common.{◌≡◌}
use Rattle.lines.proofs.Digits.{stored}
use Rattle.lines.proofs.put_hex.Given as goal

abbrev pub invariant-loop-i : goal.invariant-loop-i
invariant-loop-i l = stored l.s l.at l.i l.rest ≡ stored l.initial.s l.at l.width l.v
