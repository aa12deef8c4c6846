-- Each turn puts the line of its record.
use Rattle.lines.proofs.Text.{Sofar}
use Rattle.lines.proofs.put_all.Given as goal

abbrev pub invariant-loop-i : goal.invariant-loop-i
invariant-loop-i l = Sofar l.answers l.initial.s l.n l.i l.s
