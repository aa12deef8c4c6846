use Rattle.std.proofs.Common.{sym, ◌∙◌}
use Rattle.cells.proofs.Turns.{changed_turn}
use Rattle.cells.proofs.change.Goals as goal

pub loop-i-preserved : goal.loop-i-preserved
loop-i-preserved g c = λ f is.
    let l = c.loop-i in
    let a = c.args in
    let new = is c.byte.result _ l.i c.new.result c.new.ensures in
    rw (c.put.ensures, new, c.byte.ensures) (sym (changed_turn f l.s a.at l.i a.width l.v c.loop-i-test.true) ∙ l.invariant f is)
