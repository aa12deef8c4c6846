-- The four pieces fill the line.
use Rattle.std.proofs.Common.{eq-eqb}
use Rattle.lines.proofs.Text.{filled}
use Rattle.lines.proofs.put_line.Goals as goal

pub returns-then-s-eq-LINE : goal.returns-then-s-eq-LINE
returns-then-s-eq-LINE c =
    let l = c.if-s-eq-LINE.true in
    let a = c.args in
    rw (eq-eqb _ 20 l) (filled a.code a.value a.s.now c.put_hex.new.s c.put.new.s c.put_hex-then-s-eq-LINE.new.s
    c.put-then-s-eq-LINE.new.s l c.put_hex.ensures c.put.ensures c.put_hex-then-s-eq-LINE.ensures c.put-then-s-eq-LINE.ensures)
