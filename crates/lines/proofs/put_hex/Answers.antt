-- A turn stores the lowest digit; when none is left, all are stored.
use Rattle.std.proofs.Common.{◌≡◌, sym, ◌∙◌, arith}
use Rattle.lines.proofs.Digits.{all_stored, turn}
use Rattle.lines.proofs.put_hex.Goals as goal

pub loop-i-preserved : goal.loop-i-preserved
loop-i-preserved c =
    let l = c.loop-i in
    rw c.digit.ensures (sym (turn l.s c.args.at l.i l.rest c.loop-i-test.true) ∙ l.invariant)

pub returns : goal.returns
returns c =
    let l = c.loop-i in
    let a = c.args in
    let z : l.i ≡ 0 = omega (arith, c.loop-i-test.false) in
    rw z at l.invariant ∙ all_stored a.width a.s.now a.at a.v c.requires
