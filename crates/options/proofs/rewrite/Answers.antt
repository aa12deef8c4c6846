use Rattle.std.proofs.Common.{◌≡◌, ◌<◌, List, ℕ, length, get_or, set, ap, ◌∙◌, arith}
use Rattle.options.proofs.Cells.{still, one_more}
use Rattle.options.proofs.rewrite.Goals as goal

pub loop-i-preserved : goal.loop-i-preserved
loop-i-preserved g c = λ t e is.
    let l = c.loop-i in
    let s = c.args.options.now in
    let inside : l.i < length s = omega arith in
    let was : get_or l.options l.i 0 ≡ get_or s l.i 0 = ap (λ (z : List ℕ). get_or z l.i 0) (l.invariant t e is) ∙ still t s l.i e inside in
    let new : c.new.result ≡ get_or t l.i 0 = is l.i c.new.result inside (rw was at c.new.ensures) in
    ap (λ (z : List ℕ). set z l.i c.new.result) (l.invariant t e is) ∙ one_more t s l.i c.new.result e inside new
