use Rattle.std.proofs.Common.{rules, bit_and, bit_or, get_or, ◌∙◌}
use Rattle.cells.proofs.Turns.{spares_all}
use Rattle.cells.proofs.program_sparing.Goals as goal

pub returns : goal.returns
returns c =
    let a = c.args in
    c.change.ensures (λ o b k. bit_and o (bit_or b (get_or a.scrap.now k 0))) (λ o b k r p. search rules)
    ∙ spares_all a.scrap.now (λ k. (c.type_inv.scrap k).fits) a.s.now a.at a.width a.value
