use Rattle.std.proofs.Common.{rules, bit_and, ◌∙◌}
use Rattle.cells.proofs.Turns.{programs}
use Rattle.cells.proofs.program.Goals as goal

pub returns-then-width-eq4 : goal.returns-then-width-eq4
returns-then-width-eq4 c =
    rw c.if-width-eq4.true (c.change.ensures (λ o b k. bit_and o b) (λ o b k r p. search rules) ∙ programs c.args.s.now c.args.at 0 4 c.args.value)

pub returns-else-at-s : goal.returns-else-at-s
returns-else-at-s c =
    c.change-else-at-s.ensures (λ o b k. bit_and o b) (λ o b k r p. search rules) ∙ programs c.args.s.now c.args.at 0 c.args.width c.args.value
