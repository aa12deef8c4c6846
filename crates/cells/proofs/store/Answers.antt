use Rattle.std.proofs.Common.{rules, ◌∙◌}
use Rattle.cells.proofs.Turns.{stores}
use Rattle.cells.proofs.store.Goals as goal

pub returns : goal.returns
returns c = c.change.ensures (λ o b k. b) (λ o b k r p. search rules) ∙ stores c.args.s.now c.args.at 0 c.args.width c.args.value
