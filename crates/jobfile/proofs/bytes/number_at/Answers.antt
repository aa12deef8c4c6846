-- The value fits, so that the remainder cuts nothing off.
use Rattle.jobfile.proofs.Numbers.{number}
use Rattle.jobfile.proofs.bytes.number_at.Goals as goal

pub returns : goal.returns
returns c =
    let a = c.args in
    number a.s.now a.at a.width c.value_at.result (λ k. (c.type_inv.s k).fits) c.requires c.value_at.ensures
