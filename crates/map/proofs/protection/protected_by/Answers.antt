-- A number of 32 bits has no bit above.
use Rattle.std.proofs.Common.{rules, ◌≡◌, true, nat_lt, ◌∙◌, arith}
use Rattle.map.proofs.Forms.{protected_far}
use Rattle.map.proofs.protection.protected_by.Goals as goal

pub returns-then-sector-gt31 : goal.returns-then-sector-gt31
returns-then-sector-gt31 c =
    let far : nat_lt 31 c.args.sector ≡ true = search rules in
    far ∙ protected_far c.args.nwrp c.args.sector (omega arith) (omega arith)
