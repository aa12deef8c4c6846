-- The bits below n are all 1 exactly where they make the mask of n ones.
use Rattle.std.proofs.Common.{arith}
use Rattle.map.proofs.Forms.{any_far, any_near}
use Rattle.map.proofs.protection.any_protected.Goals as goal

pub returns-then-n-gt32 : goal.returns-then-n-gt32
returns-then-n-gt32 c = any_far c.args.nwrp c.args.n (omega arith) c.if-n-gt32.true

pub returns : goal.returns
returns c = any_near c.args.nwrp c.args.n c.if-n-gt32.false
