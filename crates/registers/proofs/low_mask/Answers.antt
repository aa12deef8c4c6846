-- All ones moved up by both halves leave the width's lanes.
use Rattle.registers.proofs.Laws.{low_moved}
use Rattle.registers.proofs.low_mask.Goals as goal

pub returns : goal.returns
returns c = simp low_moved
