-- Where the first line is free there is nothing to do.
use Rattle.caches.specs.Sides.{side}
use Rattle.caches.proofs.Steps.{refreshed_free, refreshed_more}
use Rattle.caches.proofs.refresh.Goals as goal

pub returns-then-tags-eq0 : goal.returns-then-tags-eq0
returns-then-tags-eq0 c = let a = c.args in refreshed_free a.main.now a.at a.width (side a.tags.now a.bytes.now) c.if-tags-eq0.true

pub loop-i-preserved : goal.loop-i-preserved
loop-i-preserved c =
    let a = c.args in let l = c.loop-i in
    rw (refreshed_more a.main.now a.at l.i (side a.tags.now a.bytes.now), ← l.invariant) c.refresh_byte.ensures
