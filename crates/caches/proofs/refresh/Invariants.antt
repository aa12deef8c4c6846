-- The bytes before the i-th are refreshed.
use Rattle.std.proofs.Common.{◌≡◌}
use Rattle.caches.specs.Sides.{refreshed, side}
use Rattle.caches.proofs.refresh.Given as goal

abbrev pub invariant-loop-i : goal.invariant-loop-i
invariant-loop-i l = side l.tags l.bytes ≡ refreshed l.main l.at l.i (side l.tags l.initial.bytes)
