use Rattle.std.proofs.Common.{◌≡◌, ◌+◌, arith}
use Rattle.caches.specs.Sides.{slot as Sides·slot}
use Rattle.caches.proofs.Slots.{slot_place, slot_below}
use Rattle.caches.proofs.slot.Goals as goal

pub returns : goal.returns
returns c =
    let a = c.args in
    let tags = a.tags.now in
    let e : c.unwrap_or.result ≡ Sides·slot a.row tags
    = rw (c.unwrap_or.ensures, c.place.ensures) (slot_place a.row (a.row + 1) tags (omega arith) (omega arith)) in
    (e, omega (arith, e, slot_below a.row tags))
