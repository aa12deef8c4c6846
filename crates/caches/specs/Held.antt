-- A side that is held in lent tags and bytes.
use Rattle.std.specs.Prelude.{◌≡◌}
use Rattle.caches.specs.Sides.{side}
use Rattle.caches.specs.Sides.{Side as Sides·Side}
use Rattle.caches.specs.declared.Side.{Side}

abbrev pub side_of : Side → Sides·Side
side_of s = side s.tags.now s.bytes.now

-- the tags and bytes are still those that were lent
abbrev pub SameLent : Side → Side → Type 0
SameLent t s = (t.tags.ghost_name ≡ s.tags.ghost_name) × (t.bytes.ghost_name ≡ s.bytes.ghost_name)
