-- The device that a host holds, and that a call leaves every buffer that it holds in its place.
use Rattle.std.specs.Prelude.{◌≡◌}
use Rattle.cached.specs.Device.{Device, Served, served}
use Rattle.interface.specs.declared.host.Host.{Host}
use Rattle.lined.specs.Lent.{device_of, SameArrays}
use Rattle.part.specs.Lent.{SameBuffers}
use Rattle.part.specs.declared.Answer.{Answer}

abbrev pub device_held : Host → Device
device_held h = device_of h.rec.now h.cells h.lines

-- the answer of a call, and what stands in the record, the cells and the lines after it
abbrev pub served_on : Answer → Host → Served
served_on a h = served a (device_held h)

pub record SameHeld (old new : Host) : Type 0 where
  pub rec : new.rec.ghost_name ≡ old.rec.ghost_name
  pub cells : SameBuffers old.cells new.cells
  pub lines : SameArrays old.lines new.lines
  pub timings : new.timings ≡ old.timings
  pub scrap : new.scrap ≡ old.scrap
