-- The lines that are lent, and that a call leaves both arrays in their place. With the lent cells they are a device.
use Rattle.std.specs.Prelude.{◌≡◌}
use Rattle.cached.specs.Device.{Device, Served, device, served}
use Rattle.cached.specs.Lines.{Lines as Both, lines_of}
use Rattle.part.specs.Lent.{part_of}
use Rattle.part.specs.declared.CellsMut.{CellsMut}
use Rattle.part.specs.declared.Record.{Record}
use Rattle.part.specs.declared.Reply.{Reply}
use Rattle.lined.specs.declared.lent.Lines.{Lines}

abbrev pub lines_in : Lines → Both
lines_in l = lines_of l.tags.now l.bytes.now

abbrev pub device_of : Record → CellsMut → Lines → Device
device_of r c l = device (part_of r c) (lines_in l)

-- the answer of a call, and what stands in the record, the lent cells and the lent lines after it
abbrev pub served_in : Reply → CellsMut → Lines → Served
served_in x c l = served x.answer (device_of x.rec c l)

pub record SameArrays (old new : Lines) : Type 0 where
  pub tags : new.tags.ghost_name ≡ old.tags.ghost_name
  pub bytes : new.bytes.ghost_name ≡ old.bytes.ghost_name
