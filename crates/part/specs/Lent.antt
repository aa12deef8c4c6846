-- The part whose cells are lent, and that a call leaves every lent buffer in its place.
use Rattle.std.specs.Prelude.{◌≡◌}
use Rattle.part.specs.State.{Part, part, Outcome, leaving}
use Rattle.part.specs.declared.Cells.{Cells}
use Rattle.part.specs.declared.CellsMut.{CellsMut}
use Rattle.part.specs.declared.Record.{Record}
use Rattle.part.specs.declared.Reply.{Reply}

abbrev pub part_seen : Record → Cells → Part
part_seen r c = part r c.main.now c.otp.now c.options.now c.sram.now

abbrev pub part_of : Record → CellsMut → Part
part_of r c = part r c.main.now c.otp.now c.options.now c.sram.now

abbrev pub leaving_in : Reply → CellsMut → Outcome
leaving_in x c = leaving x c.main.now c.otp.now c.options.now c.sram.now

pub record SameBuffers (old new : CellsMut) : Type 0 where
  pub main : new.main.ghost_name ≡ old.main.ghost_name
  pub otp : new.otp.ghost_name ≡ old.otp.ghost_name
  pub options : new.options.ghost_name ≡ old.options.ghost_name
  pub sram : new.sram.ghost_name ≡ old.sram.ghost_name
