-- The types of the part and of the crates below it, with their variants: passed on to the proofs, which name most of them.
pub use Rattle.lock.specs.declared.{Keys.Keys, Lock.Lock, LockState.LockState}
pub use Rattle.map.specs.declared.{Area.Area, Place.Place}
pub use Rattle.part.specs.declared.{Access.Access, Answer.Answer, Call.Call, Lapse.Lapse, Link.Link, Reason.Reason, Record.Record}
pub use Rattle.part.specs.declared.{Reply.Reply, Running.Running, Target.Target, Written.Written}
pub use Rattle.registers.specs.declared.{LockOf.LockOf, Register.Register}
pub use Rattle.time.specs.declared.{Micros.Micros, Millis.Millis, Work.Work}
pub use Rattle.lock.specs.declared.LockState.TheVariants.{Closed, Dead, HalfOpen, Open}
pub use Rattle.map.specs.declared.Area.TheVariants.{Flash, Outside, Registers, Sram}
pub use Rattle.map.specs.declared.Place.TheVariants.{Main, OptionCells, Otp, System, SystemAndOtp}
pub use Rattle.part.specs.declared.Answer.TheVariants.{Done, Expired, Flagged, Refused}
pub use Rattle.part.specs.declared.Call.TheVariants.{Debugger, Fetch, Read, Reset, Time, Write}
pub use Rattle.part.specs.declared.Lapse.TheVariants.{Pass, Wait}
pub use Rattle.part.specs.declared.Link.TheVariants.{Off, On}
pub use Rattle.std.specs.Prelude.{Option, None, Some}
pub use Rattle.part.specs.declared.Reason.TheVariants.{BadLength, BadRegisterAccess, BadTiming, ClosedAccess, Locked, Malformed, NoPower, NoneLeft}
pub use Rattle.part.specs.declared.Reason.TheVariants.{NotConnected, OutsideMap, ShortScrap, ShutByLevel2, Stalled, TooLong, WrongKey}
pub use Rattle.part.specs.declared.Target.TheVariants as target
pub use Rattle.registers.specs.declared.LockOf.TheVariants.{Cr, Optcr}
pub use Rattle.registers.specs.declared.Register.TheVariants as register
pub use Rattle.time.specs.declared.Work.TheVariants as work
