-- The part: its record and its cells, the backup SRAM among them; what a call answers, with document 01's numbers.
use Rattle.std.specs.Prelude.{Option, Some, None, Bool, true, false, List, ℕ}
use Rattle.lock.specs.Keys.{lock_at}
use Rattle.lock.specs.declared.Lock.{Lock}
use Rattle.lock.specs.declared.LockState.TheVariants.{Open}
use Rattle.registers.specs.declared.LockOf.{LockOf}
use Rattle.registers.specs.declared.LockOf.TheVariants.{Cr, Optcr}
use Rattle.part.specs.declared.Answer.{Answer}
use Rattle.part.specs.declared.Running.{Running}
use Rattle.part.specs.declared.Answer.TheVariants.{Done, Refused, Flagged, Expired}
use Rattle.part.specs.declared.Reason.{Reason}
use Rattle.part.specs.declared.Reason.TheVariants as reason
use Rattle.part.specs.declared.Record.{Record}
use Rattle.part.specs.declared.Reply.{Reply}

pub record Part : Type 0 where
  pub rec : Record
  pub main : List ℕ
  pub otp : List ℕ
  pub options : List ℕ
  pub sram : List ℕ

abbrev pub part : Record → List ℕ → List ℕ → List ℕ → List ℕ → Part
part r main otp options sram = record { rec = r; main = main; otp = otp; options = options; sram = sram }

-- ---- a part with one thing changed

abbrev pub having : Part → Record → Part
having p r = part r p.main p.otp p.options p.sram

abbrev pub with_main : Part → List ℕ → Part
with_main p main = part p.rec main p.otp p.options p.sram

abbrev pub with_otp : Part → List ℕ → Part
with_otp p otp = part p.rec p.main otp p.options p.sram

abbrev pub with_options : Part → List ℕ → Part
with_options p options = part p.rec p.main p.otp options p.sram

abbrev pub with_sram : Part → List ℕ → Part
with_sram p sram = part p.rec p.main p.otp p.options sram

-- ---- what a call answers, and the part after it

pub record Outcome : Type 0 where
  pub answer : Answer
  pub part : Part

-- the answer of a call, and what stands in the record and in the lent cells after it
abbrev pub outcome : Answer → Record → List ℕ → List ℕ → List ℕ → List ℕ → Outcome
outcome a r main otp options sram = record { answer = a; part = part r main otp options sram }

-- ---- document 01's number of an answer, and its value: a read's bytes, a wait's microseconds, the flag, and 0 otherwise

abbrev pub number_of : Reason → ℕ
number_of reason.BadLength = 1
number_of reason.BadTiming = 2
number_of reason.Malformed = 5
number_of reason.OutsideMap = 7
number_of reason.TooLong = 8
number_of reason.BadRegisterAccess = 9
number_of reason.NoPower = 10
number_of reason.Stalled = 11
number_of reason.Locked = 12
number_of reason.ClosedAccess = 13
number_of reason.WrongKey = 14
number_of reason.NotConnected = 15
number_of reason.ShutByLevel2 = 16
number_of reason.NoneLeft = 19
number_of reason.ShortScrap = 21

abbrev pub code_of : Answer → ℕ
code_of (Done value) = 0
code_of (Refused why) = number_of why
code_of (Flagged flag) = 17
code_of (Expired passed) = 18

abbrev pub value_of : Answer → ℕ
value_of (Done value) = value
value_of (Refused why) = 0
value_of (Flagged flag) = flag
value_of (Expired passed) = passed.0

-- no power, no debugger, no mark, nothing running, registers 0, so LOCK and OPTLOCK too
abbrev pub fresh : Record
fresh =
    record {
      acr = 0;
      sr = 0;
      cr = 0;
      lock = lock_at Open;
      optcr = 0;
      optlock = lock_at Open;
      op = None;
      power = false;
      debugger = false;
      mark = false;
    }

-- ---- a record with one thing changed

abbrev pub holding : ℕ → ℕ → ℕ → ℕ → Lock → Lock → Option Running → Bool → Bool → Bool → Record
holding acr sr cr optcr lock optlock op power debugger mark =
    record {
      acr = acr;
      sr = sr;
      cr = cr;
      lock = lock;
      optcr = optcr;
      optlock = optlock;
      op = op;
      power = power;
      debugger = debugger;
      mark = mark;
    }

abbrev pub with_acr : Record → ℕ → Record
with_acr r v = holding v r.sr r.cr r.optcr r.lock r.optlock r.op r.power r.debugger r.mark

abbrev pub with_sr : Record → ℕ → Record
with_sr r v = holding r.acr v r.cr r.optcr r.lock r.optlock r.op r.power r.debugger r.mark

abbrev pub with_cr : Record → ℕ → Record
with_cr r v = holding r.acr r.sr v r.optcr r.lock r.optlock r.op r.power r.debugger r.mark

abbrev pub with_optcr : Record → ℕ → Record
with_optcr r v = holding r.acr r.sr r.cr v r.lock r.optlock r.op r.power r.debugger r.mark

abbrev pub with_lock : LockOf → Record → Lock → Record
with_lock Cr r l = holding r.acr r.sr r.cr r.optcr l r.optlock r.op r.power r.debugger r.mark
with_lock Optcr r l = holding r.acr r.sr r.cr r.optcr r.lock l r.op r.power r.debugger r.mark

abbrev pub lock_in : LockOf → Record → Lock
lock_in Cr r = r.lock
lock_in Optcr r = r.optlock

abbrev pub with_op : Record → Option Running → Record
with_op r o = holding r.acr r.sr r.cr r.optcr r.lock r.optlock o r.power r.debugger r.mark

abbrev pub with_debugger : Record → Bool → Bool → Record
with_debugger r on mark = holding r.acr r.sr r.cr r.optcr r.lock r.optlock r.op r.power on mark

-- ---- replies

abbrev pub reply : Answer → Record → Reply
reply a r = record { answer = a; rec = r }

-- a refusal that changes nothing
abbrev pub refuse : Reason → Record → Reply
refuse why r = reply (Refused why) r

-- a reply, with what stands in the lent cells after it
abbrev pub leaving : Reply → List ℕ → List ℕ → List ℕ → List ℕ → Outcome
leaving x main otp options sram = outcome x.answer x.rec main otp options sram

-- a call that changed no cell
abbrev pub kept : Part → Reply → Outcome
kept p x = record { answer = x.answer; part = having p x.rec }

abbrev pub is_busy : Option Running → Bool
is_busy None = false
is_busy (Some running) = true
