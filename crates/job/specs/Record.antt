-- A 16-byte record of a job: kind, who, width, zero, number (32 bits), value (64 bits).
use Rattle.std.specs.Prelude.{Bool, true, false, cond, not, ◌||◌, List, ◌++◌, ℕ, eqb, ltb, get_or, Option, Some, None}
use Rattle.cells.specs.Bytes.{value_at, bytes_of}
use Rattle.part.specs.Refusals.{bad_width, too_big}
use Rattle.part.specs.declared.Access.{Access}
use Rattle.part.specs.declared.Call.{Call}
use Rattle.part.specs.declared.Call.TheVariants.{Reset, Debugger, Read, Write, Time, Fetch}
use Rattle.part.specs.declared.Lapse.TheVariants.{Pass, Wait}
use Rattle.part.specs.declared.Link.TheVariants.{On, Off}
use Rattle.time.specs.Units.{micros, millis}
use Rattle.job.specs.Kinds.{kind_of}
use Rattle.job.specs.declared.Fields.{Fields}
use Rattle.job.specs.declared.Uses.{Uses}
use Rattle.job.specs.declared.Widths.{Widths}
use Rattle.job.specs.declared.Widths.TheVariants.{Unused, Any, Word}
use Rattle.job.specs.declared.kinds.Kind.{Kind}
use Rattle.job.specs.declared.kinds.Kind.TheVariants as kind

abbrev pub fields : ℕ → ℕ → ℕ → ℕ → ℕ → ℕ → Fields
fields kind who width unused number value = record { kind = kind; who = who; width = width; unused = unused; number = number; value = value }

-- ---- the table of fields: of each kind the highest who, the widths that it takes, the highest number, whether it uses the value

abbrev pub uses : ℕ → Widths → ℕ → Bool → Uses
uses who width number value = record { who = who; width = width; number = number; value = value }

-- a boot is at most 2, an address or a time any number of 32 bits
abbrev pub uses_of : Kind → Uses
uses_of kind.Reset = uses 0 Unused 2 false
uses_of kind.On = uses 0 Unused 0 false
uses_of kind.Off = uses 0 Unused 0 false
uses_of kind.Read = uses 1 Any 0xFFFF_FFFF false
uses_of kind.Write = uses 1 Any 0xFFFF_FFFF true
uses_of kind.Pass = uses 0 Unused 0xFFFF_FFFF false
uses_of kind.Wait = uses 0 Unused 0xFFFF_FFFF false
uses_of kind.Fetch = uses 0 Word 0xFFFF_FFFF false

-- ---- a field that breaks what the table says of it; the fourth byte is used by no kind

-- a field that its kind doesn't use is not 0
abbrev pub filled : ℕ → Bool
filled x = not (eqb x 0)

abbrev pub wrong_unused : Fields → Bool
wrong_unused f = filled f.unused

abbrev pub wrong_who : Uses → Fields → Bool
wrong_who u f = ltb u.who f.who

abbrev pub out_of : Widths → ℕ → Bool
out_of Unused width = filled width
out_of Any width = bad_width width
out_of Word width = not (eqb width 4)

abbrev pub wrong_width : Uses → Fields → Bool
wrong_width u f = out_of u.width f.width

abbrev pub wrong_number : Uses → Fields → Bool
wrong_number u f = ltb u.number f.number

-- a value in use is too big for its width
abbrev pub wrong_value : Uses → Fields → Bool
wrong_value u f = cond u.value (too_big f.width f.value) (filled f.value)

abbrev pub malformed_by : Uses → Fields → Bool
malformed_by u f = wrong_who u f || wrong_number u f || wrong_value u f || wrong_width u f

-- every record of no kind is malformed
abbrev pub malformed_as : Option Kind → Fields → Bool
malformed_as None f = true
malformed_as (Some k) f = malformed_by (uses_of k) f

abbrev pub malformed_record : Fields → Bool
malformed_record f = wrong_unused f || malformed_as (kind_of f.kind) f

-- ---- the call of a record

abbrev pub access : Fields → Access
access f = record { who = f.who; width = f.width; address = f.number }

-- by its kind; a record of no kind is malformed, and its call is asked for by nobody
abbrev pub call_as : Option Kind → Fields → Call
call_as (Some kind.Reset) f = Reset f.number
call_as (Some kind.On) f = Debugger On
call_as (Some kind.Off) f = Debugger Off
call_as (Some kind.Read) f = Read (access f)
call_as (Some kind.Write) f = Write (access f) f.value
call_as (Some kind.Pass) f = Time (Pass (micros f.number))
call_as (Some kind.Wait) f = Time (Wait (millis f.number))
call_as (Some kind.Fetch) f = Fetch f.number
call_as None f = Fetch f.number

abbrev pub call_of : Fields → Call
call_of f = call_as (kind_of f.kind) f

-- ---- the fields of a call, and the 16 bytes of a record

-- what its kind doesn't use is 0
abbrev pub fields_of : Call → Fields
fields_of (Reset boot) = fields 0 0 0 0 boot 0
fields_of (Debugger On) = fields 1 0 0 0 0 0
fields_of (Debugger Off) = fields 2 0 0 0 0 0
fields_of (Read a) = fields 3 a.who a.width 0 a.address 0
fields_of (Write a value) = fields 4 a.who a.width 0 a.address value
fields_of (Time (Pass t)) = fields 5 0 0 0 t.0 0
fields_of (Time (Wait t)) = fields 6 0 0 0 t.0 0
fields_of (Fetch address) = fields 7 0 4 0 address 0

-- a number that 32 bits don't hold; of all calls only a pass can have one
abbrev pub is_long : Fields → Bool
is_long f = ltb 0xFFFF_FFFF f.number

abbrev pub encoded : Fields → Option Fields
encoded f = cond (is_long f) None (Some f)

abbrev pub record_bytes : Fields → List ℕ
record_bytes f =
    bytes_of 1 f.kind ++ bytes_of 1 f.who ++ bytes_of 1 f.width ++ bytes_of 1 f.unused ++ bytes_of 4 f.number ++ bytes_of 8 f.value

-- ---- what the 16 bytes of a record say

abbrev pub fields_in : List ℕ → Fields
fields_in s = fields (get_or s 0 0) (get_or s 1 0) (get_or s 2 0) (get_or s 3 0) (value_at s 4 4) (value_at s 8 8)

abbrev pub malformed_in : List ℕ → Bool
malformed_in s = malformed_record (fields_in s)

abbrev pub call_in : List ℕ → Call
call_in s = call_of (fields_in s)

-- its call, or that it is malformed
abbrev pub record_call : List ℕ → Option Call
record_call s = cond (malformed_in s) None (Some (call_in s))
