-- The lines of the caches, and what they make of a call that the part answers (document 02, note 5). They change an answer's value alone, of a
-- read or a fetch of main flash that is done, and are changed by those, by writes to ACR, by the end of an operation and by resets.
use Rattle.std.specs.Prelude.{Bool, cond, not, ◌&&◌, List, ℕ, ◌-◌, eqb, length, take, drop}
use Rattle.std.specs.Prelude.{Option, Some, None}
use Rattle.caches.specs.Sides.{Side, side, none, accessed, refreshed, emptied}
use Rattle.map.specs.Areas.{main_base, register_base, inside}
use Rattle.registers.specs.Fields.{ICEN, DCEN, ICRST, DCRST}
use Rattle.registers.specs.Words.{is_set, placed}
use Rattle.part.specs.State.{code_of, is_busy}
use Rattle.part.specs.declared.Access.{Access}
use Rattle.part.specs.declared.Running.{Running}
use Rattle.part.specs.declared.Answer.{Answer}
use Rattle.part.specs.declared.Answer.TheVariants.{Done}
use Rattle.part.specs.declared.Call.{Call}
use Rattle.part.specs.declared.Call.TheVariants.{Reset, Debugger, Read, Write, Time, Fetch}
use Rattle.part.specs.declared.Record.{Record}
use Rattle.part.specs.declared.Target.{Target}
use Rattle.part.specs.declared.Target.TheVariants as target

-- the data lines, which reads use, and the instruction lines, which fetches use
pub record Lines : Type 0 where
  pub data_side : Side
  pub code_side : Side

abbrev pub lines : Side → Side → Lines
lines ds cs = record { data_side = ds; code_side = cs }

-- 8 data lines and 64 instruction lines, all free
abbrev pub no_lines : Lines
no_lines = lines (none 8) (none 64)

-- as a host lends them: the tags of all lines, and their bytes, those of the data lines first
abbrev pub lines_of : List ℕ → List ℕ → Lines
lines_of tags bytes = lines (side (take 8 tags) (take 128 bytes)) (side (drop 8 tags) (drop 128 bytes))

abbrev pub both_emptied : Lines → Lines
both_emptied l = lines (emptied l.data_side) (emptied l.code_side)

-- ---- an access that is done

abbrev pub is_done : Answer → Bool
is_done b = eqb (code_of b) 0

pub record Looked : Type 0 where
  pub answer : Answer
  pub side : Side

abbrev pub looked : Answer → Side → Looked
looked b s = record { answer = b; side = s }

-- with its side on, one of main flash takes its bytes from the lines
abbrev pub looked_up : Bool → List ℕ → Answer → ℕ → ℕ → Side → Looked
looked_up on main b address width s =
    cond (on && (is_done b && inside address width main_base (length main)))
    (let x = accessed main (address - main_base) width s in looked (Done x.value) x.side)
    (looked b s)

-- ---- ACR: a side is empty after a 1 is written to its reset bit while its enable bit was 0

abbrev pub takes : ℕ → ℕ → ℕ → ℕ → Bool
takes acr written enable reset = is_set written reset && not (is_set acr enable)

abbrev pub emptied_if : Bool → Side → Side
emptied_if t s = cond t (emptied s) s

-- the lanes that are not written count as 0
abbrev pub after_write : ℕ → Answer → Access → ℕ → Lines → Lines
after_write acr b a value l =
    let written = placed value a.width (a.address - register_base) in
    cond (is_done b && inside a.address a.width register_base 4)
    (lines (emptied_if (takes acr written DCEN DCRST) l.data_side) (emptied_if (takes acr written ICEN ICRST) l.code_side))
    l

-- ---- the end of an operation: programming renews the data lines alone, on or off, and erases leave all lines as old as they are

abbrev pub at_end : Target → List ℕ → Lines → Lines
at_end (target.Bytes w) main l = cond w.otp l (lines (refreshed main w.offset w.width l.data_side) l.code_side)
at_end (target.Sector k) main l = l
at_end (target.Main len) main l = l
at_end target.Options main l = l
at_end (target.Regression len option) main l = both_emptied l

-- what ran before, and what runs now
abbrev pub after_time : Option Running → Option Running → List ℕ → Lines → Lines
after_time None now main l = l
after_time (Some running) now main l = cond (is_busy now) l (at_end running.target main l)

-- ---- every call

pub record Lined : Type 0 where
  pub answer : Answer
  pub lines : Lines

abbrev pub lined : Answer → Lines → Lined
lined b l = record { answer = b; lines = l }

abbrev pub with_data : Lines → Looked → Lined
with_data l x = lined x.answer (lines x.side l.code_side)

abbrev pub with_code : Lines → Looked → Lined
with_code l x = lined x.answer (lines l.data_side x.side)

-- of a call with the record before it, its answer, and the record and main flash after it
abbrev pub lined_by : Call → Record → Answer → Record → List ℕ → Lines → Lined
lined_by (Reset boot) r b s main l = lined b (cond (is_done b) (both_emptied l) l)
lined_by (Debugger link) r b s main l = lined b l
lined_by (Read a) r b s main l = with_data l (looked_up (is_set r.acr DCEN) main b a.address a.width l.data_side)
lined_by (Write a value) r b s main l = lined b (after_write r.acr b a value l)
lined_by (Time t) r b s main l = lined b (after_time r.op s.op main l)
lined_by (Fetch address) r b s main l = with_code l (looked_up (is_set r.acr ICEN) main b address 4 l.code_side)

-- with caches or without
abbrev pub lined_if : Bool → Call → Record → Answer → Record → List ℕ → Lines → Lined
lined_if cached c r b s main l = cond cached (lined_by c r b s main l) (lined b l)
