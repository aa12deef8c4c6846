-- The part with its lines: every call as one step, and lists of them. Beside it stands the uncached part, whose step is that of crate part.
use Rattle.std.specs.Prelude.{Bool, true, List, [], ◌∷◌, ℕ}
use Rattle.part.specs.Calls.{step}
use Rattle.part.specs.Reads.{window_of}
use Rattle.part.specs.State.{Part, Outcome, part, code_of, value_of}
use Rattle.part.specs.declared.Answer.{Answer}
use Rattle.part.specs.declared.Call.{Call}
use Rattle.part.specs.declared.Record.{Record}
use Rattle.part.specs.declared.Reply.{Reply}
use Rattle.cached.specs.Lines.{Lines, lines_of, lined_if}

pub record Device : Type 0 where
  pub part : Part
  pub lines : Lines

abbrev pub device : Part → Lines → Device
device p l = record { part = p; lines = l }

-- what a call answers, and the device after it
pub record Served : Type 0 where
  pub answer : Answer
  pub device : Device

abbrev pub served : Answer → Device → Served
served a d = record { answer = a; device = d }

-- the answer of a call, and what stands in the record, the lent cells and the lent lines after it
abbrev pub served_with : Answer → Record → List ℕ → List ℕ → List ℕ → List ℕ → List ℕ → List ℕ → Served
served_with a r main otp options sram tags bytes = served a (device (part r main otp options sram) (lines_of tags bytes))

abbrev pub served_by : Reply → List ℕ → List ℕ → List ℕ → List ℕ → List ℕ → List ℕ → Served
served_by x main otp options sram tags bytes = served_with x.answer x.rec main otp options sram tags bytes

-- ---- a call

-- an outcome of the uncached part, with what the lines make of it where there are caches
abbrev pub through_lines : Bool → Call → Device → Outcome → Served
through_lines cached c d x =
    let y = lined_if cached c d.part.rec x.answer x.part.rec x.part.main d.lines in
    served y.answer (device x.part y.lines)

abbrev pub step_by : Bool → List ℕ → List ℕ → Call → Device → Served
step_by cached timings scrap c d = through_lines cached c d (step timings scrap c d.part)

abbrev pub cached_step : List ℕ → List ℕ → Call → Device → Served
cached_step = step_by true

-- ---- a list of calls: their answers, and the device after them

abbrev pub answers : Bool → List ℕ → List ℕ → List Call → Device → List Answer
answers cached timings scrap [] d = []
answers cached timings scrap (c ∷ cs) d =
    let x = step_by cached timings scrap c d in
    x.answer ∷ answers cached timings scrap cs x.device

abbrev pub after : Bool → List ℕ → List ℕ → List Call → Device → Device
after cached timings scrap [] d = d
after cached timings scrap (c ∷ cs) d = after cached timings scrap cs (step_by cached timings scrap c d).device

-- ---- requests: a call with the scrap that is lent to it, or a window by who onto a sector, which bypasses the lines

pub data Request : Type 0 where
  call : List ℕ → Call → Request
  window : ℕ → ℕ → Request

-- what the host is told: code and value, or the window's part
pub data Said : Type 0 where
  answered : ℕ → ℕ → Said
  shown : List ℕ → Said

abbrev pub said_to : List ℕ → Request → Device → Said
said_to timings (call scrap c) d =
    let b = (cached_step timings scrap c d).answer in
    answered (code_of b) (value_of b)
said_to timings (window who sector) d = shown (window_of timings d.part who sector)

abbrev pub device_after : List ℕ → Request → Device → Device
device_after timings (call scrap c) d = (cached_step timings scrap c d).device
device_after timings (window who sector) d = d

-- the same of the uncached part
abbrev pub said_uncached : List ℕ → Request → Part → Said
said_uncached timings (call scrap c) p =
    let b = (step timings scrap c p).answer in
    answered (code_of b) (value_of b)
said_uncached timings (window who sector) p = shown (window_of timings p who sector)

abbrev pub part_after : List ℕ → Request → Part → Part
part_after timings (call scrap c) p = (step timings scrap c p).part
part_after timings (window who sector) p = p
