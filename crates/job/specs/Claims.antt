-- What is claimed of records, timings, answers and the part of `rehearse`, byte by byte (proofs/Claimed.antt, proofs/Records.antt).
use Rattle.std.specs.Prelude.{true, false, ◌||◌, List, [], ◌∷◌, map, ◌≡◌, ℕ, ◌+◌, ◌*◌, ◌/◌, ◌%◌, ◌^◌, ◌<◌, length, get_or, take, drop, replicate}
use Rattle.cells.specs.Bytes.{value_at}
use Rattle.cached.specs.Claims.{in_time, stale}
use Rattle.cached.specs.Device.{after, cached_step, call, device}
use Rattle.cached.specs.Lines.{no_lines}
use Rattle.part.specs.Refusals.{malformed}
use Rattle.part.specs.State.{Part, part, fresh, having, code_of, value_of}
use Rattle.part.specs.declared.Answer.{Answer}
use Rattle.part.specs.declared.Call.{Call}
use Rattle.part.specs.declared.Call.TheVariants.{Reset, Debugger, Read, Write, Time, Fetch}
use Rattle.part.specs.declared.Lapse.TheVariants.{Pass, Wait}
use Rattle.part.specs.declared.Link.TheVariants.{On, Off}
use Rattle.time.specs.Timings.{out_of_range}
use Rattle.job.specs.Job.{timings_of, count_of, record_at, job_calls, bad_buffers, file_refusal, answer_bytes, calls_or, job_outcome, run_job, run_uncached}
use Rattle.job.specs.Record.{fields, call_of, malformed_record, fields_of, is_long, record_bytes, fields_in, call_in}
use Rattle.job.specs.Rehearsal.{thousands, rehearsed}
use Rattle.job.specs.declared.Fields.{Fields}

-- the call of each kind, whatever stands in its fields
abbrev pub CallOfKind : Type 0
CallOfKind =
    (who width unused number value : ℕ)
    → (call_of (fields 0 who width unused number value) ≡ Reset number)
    × (call_of (fields 1 who width unused number value) ≡ Debugger On)
    × (call_of (fields 2 who width unused number value) ≡ Debugger Off)
    × (call_of (fields 3 who width unused number value) ≡ Read (record { who = who; width = width; address = number }))
    × (call_of (fields 4 who width unused number value) ≡ Write (record { who = who; width = width; address = number }) value)
    × (call_of (fields 5 who width unused number value) ≡ Time (Pass (record { 0 = number })))
    × (call_of (fields 6 who width unused number value) ≡ Time (Wait (record { 0 = number })))
    × (call_of (fields 7 who width unused number value) ≡ Fetch number)

-- where the fields stand in the 16 bytes of a record, numbers with their lowest byte first
abbrev pub FieldPlaces : Type 0
FieldPlaces =
    fields_in (1 ∷ 2 ∷ 3 ∷ 4 ∷ 5 ∷ 6 ∷ 7 ∷ 8 ∷ 9 ∷ 10 ∷ 11 ∷ 12 ∷ 13 ∷ 14 ∷ 15 ∷ 16 ∷ []) ≡ fields 1 2 3 4 0x0807_0605 0x100F_0E0D_0C0B_0A09

-- a call's fields are those of that call
abbrev pub CallKept : Type 0
CallKept = (c : Call) → call_of (fields_of c) ≡ c

-- and no others that are sound
abbrev pub FieldsKept : Type 0
FieldsKept = (f : Fields) → malformed_record f ≡ false → fields_of (call_of f) ≡ f

-- no sound record holds what is malformed as a call, and a number that 32 bits don't hold; all other calls have one
abbrev pub HeldExactly : Type 0
HeldExactly = (c : Call) → malformed_record (fields_of c) ≡ (malformed c || is_long (fields_of c))

-- sixteen bytes made of sound fields are read as these fields, and the bytes of a record are made again of the fields that they are read as
abbrev pub RecordRead : Type 0
RecordRead = (f : Fields) → malformed_record f ≡ false → fields_in (record_bytes f) ≡ f

abbrev pub RecordWritten : Type 0
RecordWritten = (s : List ℕ) → length s ≡ 16 → ((i : ℕ) → get_or s i 0 < 256) → record_bytes (fields_in s) ≡ s

-- a job of no calls runs on every part that fits, whatever the room for answers, and leaves every byte; with anything behind its head it is refused
abbrev pub NoCalls : Type 0
NoCalls =
    ((p : Part) (timings scrap answers : List ℕ)
    → bad_buffers (length p.main) (length p.otp) (length p.options) (length p.sram) (length timings) ≡ false
    → out_of_range (timings_of timings) ≡ false
    → run_job p timings scrap (0x46 ∷ 0x4A ∷ 0x42 ∷ 1 ∷ 0 ∷ 0 ∷ 0 ∷ []) answers ≡ job_outcome 0 p answers)
    × ((x : ℕ) (behind : List ℕ) (room : ℕ) → file_refusal (0x46 ∷ 0x4A ∷ 0x42 ∷ 1 ∷ 0 ∷ 0 ∷ 0 ∷ x ∷ behind) room ≡ 4)

-- there are 24 timings, and number i is the four bytes from 4 × i on
abbrev pub TimingsInOrder : Type 0
TimingsInOrder = (bytes : List ℕ) → (length (timings_of bytes) ≡ 24) × ((i : ℕ) → i < 24 → get_or (timings_of bytes) i 0 ≡ value_at bytes (4 * i) 4)

-- the sixteen bytes of an answer: its code, seven zeros, and its value with the lowest byte first
abbrev pub AnswerLayout : Type 0
AnswerLayout =
    (a : Answer) → (length (answer_bytes a) ≡ 16) × (get_or (answer_bytes a) 0 0 ≡ code_of a)
    × ((i : ℕ) → i < 7 → get_or (answer_bytes a) (1 + i) 0 ≡ 0) × ((i : ℕ) → i < 8 → get_or (answer_bytes a) (8 + i) 0 ≡ value_of a / 256 ^ i % 256)

-- the bytes of answer i of a job that runs: those of the step that the call of record i makes, on the part and its lines after the calls before it
abbrev pub AnswersInOrder : Type 0
AnswersInOrder =
    (p : Part) (timings scrap job room : List ℕ) → (run_job p timings scrap job room).result ≡ 0 → (i : ℕ) → i < count_of job
    → take 16 (drop (16 * i) (run_job p timings scrap job room).answers)
    ≡ answer_bytes (cached_step (timings_of timings) scrap (call_in (record_at job i))
    (after true (timings_of timings) scrap (take i (calls_or (job_calls job))) (device (having p fresh) no_lines))).answer

-- `rehearse` runs a job on 65,536 bytes FF of main flash, 528 bytes FF of OTP, option cells FF but RDP AA, 4,096 bytes 00 of SRAM, and 24 timings of
-- 1,000
abbrev pub RehearsalPart : Type 0
RehearsalPart =
    ((job room : List ℕ) → rehearsed job room
    ≡ run_job (part fresh (replicate 65_536 0xFF) (replicate 528 0xFF) (0xFF ∷ 0xAA ∷ replicate 14 0xFF) (replicate 4096 0)) (thousands 24)
    (replicate 65_536 0xFF) job room)
    × (length (thousands 24) ≡ 96) × (timings_of (thousands 24) ≡ replicate 24 1_000)

-- a job on the uncached part: the same result and cells always, and all of the outcome the same where the calls that it makes empty lines in time
abbrev pub UncachedCells : Type 0
UncachedCells =
    (p : Part) (timings scrap job room : List ℕ)
    → (let x = run_job p timings scrap job room in
    let y = run_uncached p timings scrap job room in
    (x.result ≡ y.result) × (x.main ≡ y.main) × (x.otp ≡ y.otp) × (x.options ≡ y.options) × (x.sram ≡ y.sram))

abbrev pub UncachedSame : Type 0
UncachedSame =
    (p : Part) (timings scrap job room : List ℕ)
    → in_time (timings_of timings) (map (call scrap) (calls_or (job_calls job))) (having p fresh) (stale false false) ≡ true
    → run_job p timings scrap job room ≡ run_uncached p timings scrap job room
