-- What is claimed of the writer: of each call on any draft, made by hand or not, and of whole lists of calls in any buffer.
use Rattle.std.specs.Prelude.{Some, Bool, false, cond, not, ◌||◌, List, [], ◌∷◌, ◌++◌, ◌≡◌, ℕ, ◌+◌, ◌*◌, ◌/◌, ◌%◌, ◌<◌, ◌≤◌, leb, length, get_or, take, drop}
use Rattle.job.specs.Job.{calls_or, file_refusal, job_calls}
use Rattle.job.specs.Record.{call_in, call_of, fields_of, is_long, malformed_in, malformed_record}
use Rattle.job.specs.declared.Fields.{Fields}
use Rattle.part.specs.Refusals.{malformed}
use Rattle.part.specs.declared.Call.{Call}
use Rattle.writer.specs.Writer.{Draft, begun, appended_fields, appended, closed}
use Rattle.written.specs.Lists.{appended_all, taken_of, written, job_in}

-- ---- the code of each call: the first entry that applies, 5 before 20

-- the reader would call it malformed, or 32 bits don't hold its number
abbrev pub unheld : Call → Bool
unheld c = malformed c || is_long (fields_of c)

-- the next bytes are there: 7 for the head or to close, 16 for a record
abbrev pub CodesRuled : Type 0
CodesRuled =
    ((bytes : List ℕ) → (begun bytes).code ≡ cond (not (leb 7 (length bytes))) 20 0)
    × ((c : Call) (d : Draft) → let count = d.writer.count in
    (appended c d).code ≡ cond (unheld c) 5 (cond (not (leb (7 + 16 * count + 16) (length d.bytes)) || not (leb (count + 1) 2_000)) 20 0))
    × ((d : Draft) → (closed d).code ≡ cond (not (leb 7 (length d.bytes)) || not (leb d.writer.count 2_000)) 20 0)

-- 5 exactly for the calls that no sound record holds, whatever the draft
abbrev pub FiveExactly : Type 0
FiveExactly =
    (c : Call) (d : Draft)
    → ((appended c d).code ≡ 5 → (s : List ℕ) → malformed_in s ≡ false → call_in s ≡ c → ⊥)
    × (((s : List ℕ) → length s ≡ 16 → ((i : ℕ) → get_or s i 0 < 256) → malformed_in s ≡ false → call_in s ≡ c → ⊥) → (appended c d).code ≡ 5)

-- a host that appends by fields appends the call that sound fields say, so that all of this is said of it too
abbrev pub FieldsAppended : Type 0
FieldsAppended = (f : Fields) (d : Draft) → malformed_record f ≡ false → appended_fields f d ≡ appended (call_of f) d

-- ---- what each call leaves

abbrev pub RefusedKeeps : Type 0
RefusedKeeps =
    ((bytes : List ℕ) → ((begun bytes).code ≡ 0 → ⊥) → (begun bytes).draft.bytes ≡ bytes)
    × ((c : Call) (d : Draft) → ((appended c d).code ≡ 0 → ⊥) → (appended c d).draft ≡ d)
    × ((d : Draft) → ((closed d).code ≡ 0 → ⊥) → (closed d).draft ≡ d)

-- the head FJB, version 1, count 0 in the first 7 bytes, and all others as they were
abbrev pub BegunLeaves : Type 0
BegunLeaves =
    (bytes : List ℕ) → (begun bytes).code ≡ 0
    → (begun bytes).draft.bytes ≡ 0x46 ∷ 0x4A ∷ 0x42 ∷ 1 ∷ 0 ∷ 0 ∷ 0 ∷ drop 7 bytes

-- one call more; its record in the 16 bytes behind the others, which is read as that call; all other bytes as they were
abbrev pub AppendedLeaves : Type 0
AppendedLeaves =
    (c : Call) (d : Draft) → (appended c d).code ≡ 0 → let e = (appended c d).draft in let at = 7 + 16 * d.writer.count in
    (e.writer.count ≡ d.writer.count + 1) × (length e.bytes ≡ length d.bytes)
    × (malformed_in (take 16 (drop at e.bytes)) ≡ false) × (call_in (take 16 (drop at e.bytes)) ≡ c)
    × ((i : ℕ) → (at ≤ i → i < at + 16 → ⊥) → get_or e.bytes i 0 ≡ get_or d.bytes i 0)

-- the count in bytes 5 and 6, and all others as they were
abbrev pub ClosedLeaves : Type 0
ClosedLeaves =
    (d : Draft) → (closed d).code ≡ 0 → let e = (closed d).draft in let count = d.writer.count in
    (e.writer ≡ d.writer) × (length e.bytes ≡ length d.bytes) × (get_or e.bytes 5 0 ≡ count % 256) × (get_or e.bytes 6 0 ≡ count / 256)
    × ((i : ℕ) → (i ≡ 5 → ⊥) → (i ≡ 6 → ⊥) → get_or e.bytes i 0 ≡ get_or d.bytes i 0)

-- ---- lists of calls

-- what was begun, appended and closed is a job that the reader takes, and is read as exactly the calls whose append was done, in this order;
-- bytes past the job are untouched
abbrev pub ReadBack : Type 0
ReadBack =
    (cs : List Call) (bytes : List ℕ) → 7 ≤ length bytes → let d = written cs bytes in let taken = taken_of cs (begun bytes).draft in
    (job_calls (job_in d) ≡ Some taken) × ((room : ℕ) → 16 * length taken ≤ room → file_refusal (job_in d) room ≡ 0)
    × (d.writer.count ≡ length taken) × (drop (7 + 16 * length taken) d.bytes ≡ drop (7 + 16 * length taken) bytes)

-- in a buffer with room for them, those are all
abbrev pub any_unheld : List Call → Bool
any_unheld [] = false
any_unheld (c ∷ cs) = unheld c || any_unheld cs

abbrev pub AllTaken : Type 0
AllTaken =
    (cs : List Call) (bytes : List ℕ) → any_unheld cs ≡ false → length cs ≤ 2_000 → 7 + 16 * length cs ≤ length bytes
    → taken_of cs (begun bytes).draft ≡ cs

-- a job that the reader takes, written again call by call into a buffer of its length, is the same bytes
abbrev pub WrittenAgain : Type 0
WrittenAgain =
    (job bytes : List ℕ) (room : ℕ) → ((i : ℕ) → get_or job i 0 < 256) → file_refusal job room ≡ 0 → length bytes ≡ length job
    → (written (calls_or (job_calls job)) bytes).bytes ≡ job

-- appending after close and closing again is as closing once at the end, on any draft
abbrev pub ClosedAgain : Type 0
ClosedAgain =
    (cs more : List Call) (d : Draft) → closed (appended_all more (closed (appended_all cs d)).draft) ≡ closed (appended_all (cs ++ more) d)

-- what was appended to since it was begun, or since it was closed, and not closed, is refused with 4
abbrev pub Unclosed : Type 0
Unclosed =
    (cs more : List Call) (bytes : List ℕ) (room : ℕ) → 7 ≤ length bytes → let begin = (begun bytes).draft in let d = written cs bytes in
    (0 < length (taken_of cs begin) → file_refusal (job_in (appended_all cs begin)) room ≡ 4)
    × (0 < length (taken_of more d) → file_refusal (job_in (appended_all more d)) room ≡ 4)
