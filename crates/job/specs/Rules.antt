-- The refusals of a job once more, each as a test on the job's bytes in the words of document 01. proofs/Ruled.antt shows that a job is refused
-- with the first that applies, in document 01's order.
use Rattle.std.specs.Prelude.{Bool, cond, not, ◌||◌, ◌&&◌, List, [], ◌∷◌, ◌≡◌, ℕ, zero, suc, ◌+◌, ◌*◌, ◌^◌, eqb, leb, length, get_or}
use Rattle.std.specs.Prelude.{true, false, Option, Some, None}
use Rattle.cells.specs.Bytes.{value_at}
use Rattle.part.specs.Rules.{any_below, is_in, main_lengths}
use Rattle.part.specs.State.{Part}
use Rattle.job.specs.Kinds.{kind_of}
use Rattle.job.specs.Record.{fields, uses_of}
use Rattle.job.specs.declared.Fields.{Fields}
use Rattle.job.specs.declared.Uses.{Uses}
use Rattle.job.specs.declared.Widths.{Widths}
use Rattle.job.specs.declared.Widths.TheVariants.{Unused, Any, Word}
use Rattle.job.specs.declared.kinds.Kind.{Kind}

abbrev pub byte_of : List ℕ → ℕ → ℕ
byte_of job i = get_or job i 0

-- number i of the timings
abbrev pub timing_at : List ℕ → ℕ → ℕ
timing_at bytes i = value_at bytes (4 * i) 4

abbrev pub count : List ℕ → ℕ
count job = byte_of job 5 + 256 * byte_of job 6

abbrev pub job_entry1 : Part → List ℕ → Bool
job_entry1 p timings =
    not (is_in (length p.main) main_lengths && eqb (length p.otp) 528 && eqb (length p.options) 16 && eqb (length p.sram) 4096
    && eqb (length timings) 96)

abbrev pub job_entry2 : List ℕ → Bool
job_entry2 timings = any_below (λ i. not (leb 1 (timing_at timings i) && leb (timing_at timings i) 60_000_000)) 24

abbrev pub job_entry3 : List ℕ → Bool
job_entry3 job =
    not (leb 5 (length job) && eqb (byte_of job 0) 0x46 && eqb (byte_of job 1) 0x4A && eqb (byte_of job 2) 0x42 && eqb (byte_of job 3) 1 && eqb (byte_of job 4) 0)

abbrev pub job_entry4 : List ℕ → Bool
job_entry4 job = not (leb 7 (length job) && leb (count job) 2_000 && eqb (length job) (7 + 16 * count job))

abbrev pub job_entry6 : List ℕ → ℕ → Bool
job_entry6 job room = not (leb (16 * count job) room)

-- ---- records: a field in use has its own limits, and a field that its kind doesn't use is 0

-- a field that takes more than 0 is used
abbrev pub is_used : ℕ → Bool
is_used highest = not (eqb highest 0)

abbrev pub widths_of : Widths → List ℕ
widths_of Unused = 0 ∷ []
widths_of Any = 1 ∷ 2 ∷ 4 ∷ 8 ∷ []
widths_of Word = 4 ∷ []

abbrev pub wrong_by : Uses → Fields → Bool
wrong_by u f =
    not (cond (is_used u.who) (leb f.who u.who) (eqb f.who 0))
    || not (cond (is_used u.number) (leb f.number u.number) (eqb f.number 0))
    || not (cond u.value (not (leb (256 ^ f.width) f.value)) (eqb f.value 0))
    || not (is_in f.width (widths_of u.width))

abbrev pub wrong_as : Option Kind → Fields → Bool
wrong_as None f = true
wrong_as (Some kind) f = wrong_by (uses_of kind) f

abbrev pub wrong_record : Fields → Bool
wrong_record f = not (eqb f.unused 0) || wrong_as (kind_of f.kind) f

-- there is such a kind, and its entry in the table passes a test
abbrev pub is_with : (Uses → Bool) → Option Kind → Bool
is_with test None = false
is_with test (Some kind) = test (uses_of kind)

-- the kinds, of all bytes, whose entry in the table passes a test
abbrev passing : (ℕ → Bool) → ℕ → ℕ → List ℕ
passing test i zero = []
passing test i (suc n) = cond (test i) (i ∷ passing test (suc i) n) (passing test (suc i) n)

abbrev pub kinds_with : (Uses → Bool) → List ℕ
kinds_with test = passing (λ i. is_with test (kind_of i)) 0 256

-- the table, field by field: no kind above 7; reset uses boot, 0 to 2; read uses who, 0 or 1, width and address; write those and value; pass and
-- wait use time; fetch uses address, and its width is 4; an address and a time are any numbers of 32 bits
abbrev pub UsedFields : Type 0
UsedFields =
    (kinds_with (λ u. true) ≡ 0 ∷ 1 ∷ 2 ∷ 3 ∷ 4 ∷ 5 ∷ 6 ∷ 7 ∷ [])
    × (kinds_with (λ u. is_used u.who) ≡ 3 ∷ 4 ∷ [])
    × (kinds_with (λ u. eqb u.who 1) ≡ 3 ∷ 4 ∷ [])
    × (kinds_with (λ u. is_in 1 (widths_of u.width)) ≡ 3 ∷ 4 ∷ [])
    × (kinds_with (λ u. is_in 4 (widths_of u.width)) ≡ 3 ∷ 4 ∷ 7 ∷ [])
    × (kinds_with (λ u. is_used u.number) ≡ 0 ∷ 3 ∷ 4 ∷ 5 ∷ 6 ∷ 7 ∷ [])
    × (kinds_with (λ u. eqb u.number 2) ≡ 0 ∷ [])
    × (kinds_with (λ u. eqb u.number 0xFFFF_FFFF) ≡ 3 ∷ 4 ∷ 5 ∷ 6 ∷ 7 ∷ [])
    × (kinds_with (λ u. u.value) ≡ 4 ∷ [])

-- record i starts at byte 7 + 16 × i
abbrev pub wrong_at : List ℕ → ℕ → Bool
wrong_at job i =
    let at = 7 + 16 * i in
    wrong_record (fields (byte_of job at) (byte_of job (at + 1)) (byte_of job (at + 2)) (byte_of job (at + 3)) (value_at job (at + 4) 4) (value_at job (at + 8) 8))

abbrev pub job_entry5 : List ℕ → Bool
job_entry5 job = any_below (wrong_at job) (count job)

abbrev pub job_ruled : Part → List ℕ → List ℕ → ℕ → ℕ
job_ruled p timings job room =
    cond (job_entry1 p timings) 1
    (cond (job_entry2 timings) 2
    (cond (job_entry3 job) 3
    (cond (job_entry4 job) 4
    (cond (job_entry6 job room) 6
    (cond (job_entry5 job) 5
    0)))))
