-- A job: bytes FJB, version 1 (16 bits), count (16 bits, 0 to 2,000), then that many records. It is read whole before any call runs.
use Rattle.std.specs.Prelude.{Bool, true, false, cond, not, ◌||◌, ◌&&◌, List, [], ◌∷◌, ◌++◌, ℕ, zero, suc, ◌+◌, ◌*◌, eqb, ltb, length, get_or, take, drop}
use Rattle.std.specs.Prelude.{Option, Some, None, is_none, unwrap_or}
use Rattle.cells.specs.Bytes.{value_at, bytes_of}
use Rattle.cached.specs.Device.{after, answers, device}
use Rattle.cached.specs.Lines.{no_lines}
use Rattle.part.specs.Refusals.{bad_length}
use Rattle.part.specs.State.{Part, fresh, having, code_of, value_of}
use Rattle.part.specs.declared.Answer.{Answer}
use Rattle.part.specs.declared.Call.{Call}
use Rattle.time.specs.Timings.{out_of_range}
use Rattle.job.specs.Record.{record_call}

-- ---- timings as 96 bytes: n numbers of 32 bits from number i on
abbrev pub numbers_from : List ℕ → ℕ → ℕ → List ℕ
numbers_from bytes i zero = []
numbers_from bytes i (suc n) = value_at bytes (4 * i) 4 ∷ numbers_from bytes (suc i) n

abbrev pub timings_of : List ℕ → List ℕ
timings_of bytes = numbers_from bytes 0 24

-- ---- reading

abbrev pub count_of : List ℕ → ℕ
count_of job = value_at job 5 2

-- record i of a job
abbrev pub record_at : List ℕ → ℕ → List ℕ
record_at job i = take 16 (drop (7 + 16 * i) job)

-- the calls of n records from record i on; none from the first malformed record on
abbrev pub and_then : Option Call → Option (List Call) → Option (List Call)
and_then (Some c) (Some cs) = Some (c ∷ cs)
and_then (Some c) None = None
and_then None cs = None

abbrev pub read_calls : List ℕ → ℕ → ℕ → Option (List Call)
read_calls job i zero = Some []
read_calls job i (suc n) = and_then (record_call (record_at job i)) (read_calls job (suc i) n)

abbrev pub job_calls : List ℕ → Option (List Call)
job_calls job = read_calls job 0 (count_of job)

-- fewer than 5 bytes, another mark than FJB, another version than 1
abbrev pub bad_head : List ℕ → Bool
bad_head job =
    ltb (length job) 5
    || not (eqb (get_or job 0 0) 0x46 && eqb (get_or job 1 0) 0x4A && eqb (get_or job 2 0) 0x42 && eqb (value_at job 3 2) 1)

-- the head of a job of so many calls
abbrev pub head_bytes : ℕ → List ℕ
head_bytes count = 0x46 ∷ 0x4A ∷ 0x42 ∷ (bytes_of 2 1 ++ bytes_of 2 count)

-- the most calls that a job has
abbrev pub most_calls : ℕ
most_calls = 2_000

abbrev pub bad_job_length : List ℕ → Bool
bad_job_length job =
    ltb (length job) 7 || ltb most_calls (count_of job) || not (eqb (length job) (7 + 16 * count_of job))

abbrev pub is_malformed : Option (List Call) → Bool
is_malformed calls = is_none calls

-- ---- the refusal of a whole job, in the order 1, 2, 3, 4, 6, 5; 0 where it runs

-- the lengths of main flash, OTP, option cells, SRAM and timings as bytes; a job's record is fresh, so nothing runs
abbrev pub bad_buffers : ℕ → ℕ → ℕ → ℕ → ℕ → Bool
bad_buffers main otp options sram timings = bad_length None main otp options sram 24 || not (eqb timings 96)

-- 3, 4, 6 and 5, of the job and the room for its answers
abbrev pub file_refusal : List ℕ → ℕ → ℕ
file_refusal job room =
    cond (bad_head job) 3
    (cond (bad_job_length job) 4
    (cond (ltb room (16 * count_of job)) 6
    (cond (is_malformed (job_calls job)) 5
    0)))

abbrev pub job_refusal : Part → List ℕ → List ℕ → ℕ → ℕ
job_refusal p timings job room =
    cond (bad_buffers (length p.main) (length p.otp) (length p.options) (length p.sram) (length timings)) 1
    (cond (out_of_range (timings_of timings)) 2
    (file_refusal job room))

-- ---- answers: code, seven zeros, value

abbrev pub answer_bytes : Answer → List ℕ
answer_bytes a = code_of a ∷ 0 ∷ 0 ∷ 0 ∷ 0 ∷ 0 ∷ 0 ∷ 0 ∷ bytes_of 8 (value_of a)

abbrev pub answers_bytes : List Answer → List ℕ
answers_bytes [] = []
answers_bytes (a ∷ rest) = answer_bytes a ++ answers_bytes rest

-- ---- the run: result and all lent buffers at exit

pub record JobOutcome : Type 0 where
  pub result : ℕ
  pub main : List ℕ
  pub otp : List ℕ
  pub options : List ℕ
  pub sram : List ℕ
  pub answers : List ℕ

-- a result, and what stands in the lent buffers after it
abbrev pub job_left : ℕ → List ℕ → List ℕ → List ℕ → List ℕ → List ℕ → JobOutcome
job_left result main otp options sram answers =
    record { result = result; main = main; otp = otp; options = options; sram = sram; answers = answers }

abbrev pub job_outcome : ℕ → Part → List ℕ → JobOutcome
job_outcome result p answers = job_left result p.main p.otp p.options p.sram answers

abbrev pub calls_or : Option (List Call) → List Call
calls_or calls = unwrap_or calls []

-- with caches, or without; the job holds lines of its own, all free when it starts; bytes past the last answer stay
abbrev pub ran_job : Bool → Part → List ℕ → List ℕ → List Call → List ℕ → JobOutcome
ran_job cached p timings scrap cs room =
    let d = device p no_lines in
    job_outcome 0 (after cached timings scrap cs d).part (answers_bytes (answers cached timings scrap cs d) ++ drop (16 * length cs) room)

-- the job holds a fresh record of the part for itself, and lends one scrap to all of its calls
abbrev pub run_by : Bool → Part → List ℕ → List ℕ → List ℕ → List ℕ → JobOutcome
run_by cached p timings scrap job room =
    let refusal = job_refusal p timings job (length room) in
    cond (eqb refusal 0) (ran_job cached (having p fresh) (timings_of timings) scrap (calls_or (job_calls job)) room) (job_outcome refusal p room)

abbrev pub run_job : Part → List ℕ → List ℕ → List ℕ → List ℕ → JobOutcome
run_job = run_by true

-- the same job on the uncached part
abbrev pub run_uncached : Part → List ℕ → List ℕ → List ℕ → List ℕ → JobOutcome
run_uncached = run_by false
