-- What a job's definitions come to: a result of 0 to 6, nothing changed by a refusal, the calls of its records, and no byte beyond its answers.
use mathlib.Core.Bool.{Bool, true, false, cond, ◌||◌, true≢false}
use mathlib.Core.List.{List, [], ◌∷◌, ◌++◌}
use mathlib.Core.Option.{some}
use mathlib.Core.Path.{◌≡◌, refl, sym, ap, ◌∙◌}
use Prim.Native.Nat.{ℕ, zero, suc, ◌+◌, ◌*◌, ◌≤◌, ◌<◌}
use native.Mathlib.Nat.{add-zero, add-suc, suc-add, mul-suc, mul-zero, not-suc-le-zero, le_of_suc-le-suc}
use native.Mathlib.Omega.{arith}
use lib.Dec.{eqb, ltb, lit≤}
use lib.ListN.{length, get_or, get_elem?, take, drop, length-append, length-drop, replicate}
use lib.Seq.{get_or-append-add, get_or-drop, drop-drop}
use borrow.Author.Tests.{eqb-true, eqb-false, ltb-false, not-false}
use Rattle.std.specs.Prelude.{Option, Some, None, is_none}
use Rattle.cascade.proofs.Picks.{keep, keep_by}
use Rattle.part.proofs.Stepped.{or_left, or_right}
use Rattle.cached.specs.Device.{Device, answers, device}
use Rattle.cached.specs.Lines.{no_lines}
use Rattle.part.specs.State.{Part, part, fresh, having}
use Rattle.part.specs.declared.Answer.{Answer}
use Rattle.part.specs.declared.Call.{Call}
use Rattle.time.specs.Timings.{out_of_range}
use Rattle.job.specs.Example.{example_job, example_calls, kinds_job, kinds_calls, damaged, unpowered}
use Rattle.job.specs.Job.{timings_of, count_of, record_at, read_calls, job_calls, and_then, bad_head, bad_job_length, is_malformed, bad_buffers}
use Rattle.job.specs.Job.{job_refusal, answer_bytes, answers_bytes, JobOutcome, job_outcome, calls_or, ran_job, run_by, run_job, most_calls, file_refusal}
use Rattle.job.specs.Record.{malformed_in, call_in, record_call}
use Rattle.job.specs.Rehearsal.{thousands, rehearsed}

-- document 01's example: both calls are done, OPTCR reads 0FFFAAED, and the next byte stays
example : take 33 (rehearsed example_job (replicate 32_000 0x5A)).answers
    ≡ 0 ∷ 0 ∷ 0 ∷ 0 ∷ 0 ∷ 0 ∷ 0 ∷ 0 ∷ 0 ∷ 0 ∷ 0 ∷ 0 ∷ 0 ∷ 0 ∷ 0 ∷ 0
    ∷ 0 ∷ 0 ∷ 0 ∷ 0 ∷ 0 ∷ 0 ∷ 0 ∷ 0 ∷ 0xED ∷ 0xAA ∷ 0xFF ∷ 0x0F ∷ 0 ∷ 0 ∷ 0 ∷ 0 ∷ 0x5A ∷ []
unfolding rehearsed
example = refl

-- a record of each kind, with its fields where document 01 puts them
kinds : (job_calls example_job ≡ Some example_calls) × (job_calls kinds_job ≡ Some kinds_calls)
kinds = (refl, refl)

-- a value too big for its width, and a fourth byte that is not 0, make a record malformed; so do another who, width and value of a fetch
malformed_worked : (record_call (4 ∷ 0 ∷ 1 ∷ 0 ∷ 0 ∷ 0 ∷ 0 ∷ 8 ∷ 0 ∷ 1 ∷ 0 ∷ 0 ∷ 0 ∷ 0 ∷ 0 ∷ 0 ∷ []) ≡ None)
    × (record_call (0 ∷ 0 ∷ 0 ∷ 1 ∷ 0 ∷ 0 ∷ 0 ∷ 0 ∷ 0 ∷ 0 ∷ 0 ∷ 0 ∷ 0 ∷ 0 ∷ 0 ∷ 0 ∷ []) ≡ None)
    × (record_call (7 ∷ 1 ∷ 4 ∷ 0 ∷ 0 ∷ 0 ∷ 0 ∷ 8 ∷ replicate 8 0) ≡ None)
    × (record_call (7 ∷ 0 ∷ 2 ∷ 0 ∷ 0 ∷ 0 ∷ 0 ∷ 8 ∷ replicate 8 0) ≡ None)
    × (record_call (7 ∷ 0 ∷ 4 ∷ 0 ∷ 0 ∷ 0 ∷ 0 ∷ 8 ∷ 1 ∷ replicate 7 0) ≡ None)
malformed_worked = (refl, refl, refl, refl, refl)

-- a part of one sector at level 1
abbrev small : Part
small = part fresh (replicate 16_384 255) (replicate 528 255) (replicate 16 255) (replicate 4096 0)

-- a malformed record and too short an answer buffer: 6 comes first; a sound record before a malformed one doesn't run
order_worked : ((run_job small (thousands 24) [] damaged []).result ≡ 6)
    × ((run_job small (thousands 24) [] damaged (replicate 32 0x5A)).result ≡ 5)
    × ((run_job small (thousands 24) [] damaged (replicate 32 0x5A)).answers ≡ replicate 32 0x5A)
order_worked = (refl, refl, refl)

-- a job starts without power, whatever was run before it
unpowered_worked : take 16 (rehearsed unpowered (replicate 16 0x5A)).answers ≡ 10 ∷ 0 ∷ 0 ∷ 0 ∷ 0 ∷ 0 ∷ 0 ∷ 0 ∷ replicate 8 0
unfolding rehearsed
unpowered_worked = refl

-- ---- a list of answers

length_answers : (xs : List Answer) → length (answers_bytes xs) ≡ 16 * length xs
length_answers [] = sym (mul-zero 16)
length_answers (a ∷ xs) = length-append (answer_bytes a) (answers_bytes xs) ∙ rw (length_answers xs, mul-suc 16 (length xs)) (omega arith)

-- what stands behind the first answer
pub next_bytes : (a : Answer) (xs : List Answer) (rest : List ℕ) (i : ℕ)
    → drop (16 * suc i) (answers_bytes (a ∷ xs) ++ rest) ≡ drop (16 * i) (answers_bytes xs ++ rest)
next_bytes a xs rest i =
    let e : 16 * suc i ≡ 16 + 16 * i = rw (mul-suc 16 i) (omega arith) in
    ap (λ (k : ℕ). drop k (answers_bytes (a ∷ xs) ++ rest)) e ∙ sym (drop-drop (16 * i) 16 (answers_bytes (a ∷ xs) ++ rest))

answers_count : (cached : Bool) (timings scrap : List ℕ) (cs : List Call) (d : Device) → length (answers cached timings scrap cs d) ≡ length cs
answers_count cached timings scrap [] d = refl
answers_count cached timings scrap (c ∷ cs) d = ap suc (answers_count cached timings scrap cs _)

-- ---- the calls of a sound job are those of its records

-- a record that is malformed ends the reading; one that is sound leaves the rest to decide
pub then_wrong : (c : Option Call) (rest : Option (List Call)) → is_malformed (and_then c rest) ≡ (is_none c || is_malformed rest)
then_wrong (Some c) None = refl
then_wrong (Some c) (Some cs) = refl
then_wrong None rest = refl

-- records that are read as calls: the first is sound, and so are the others
pub record First (s : List ℕ) (rest : Option (List Call)) : Type 0 where
  pub good : malformed_in s ≡ false
  pub sound : is_malformed rest ≡ false
  pub calls : calls_or (and_then (record_call s) rest) ≡ call_in s ∷ calls_or rest

pub first : (s : List ℕ) (rest : Option (List Call)) → is_malformed (and_then (record_call s) rest) ≡ false → First s rest
first s rest e =
    let x = at (malformed_in s) rest e in
    record { good = x.0; sound = x.1; calls = x.2 }
  where
    at : (b : Bool) (cs : Option (List Call)) → is_malformed (and_then (cond b None (Some (call_in s))) cs) ≡ false
        → (b ≡ false) × (is_malformed cs ≡ false) × (calls_or (and_then (cond b None (Some (call_in s))) cs) ≡ call_in s ∷ calls_or cs)
    at true cs z = absurd (true≢false z)
    at false None z = absurd (true≢false z)
    at false (Some cs) z = (refl, refl, refl)

pub read_count : (job : List ℕ) (n i : ℕ) → is_malformed (read_calls job i n) ≡ false → length (calls_or (read_calls job i n)) ≡ n
read_count job zero i e = refl
read_count job (suc n) i e =
    let f = first (record_at job i) (read_calls job (suc i) n) e in
    ap length f.calls ∙ ap suc (read_count job n (suc i) f.sound)

pub read_at_lem : (job : List ℕ) (n i k : ℕ) → is_malformed (read_calls job i n) ≡ false → k < n
    → get_elem? (calls_or (read_calls job i n)) k ≡ some (call_in (record_at job (i + k)))
read_at_lem job zero i k e h = absurd (not-suc-le-zero h)
read_at_lem job (suc n) i zero e h =
    ap (λ (cs : List Call). get_elem? cs 0) (first (record_at job i) (read_calls job (suc i) n) e).calls
    ∙ ap (λ (j : ℕ). some (call_in (record_at job j))) (sym (add-zero i))
read_at_lem job (suc n) i (suc k) e h =
    let f = first (record_at job i) (read_calls job (suc i) n) e in
    ap (λ (cs : List Call). get_elem? cs (suc k)) f.calls ∙ read_at_lem job n (suc i) k f.sound (le_of_suc-le-suc h)
    ∙ ap (λ (j : ℕ). some (call_in (record_at job j))) (suc-add i k ∙ sym (add-suc i k))

-- ---- a job that no refusal applies to

pub record Taken (job : List ℕ) (answers : ℕ) : Type 0 where
  pub head : bad_head job ≡ false
  pub size : bad_job_length job ≡ false
  pub room : ltb answers (16 * count_of job) ≡ false
  pub sound : is_malformed (job_calls job) ≡ false

-- a refusal that does not come to be leaves the next ones to decide
past : (t : Bool) (k n : ℕ) → cond t (suc k) n ≡ 0 → (t ≡ false) × (n ≡ 0)
past true k n e = absurd (omega arith)
past false k n e = (refl, e)

pub none_applies : (job : List ℕ) (answers : ℕ) → file_refusal job answers ≡ 0 → Taken job answers
none_applies job answers e =
    let head = past (bad_head job) 2 _ e in
    let size = past (bad_job_length job) 3 _ head.1 in
    let room = past (ltb answers (16 * count_of job)) 5 _ size.1 in
    record { head = head.0; size = size.0; room = room.0; sound = (past (is_malformed (job_calls job)) 4 0 room.1).0 }

-- what fits: at most 2,000 records, and the bytes for just them
pub size_fits : (job : List ℕ) → bad_job_length job ≡ false → (count_of job ≤ most_calls) × (length job ≡ 7 + 16 * count_of job)
size_fits job e = search (or_left, or_right, not-false, ltb-false, eqb-true)

-- ---- the job

module _ (cached : Bool) (p : Part) (timings scrap job room : List ℕ) where
  abbrev out : JobOutcome
  out = run_by cached p timings scrap job room

  abbrev refusal : ℕ
  refusal = job_refusal p timings job (length room)

  -- all calls of the job, made
  abbrev made : JobOutcome
  made = ran_job cached (having p fresh) (timings_of timings) scrap (calls_or (job_calls job)) room

  -- the result is 0 to 6
  refusal_small : refusal ≤ 6
  refusal_small =
      let P : ℕ → Type 0 = λ k. k ≤ 6 in
      keep P (bad_buffers (length p.main) (length p.otp) (length p.options) (length p.sram) (length timings)) 1 _ (lit≤ tt)
      (keep P (out_of_range (timings_of timings)) 2 _ (lit≤ tt) (keep P (bad_head job) 3 _ (lit≤ tt) (keep P (bad_job_length job) 4 _ (lit≤ tt)
      (keep P (ltb (length room) (16 * count_of job)) 6 _ (lit≤ tt) (keep P (is_malformed (job_calls job)) 5 0 (lit≤ tt) (lit≤ tt))))))

  pub result_range : out.result ≤ 6
  result_range = keep (λ (o : JobOutcome). o.result ≤ 6) (eqb refusal 0) _ _ (lit≤ tt) refusal_small

  -- a refused job changes nothing anywhere
  pub refused_keeps : (out.result ≡ 0 → ⊥) → out ≡ job_outcome out.result p room
  refused_keeps =
      keep (λ (o : JobOutcome). (o.result ≡ 0 → ⊥) → o ≡ job_outcome o.result p room) (eqb refusal 0) _ _ (λ n. absurd (n refl)) (λ n. refl)

  -- ---- a job that runs
  module _ (runs : out.result ≡ 0) where
    accepted : eqb refusal 0 ≡ true
    accepted =
        keep_by (λ (o : JobOutcome). o.result ≡ 0 → eqb refusal 0 ≡ true) (eqb refusal 0) made (job_outcome refusal p room)
        (λ q z. q) (λ q z. absurd (eqb-false refusal 0 q z)) runs

    -- what runs, runs the calls of the job from a fresh record
    pub ran : out ≡ made
    ran = ap (λ (b : Bool). cond b made (job_outcome refusal p room)) accepted

    -- none of the refusals applies
    pub taken : Taken job (length room)
    taken =
        let bad = bad_buffers (length p.main) (length p.otp) (length p.options) (length p.sram) (length timings) in
        let timely = (past bad 0 _ (eqb-true refusal 0 accepted)).1 in
        none_applies job (length room) (past (out_of_range (timings_of timings)) 1 (file_refusal job (length room)) timely).1

    calls_count : length (calls_or (job_calls job)) ≡ count_of job
    calls_count = read_count job (count_of job) 0 taken.sound

    abbrev said : List Answer
    said = answers cached (timings_of timings) scrap (calls_or (job_calls job)) (device (having p fresh) no_lines)

    said_length : length (answers_bytes said) ≡ 16 * count_of job
    said_length =
        length_answers said ∙ ap (λ (k : ℕ). 16 * k) (answers_count cached (timings_of timings) scrap (calls_or (job_calls job)) (device (having p fresh) no_lines) ∙ calls_count)

    -- bytes past the last answer stay, and the buffer keeps its length
    pub beyond_stays : (j : ℕ) → get_or out.answers (16 * count_of job + j) 0 ≡ get_or room (16 * count_of job + j) 0
    beyond_stays j =
        ap (λ (o : JobOutcome). get_or o.answers (16 * count_of job + j) 0) ran
        ∙ rw (calls_count)
        (ap (λ (k : ℕ). get_or (answers_bytes said ++ drop (16 * count_of job) room) (k + j) 0) (sym said_length)
        ∙ get_or-append-add (answers_bytes said) (drop (16 * count_of job) room) j 0 ∙ get_or-drop (16 * count_of job) room j 0)

    pub length_stays : length out.answers ≡ length room
    length_stays =
        ap (λ (o : JobOutcome). length o.answers) ran
        ∙ rw (calls_count, length-append (answers_bytes said) (drop (16 * count_of job) room), said_length, length-drop (16 * count_of job) room)
        (omega (arith, ltb-false (length room) (16 * count_of job) taken.room))
