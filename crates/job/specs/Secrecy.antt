-- What demand 3 gives for a job run on two parts at level 1 or 2 that differ in main flash and SRAM alone (proofs/Secret.antt), and what the words
-- of that claim come to (proofs/Hidden.antt).
use Rattle.std.specs.Prelude.{Bool, true, false, cond, List, [], ◌∷◌, ◌++◌, map, ◌↔◌, ◌≡◌, ℕ, zero, suc, ◌+◌, ◌*◌, ◌<◌, eqb, length, take, drop, replicate, get_or}
use Rattle.part.specs.Calls.{step, after}
use Rattle.secrecy.specs.Claim.{SecretRead, history_after as afterRequests}
use Rattle.part.specs.Options.{level_of}
use Rattle.cached.specs.Device.{call, said_uncached}
use Rattle.secrecy.specs.Secrecy.{Event, event_of, clean, hidden, opened, FreshPair}
use Rattle.part.specs.State.{Part, part, fresh, code_of}
use Rattle.part.specs.declared.Call.{Call}
use Rattle.job.specs.Example.{probed_job}
use Rattle.job.specs.Job.{timings_of, job_calls, job_refusal, calls_or, JobOutcome, run_by, run_job}
use Rattle.job.specs.Rehearsal.{thousands}

-- the calls that a job makes: none where it is refused
abbrev pub calls_made : Part → List ℕ → List ℕ → ℕ → List Call
calls_made p timings job room = cond (eqb (job_refusal p timings job room) 0) (calls_or (job_calls job)) []

-- the history after a list of calls
abbrev pub history_after : List ℕ → List ℕ → List Event → List Call → Part → List Event
history_after timings scrap h cs p = afterRequests timings h (map (call scrap) cs) p

-- call i is a clean CPU read of main flash or of the SRAM, or a clean fetch, and done; lines change neither
abbrev pub hidden_call : List ℕ → List ℕ → List Event → List Call → Part → ℕ → Bool
hidden_call timings scrap h [] p i = false
hidden_call timings scrap h (c ∷ cs) p zero = hidden h (call scrap c) (length p.main) (said_uncached timings (call scrap c) p)
hidden_call timings scrap h (c ∷ cs) p (suc i) = hidden_call timings scrap (event_of timings (call scrap c) p ∷ h) cs (step timings scrap c p).part i

-- two outcomes of the calls cs, the first on the part p: of the answers' bytes only the eight of a hidden value may differ
pub record JobsAlike (timings scrap : List ℕ) (cs : List Call) (p : Part) (x y : JobOutcome) : Type 0 where
  pub result : y.result ≡ x.result
  pub otp : y.otp ≡ x.otp
  pub options : y.options ≡ x.options
  pub codes : (i : ℕ) → take 8 (drop (16 * i) y.answers) ≡ take 8 (drop (16 * i) x.answers)
  pub values : (i : ℕ) → hidden_call timings scrap [] cs p i ≡ false → take 8 (drop (16 * i + 8) y.answers) ≡ take 8 (drop (16 * i + 8) x.answers)
  pub main : opened (history_after timings scrap [] cs p) ≡ true → y.main ≡ x.main
  pub sram : opened (history_after timings scrap [] cs p) ≡ true → y.sram ≡ x.sram

-- whatever the job, the timings, the scrap and the answer buffer, with caches or without
abbrev pub JobSecrecy : Type 0
JobSecrecy =
    (cached : Bool) (p q : Part) (timings scrap job room : List ℕ) → FreshPair p q
    → JobsAlike (timings_of timings) scrap (calls_made p timings job (length room)) p (run_by cached p timings scrap job room) (run_by cached q timings scrap job room)

-- all bytes of the answers equal: more than JobSecrecy claims, and false
abbrev pub AnswersEqual : Type 0
AnswersEqual =
    (p q : Part) (timings scrap job room : List ℕ) → FreshPair p q → (run_job q timings scrap job room).answers ≡ (run_job p timings scrap job room).answers

-- ---- what the words of the claim come to, for any calls on any part

-- call i is hidden exactly if it is a read by the CPU of bytes that all lie in main flash or all in the SRAM, or a fetch, is done, and clean
abbrev pub HiddenCalls : Type 0
HiddenCalls =
    (timings scrap : List ℕ) (h : List Event) (cs : List Call) (p : Part) (i : ℕ) (d : Call) → i < length cs
    → (hidden_call timings scrap h cs p i ≡ true)
    ↔ ((clean (history_after timings scrap h (take i cs) p) ≡ true) × SecretRead timings (call scrap (get_or cs i d)) (after timings scrap (take i cs) p))

-- each call adds one event: what was asked, whether it was done, and the level before and after it
abbrev pub HistoryGrows : Type 0
HistoryGrows =
    (timings scrap : List ℕ) (h : List Event) (cs : List Call) (c : Call) (p : Part)
    → let q = after timings scrap cs p in
    history_after timings scrap h (cs ++ (c ∷ [])) p
    ≡ record {
      request = call scrap c;
      done = eqb (code_of (step timings scrap c q).answer) 0;
      before = level_of q.options;
      after = level_of (step timings scrap c q).part.options;
    } ∷ history_after timings scrap h cs p

-- a call, the i-th, took level 1 to level 0
pub record Lowered (timings scrap : List ℕ) (cs : List Call) (p : Part) : Type 0 where
  pub i : ℕ
  pub made : i < length cs
  pub from : level_of (after timings scrap (take i cs) p).options ≡ 1
  pub to : level_of (after timings scrap (take (suc i) cs) p).options ≡ 0

-- calls have opened a part exactly if one of them did that
abbrev pub OpenedCalls : Type 0
OpenedCalls = (timings scrap : List ℕ) (cs : List Call) (p : Part) → (opened (history_after timings scrap [] cs p) ≡ true) ↔ Lowered timings scrap cs p

-- then two outcomes that are alike have equal main flash and SRAM, so any job of which a call does that leaves them equal in both parts
abbrev pub LoweredAlike : Type 0
LoweredAlike =
    (timings scrap : List ℕ) (cs : List Call) (p : Part) (x y : JobOutcome) → JobsAlike timings scrap cs p x y → Lowered timings scrap cs p
    → (y.main ≡ x.main) × (y.sram ≡ x.sram)

abbrev pub LoweredEqual : Type 0
LoweredEqual =
    (p q : Part) (timings scrap job room : List ℕ) → FreshPair p q → Lowered (timings_of timings) scrap (calls_made p timings job (length room)) p
    → ((run_job q timings scrap job room).main ≡ (run_job p timings scrap job room).main)
    × ((run_job q timings scrap job room).sram ≡ (run_job p timings scrap job room).sram)

-- ---- two parts at level 1 whose main flash and SRAM differ in their first bytes

abbrev pub first_byte : ℕ → Part
first_byte b = part fresh (b ∷ replicate 16_383 0) (replicate 528 0xFF) (replicate 16 0xFF) (b ∷ replicate 4095 0)

-- a job on the part with that byte
abbrev pub tried : ℕ → List ℕ → JobOutcome
tried b job = run_job (first_byte b) (thousands 24) [] job (replicate 80 0x5A)

abbrev pub hidden_of : List ℕ → ℕ → Bool
hidden_of job i = hidden_call (timings_of (thousands 24)) [] [] (calls_or (job_calls job)) (first_byte 1) i

-- of reset, read, debugger on, read and wait, the first read alone is hidden, and shows the byte; the second is closed, and shows nothing
abbrev pub HiddenAt : ℕ → Type 0
HiddenAt address =
    let job = probed_job address in
    (hidden_of job 0 ≡ false) × (hidden_of job 1 ≡ true) × (hidden_of job 2 ≡ false) × (hidden_of job 3 ≡ false) × (hidden_of job 4 ≡ false)
    × ((tried 1 job).answers ≡ replicate 24 0 ++ (1 ∷ replicate 23 0) ++ (13 ∷ replicate 31 0))
    × ((tried 2 job).answers ≡ replicate 24 0 ++ (2 ∷ replicate 23 0) ++ (13 ∷ replicate 31 0))

-- so for main flash, and for the SRAM
abbrev pub HiddenWorked : Type 0
HiddenWorked = (level_of (first_byte 1).options ≡ 1) × HiddenAt 0x0800_0000 × HiddenAt 0x4002_4000
