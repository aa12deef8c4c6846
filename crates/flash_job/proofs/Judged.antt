-- What the job run knows from its checks: the refusal that it found is the definition's, and without one the job runs as defined.
use Rattle.std.specs.Prelude.{None}
use mathlib.Core.Bool.{Bool, true, false, cond, not}
use mathlib.Core.List.{List}
use mathlib.Core.Path.{◌≡◌, sym, ap, ◌∙◌}
use Prim.Native.Nat.{ℕ, ◌+◌, ◌*◌, ◌≤◌}
use native.Mathlib.Omega.{arith}
use lib.Dec.{eqb}
use lib.ListN.{length}
use borrow.Author.Tests.{ne_eqb, ltb-false}
use Rattle.job.proofs.Laws.{none_applies, size_fits}
use Rattle.job.specs.Job.{timings_of, count_of, read_calls, job_calls, is_malformed, bad_buffers, job_refusal, file_refusal}
use Rattle.job.specs.Job.{calls_or, JobOutcome, job_outcome, ran_job, run_by, most_calls}
use Rattle.part.proofs.Stepped.{or_left}
use Rattle.part.specs.Refusals.{bad_length, length_refused}
use Rattle.part.specs.State.{Part, fresh, having}
use Rattle.time.specs.Timings.{out_of_range}
use Rattle.flash_job.specs.Refusals.{number_of}
use Rattle.flash_job.specs.declared.refused.JobRefusal.{JobRefusal}
use Rattle.flash_job.specs.declared.refused.JobRefusal.TheVariants.{BadBuffers, BadTimings, BadHead, BadJobLength, Malformed, NoRoom}

-- refusal 2 comes next after 1
pub untimely : (cached : Bool) (p : Part) (timings scrap job room micros : List ℕ) → micros ≡ timings_of timings
    → bad_buffers (length p.main) (length p.otp) (length p.options) (length p.sram) (length timings) ≡ false → out_of_range micros ≡ true
    → job_outcome 2 p room ≡ run_by cached p timings scrap job room
untimely cached p timings scrap job room micros loaded fits e =
    let out : out_of_range (timings_of timings) ≡ true = ap out_of_range (sym loaded) ∙ e in rw (fits, out)

-- what the checks found: the lengths fit, and the timings are loaded and in range
pub record Checked (p : Part) (timings micros : List ℕ) : Type 0 where
  pub loaded : micros ≡ timings_of timings
  pub fits : bad_buffers (length p.main) (length p.otp) (length p.options) (length p.sram) (length timings) ≡ false
  pub timely : out_of_range micros ≡ false

-- as the code finds it: by the results of its tests
pub found : (p : Part) (timings micros : List ℕ) (bad out : Bool) → micros ≡ timings_of timings
    → bad ≡ bad_buffers (length p.main) (length p.otp) (length p.options) (length p.sram) (length timings) → bad ≡ false
    → out ≡ out_of_range micros → out ≡ false → Checked p timings micros
found p timings micros bad out loaded b b₀ t t₀ = record { loaded = loaded; fits = sym b ∙ b₀; timely = sym t ∙ t₀ }

-- a refusal is no 0
some : (why : JobRefusal) → number_of why ≡ 0 → ⊥
some BadBuffers e = omega arith
some BadTimings e = omega arith
some BadHead e = omega arith
some BadJobLength e = omega arith
some Malformed e = omega arith
some NoRoom e = omega arith

module _ {p : Part} {timings micros : List ℕ} (k : Checked p timings micros) (scrap job room : List ℕ) where
  refusal_is : file_refusal job (length room) ≡ job_refusal p timings job (length room)
  refusal_is = let inside : out_of_range (timings_of timings) ≡ false = ap out_of_range (sym k.loaded) ∙ k.timely in rw (k.fits, inside)

  -- a refused job
  pub refused : (cached : Bool) (why : JobRefusal) → number_of why ≡ file_refusal job (length room)
      → job_outcome (number_of why) p room ≡ run_by cached p timings scrap job room
  refused cached why judged =
      let r = job_refusal p timings job (length room) in
      let is : number_of why ≡ r = judged ∙ refusal_is in
      let z : eqb r 0 ≡ false = ne_eqb r 0 (λ e. some why (is ∙ e)) in
      ap (λ (j : ℕ). job_outcome j p room) is
      ∙ ap (λ (b : Bool). cond b (ran_job cached (having p fresh) (timings_of timings) scrap (calls_or (job_calls job)) room) (job_outcome r p room)) (sym z)

  -- a job that runs
  module _ {count : ℕ} (judged : (file_refusal job (length room) ≡ 0) × (count ≡ count_of job)) where
    counted : count ≡ count_of job
    counted = judged.1

    -- the timings are 24 numbers, and nothing runs yet
    fitting : length_refused micros (having p fresh) ≡ false
    fitting =
        ap (λ (t : List ℕ). length_refused t (having p fresh)) k.loaded
        ∙ or_left (bad_length None (length p.main) (length p.otp) (length p.options) (length p.sram) 24) (not (eqb (length timings) 96)) k.fits

    pub sound : (count ≤ most_calls) × (7 + 16 * count ≤ length job) × (16 * count ≤ length room) × (out_of_range micros ≡ false)
        × (is_malformed (read_calls job 0 count) ≡ false) × (length_refused micros (having p fresh) ≡ false)
    sound =
        let taken = none_applies job (length room) judged.0 in
        let f = size_fits job taken.size in
        let r = ltb-false (length room) (16 * count_of job) taken.room in
        let read = ap (λ (n : ℕ). is_malformed (read_calls job 0 n)) counted ∙ taken.sound in
        (omega (arith, f.0, counted), omega (arith, f.1, counted), omega (arith, r, counted), k.timely, read, fitting)

    pub runs : (cached : Bool) (o : JobOutcome) → o ≡ ran_job cached (having p fresh) micros scrap (calls_or (read_calls job 0 count)) room
        → o ≡ run_by cached p timings scrap job room
    runs cached o e =
        let q = having p fresh in
        e ∙ (λ i. ran_job cached q (k.loaded i) scrap (calls_or (read_calls job 0 (counted i))) room)
        ∙ ap (λ (j : ℕ). cond (eqb j 0) (ran_job cached q (timings_of timings) scrap (calls_or (job_calls job)) room) (job_outcome j p room)) (sym (sym refusal_is ∙ judged.0))
