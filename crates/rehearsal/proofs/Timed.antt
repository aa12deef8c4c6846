-- The run of a job on the rehearsal's part.
use mathlib.Core.List.{List}
use mathlib.Core.Path.{◌≡◌, refl, ◌∙◌}
use Prim.Native.Nat.{ℕ, zero, suc, ◌+◌, ◌-◌, ◌*◌, ◌<◌}
use native.Mathlib.Numerals.{add-one}
use native.Mathlib.Omega.{arith}
use lib.ListN.{set, replicate}
use Rattle.job.specs.Job.{job_left, run_job}
use Rattle.part.specs.State.{part, fresh}
use Rattle.job.specs.Rehearsal.{thousands, rehearsed}

-- the run of a job under those timings, and on those option cells, is the rehearsal's
pub rehearses : {r : ℕ} {main otp left sram answers options : List ℕ} (timings job room : List ℕ) → timings ≡ thousands 24
    → job_left r main otp left sram answers
    ≡ run_job (part fresh (replicate 65_536 0xFF) (replicate 528 0xFF) options (replicate 4096 0)) timings
    (replicate 65_536 0xFF) job room
    → options ≡ set (replicate 16 0xFF) 1 0xAA
    → (r ≡ (rehearsed job room).result) × (answers ≡ (rehearsed job room).answers)
unfolding rehearsed
rehearses timings job room t e o =
    let f = e ∙ (λ i. run_job (part fresh (replicate 65_536 0xFF) (replicate 528 0xFF) (o i) (replicate 4096 0)) (t i)
    (replicate 65_536 0xFF) job room) in
    (λ i. (f i).result, λ i. (f i).answers)
