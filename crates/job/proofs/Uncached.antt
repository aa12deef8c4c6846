-- A job with caches beside the same without: its parts are equal after every call, and its answers where lines are emptied in time.
use mathlib.Core.Bool.{true, false}
use mathlib.Core.List.{List, [], ◌∷◌, ◌++◌, map}
use mathlib.Core.Path.{◌≡◌, refl, ap, ap₂}
use Prim.Native.Nat.{ℕ, ◌*◌}
use lib.Dec.{eqb}
use lib.ListN.{length, drop}
use Rattle.cached.proofs.Transparent.{Sound, fresh_sound, next}
use Rattle.cached.specs.Claims.{Stale, heeds, in_time, stale}
use Rattle.cached.specs.Device.{after, answers, call, device}
use Rattle.cached.specs.Lines.{Lines, no_lines}
use Rattle.cascade.proofs.Picks.{keep₂}
use Rattle.map.proofs.Forms.{both_left, both_right}
use Rattle.part.specs.Calls.{step}
use Rattle.part.specs.State.{Part, fresh, having}
use Rattle.part.specs.declared.Answer.{Answer}
use Rattle.part.specs.declared.Call.{Call}
use Rattle.job.specs.Claims.{UncachedCells, UncachedSame}
use Rattle.job.specs.Job.{JobOutcome, answers_bytes, calls_or, job_calls, job_outcome, job_refusal, ran_job, timings_of}

module _ (timings scrap : List ℕ) where
  parts_same : (cs : List Call) (p : Part) (l k : Lines) → (after true timings scrap cs (device p l)).part ≡ (after false timings scrap cs (device p k)).part
  parts_same [] p l k = refl
  parts_same (c ∷ cs) p l k = parts_same cs (step timings scrap c p).part _ k

  answers_same : (cs : List Call) (p : Part) (l k : Lines) (s : Stale) → Sound p.main l s → in_time timings (map (call scrap) cs) p s ≡ true
      → answers true timings scrap cs (device p l) ≡ answers false timings scrap cs (device p k)
  answers_same [] p l k s sound e = refl
  answers_same (c ∷ cs) p l k s sound e =
      let (same, kept) = next timings scrap p l s sound c in
      ap₂ {C = List Answer} (λ b bs. b ∷ bs) (same (both_left (heeds c p s) _ e))
      (answers_same cs (step timings scrap c p).part _ k _ kept (both_right (heeds c p s) _ e))

uncached_cells : UncachedCells
uncached_cells p timings scrap job room =
    let cs = calls_or (job_calls job) in
    let same = parts_same (timings_of timings) scrap cs (having p fresh) no_lines no_lines in
    keep₂ (λ (x y : JobOutcome). (x.result ≡ y.result) × (x.main ≡ y.main) × (x.otp ≡ y.otp) × (x.options ≡ y.options) × (x.sram ≡ y.sram))
    (eqb (job_refusal p timings job (length room)) 0) _ _ _ _
    (refl, ap (λ (q : Part). q.main) same, ap (λ (q : Part). q.otp) same, ap (λ (q : Part). q.options) same, ap (λ (q : Part). q.sram) same)
    (refl, refl, refl, refl, refl)

uncached_same : UncachedSame
uncached_same p timings scrap job room e =
    let cs = calls_or (job_calls job) in
    let t = timings_of timings in
    let q = having p fresh in
    keep₂ (λ (x y : JobOutcome). x ≡ y) (eqb (job_refusal p timings job (length room)) 0) _ _ _ _
    (ran t cs q (parts_same t scrap cs q no_lines no_lines) (answers_same t scrap cs q no_lines no_lines (stale false false) (fresh_sound q.main) e)) refl
  where
    ran : (t : List ℕ) (cs : List Call) (q : Part) → (after true t scrap cs (device q no_lines)).part ≡ (after false t scrap cs (device q no_lines)).part
        → answers true t scrap cs (device q no_lines) ≡ answers false t scrap cs (device q no_lines) → ran_job true q t scrap cs room ≡ ran_job false q t scrap cs room
    ran t cs q parts said =
        λ i. job_outcome 0 (parts i) (answers_bytes (said i) ++ drop (16 * length cs) room)
