-- The claims on records, timings, answers and the part of `rehearse`.
use mathlib.Core.Bool.{true}
use mathlib.Core.List.{List, [], ◌∷◌, ◌++◌}
use mathlib.Core.Option.{some}
use mathlib.Core.Path.{◌≡◌, refl, sym, ap, ◌∙◌}
use Prim.Native.Nat.{ℕ, zero, suc, ◌+◌, ◌*◌, ◌<◌}
use native.Mathlib.Nat.{zero-add, add-zero, add-suc, suc-add, not-suc-le-zero, le_of_suc-le-suc}
use native.Mathlib.Omega.{arith}
use borrow.Author.Tests.{le-ltb, ne_eqb}
use lib.ListN.{length, get_or, get_elem?, take, drop, replicate, get_or-replicate, get_or-append}
use lib.Seq.{get_or-append-add}
use Rattle.cells.proofs.Laws.{bytes_at_lem}
use Rattle.cells.specs.Bytes.{bytes_of}
use Rattle.cached.specs.Device.{Device, after, answers, cached_step, device}
use Rattle.cached.specs.Lines.{no_lines}
use Rattle.part.specs.State.{fresh, having, code_of, value_of}
use Rattle.part.specs.declared.Call.{Call}
use Rattle.job.proofs.Laws.{next_bytes, read_at_lem, ran, taken}
use Rattle.job.specs.Claims.{CallOfKind, FieldPlaces, NoCalls, TimingsInOrder, AnswerLayout, AnswersInOrder, RehearsalPart}
use Rattle.job.specs.Job.{numbers_from, timings_of, count_of, record_at, job_calls, answer_bytes, answers_bytes, JobOutcome, calls_or}
use Rattle.job.specs.Record.{call_in}
use Rattle.job.specs.Rehearsal.{rehearsed}
use Rattle.job.specs.Rules.{timing_at}

call_of_kind : CallOfKind
call_of_kind who width unused number value = (refl, refl, refl, refl, refl, refl, refl, refl)

field_places : FieldPlaces
field_places = refl

rehearsal_part : RehearsalPart
unfolding rehearsed
rehearsal_part = (λ job room. refl, refl, refl)

-- what stands behind a head with a count of 0 makes the job longer than 7 bytes
no_calls : NoCalls
no_calls =
    let head : List ℕ = 0x46 ∷ 0x4A ∷ 0x42 ∷ 1 ∷ 0 ∷ 0 ∷ 0 ∷ [] in (
      (λ p timings scrap answers fits timely. rw (fits, timely, le-ltb (length answers) (16 * count_of head) (omega arith)) refl),
      (λ x behind room.
          let job : List ℕ = 0x46 ∷ 0x4A ∷ 0x42 ∷ 1 ∷ 0 ∷ 0 ∷ 0 ∷ x ∷ behind in
          rw (le-ltb (length job) 5 (omega arith), ne_eqb (length job) (7 + 16 * count_of job) (λ e. omega arith), le-ltb (length job) 7 (omega arith)) refl),
    )

-- ---- timings

numbers_at : (bytes : List ℕ) (n i k : ℕ) → k < n → get_or (numbers_from bytes i n) k 0 ≡ timing_at bytes (i + k)
numbers_at bytes zero i k h = absurd (not-suc-le-zero h)
numbers_at bytes (suc n) i zero h = ap (timing_at bytes) (sym (add-zero i))
numbers_at bytes (suc n) i (suc k) h = numbers_at bytes n (suc i) k (le_of_suc-le-suc h) ∙ ap (timing_at bytes) (suc-add i k ∙ sym (add-suc i k))

pub timings_in_order : TimingsInOrder
timings_in_order bytes = (refl, λ i h. numbers_at bytes 24 0 i h ∙ ap (timing_at bytes) (zero-add i))

-- ---- answers

-- byte i of n that a number is split into
answer_layout : AnswerLayout
answer_layout a =
    let value = bytes_of 8 (value_of a) in (
      refl,
      refl,
      (λ i h. get_or-append-add (code_of a ∷ []) (replicate 7 0 ++ value) i 0 ∙ get_or-append (replicate 7 0) value 0 i h ∙ get_or-replicate 7 i 0 0 h),
      (λ i h. get_or-append-add (code_of a ∷ replicate 7 0) value i 0 ∙ bytes_at_lem 8 (value_of a) i h),
    )

answer_made : (timings scrap : List ℕ) (cs : List Call) (i : ℕ) (d : Device) (c : Call) (rest : List ℕ) → get_elem? cs i ≡ some c
    → take 16 (drop (16 * i) (answers_bytes (answers true timings scrap cs d) ++ rest))
    ≡ answer_bytes (cached_step timings scrap c (after true timings scrap (take i cs) d)).answer
answer_made timings scrap [] i d c rest e = let z : ◌≡◌ {A = ℕ} 0 1 = cc in absurd (omega arith)
answer_made timings scrap (x ∷ cs) zero d c rest e = let q : x ≡ c = cc in ap (λ (y : Call). answer_bytes (cached_step timings scrap y d).answer) q
answer_made timings scrap (x ∷ cs) (suc i) d c rest e =
    let y = cached_step timings scrap x d in
    ap (take 16) (next_bytes y.answer (answers true timings scrap cs y.device) rest i) ∙ answer_made timings scrap cs i y.device c rest e

pub answer_record : AnswersInOrder
answer_record p timings scrap job room runs i h =
    ap (λ (o : JobOutcome). take 16 (drop (16 * i) o.answers)) (ran true p timings scrap job room runs)
    ∙ answer_made (timings_of timings) scrap (calls_or (job_calls job)) i (device (having p fresh) no_lines) (call_in (record_at job i)) _
    (read_at_lem job (count_of job) 0 i (taken true p timings scrap job room runs).sound h ∙ ap (λ (j : ℕ). some (call_in (record_at job j))) (zero-add i))
