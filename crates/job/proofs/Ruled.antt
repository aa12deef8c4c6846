-- A job is refused by the first of document 01's entries that applies: the tests of the reader are those of the job's bytes.
use Rattle.std.specs.Prelude.{None}
use mathlib.Core.Bool.{Bool, true, false, cond, not, ◌||◌, ◌&&◌, not-not, or_assoc, or-false}
use mathlib.Core.List.{List}
use mathlib.Core.Path.{◌≡◌, refl, sym, ap, ap₂, ◌∙◌}
use Prim.Native.Nat.{ℕ, zero, suc, ◌+◌, ◌*◌, ◌≤◌, ◌<◌, ◌^◌}
use native.Mathlib.Nat.{add-zero, add-suc, suc-add, zero-add, not-suc-le-zero, le_of_suc-le-suc}
use native.Mathlib.Omega.{arith}
use lib.Dec.{eqb, leb, ltb, lit<}
use lib.ListN.{length, get_or, drop}
use lib.Seq.{get_or-take, get_or-drop}
use borrow.Author.Tests.{eqb-true, eq-eqb, ne_eqb, leb-true, le-leb, lt-leb, ltb-false, le-ltb, not-false}
use Rattle.std.specs.Prelude.{Option, Some, None}
use Rattle.cells.specs.Bytes.{little, value_at}
use Rattle.map.proofs.Forms as forms
use Rattle.part.proofs.Entries.{same, any_none, any_each, fits_is, width_is, too_big_is}
use Rattle.part.specs.Refusals.{bad_length, too_big}
use Rattle.part.specs.Rules.{is_in}
use Rattle.part.specs.State.{Part}
use Rattle.time.proofs.Laws.{in_range}
use Rattle.time.specs.Timings.{out_of_range, longest_timing}
use Rattle.job.specs.Job.{timings_of, count_of, record_at, read_calls, job_calls, and_then, bad_head, bad_job_length, is_malformed, job_refusal, most_calls}
use Rattle.job.specs.Kinds.{kind_of}
use Rattle.job.specs.Record.{uses_of, filled, out_of, malformed_as, malformed_record, fields_in, malformed_in, call_in}
use Rattle.job.specs.Rules.{byte_of, timing_at, count, is_used, widths_of, wrong_as, wrong_record, UsedFields, wrong_at, job_ruled}
use Rattle.job.specs.Rules.{job_entry1, job_entry2, job_entry3, job_entry4, job_entry5}
use Rattle.job.specs.declared.Fields.{Fields}
use Rattle.job.specs.declared.Widths.{Widths}
use Rattle.job.specs.declared.Widths.TheVariants.{Unused, Any, Word}
use Rattle.job.specs.declared.kinds.Kind.{Kind}
use Rattle.job.proofs.Claimed.{timings_in_order}
use Rattle.job.proofs.Laws.{then_wrong, first}

pub above : (a b : ℕ) → ltb a b ≡ not (leb b a)
above a b = same (ltb a b) (not (leb b a)) (λ z. ap not (le-leb b a (ltb-false a b z))) (λ z. le-ltb a b (leb-true b a (not-false _ z)))

-- ---- a record, field by field

-- of a field that takes nothing above 0, that it is 0
highest_is : (highest x : ℕ) → ltb highest x ≡ not (cond (is_used highest) (leb x highest) (eqb x 0))
highest_is zero zero = refl
highest_is zero (suc x) = above 0 (suc x) ∙ rw (lt-leb (suc x) 0 (omega arith), ne_eqb (suc x) 0 (λ e. omega arith)) refl
highest_is (suc n) x = above (suc n) x ∙ rw (ne_eqb (suc n) 0 (λ e. omega arith)) refl

width_used : (widths : Widths) (width : ℕ) → out_of widths width ≡ not (is_in width (widths_of widths))
width_used Unused width = simp or-false
width_used Any width = width_is width
width_used Word width = simp or-false

value_used : (used : Bool) (width value : ℕ)
    → cond used (too_big width value) (filled value) ≡ not (cond used (not (leb (256 ^ width) value)) (eqb value 0))
value_used true width value = too_big_is width value ∙ sym (not-not (leb (256 ^ width) value))
value_used false width value = refl

malformed_is : (f : Fields) → malformed_record f ≡ wrong_record f
malformed_is f = λ i. filled f.unused || at (kind_of f.kind) i
  where
    at : (kind : Option Kind) → malformed_as kind f ≡ wrong_as kind f
    at None = refl
    at (Some k) =
        let u = uses_of k in
        λ i. highest_is u.who f.who i || highest_is u.number f.number i || value_used u.value f.width f.value i || width_used u.width f.width i

used_fields : UsedFields
used_fields = (refl, refl, refl, refl, refl, refl, refl, refl, refl)

-- ---- a record of a job

record_byte : (job : List ℕ) (i j : ℕ) → j < 16 → get_or (record_at job i) j 0 ≡ byte_of job (7 + 16 * i + j)
record_byte job i j h = get_or-take 16 (drop (7 + 16 * i) job) j 0 h ∙ get_or-drop (7 + 16 * i) job j 0

little_same : (f g : ℕ → ℕ) (n a b : ℕ) → ((j : ℕ) → j < n → f (a + j) ≡ g (b + j)) → little f a n ≡ little g b n
little_same f g zero a b e = refl
little_same f g (suc n) a b e =
    ap₂ (λ (x y : ℕ). x + 256 * y) (ap f (sym (add-zero a)) ∙ e 0 (omega arith) ∙ ap g (add-zero b))
    (little_same f g n (suc a) (suc b) (λ j h. ap f (suc-add a j ∙ sym (add-suc a j)) ∙ e (suc j) (omega arith) ∙ ap g (add-suc b j ∙ sym (suc-add b j))))

record_value : (job : List ℕ) (i at n : ℕ) → at + n ≤ 16 → value_at (record_at job i) at n ≡ value_at job (7 + 16 * i + at) n
record_value job i at n h =
    little_same (λ k. get_or (record_at job i) k 0) (λ k. get_or job k 0) n at (7 + 16 * i + at)
    (λ j l. record_byte job i (at + j) (omega arith) ∙ ap (byte_of job) (omega arith))

record_wrong : (job : List ℕ) (i : ℕ) → malformed_in (record_at job i) ≡ wrong_at job i
record_wrong job i =
    malformed_is (fields_in (record_at job i))
    ∙ rw (record_byte job i 0 (lit< tt), record_byte job i 1 (lit< tt), record_byte job i 2 (lit< tt), record_byte job i 3 (lit< tt))
    (rw (record_value job i 4 4 (omega arith), record_value job i 8 8 (omega arith), add-zero (7 + 16 * i)) refl)

-- from record i on, none is malformed where the calls are read, and the other way round
sound_each : (job : List ℕ) (n i : ℕ) → is_malformed (read_calls job i n) ≡ false → (j : ℕ) → j < n → wrong_at job (i + j) ≡ false
sound_each job zero i e j h = absurd (not-suc-le-zero h)
sound_each job (suc n) i e zero h = ap (wrong_at job) (add-zero i) ∙ sym (record_wrong job i) ∙ (first (record_at job i) (read_calls job (suc i) n) e).good
sound_each job (suc n) i e (suc j) h =
    ap (wrong_at job) (add-suc i j ∙ sym (suc-add i j))
    ∙ sound_each job n (suc i) (first (record_at job i) (read_calls job (suc i) n) e).sound j (le_of_suc-le-suc h)

each_sound : (job : List ℕ) (n i : ℕ) → ((j : ℕ) → j < n → wrong_at job (i + j) ≡ false) → is_malformed (read_calls job i n) ≡ false
each_sound job zero i f = refl
each_sound job (suc n) i f =
    let here = record_wrong job i ∙ ap (wrong_at job) (sym (add-zero i)) ∙ f 0 (omega arith) in
    let rest = each_sound job n (suc i) (λ j h. ap (wrong_at job) (suc-add i j ∙ sym (add-suc i j)) ∙ f (suc j) (omega arith)) in
    ap (λ (b : Bool). is_malformed (and_then (cond b None (Some (call_in (record_at job i)))) (read_calls job (suc i) n))) here
    ∙ then_wrong (Some (call_in (record_at job i))) (read_calls job (suc i) n) ∙ rest

-- ---- the head, the timings, and the order

count_is : (job : List ℕ) → count_of job ≡ count job
count_is job = omega arith

timings_is : (bytes : List ℕ) → out_of_range (timings_of bytes) ≡ job_entry2 bytes
timings_is bytes =
    same (out_of_range (timings_of bytes)) (job_entry2 bytes)
    (λ e. any_none (λ i. not (leb 1 (timing_at bytes i) && leb (timing_at bytes i) longest_timing)) 24 (λ i h.
    let b = (in_range (timings_of bytes)).0 e i (rw (timings_in_order bytes).0 h) in
    let q : get_or (timings_of bytes) i 0 ≡ timing_at bytes i = (timings_in_order bytes).1 i h in
    rw (← q, le-leb 1 (get_or (timings_of bytes) i 0) b.0, le-leb (get_or (timings_of bytes) i 0) longest_timing b.1) refl))
    (λ e. (in_range (timings_of bytes)).1 (λ i h.
    let l : i < 24 = rw (timings_in_order bytes).0 at h in
    let q : get_or (timings_of bytes) i 0 ≡ timing_at bytes i = (timings_in_order bytes).1 i l in
    let b = not-false _ (any_each (λ i. not (leb 1 (timing_at bytes i) && leb (timing_at bytes i) longest_timing)) 24 e i l) in
    rw q (leb-true 1 (timing_at bytes i) (forms.both_left _ _ b), leb-true (timing_at bytes i) longest_timing (forms.both_right (leb 1 (timing_at bytes i)) _ b))))

not_and : (a b : Bool) → not (a && b) ≡ (not a || not b)
not_and true b = refl
not_and false b = refl

lengths_is : (p : Part) (timings : List ℕ)
    → (bad_length None (length p.main) (length p.otp) (length p.options) (length p.sram) 24 || not (eqb (length timings) 96)) ≡ job_entry1 p timings
lengths_is p timings = rw (fits_is (length p.main)) (simp (not_and, or-false))

-- two bytes are 1 exactly where the low one is 1 and the high one 0
version_is : (a b : ℕ) → a < 256 → eqb (a + 256 * (b + 256 * 0)) 1 ≡ (eqb a 1 && eqb b 0)
version_is a b h =
    let n = a + 256 * (b + 256 * 0) in
    forms.same (eqb n 1) (eqb a 1 && eqb b 0)
    (λ e. let x = eqb-true n 1 e in rw (eq-eqb a 1 (omega arith), eq-eqb b 0 (omega arith)))
    (λ e. eq-eqb n 1 (omega (arith, eqb-true a 1 (forms.both_left _ _ e), eqb-true b 0 (forms.both_right (eqb a 1) _ e))))

head_is : (job : List ℕ) → byte_of job 3 < 256 → bad_head job ≡ job_entry3 job
head_is job h = rw (above (length job) 5, version_is (byte_of job 3) (byte_of job 4) h) (simp (not_and, or_assoc))

size_is : (job : List ℕ) → bad_job_length job ≡ job_entry4 job
size_is job = rw (count_is job, above (length job) 7, above most_calls (count job)) (simp not_and)

calls_is : (job : List ℕ) → is_malformed (job_calls job) ≡ job_entry5 job
calls_is job =
    same (is_malformed (job_calls job)) (job_entry5 job)
    (λ e. any_none (wrong_at job) (count job) (λ j h. ap (wrong_at job) (sym (zero-add j)) ∙ sound_each job (count_of job) 0 e j (rw (count_is job) h)))
    (λ e. each_sound job (count_of job) 0 (λ j h. ap (wrong_at job) (zero-add j) ∙ any_each (wrong_at job) (count job) e j (rw (count_is job) at h)))

-- the refusal of a whole job: the first entry that applies, 0 for none
pub job_ruled_lem : (p : Part) (timings job : List ℕ) (room : ℕ) → byte_of job 3 < 256 → job_refusal p timings job room ≡ job_ruled p timings job room
job_ruled_lem p timings job room h =
    rw (lengths_is p timings, timings_is timings, head_is job h, size_is job, calls_is job, above room (16 * count_of job), count_is job) refl
