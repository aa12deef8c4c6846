-- What the reader finds in a head with records of calls behind it: these calls, if the head has their number, and refusal 4 if it has not.
use mathlib.Core.Bool.{true, false, cond}
use mathlib.Core.List.{List, [], ◌∷◌, ◌++◌, append_assoc, append-nil}
use mathlib.Core.Path.{◌≡◌, refl, sym, ap, ◌∙◌}
use Prim.Native.Nat.{ℕ, suc, ◌+◌, ◌*◌, ◌≤◌}
use native.Mathlib.Nat.{mul-suc}
use native.Mathlib.Omega.{arith}
use lib.Dec.{eqb, ltb}
use lib.ListN.{length, take, length-append}
use lib.Seq.{drop_at}
use borrow.Author.Tests.{le-ltb, eq-eqb, ne_eqb}
use Rattle.job.proofs.Records.{call_kept, record_read, read_back}
use Rattle.std.specs.Prelude.{None, Some}
use Rattle.job.specs.Job.{and_then, bad_head, count_of, file_refusal, head_bytes, is_malformed, job_calls, most_calls, read_calls, record_at}
use Rattle.job.specs.Record.{call_of, fields_of, malformed_record, record_bytes, record_call}
use Rattle.job.specs.declared.Fields.{Fields}
use Rattle.part.specs.declared.Call.{Call}
use Rattle.written.proofs.Drafts.{Held, records_of, records_length}

pub read_one : (c : Call) → malformed_record (fields_of c) ≡ false → record_call (record_bytes (fields_of c)) ≡ Some c
read_one c held =
    ap (λ (f : Fields). cond (malformed_record f) None (Some (call_of f))) (record_read (fields_of c) held) ∙ rw held (ap (λ (x : Call). Some x) (call_kept c))

read_records : (ts : List Call) (p rest : List ℕ) (i : ℕ) → length p ≡ 7 + 16 * i → Held ts
    → read_calls (p ++ (records_of ts ++ rest)) i (length ts) ≡ Some ts
read_records [] p rest i e held = refl
read_records (c ∷ cs) p rest i e held =
    let r = record_bytes (fields_of c) in
    let behind = records_of cs ++ rest in
    let here : record_at (p ++ (r ++ behind)) i ≡ r = ap (take 16) (drop_at p (r ++ behind) (7 + 16 * i) e) in
    let first : record_call (record_at (p ++ (r ++ behind)) i) ≡ Some c = ap record_call here ∙ read_one c held.0 in
    let grown : length (p ++ r) ≡ 7 + 16 * suc i = length-append p r ∙ rw (e, mul-suc 16 i) (omega arith) in
    let others : read_calls (p ++ (r ++ behind)) (suc i) (length cs) ≡ Some cs =
    ap (λ (s : List ℕ). read_calls s (suc i) (length cs)) (sym (append_assoc p r behind)) ∙ read_records cs (p ++ r) rest (suc i) grown held.1 in
    λ j. and_then (first j) (others j)

-- the job of these calls with k in its head
abbrev pub job_of : ℕ → List Call → List ℕ
job_of k ts = head_bytes k ++ records_of ts

module _ (k : ℕ) (ts : List Call) where
  pub job_length : length (job_of k ts) ≡ 7 + 16 * length ts
  job_length = length-append (head_bytes k) (records_of ts) ∙ ap (λ (n : ℕ). 7 + n) (records_length ts)

  module _ (small : k ≤ most_calls) where
    count_is : count_of (job_of k ts) ≡ k
    count_is = read_back 2 k (0x46 ∷ 0x4A ∷ 0x42 ∷ 1 ∷ 0 ∷ []) (records_of ts) 5 refl (omega arith)

    head_good : bad_head (job_of k ts) ≡ false
    head_good = rw (le-ltb (length (job_of k ts)) 5 (omega (arith, job_length))) refl

    pub miscounted : (k ≡ length ts → ⊥) → (room : ℕ) → file_refusal (job_of k ts) room ≡ 4
    miscounted other room =
        let long : ltb (length (job_of k ts)) 7 ≡ false = le-ltb (length (job_of k ts)) 7 (omega (arith, job_length)) in
        let few : ltb most_calls (count_of (job_of k ts)) ≡ false = le-ltb most_calls (count_of (job_of k ts)) (omega (arith, count_is)) in
        let differs : eqb (length (job_of k ts)) (7 + 16 * count_of (job_of k ts)) ≡ false =
        ne_eqb (length (job_of k ts)) (7 + 16 * count_of (job_of k ts)) (λ e. other (omega (arith, job_length, count_is))) in
        rw (head_good, long, few, differs) refl

module _ (ts : List Call) (few : length ts ≤ most_calls) (held : Held ts) where
  abbrev job : List ℕ
  job = job_of (length ts) ts

  pub calls_read : job_calls job ≡ Some ts
  calls_read =
      ap (read_calls job 0) (count_is (length ts) ts few)
      ∙ ap (λ (s : List ℕ). read_calls (head_bytes (length ts) ++ s) 0 (length ts)) (sym (append-nil (records_of ts)))
      ∙ read_records ts (head_bytes (length ts)) [] 0 refl held

  pub job_taken : (room : ℕ) → 16 * length ts ≤ room → file_refusal job room ≡ 0
  job_taken room h =
      let counted = count_is (length ts) ts few in
      let long : ltb (length job) 7 ≡ false = le-ltb (length job) 7 (omega (arith, job_length (length ts) ts)) in
      let small : ltb most_calls (count_of job) ≡ false = le-ltb most_calls (count_of job) (omega (arith, counted)) in
      let just : eqb (length job) (7 + 16 * count_of job) ≡ true =
      eq-eqb (length job) (7 + 16 * count_of job) (omega (arith, job_length (length ts) ts, counted)) in
      let roomy : ltb room (16 * count_of job) ≡ false = le-ltb room (16 * count_of job) (omega (arith, counted)) in
      let sound : is_malformed (job_calls job) ≡ false = ap is_malformed calls_read in
      rw (head_good (length ts) ts few, long, small, just, roomy, sound) refl
