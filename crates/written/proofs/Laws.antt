-- Each call of the writer on any draft: its code, and what it leaves in every byte.
use mathlib.Core.Bool.{Bool, false, cond, not, ◌||◌, true≢false}
use mathlib.Core.List.{List, [], ◌++◌}
use mathlib.Core.Logic.{⊎_elim}
use mathlib.Core.Path.{◌≡◌, refl, sym, ap, ◌∙◌}
use Prim.Native.Nat.{ℕ, zero, suc, ◌+◌, ◌*◌, ◌/◌, ◌%◌, ◌<◌, ◌≤◌}
use native.Mathlib.Nat.{mod-lt, eq-or-lt_of_le}
use native.Mathlib.Omega.{arith}
use lib.Dec.{leb, ltb, lit<}
use lib.ListN.{length, get_or, set, take, drop}
use lib.Seq.{sets, sets-eq, length-sets, lt-length-set, get_or-set_same, get_or-set_other}
use borrow.Author.Tests.{leb-true, leb-false, le-leb, lt-leb, ltb-false, le-ltb, not-false}
use Rattle.cells.specs.Bytes.{bytes_of}
use Rattle.cascade.proofs.Picks.{keep₂, keep_by}
use Rattle.job.proofs.Records.{call_kept, fields_kept, held_exactly, record_read}
use Rattle.job.proofs.Ruled.{above}
use Rattle.job.specs.Job.{head_bytes, most_calls}
use Rattle.job.specs.Record.{call_in, call_of, fields_in, fields_of, malformed_in, malformed_record, record_bytes}
use Rattle.job.specs.declared.Fields.{Fields}
use Rattle.part.proofs.Entries.{same}
use Rattle.part.proofs.Stepped.{or_left, or_right}
use Rattle.part.specs.declared.Call.{Call}
use Rattle.written.specs.Claims.{CodesRuled, FiveExactly, FieldsAppended, RefusedKeeps, BegunLeaves, AppendedLeaves, ClosedLeaves}
use Rattle.writer.specs.Writer.{Draft, Wrote, full, appended_fields}
use Rattle.written.proofs.Closing.{by_close}
use Rattle.written.proofs.Drafts.{by_answer}
use Rattle.written.proofs.Stores.{sets_other, sets_here}

-- ---- codes

abbrev Coded : Wrote → ℕ → Type 0
Coded w code = w.code ≡ code

full_is : (d : Draft) → let count = d.writer.count in
    full d ≡ (not (leb (7 + 16 * count + 16) (length d.bytes)) || not (leb (count + 1) 2_000))
full_is d =
    let count = d.writer.count in
    let room = length d.bytes in
    let next = 7 + 16 * count + 16 in
    same (full d) (not (leb next room) || not (leb (count + 1) 2_000))
    (λ e.
    let few = leb-false most_calls count (or_left (leb most_calls count) _ e) in
    let lies = ltb-false room (7 + 16 * suc count) (or_right (leb most_calls count) _ e) in
    rw (le-leb next room (omega (arith, lies)), le-leb (count + 1) 2_000 (omega (arith, few))) refl)
    (λ e.
    let lies = leb-true next room (not-false _ (or_left (not (leb next room)) _ e)) in
    let few = leb-true (count + 1) 2_000 (not-false _ (or_right (not (leb next room)) _ e)) in
    rw (lt-leb most_calls count (omega (arith, few)), le-ltb room (7 + 16 * suc count) (omega (arith, lies))) refl)

codes_ruled : CodesRuled
codes_ruled = (
  (λ bytes. keep₂ Coded (ltb (length bytes) 7) _ _ 20 0 refl refl ∙ ap (λ (t : Bool). cond t 20 0) (above (length bytes) 7)),
  (λ c d. keep₂ Coded (malformed_record (fields_of c)) _ _ 5 _ refl (keep₂ Coded (full d) _ _ 20 0 refl refl)
      ∙ (λ i. cond (held_exactly c i) 5 (cond (full_is d i) 20 0))),
  (λ d. keep₂ Coded (ltb (length d.bytes) 7 || ltb most_calls d.writer.count) _ _ 20 0 refl refl
      ∙ (λ i. cond (above (length d.bytes) 7 i || above most_calls d.writer.count i) 20 0)),
)

-- ---- 5

-- the bytes of a record are bytes
small_bytes : (n v : ℕ) (rest : List ℕ) → ((i : ℕ) → get_or rest i 0 < 256) → (i : ℕ) → get_or (bytes_of n v ++ rest) i 0 < 256
small_bytes zero v rest b i = b i
small_bytes (suc n) v rest b zero = mod-lt v (lit< tt)
small_bytes (suc n) v rest b (suc i) = small_bytes n (v / 256) rest b i

small_record : (f : Fields) (i : ℕ) → get_or (record_bytes f) i 0 < 256
small_record f =
    let value = bytes_of 8 f.value ++ [] in
    let number = bytes_of 4 f.number ++ value in
    let unused = bytes_of 1 f.unused ++ number in
    let width = bytes_of 1 f.width ++ unused in
    small_bytes 1 f.kind (bytes_of 1 f.who ++ width) (small_bytes 1 f.who width (small_bytes 1 f.width unused
    (small_bytes 1 f.unused number (small_bytes 4 f.number value (small_bytes 8 f.value [] (λ i. lit< tt))))))

five_exactly : FiveExactly
five_exactly c d = (
  by_answer c d (λ (w : Wrote). w.code ≡ 5 → (s : List ℕ) → malformed_in s ≡ false → call_in s ≡ c → ⊥)
      (λ wrong _ s sound e.
      let right : malformed_record (fields_of (call_in s)) ≡ false = ap malformed_record (fields_kept (fields_in s) sound) ∙ sound in
      true≢false (sym wrong ∙ ap (λ (c : Call). malformed_record (fields_of c)) (sym e) ∙ right))
      (λ e. absurd (omega arith)) (λ _ _ e. absurd (omega arith)),
  (λ none. keep_by (λ (w : Wrote). w.code ≡ 5) (malformed_record (fields_of c)) _ _ (λ _. refl) (λ held.
      let r = record_bytes (fields_of c) in
      let read : fields_in r ≡ fields_of c = record_read (fields_of c) held in
      absurd (none r refl (small_record (fields_of c)) (ap malformed_record read ∙ held) (ap call_of read ∙ call_kept c)))),
)

fields_appended : FieldsAppended
fields_appended f d sound = ap (λ (g : Fields). appended_fields g d) (sym (fields_kept f sound))

-- ---- what is left

refused_keeps : RefusedKeeps
refused_keeps = (
  (λ bytes. keep_by (λ (w : Wrote). (w.code ≡ 0 → ⊥) → w.draft.bytes ≡ bytes) (ltb (length bytes) 7) _ _ (λ _ n. refl) (λ _ n. absurd (n refl))),
  (λ c d. by_answer c d (λ (w : Wrote). (w.code ≡ 0 → ⊥) → w.draft ≡ d) (λ _ n. refl) (λ n. refl) (λ _ _ n. absurd (n refl))),
  (λ d. by_close d (λ (w : Wrote). (w.code ≡ 0 → ⊥) → w.draft ≡ d) (λ n. refl) (λ _ n. absurd (n refl))),
)

begun_leaves : BegunLeaves
begun_leaves bytes =
    keep_by (λ (w : Wrote). w.code ≡ 0 → w.draft.bytes ≡ head_bytes 0 ++ drop 7 bytes) (ltb (length bytes) 7) _ _
    (λ _ e. absurd (omega arith)) (λ l e. sets-eq (head_bytes 0) bytes 0 (ltb-false (length bytes) 7 l))

appended_leaves : AppendedLeaves
appended_leaves c d =
    let at = 7 + 16 * d.writer.count in
    by_answer c d
    (λ (w : Wrote). w.code ≡ 0 → let e = w.draft in
    (e.writer.count ≡ d.writer.count + 1) × (length e.bytes ≡ length d.bytes)
    × (malformed_in (take 16 (drop at e.bytes)) ≡ false) × (call_in (take 16 (drop at e.bytes)) ≡ c)
    × ((i : ℕ) → (at ≤ i → i < at + 16 → ⊥) → get_or e.bytes i 0 ≡ get_or d.bytes i 0))
    (λ _ e. absurd (omega arith)) (λ e. absurd (omega arith))
    (λ held roomy _.
    let r = record_bytes (fields_of c) in
    let room = ltb-false (length d.bytes) (7 + 16 * suc d.writer.count) (or_right (leb most_calls d.writer.count) _ roomy) in
    let here : take 16 (drop at (sets d.bytes at r)) ≡ r = sets_here r d.bytes at (omega (arith, room)) in
    let read : fields_in (take 16 (drop at (sets d.bytes at r))) ≡ fields_of c = ap fields_in here ∙ record_read (fields_of c) held in (
      omega arith,
      length-sets d.bytes at r,
      ap malformed_record read ∙ held,
      ap call_of read ∙ call_kept c,
      (λ i out. sets_other r d.bytes at i out),
    ))

between : (i : ℕ) → 5 ≤ i → i < 7 → (i ≡ 5 → ⊥) → i ≡ 6
between i p q five = ⊎_elim (λ e. absurd (five (sym e))) (λ l. omega arith) (eq-or-lt_of_le p)

closed_leaves : ClosedLeaves
closed_leaves d =
    let count = d.writer.count in
    by_close d
    (λ (w : Wrote). w.code ≡ 0 → let e = w.draft in
    (e.writer ≡ d.writer) × (length e.bytes ≡ length d.bytes) × (get_or e.bytes 5 0 ≡ count % 256) × (get_or e.bytes 6 0 ≡ count / 256)
    × ((i : ℕ) → (i ≡ 5 → ⊥) → (i ≡ 6 → ⊥) → get_or e.bytes i 0 ≡ get_or d.bytes i 0))
    (λ e. absurd (omega arith))
    (λ k _.
    let b = d.bytes in
    let low = set b 5 (count % 256) in
    let high = count / 256 % 256 in (
      refl,
      length-sets b 5 (bytes_of 2 count),
      get_or-set_other low 6 5 high 0 (λ e. omega arith) ∙ get_or-set_same b 5 (count % 256) 0 (omega (arith, k.long)),
      get_or-set_same low 6 high 0 (lt-length-set b 5 (count % 256) (omega (arith, k.long))) ∙ omega (arith, k.few),
      (λ i five six. sets_other (bytes_of 2 count) b 5 i (λ p q. six (between i p q five))),
    ))
