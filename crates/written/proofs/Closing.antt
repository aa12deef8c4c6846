-- Closing: it writes two bytes that no append writes or looks at, so that what was written there before the last close is gone.
use mathlib.Core.Bool.{cond, ◌||◌}
use mathlib.Core.List.{List, [], ◌∷◌, ◌++◌}
use mathlib.Core.Path.{◌≡◌, refl, sym, ap, ◌∙◌}
use Prim.Native.Nat.{ℕ, suc, ◌+◌, ◌*◌, ◌≤◌, ◌/◌, ◌%◌}
use native.Mathlib.Omega.{arith}
use lib.Dec.{leb, ltb}
use lib.ListN.{length, set}
use lib.Seq.{sets, length-sets, set-set, set_comm}
use borrow.Author.Tests.{le-ltb, leb-false, ltb-false}
use Rattle.cells.specs.Bytes.{bytes_of}
use Rattle.cascade.proofs.Picks.{keep₂, keep_by}
use Rattle.job.specs.Job.{most_calls}
use Rattle.job.specs.Record.{fields_of, malformed_record, record_bytes}
use Rattle.part.proofs.Stepped.{or_left, or_right}
use Rattle.part.specs.declared.Call.{Call}
use Rattle.written.specs.Claims.{ClosedAgain}
use Rattle.writer.specs.Writer.{Draft, draft, writer, Wrote, wrote, refused, full, appended, closed}
use Rattle.written.specs.Lists.{appended_all}
use Rattle.written.proofs.Drafts.{by_answer}
use Rattle.written.proofs.Stores.{set_sets}

-- the draft with k as the count in its head
abbrev pub counted : ℕ → Draft → Draft
counted k d = draft d.writer (sets d.bytes 5 (bytes_of 2 k))

-- what an append would leave of it
abbrev recounted : ℕ → Wrote → Wrote
recounted k w = record { code = w.code; draft = counted k w.draft }

appended_counted : (c : Call) (k : ℕ) (d : Draft) → appended c (counted k d) ≡ recounted k (appended c d)
appended_counted c k d =
    let f = fields_of c in
    let low = k % 256 in
    let high = k / 256 % 256 in
    let at = 7 + 16 * d.writer.count in
    let r = record_bytes f in
    let moved : sets (sets d.bytes 5 (bytes_of 2 k)) at r ≡ sets (sets d.bytes at r) 5 (bytes_of 2 k) =
    set_sets r (set d.bytes 5 low) at 6 high (omega arith) ∙ ap (λ (s : List ℕ). set s 6 high) (set_sets r d.bytes at 5 low (omega arith)) in
    let answer : List ℕ → Wrote =
    λ s. cond (malformed_record f) (refused 5 (counted k d)) (cond (full d) (refused 20 (counted k d)) (wrote 0 (writer (suc d.writer.count)) s)) in
    rw (length-sets d.bytes 5 (bytes_of 2 k))
    (ap answer moved ∙ keep₂ Recounts (malformed_record f) _ _ _ _ refl (keep₂ Recounts (full d) _ _ _ _ refl refl))
  where
    Recounts : Wrote → Wrote → Type 0
    Recounts v w = v ≡ recounted k w

all_counted : (cs : List Call) (k : ℕ) (d : Draft) → appended_all cs (counted k d) ≡ counted k (appended_all cs d)
all_counted [] k d = refl
all_counted (c ∷ cs) k d =
    ap (λ (w : Wrote). appended_all cs w.draft) (appended_counted c k d) ∙ all_counted cs k (appended c d).draft

-- ---- drafts that can be closed

pub record Closable (d : Draft) : Type 0 where
  pub long : 7 ≤ length d.bytes
  pub few : d.writer.count ≤ most_calls

pub closed_is : (d : Draft) → Closable d → closed d ≡ record { code = 0; draft = counted d.writer.count d }
closed_is d k = rw (le-ltb (length d.bytes) 7 k.long, le-ltb most_calls d.writer.count k.few) refl

-- a close is refused, and leaves the draft, or it is done
pub by_close {ℓ} : (d : Draft) (P : Wrote → Type ℓ) → P (refused 20 d)
    → (Closable d → P (record { code = 0; draft = counted d.writer.count d })) → P (closed d)
by_close d P f g =
    keep_by P (ltb (length d.bytes) 7 || ltb most_calls d.writer.count) _ _ (λ _. f)
    (λ e. g (record {
      long = ltb-false (length d.bytes) 7 (or_left (ltb (length d.bytes) 7) _ e);
      few = ltb-false most_calls d.writer.count (or_right (ltb (length d.bytes) 7) _ e);
    }))

-- an append leaves a draft that can be closed
closable_all : (cs : List Call) (d : Draft) → Closable d → Closable (appended_all cs d)
closable_all [] d k = k
closable_all (c ∷ cs) d k =
    closable_all cs (appended c d).draft
    (by_answer c d (λ (w : Wrote). Closable w.draft) (λ _. k) k
    (λ held roomy. record {
      long = rw (length-sets d.bytes (7 + 16 * d.writer.count) (record_bytes (fields_of c))) k.long;
      few = leb-false most_calls d.writer.count (or_left (leb most_calls d.writer.count) _ roomy);
    }))

-- of two counts the later one stays
counted_again : (j k : ℕ) (d : Draft) → counted j (counted k d) ≡ counted j d
counted_again j k d =
    let b = d.bytes in
    let x = set b 5 (k % 256) in
    ap (λ (s : List ℕ). draft d.writer (set s 6 (j / 256 % 256)))
    (set_comm x 6 5 (k / 256 % 256) (j % 256) (λ e. omega arith) ∙ ap (λ (s : List ℕ). set s 6 (k / 256 % 256)) (set-set b 5 (k % 256) (j % 256)))
    ∙ ap (draft d.writer) (set-set (set b 5 (j % 256)) 6 (k / 256 % 256) (j / 256 % 256))

closed_counted : (k : ℕ) (d : Draft) → Closable d → closed (counted k d) ≡ closed d
closed_counted k d c =
    let again : Closable (counted k d) = record { long = rw (length-sets d.bytes 5 (bytes_of 2 k)) c.long; few = c.few } in
    closed_is (counted k d) again ∙ ap (λ (e : Draft). record { code = 0; draft = e }) (counted_again d.writer.count k d) ∙ sym (closed_is d c)

all_append : (cs more : List Call) (d : Draft) → appended_all (cs ++ more) d ≡ appended_all more (appended_all cs d)
all_append [] more d = refl
all_append (c ∷ cs) more d = all_append cs more (appended c d).draft

pub closed_again : ClosedAgain
closed_again cs more d =
    let e = appended_all cs d in
    by_close e (λ (w : Wrote). closed (appended_all more w.draft) ≡ closed (appended_all more e)) refl
    (λ k. ap closed (all_counted more e.writer.count e) ∙ closed_counted e.writer.count (appended_all more e) (closable_all more e k))
    ∙ ap closed (sym (all_append cs more d))
