-- An append: where there is room, the part of the buffer that is lent for a record, and stored over, is a run of stores at its place.
use mathlib.Core.Bool.{Bool, true, false, cond}
use mathlib.Core.List.{List, ◌++◌, append_assoc}
use mathlib.Core.Path.{◌≡◌, refl, sym, ap, ◌∙◌}
use Prim.Native.Nat.{ℕ, suc, ◌+◌, ◌-◌, ◌*◌, ◌<◌, ◌≤◌}
use native.Mathlib.Omega.{arith}
use lib.Dec.{eqb, leb, ltb}
use lib.ListN.{length, take, drop, length-drop}
use lib.Seq.{sets, sets-eq, drop-drop, length-take-le}
use borrow.Author.Tests.{eq-eqb, lt-leb, lt-ltb, le-ltb}
use Rattle.job.specs.Job.{most_calls}
use Rattle.job.specs.Record.{malformed_record, record_bytes}
use Rattle.job.specs.declared.Fields.{Fields}
use Rattle.writer.specs.Writer.{draft, writer, wrote, refused, appended_fields}
use Rattle.writer.specs.declared.Writer.{Writer}

place_stored : (s r t : List ℕ) (at n : ℕ) → length r ≡ n → at + n ≤ length s
    → (let k = at + n - at in
    t ≡ cond (eqb (length (take k (drop at s))) n) r (take k (drop at s)) → take at s ++ (t ++ drop k (drop at s)) ≡ sets s at r)
place_stored s r t at n wide fits given =
    let k : at + n - at ≡ n = omega arith in
    let l : eqb (length (take n (drop at s))) n ≡ true =
    eq-eqb (length (take n (drop at s))) n (length-take-le n (drop at s) (omega (arith, length-drop at s))) in
    let q : t ≡ r = rw (k, l) at given in
    let behind : drop n (drop at s) ≡ drop (at + length r) s = drop-drop n at s ∙ ap (λ (j : ℕ). drop (at + j) s) (sym wide) in
    (λ j. take at s ++ (q j ++ drop (k j) (drop at s))) ∙ ap (λ (xs : List ℕ). take at s ++ (r ++ xs)) behind
    ∙ sym (append_assoc (take at s) r (drop (at + length r) s)) ∙ sym (sets-eq r s at (omega arith))

module _ (f : Fields) (w : Writer) (s : List ℕ) {v : Bool} (told : v ≡ malformed_record f) (formed : v ≡ false) (few : w.count < most_calls) where
  abbrev at : ℕ
  at = 7 + 16 * w.count

  sound : malformed_record f ≡ false
  sound = sym told ∙ formed

  below : leb most_calls w.count ≡ false
  below = lt-leb most_calls w.count few

  pub no_room : length s < at + 16 → refused 20 (draft w s) ≡ appended_fields f (draft w s)
  no_room short =
      let lacking : ltb (length s) (7 + 16 * suc w.count) ≡ true = lt-ltb (length s) (7 + 16 * suc w.count) (omega arith) in
      rw (sound, below, lacking)

  pub record_stored : (t : List ℕ) → at + 16 ≤ length s
      → (let k = at + 16 - at in
      t ≡ cond (eqb (length (take k (drop at s))) 16) (record_bytes f) (take k (drop at s))
      → wrote 0 (writer (w.count + 1)) (take at s ++ (t ++ drop k (drop at s))) ≡ appended_fields f (draft w s))
  record_stored t fits given =
      let there : ltb (length s) (7 + 16 * suc w.count) ≡ false = le-ltb (length s) (7 + 16 * suc w.count) (omega arith) in
      let stored = place_stored s (record_bytes f) t at 16 refl fits given in
      let one : w.count + 1 ≡ suc w.count = omega arith in
      rw (sound, below, there) (λ i. wrote 0 (writer (one i)) (stored i))
