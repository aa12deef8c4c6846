-- A line fills its 20 places, and lines follow one another from the front.
use mathlib.Core.List.{List, [], ◌∷◌, ◌++◌, append_assoc, append-nil}
use mathlib.Core.Path.{◌≡◌, refl, sym, ap, ◌∙◌}
use Prim.Native.Nat.{ℕ, suc, ◌+◌, ◌-◌, ◌*◌, ◌<◌, ◌≤◌}
use native.Mathlib.Nat.{sub-zero}
use native.Mathlib.Numerals.{add-one}
use native.Mathlib.Omega.{arith}
use lib.ListN.{length, get_or, set, take, drop, length-drop, take-append-drop}
use Rattle.cells.specs.Bytes.{value_at}
use Rattle.jobfile.proofs.Chunks.{before_next, from_next, rest_next}
use Rattle.lines.specs.Lines.{hex_of, line_of, lines_of}

-- document 01's example
example : line_of 0 0x0FFF_AAED
    ≡ 0x30 ∷ 0x30 ∷ 0x20 ∷ 0x30 ∷ 0x30 ∷ 0x30 ∷ 0x30 ∷ 0x30 ∷ 0x30 ∷ 0x30 ∷ 0x30
    ∷ 0x30 ∷ 0x46 ∷ 0x46 ∷ 0x46 ∷ 0x41 ∷ 0x41 ∷ 0x45 ∷ 0x44 ∷ 0x0A ∷ []
example = refl

-- ---- a line: two digits, a space, sixteen digits, the end of the line, one after the other
module _ (code value : ℕ) where
  last : (z : List ℕ) → length z ≡ 1 → set z 0 10 ≡ 10 ∷ []
  last [] e = absurd (omega arith)
  last (x ∷ []) e = refl
  last (x ∷ y ∷ z) e = absurd (omega arith)

  pub filled : (s a b c d : List ℕ) → length s ≡ 20 → a ≡ take 0 s ++ (hex_of 2 code ++ drop 2 s) → b ≡ set a 2 32
      → c ≡ take 3 b ++ (hex_of 16 value ++ drop 19 b) → d ≡ set c 19 10 → d ≡ line_of code value
  filled [] a b c d l ea eb ec ed = absurd (omega arith)
  filled (x ∷ []) a b c d l ea eb ec ed = absurd (omega arith)
  filled (x ∷ y ∷ []) a b c d l ea eb ec ed = absurd (omega arith)
  filled (x ∷ y ∷ z ∷ s) a b c d l ea eb ec ed =
      let one : length (drop 16 s) ≡ 1 = length-drop 16 s ∙ omega arith in
      rw (ed, ec, eb, ea) (ap (λ (t : List ℕ). hex_of 2 code ++ (32 ∷ (hex_of 16 value ++ t))) (last (drop 16 s) one))

-- ---- after i of n lines

pub record Sofar (answers s₀ : List ℕ) (n i : ℕ) (s : List ℕ) : Type 0 where
  pub lines : take (20 * i) s ++ lines_of answers i (n - i) ≡ lines_of answers 0 n
  pub rest : drop (20 * i) s ≡ drop (20 * i) s₀

module _ {answers s₀ : List ℕ} {n : ℕ} where
  pub start : Sofar answers s₀ n 0 s₀
  start = record { lines = rw (sub-zero n) refl; rest = refl }

  module _ {i : ℕ} {s : List ℕ} (more : i < n) (fits : 20 * i + 20 ≤ length s) (so : Sofar answers s₀ n i s) where
    abbrev line : List ℕ
    line = line_of (get_or answers (16 * i) 0) (value_at answers (16 * i + 8) 8)

    abbrev front : List ℕ
    front = take (20 * i) s

    pub next : {t : List ℕ} → t ≡ front ++ (line ++ drop 20 (drop (20 * i) s)) → Sofar answers s₀ n (i + 1) t
    next e =
        let m : n - i ≡ suc (n - suc i) = omega arith in
        let others = lines_of answers (suc i) (n - suc i) in
        rw (e, add-one) (record {
          lines = ap (λ (l : List ℕ). l ++ others) (before_next 20 s i fits line refl)
              ∙ append_assoc front line others ∙ ap (λ (j : ℕ). front ++ lines_of answers i j) (sym m) ∙ so.lines;
          rest = from_next 20 s i fits line refl ∙ rest_next 20 i s s₀ so.rest;
        })

  pub ends : {i : ℕ} {s : List ℕ} → i ≡ n → Sofar answers s₀ n i s → s ≡ lines_of answers 0 n ++ drop (20 * n) s₀
  ends {i} {s} e so =
      let z : n - i ≡ 0 = omega arith in
      let l : take (20 * i) s ≡ lines_of answers 0 n =
      sym (append-nil (take (20 * i) s)) ∙ ap (λ (j : ℕ). take (20 * i) s ++ lines_of answers i j) (sym z) ∙ so.lines in
      sym (take-append-drop (20 * i) s) ∙ (λ j. l j ++ so.rest j) ∙ ap (λ (k : ℕ). lines_of answers 0 n ++ drop (20 * k) s₀) e
