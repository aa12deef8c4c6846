-- A number's digits, stored from the lowest to the highest, stand in their place, and nothing else changes.
use mathlib.Core.List.{List, [], ◌∷◌, ◌++◌, append_assoc}
use mathlib.Core.Path.{◌≡◌, refl, sym, ap, ◌∙◌}
use Prim.Native.Nat.{ℕ, zero, suc, ◌+◌, ◌-◌, ◌/◌, ◌%◌, ◌<◌, ◌≤◌}
use native.Mathlib.Nat.{add-zero, add-suc}
use native.Mathlib.Omega.{arith}
use lib.ListN.{length, set, take, drop, length-set, take-append-drop}
use lib.Seq.{take-set-le, drop-set-lt, drop-cons, get_or-set_same, lt-length-set}
use Rattle.lines.specs.Lines.{digit_of, hex_of}

-- the digits still to store: the lowest goes to the last place
abbrev pub stored : List ℕ → ℕ → ℕ → ℕ → List ℕ
stored s at zero v = s
stored s at (suc n) v = stored (set s (at + n) (digit_of (v % 16))) at n (v / 16)

pub all_stored : (n : ℕ) (s : List ℕ) (at v : ℕ) → at + n ≤ length s → stored s at n v ≡ take at s ++ (hex_of n v ++ drop (at + n) s)
all_stored zero s at v h = sym (take-append-drop at s) ∙ ap (λ (k : ℕ). take at s ++ drop k s) (sym (add-zero at))
all_stored (suc n) s at v h =
    let d = digit_of (v % 16) in
    let t = set s (at + n) d in
    let inside : at + n < length s = omega arith in
    let front : take at t ≡ take at s = take-set-le at s (at + n) d (omega arith) in
    let back : drop (at + n) t ≡ d ∷ drop (at + suc n) s =
    drop-cons t (at + n) 0 (lt-length-set s (at + n) d inside)
    ∙ (λ i. get_or-set_same s (at + n) d 0 inside i ∷ drop-set-lt (suc (at + n)) s (at + n) d (omega arith) i)
    ∙ ap (λ (k : ℕ). d ∷ drop k s) (sym (add-suc at n)) in
    all_stored n t at (v / 16) (omega (arith, length-set s (at + n) d))
    ∙ (λ i. front i ++ (hex_of n (v / 16) ++ back i))
    ∙ ap (λ (z : List ℕ). take at s ++ z) (sym (append_assoc (hex_of n (v / 16)) (d ∷ []) (drop (at + suc n) s)))

-- one turn: the number of digits left falls by one
pub turn : (s : List ℕ) (at left v : ℕ) → 0 < left → stored s at left v ≡ stored (set s (at + (left - 1)) (digit_of (v % 16))) at (left - 1) (v / 16)
turn s at zero v h = absurd (omega arith)
turn s at (suc n) v h = let e : suc n - 1 ≡ n = omega arith in rw e refl
