-- What is new of each option cell, and what is left of the others while the cells are cut one after the other.
use mathlib.Core.Bool.{Bool, true, false, cond}
use mathlib.Core.List.{List, ◌++◌}
use mathlib.Core.Path.{◌≡◌, refl, sym, ap, ap₂, ◌∙◌}
use Prim.Native.Nat.{ℕ, suc, ◌+◌, ◌<◌}
use native.Mathlib.Omega.{arith}
use native.Mathlib.Nat.{add-zero}
use native.Mathlib.Numerals.{add-one}
use lib.Bits.{bit_and, bit_or}
use lib.Dec.{eqb}
use lib.ListN.{length, get_or, set, take, drop, replicate, length-set, length-take, length-replicate, get_or-replicate}
use lib.Seq.{get_or-set_same, get_or-set_other, get_or-append-add, get_or-drop, drop-cons, take-suc, append_snoc, set-append_seam}
use borrow.Author.Tests.{eqb-true, eqb-false}
use Rattle.cascade.proofs.Picks.{keep_by}
use Rattle.part.proofs.Cut.{cut_byte}
use Rattle.part.specs.Options.{changed_options, cut_option, cut_options, regressed_options}
use Rattle.registers.specs.Words.{field}
use Rattle.options.specs.Changed.{changed_at, new_at}

-- a byte inside, beside one that is set
set_at : (s : List ℕ) (k a i : ℕ) → i < length s → get_or (set s k a) i 0 ≡ cond (eqb i k) a (get_or s i 0)
set_at s k a i h =
    keep_by (λ (z : ℕ). get_or (set s k a) i 0 ≡ z) (eqb i k) a (get_or s i 0)
    (λ e. let same = eqb-true i k e in rw same (get_or-set_same s k a 0 (rw same at h)))
    (λ e. get_or-set_other s k i a 0 (eqb-false i k e))

abbrev pub new_cells : Bool → ℕ → List ℕ → List ℕ
new_cells regress optcr s = cond regress (regressed_options s) (changed_options s optcr)

new_is : (regress : Bool) (optcr : ℕ) (s : List ℕ) (i : ℕ) → i < length s → get_or (new_cells regress optcr s) i 0 ≡ new_at regress optcr i (get_or s i 0)
new_is true optcr s i h = set_at s 1 0xAA i h
new_is false optcr s i h =
    let blank = replicate {A = ℕ} (length s) 255 in
    let user = set blank 0 (bit_or (bit_and optcr 0xEC) 0x13) in
    let rdp = set user 1 (field optcr 8 8) in
    let low = set rdp 8 (field optcr 16 8) in
    set_at low 9 (bit_or (field optcr 24 4) 0xF0) i (simp (length-set, length-replicate) h)
    ∙ ap (cond (eqb i 9) (bit_or (field optcr 24 4) 0xF0))
    (set_at rdp 8 (field optcr 16 8) i (simp (length-set, length-replicate) h)
    ∙ ap (cond (eqb i 8) (field optcr 16 8))
    (set_at user 1 (field optcr 8 8) i (simp (length-set, length-replicate) h)
    ∙ ap (cond (eqb i 1) (field optcr 8 8))
    (set_at blank 0 (bit_or (bit_and optcr 0xEC) 0x13) i (simp length-replicate h)
    ∙ ap (cond (eqb i 0) (bit_or (bit_and optcr 0xEC) 0x13)) (get_or-replicate (length s) i 255 0 h))))

-- what each cell of a change, and of one that is cut, has to become

pub changed_cells : (optcr : ℕ) (s : List ℕ) → length (changed_options s optcr) ≡ length s
changed_cells optcr s = simp (length-set, length-replicate)

pub changed_is : (optcr : ℕ) (s : List ℕ) (i : ℕ) → i < length s → changed_at optcr i ≡ get_or (changed_options s optcr) i 0
changed_is optcr s i h = sym (new_is false optcr s i h)

pub cut_is : (regress : Bool) (optcr : ℕ) (scrap s : List ℕ) (i : ℕ) → i < length s
    → cut_option (get_or s i 0) (new_at regress optcr i (get_or s i 0)) (get_or scrap i 0) ≡ get_or (cut_options s (new_cells regress optcr s) scrap) i 0
cut_is regress optcr scrap s i h =
    let new = new_cells regress optcr s in
    ap (λ (n : ℕ). cut_option (get_or s i 0) n (get_or scrap i 0)) (sym (new_is regress optcr s i h)) ∙ sym (cut_byte s new scrap i h)

-- ---- cells rewritten one after the other: the first i are those of t, and the others as they were

abbrev pub rewritten : List ℕ → List ℕ → ℕ → List ℕ
rewritten t s i = take i t ++ drop i s

-- so cell i is as it was
pub still : (t s : List ℕ) (i : ℕ) → length t ≡ length s → i < length s → get_or (rewritten t s i) i 0 ≡ get_or s i 0
still t s i e h =
    let l : length (take i t) ≡ i = simp length-take (omega (arith, e)) in
    let at : length (take i t) + 0 ≡ i = add-zero (length (take i t)) ∙ l in
    rw at at (get_or-append-add (take i t) (drop i s) 0 0) ∙ get_or-drop i s 0 0 ∙ rw (add-zero i) refl

-- and one more is rewritten
pub one_more : (t s : List ℕ) (i v : ℕ) → length t ≡ length s → i < length s → v ≡ get_or t i 0 → set (rewritten t s i) i v ≡ rewritten t s (i + 1)
one_more t s i v e p q =
    let l : length (take i t) ≡ i = simp length-take (omega (arith, e)) in
    let h : i < length t = omega (arith, e) in
    ap₂ (λ (r : List ℕ) (w : ℕ). set (take i t ++ r) i w) (drop-cons s i 0 p) q
    ∙ rw l at (set-append_seam (take i t) (get_or s i 0) (drop (suc i) s) (get_or t i 0))
    ∙ sym (append_snoc (take i t) (get_or t i 0) (drop (suc i) s)) ∙ rw (add-one i, take-suc t i 0 h) refl
