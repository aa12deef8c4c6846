-- The lines held are the last distinct ones: a use takes its row out of the tags, or else the last of them, and puts it in front.
use mathlib.Core.Bool.{false, cond, ◌||◌, or-true, or-false}
use mathlib.Core.Path.{◌≡◌, refl, sym, ap, ◌∙◌}
use mathlib.Core.List.{List, [], ◌∷◌, ◌++◌}
use Prim.Native.Nat.{ℕ, zero, suc, ◌<◌}
use native.Mathlib.Omega.{arith}
use native.Mathlib.Nat.{one-mul}
use native.Mathlib.Numerals.{add-one}
use borrow.Author.Tests.{eqb-true, eqb-false, eq-eqb, ne_eqb}
use lib.Dec.{eqb, eqb-suc-zero, eqb-suc-suc}
use lib.ListN.{length, get_or, take, drop, replicate}
use Rattle.cascade.proofs.Picks.{keep_by, keep₂_by}
use Rattle.caches.specs.Sides.{Side, slot, used}
use Rattle.caches.specs.Claims.{LinesWorked, Replacement, Use, after, latest, tags_of, without}
use Rattle.caches.proofs.Slots.{slot_cons}

-- ---- tags without the slot of a row

abbrev pub rem : ℕ → List ℕ → List ℕ
rem row [] = []
rem row (x ∷ []) = []
rem row (x ∷ y ∷ ys) = cond (eqb x (suc row) || eqb x 0) (y ∷ ys) (x ∷ rem row (y ∷ ys))

rem_cons : (row x : ℕ) (xs : List ℕ) → 0 < length xs → rem row (x ∷ xs) ≡ cond (eqb x (suc row) || eqb x 0) xs (x ∷ rem row xs)
rem_cons row x [] l = absurd (omega arith)
rem_cons row x (y ∷ ys) l = refl

rem_slot : (row : ℕ) (xs : List ℕ) → take (slot row xs) xs ++ drop (suc (slot row xs)) xs ≡ rem row xs
rem_slot row [] = refl
rem_slot row (x ∷ []) = refl
rem_slot row (x ∷ y ∷ ys) =
    keep₂_by (λ (k : ℕ) (r : List ℕ). take k (x ∷ y ∷ ys) ++ drop (suc k) (x ∷ y ∷ ys) ≡ r) (eqb x (suc row) || eqb x 0)
    0 (suc (slot row (y ∷ ys))) (y ∷ ys) (x ∷ rem row (y ∷ ys)) (λ _. refl) (λ _. ap (λ (r : List ℕ). x ∷ r) (rem_slot row (y ∷ ys)))

-- the tags after a use are those of nothing but the tags
pub used_tags : (main : List ℕ) (row : ℕ) (s : Side) → (used main row s).tags ≡ suc row ∷ rem row s.tags
used_tags main row s = rw (one-mul (slot row s.tags), add-one) (ap (λ (r : List ℕ). suc row ∷ r) (rem_slot row s.tags))

-- ---- rows without repetitions

abbrev pub Absent : ℕ → List ℕ → Type 0
Absent x [] = Unit
Absent x (y ∷ ys) = (eqb y x ≡ false) × Absent x ys

abbrev pub Apart : List ℕ → Type 0
Apart [] = Unit
Apart (d ∷ ds) = Absent d ds × Apart ds

without_absent : (x : ℕ) (ds : List ℕ) → Absent x ds → without x ds ≡ ds
without_absent x [] a = refl
without_absent x (d ∷ ds) a = rw (a.0, without_absent x ds a.1)

absent_without : (x : ℕ) (ds : List ℕ) → Absent x (without x ds)
absent_without x [] = tt
absent_without x (d ∷ ds) =
    keep_by (Absent x) (eqb d x) (without x ds) (d ∷ without x ds) (λ _. absent_without x ds) (λ e. (e, absent_without x ds))

absent_kept : (x y : ℕ) (ds : List ℕ) → Absent x ds → Absent x (without y ds)
absent_kept x y [] a = tt
absent_kept x y (d ∷ ds) a =
    keep_by (Absent x) (eqb d y) (without y ds) (d ∷ without y ds) (λ _. absent_kept x y ds a.1) (λ _. (a.0, absent_kept x y ds a.1))

apart_without : (x : ℕ) (ds : List ℕ) → Apart ds → Apart (without x ds)
apart_without x [] a = tt
apart_without x (d ∷ ds) a =
    keep_by Apart (eqb d x) (without x ds) (d ∷ without x ds) (λ _. apart_without x ds a.1)
    (λ _. (absent_kept d x ds a.0, apart_without x ds a.1))

pub apart_latest : (us : List Use) → Apart (latest us)
apart_latest [] = tt
apart_latest (u ∷ us) = (absent_without u.row (latest us), apart_without u.row (latest us) (apart_latest us))

-- ---- tags of rows

pub tags_length : (n : ℕ) (ds : List ℕ) → length (tags_of n ds) ≡ n
tags_length zero ds = refl
tags_length (suc n) [] = ap suc (tags_length n [])
tags_length (suc n) (d ∷ ds) = ap suc (tags_length n ds)

-- a tag of a row is met where it is the row's, and it is not free
tag_test : (d row : ℕ) → (eqb (suc d) (suc row) || eqb (suc d) 0) ≡ eqb d row
tag_test d row = rw (eqb-suc-suc, eqb-suc-zero) (or-false (eqb d row))

rem_tags : (row n : ℕ) (ds : List ℕ) → Apart ds → rem row (tags_of (suc n) ds) ≡ tags_of n (without row ds)
rem_tags row zero [] a = refl
rem_tags row zero (d ∷ ds) a = refl
rem_tags row (suc n) [] a = rw (or-true (eqb 0 (suc row)))
rem_tags row (suc n) (d ∷ ds) a =
    let long : 0 < length (tags_of (suc n) ds) = omega (arith, tags_length (suc n) ds) in
    rem_cons row (suc d) (tags_of (suc n) ds) long ∙ rw (tag_test d row)
    (keep₂_by (λ (r ws : List ℕ). r ≡ tags_of (suc n) ws) (eqb d row) (tags_of (suc n) ds) (suc d ∷ rem row (tags_of (suc n) ds))
    (without row ds) (d ∷ without row ds)
    (λ e. let same : row ≡ d = sym (eqb-true d row e) in rw (same, without_absent d ds a.0))
    (λ _. ap (λ (r : List ℕ). suc d ∷ r) (rem_tags row n ds a.1)))

pub use_tags : (n : ℕ) (main : List ℕ) (u : Use) (us : List Use) (s : Side) → s.tags ≡ tags_of (suc n) (latest us)
    → (used main u.row s).tags ≡ tags_of (suc n) (latest (u ∷ us))
use_tags n main u us s e =
    used_tags main u.row s ∙ ap (λ (xs : List ℕ). suc u.row ∷ rem u.row xs) e
    ∙ ap (λ (r : List ℕ). suc u.row ∷ r) (rem_tags u.row n (latest us) (apart_latest us))

free_tags : (n : ℕ) → replicate n 0 ≡ tags_of n []
free_tags zero = refl
free_tags (suc n) = ap (λ (r : List ℕ). 0 ∷ r) (free_tags n)

pub replacement : Replacement
replacement n [] = free_tags (suc n)
replacement n (u ∷ us) = use_tags n u.cells u us (after (suc n) us) (replacement n us)

-- ---- the slot of a row that is held

no_tags : (n k : ℕ) → get_or (tags_of n []) k 0 ≡ 0
no_tags zero k = refl
no_tags (suc n) zero = refl
no_tags (suc n) (suc k) = no_tags n k

absent_tag : (x n : ℕ) (ds : List ℕ) → Absent x ds → (k row : ℕ) → get_or (tags_of n ds) k 0 ≡ suc row → eqb x row ≡ false
absent_tag x zero ds a k row e = absurd (omega arith)
absent_tag x (suc n) [] a k row e = absurd (omega (arith, no_tags (suc n) k))
absent_tag x (suc n) (d ∷ ds) a zero row e = ne_eqb x row (λ q. eqb-false d x a.0 (omega arith))
absent_tag x (suc n) (d ∷ ds) a (suc k) row e = absent_tag x n ds a.1 k row e

slot_tags : (d row n : ℕ) (ds : List ℕ) → slot row (suc d ∷ tags_of (suc n) ds) ≡ cond (eqb d row) 0 (suc (slot row (tags_of (suc n) ds)))
slot_tags d row n ds = slot_cons row (suc d) (tags_of (suc n) ds) (omega (arith, tags_length (suc n) ds)) ∙ rw (tag_test d row)

-- a tag of a row stands in the row's slot
pub own_slot : (n : ℕ) (ds : List ℕ) → Apart ds → (k row : ℕ) → get_or (tags_of (suc n) ds) k 0 ≡ suc row → slot row (tags_of (suc n) ds) ≡ k
own_slot n [] a k row e = absurd (omega (arith, no_tags (suc n) k))
own_slot zero (d ∷ ds) a zero row e = refl
own_slot zero (d ∷ ds) a (suc k) row e = absurd (omega arith)
own_slot (suc n) (d ∷ ds) a zero row e = slot_tags d row n ds ∙ rw (eq-eqb d row (omega arith))
own_slot (suc n) (d ∷ ds) a (suc k) row e =
    slot_tags d row n ds ∙ rw (absent_tag d (suc n) ds a.0 k row e) (ap suc (own_slot n ds a.1 k row e))

lines_worked : LinesWorked
lines_worked = (refl, refl, refl, refl, refl)
