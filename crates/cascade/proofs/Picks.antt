-- Rules for cascades of tests: a choice is followed by the value of its test, and a test's value is read off a branch or a call's result.
use mathlib.Core.Bool.{Bool, true, false, not, cond}
use mathlib.Core.Path.{◌≡◌, refl, sym, ◌∙◌}
use borrow.Author.Tests.{lt-ltb, le-ltb, le-leb, lt-leb, eq-eqb, ne_eqb}

pub hit : {A : Type 0} (t : Bool) (a b x : A) → t ≡ true → x ≡ a → x ≡ cond t a b
hit t a b x e p = rw e p

pub skip : {A : Type 0} (t : Bool) (a b x : A) → t ≡ false → x ≡ b → x ≡ cond t a b
skip t a b x e p = rw e p

pub not_of_true : (t : Bool) → t ≡ true → not t ≡ false
not_of_true t e = rw e

pub not_of_false : (t : Bool) → t ≡ false → not t ≡ true
not_of_false t e = rw e

-- what a call said of its result, and the branch that the result took
pub via : (r t v : Bool) → r ≡ t → r ≡ v → t ≡ v
via r t v p q = sym p ∙ q

-- at each `return` of a cascade: search picks depth 14
pub ruleset picks = (hit, skip, not_of_true, not_of_false, via, lt-ltb, le-ltb, le-leb, lt-leb, eq-eqb, ne_eqb)

-- ---- in proofs over definitions

-- a property of both choices is one of the choice
pub keep {ℓ} : {A : Type 0} (P : A → Type ℓ) (t : Bool) (a b : A) → P a → P b → P (cond t a b)
keep P true a b x y = x
keep P false a b x y = y

-- the same where each side may use the value of the test
pub keep_by {ℓ} : {A : Type 0} (P : A → Type ℓ) (t : Bool) (a b : A) → (t ≡ true → P a) → (t ≡ false → P b) → P (cond t a b)
keep_by P true a b x y = x refl
keep_by P false a b x y = y refl

-- of two choices by one test
pub keep₂ {ℓ} : {A B : Type 0} (P : A → B → Type ℓ) (t : Bool) (a b : A) (x y : B) → P a x → P b y → P (cond t a b) (cond t x y)
keep₂ P true a b x y u v = u
keep₂ P false a b x y u v = v

pub keep₂_by {ℓ} : {A B : Type 0} (P : A → B → Type ℓ) (t : Bool) (a b : A) (x y : B)
    → (t ≡ true → P a x) → (t ≡ false → P b y) → P (cond t a b) (cond t x y)
keep₂_by P true a b x y u v = u refl
keep₂_by P false a b x y u v = v refl
