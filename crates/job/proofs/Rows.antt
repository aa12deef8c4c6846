-- Records kind by kind: the number of each kind, and what a sound record keeps of its kind's row of the table.
use mathlib.Core.Bool.{Bool, true, false, cond, true≢false}
use mathlib.Core.Path.{◌≡◌, refl, sym, ap, subst, ◌∙◌}
use Prim.Native.Nat.{ℕ}
use lib.Dec.{eqb}
use borrow.Author.Tests.{eqb-true}
use Rattle.std.specs.Prelude.{Option, Some, None, is_some}
use Rattle.part.proofs.Stepped.{or_left, or_right}
use Rattle.job.specs.Kinds.{kind_of, number_of}
use Rattle.job.specs.Record.{uses_of, wrong_unused, wrong_who, wrong_width, wrong_number, wrong_value, malformed_by, malformed_as, malformed_record}
use Rattle.job.specs.declared.Fields.{Fields}
use Rattle.job.specs.declared.Uses.{Uses}
use Rattle.job.specs.declared.kinds.Kind.{Kind}
use Rattle.job.specs.declared.kinds.Kind.TheVariants.{Reset, On, Off, Read, Write, Pass, Wait, Fetch}

-- ---- a kind is read off its number alone

-- the first kind that a number is compared with, or a later one
first_or : (number : ℕ) (kind x : Kind) {rest : Option Kind} → cond (eqb number (number_of x)) (Some x) rest ≡ Some kind
    → (rest ≡ Some kind → number ≡ number_of kind) → number ≡ number_of kind
first_or number kind x {rest} e later = at (eqb number (number_of x)) refl e
  where
    at : (t : Bool) → eqb number (number_of x) ≡ t → cond t (Some x) rest ≡ Some kind → number ≡ number_of kind
    at true q e = let same : x ≡ kind = cc in eqb-true number (number_of x) q ∙ ap number_of same
    at false q e = later e

pub numbered : (number : ℕ) (kind : Kind) → kind_of number ≡ Some kind → number ≡ number_of kind
numbered number kind e =
    first_or number kind Reset e (λ e. first_or number kind On e (λ e. first_or number kind Off e (λ e. first_or number kind Read e
    (λ e. first_or number kind Write e (λ e. first_or number kind Pass e (λ e. first_or number kind Wait e (λ e. first_or number kind Fetch e
    (λ e. absurd (true≢false (ap is_some (sym e)))))))))))

-- what holds of each kind that there is, holds of every number of a kind
pub by_kind : (P : ℕ → Type 0) → P 0 → P 1 → P 2 → P 3 → P 4 → P 5 → P 6 → P 7 → (number : ℕ) → is_some (kind_of number) ≡ true → P number
by_kind P p₀ p₁ p₂ p₃ p₄ p₅ p₆ p₇ number known = at (kind_of number) refl known
  where
    each : (kind : Kind) → P (number_of kind)
    each Reset = p₀
    each On = p₁
    each Off = p₂
    each Read = p₃
    each Write = p₄
    each Pass = p₅
    each Wait = p₆
    each Fetch = p₇

    at : (k : Option Kind) → kind_of number ≡ k → is_some k ≡ true → P number
    at None q e = absurd (true≢false (sym e))
    at (Some kind) q e = subst P (sym (numbered number kind q)) (each kind)

-- ---- sound records

-- no field breaks what the table says of it
pub record Kept (u : Uses) (f : Fields) : Type 0 where
  pub who : wrong_who u f ≡ false
  pub width : wrong_width u f ≡ false
  pub number : wrong_number u f ≡ false
  pub value : wrong_value u f ≡ false

all_kept : (u : Uses) (f : Fields) → malformed_by u f ≡ false → Kept u f
all_kept u f e = search (or_left, or_right)

-- a sound record has a kind
pub record OfKind (f : Fields) : Type 0 where
  pub kind : Kind
  pub is : kind_of f.kind ≡ Some kind
  pub kept : Kept (uses_of kind) f

pub of_kind : (f : Fields) → malformed_record f ≡ false → OfKind f
of_kind f e = at (kind_of f.kind) refl (or_right (wrong_unused f) (malformed_as (kind_of f.kind) f) e)
  where
    at : (k : Option Kind) → kind_of f.kind ≡ k → malformed_as k f ≡ false → OfKind f
    at None q z = absurd (true≢false z)
    at (Some kind) q z = record { kind = kind; is = q; kept = all_kept (uses_of kind) f z }
