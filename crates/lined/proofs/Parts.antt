-- The lines after a part of both slices was lent: the data lines are the front, and the instruction lines the back.
use mathlib.Core.Bool.{Bool, true, false, cond, ◌&&◌}
use mathlib.Core.List.{List, [], ◌++◌, append-nil}
use mathlib.Core.Path.{◌≡◌, refl, sym, ap, ◌∙◌}
use Prim.Native.Nat.{ℕ, ◌+◌, ◌≤◌}
use native.Mathlib.Omega.{arith}
use lib.ListN.{length, take, drop, drop_of_length-le, length-drop}
use lib.Seq.{drop_at, length_front, length-take-le, take_all, take_at}
use Rattle.cached.specs.Lines.{Lined, Lines, Looked, lined, lines, lines_of, looked, with_code, with_data}
use Rattle.caches.specs.Sides.{Side, Through, accessed, side}
use Rattle.part.specs.declared.Answer.{Answer}
use Rattle.part.specs.declared.Answer.TheVariants.{Done}

-- 72 tags and 1,152 bytes
abbrev Lent : ℕ → ℕ → Type 0
Lent tags bytes = (tags ≡ 72) × (bytes ≡ 1_152)

-- ---- one slice

-- its first n elements were lent, and are t now
module _ (n : ℕ) (xs t : List ℕ) (fits : n ≤ length xs) (same : length t ≡ length (take n xs)) where
  front_lent : take n (t ++ drop n xs) ≡ t
  front_lent = take_at t (drop n xs) n (same ∙ length-take-le n xs fits)

  front_left : drop n (t ++ drop n xs) ≡ drop n xs
  front_left = drop_at t (drop n xs) n (same ∙ length-take-le n xs fits)

-- the m elements after the first n, which are all the others, were lent, and are t now
module _ (n m : ℕ) (xs t : List ℕ) (fits : length xs ≡ n + m) where
  back_whole : take m (drop n xs) ≡ drop n xs
  back_whole = take_all m (drop n xs) (rw length-drop (omega arith))

  back_left : take n (take n xs ++ (t ++ drop m (drop n xs))) ≡ take n xs
  back_left = take_at (take n xs) (t ++ drop m (drop n xs)) n (length-take-le n xs (omega arith))

  back_lent : drop n (take n xs ++ (t ++ drop m (drop n xs))) ≡ t
  back_lent =
      let none : drop m (drop n xs) ≡ [] = drop_of_length-le (drop n xs) {i = m} (rw length-drop (omega arith)) in
      drop_at (take n xs) (t ++ drop m (drop n xs)) n (length-take-le n xs (omega arith)) ∙ rw none (append-nil t)

-- ---- both

module _ (tags bytes : List ℕ) (ready : Lent (length tags) (length bytes)) where
  pub front : (t b : List ℕ) → length t ≡ length (take 8 tags) → length b ≡ length (take 128 bytes)
      → lines_of (t ++ drop 8 tags) (b ++ drop 128 bytes) ≡ lines (side t b) (lines_of tags bytes).code_side
  front t b p q =
      rw (
        front_lent 8 tags t (omega arith) p,
        front_left 8 tags t (omega arith) p,
        front_lent 128 bytes b (omega arith) q,
        front_left 128 bytes b (omega arith) q,
      )

  -- an access over the data lines
  pub front_looked : (f : Side → Looked) (r : Answer) (t b : List ℕ) → length t ≡ length (take 8 tags) → length b ≡ length (take 128 bytes)
      → looked r (side t b) ≡ f (lines_of tags bytes).data_side
      → lined r (lines_of (t ++ drop 8 tags) (b ++ drop 128 bytes)) ≡ with_data (lines_of tags bytes) (f (lines_of tags bytes).data_side)
  front_looked f r t b p q e = ap (lined r) (front t b p q) ∙ ap (with_data (lines_of tags bytes)) e

  -- what is lent of the back are the instruction lines
  pub back_side : side (take 64 (drop 8 tags)) (take 1_024 (drop 128 bytes)) ≡ (lines_of tags bytes).code_side
  back_side = rw (back_whole 8 64 tags [] ready.0, back_whole 128 1_024 bytes [] ready.1)

  pub back : (t b : List ℕ)
      → lines_of (take 8 tags ++ (t ++ drop 64 (drop 8 tags))) (take 128 bytes ++ (b ++ drop 1_024 (drop 128 bytes)))
      ≡ lines (lines_of tags bytes).data_side (side t b)
  back t b =
      rw (
        back_left 8 64 tags t ready.0,
        back_lent 8 64 tags t ready.0,
        back_left 128 1_024 bytes b ready.1,
        back_lent 128 1_024 bytes b ready.1,
      )

  -- an access over the instruction lines
  pub back_looked : (f : Side → Looked) (r : Answer) (t b : List ℕ)
      → looked r (side t b) ≡ f (side (take 64 (drop 8 tags)) (take 1_024 (drop 128 bytes)))
      → lined r (lines_of (take 8 tags ++ (t ++ drop 64 (drop 8 tags))) (take 128 bytes ++ (b ++ drop 1_024 (drop 128 bytes))))
      ≡ with_code (lines_of tags bytes) (f (lines_of tags bytes).code_side)
  back_looked f r t b e = ap (lined r) (back t b) ∙ ap (with_code (lines_of tags bytes)) (e ∙ ap f back_side)

-- the front, and then the back of what stands there
module _ (tags bytes : List ℕ) (ready : Lent (length tags) (length bytes))
    (t b : List ℕ) (p : length t ≡ length (take 8 tags)) (q : length b ≡ length (take 128 bytes)) where
  abbrev tags₁ : List ℕ
  tags₁ = t ++ drop 8 tags

  abbrev bytes₁ : List ℕ
  bytes₁ = b ++ drop 128 bytes

  ready₁ : Lent (length tags₁) (length bytes₁)
  ready₁ = (length_front tags t 8 p ∙ ready.0, length_front bytes b 128 q ∙ ready.1)

  pub both : (f g : Side → Side) (u v : List ℕ) → side t b ≡ f (lines_of tags bytes).data_side
      → side u v ≡ g (side (take 64 (drop 8 tags₁)) (take 1_024 (drop 128 bytes₁)))
      → lines_of (take 8 tags₁ ++ (u ++ drop 64 (drop 8 tags₁))) (take 128 bytes₁ ++ (v ++ drop 1_024 (drop 128 bytes₁)))
      ≡ lines (f (lines_of tags bytes).data_side) (g (lines_of tags bytes).code_side)
  both f g u v d e =
      let one = front tags bytes ready t b p q in
      back tags₁ bytes₁ ready₁ u v
      ∙ ap (λ (l : Lines). lines l.data_side (side u v)) one
      ∙ ap (λ (s : Side). lines s (side u v)) d
      ∙ ap (lines (f (lines_of tags bytes).data_side)) (e ∙ ap g (back_side tags₁ bytes₁ ready₁ ∙ ap (λ (l : Lines). l.code_side) one))

-- an access that took its bytes from the lines
abbrev pub seen : Through → Looked
seen x = looked (Done x.value) x.side

abbrev pub hits : List ℕ → ℕ → ℕ → Side → Looked
hits main at width s = seen (accessed main at width s)

-- with caches, its side on, done and in main flash: one test for all
pub one_test : (put : Looked → Lined) (s : Side) (b : Answer) (l : Lines) → put (looked b s) ≡ lined b l
    → (cached on here t : Bool) (hit : Looked) → t ≡ ((cached && on) && here)
    → cond t (put hit) (lined b l) ≡ cond cached (put (cond (on && here) hit (looked b s))) (lined b l)
one_test put s b l e cached on here t hit same = ap (λ (u : Bool). cond u (put hit) (lined b l)) same ∙ by cached on here
  where
    by : (cached on here : Bool) → cond ((cached && on) && here) (put hit) (lined b l) ≡ cond cached (put (cond (on && here) hit (looked b s))) (lined b l)
    by true true true = refl
    by true true false = sym e
    by true false here = sym e
    by false on here = refl
