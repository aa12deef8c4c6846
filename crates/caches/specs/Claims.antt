-- The rule of replacement, for any number of lines (proofs/Replacement.antt).
use Rattle.std.specs.Prelude.{cond, List, [], ◌∷◌, ◌≡◌, ℕ, zero, suc, eqb, replicate}
use Rattle.caches.specs.Sides.{Side, accessed, emptied, none, used}

-- a use of a row, with main flash as it was then
pub record Use : Type 0 where
  pub cells : List ℕ
  pub row : ℕ

-- a side of n lines after a list of uses, the latest first, that began when all were free
abbrev pub after : ℕ → List Use → Side
after n [] = none n
after n (u ∷ us) = used u.cells u.row (after n us)

-- a list without the elements that are x
abbrev pub without : ℕ → List ℕ → List ℕ
without x [] = []
without x (y ∷ ys) = cond (eqb y x) (without x ys) (y ∷ without x ys)

-- the rows of a list of uses, each once, in the order of their latest use
abbrev pub latest : List Use → List ℕ
latest [] = []
latest (u ∷ us) = u.row ∷ without u.row (latest us)

-- the first n rows of a list, as tags; 0 where there are fewer
abbrev pub tags_of : ℕ → List ℕ → List ℕ
tags_of zero rows = []
tags_of (suc n) [] = 0 ∷ tags_of n []
tags_of (suc n) (row ∷ rows) = suc row ∷ tags_of n rows

-- after any list of uses the lines held are the last distinct ones, at most as many as there are lines, in the order of their latest use
abbrev pub Replacement : Type 0
Replacement = (n : ℕ) (us : List Use) → (after (suc n) us).tags ≡ tags_of (suc n) (latest us)

-- worked: of two lines, with row 0 used again before row 2 comes, row 1 is replaced; an access over two lines leaves the upper in front
abbrev pub LinesWorked : Type 0
LinesWorked =
    (let of : ℕ → Use = λ row. record { cells = []; row = row } in
    (after 2 (of 2 ∷ of 0 ∷ of 1 ∷ of 0 ∷ [])).tags ≡ 3 ∷ 1 ∷ [])
    × ((accessed (replicate 64 7) 12 8 (none 4)).side.tags ≡ 2 ∷ 1 ∷ 0 ∷ 0 ∷ [])
    × ((accessed (replicate 64 7) 12 4 (none 4)).side.tags ≡ 1 ∷ 0 ∷ 0 ∷ 0 ∷ [])
    × ((accessed (replicate 64 7) 12 8 (none 4)).value ≡ 0x0707_0707_0707_0707)
    × (emptied (accessed (replicate 64 7) 12 8 (none 4)).side ≡ none 4)
