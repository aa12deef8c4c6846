-- The lines that `rehearse` prints: the code in two hexadecimal digits, a space, the value in sixteen, and the end of the line.
use Rattle.std.specs.Prelude.{cond, List, [], ◌∷◌, ◌++◌, ℕ, zero, suc, ◌+◌, ◌*◌, ◌/◌, ◌%◌, ltb, get_or}
use Rattle.cells.specs.Bytes.{value_at}

-- 0 to 9, then A to F
abbrev pub digit_of : ℕ → ℕ
digit_of n = cond (ltb n 10) (48 + n) (55 + n)

-- the last `width` digits, the highest first
abbrev pub hex_of : ℕ → ℕ → List ℕ
hex_of zero v = []
hex_of (suc width) v = hex_of width (v / 16) ++ (digit_of (v % 16) ∷ [])

abbrev pub line_of : ℕ → ℕ → List ℕ
line_of code value = hex_of 2 code ++ (32 ∷ (hex_of 16 value ++ (10 ∷ [])))

-- the lines of n answer records, from record i on
abbrev pub lines_of : List ℕ → ℕ → ℕ → List ℕ
lines_of answers i zero = []
lines_of answers i (suc n) = line_of (get_or answers (16 * i) 0) (value_at answers (16 * i + 8) 8) ++ lines_of answers (suc i) n
