-- A side of the caches: lines of 16 bytes over rows of main flash, the latest used first (document 02, note 5).
use Rattle.std.specs.Prelude.{◌≡◌, ◌<◌, Bool, cond, ◌||◌, List, [], ◌∷◌, ◌++◌, ℕ, zero, suc, ◌+◌, ◌-◌, ◌*◌, ◌/◌, ◌%◌, eqb, length, get_or, set, take, drop, replicate}
use Rattle.cells.specs.Bytes.{value_at}

-- a tag is 0 for a free line, and else the row that the line holds, counted from 1; the bytes of line k are the sixteen from 16 × k on
pub record Side : Type 0 where
  pub tags : List ℕ
  pub bytes : List ℕ

abbrev pub side : List ℕ → List ℕ → Side
side tags bytes = record { tags = tags; bytes = bytes }

-- there is a line, and each has 16 bytes
abbrev pub Sized : Side → Type 0
Sized s = (0 < length s.tags) × (length s.bytes ≡ 16 * length s.tags)

-- n lines, all free
abbrev pub none : ℕ → Side
none n = side (replicate n 0) (replicate (16 * n) 0)

-- the row of an offset in main flash
abbrev pub row_of : ℕ → ℕ
row_of o = o / 16

-- ---- a use

-- the line that a row has or takes: its own, else the first that is free, else the last, which is the one used least recently
abbrev pub slot : ℕ → List ℕ → ℕ
slot row [] = 0
slot row (x ∷ []) = 0
slot row (x ∷ y ∷ ys) = cond (eqb x (suc row) || eqb x 0) 0 (suc (slot row (y ∷ ys)))

abbrev pub slot_in : ℕ → Side → ℕ
slot_in row s = slot row s.tags

abbrev pub holds : ℕ → Side → Bool
holds row s = eqb (get_or s.tags (slot_in row s) 0) (suc row)

-- the sixteen bytes of line or row k
abbrev pub sixteen : List ℕ → ℕ → List ℕ
sixteen bytes k = take 16 (drop (16 * k) bytes)

-- what a use finds: the line's bytes where the row is held, as old as they may be, else the cells
abbrev pub line_of : List ℕ → ℕ → Side → List ℕ
line_of main row s = cond (holds row s) (sixteen s.bytes (slot_in row s)) (sixteen main row)

-- a list in which the n elements from n × k on are taken out, and others put in front
abbrev pub raised : {A : Type 0} → ℕ → ℕ → List A → List A → List A
raised n k new xs = new ++ (take (n * k) xs ++ drop (n * k + n) xs)

-- the line is the latest used now
abbrev pub used : List ℕ → ℕ → Side → Side
used main row s = side (raised 1 (slot_in row s) (suc row ∷ []) s.tags) (raised 16 (slot_in row s) (line_of main row s) s.bytes)

-- ---- an access of some bytes from an offset: the lower line first, then the upper, where they lie in two

pub record Through : Type 0 where
  pub value : ℕ
  pub side : Side

abbrev pub through : ℕ → Side → Through
through value s = record { value = value; side = s }

abbrev pub accessed : List ℕ → ℕ → ℕ → Side → Through
accessed main o width s =
    let low = row_of o in
    let high = row_of (o + width - 1) in
    let t = used main low s in
    cond (eqb low high)
    (through (value_at (line_of main low s) (o % 16) width) t)
    (through (value_at (line_of main low s ++ line_of main high t) (o % 16) width) (used main high t))

-- ---- programming: the byte at an offset, where its row is held, becomes that of the cells; it is no use

abbrev pub refreshed_byte : List ℕ → ℕ → Side → Side
refreshed_byte main o s =
    cond (holds (row_of o) s)
    (side s.tags (set s.bytes (16 * slot_in (row_of o) s + o % 16) (get_or main o 0)))
    s

abbrev pub refreshed : List ℕ → ℕ → ℕ → Side → Side
refreshed main o zero s = s
refreshed main o (suc n) s = refreshed main (suc o) n (refreshed_byte main o s)

-- ---- emptying: lines are held from the front, so that where the first is free there is nothing to do

abbrev pub emptied : Side → Side
emptied s = cond (eqb (get_or s.tags 0 0) 0) s (none (length s.tags))
