-- Bytes of lent cells: little-endian values, storing, programming and erasing, and what is left of these two where they are cut.
use Rattle.std.specs.Prelude.{cond, List, [], ◌∷◌, ◌++◌, ℕ, zero, suc, ◌+◌, ◌*◌, ◌/◌, ◌%◌, ◌^◌, leb, length, get_or, set, take, drop, replicate}
use Rattle.std.specs.Int.Bits.{bit_and, bit_or}
use Rattle.std.proofs.lemmas.List.Edits.{sets}

-- the value of the n bytes f at, f (at + 1), .., the lowest first
abbrev pub little : (ℕ → ℕ) → ℕ → ℕ → ℕ
little f at zero = 0
little f at (suc n) = f at + 256 * little f (suc at) n

-- the value of n bytes of a buffer from an offset
abbrev pub value_at : List ℕ → ℕ → ℕ → ℕ
value_at s at n = little (λ i. get_or s i 0) at n

-- the n lowest bytes of a value, the lowest first; what there is above them is cut off
abbrev pub bytes_of : ℕ → ℕ → List ℕ
bytes_of zero v = []
bytes_of (suc n) v = v % 256 ∷ bytes_of n (v / 256)

-- n bytes from an offset become those of a value
abbrev pub stored : List ℕ → ℕ → ℕ → ℕ → List ℕ
stored s at n v = sets s at (bytes_of n v)

-- n bytes from an offset, numbered from i on, become what f makes of the old byte, of the value's byte and of its number
abbrev pub changed : (ℕ → ℕ → ℕ → ℕ) → List ℕ → ℕ → ℕ → ℕ → ℕ → List ℕ
changed f s at i zero v = s
changed f s at i (suc n) v = changed f (set s at (f (get_or s at 0) (v % 256) i)) (suc at) (suc i) n (v / 256)

-- n bytes from an offset become old AND written
abbrev pub programmed : List ℕ → ℕ → ℕ → ℕ → List ℕ
programmed s at zero v = s
programmed s at (suc n) v = programmed (set s at (bit_and (get_or s at 0) (v % 256))) (suc at) n (v / 256)

-- n bytes of a value, each with the bits of a scrap byte spared: a program that is cut writes them
abbrev pub sparing : ℕ → ℕ → List ℕ → ℕ
sparing n v scrap = little (λ i. bit_or (v / 256 ^ i % 256) (get_or scrap i 0)) 0 n

-- n bytes from a start become FF; none does where they don't all lie inside
abbrev pub erased : List ℕ → ℕ → ℕ → List ℕ
erased s start n = cond (leb (start + n) (length s)) (take start s ++ (replicate n 255 ++ drop (start + n) s)) s

-- n bytes from a start become the first n of the scrap, where an erase is cut; none does where they don't all lie inside, or the scrap has fewer
abbrev pub scrapped : List ℕ → ℕ → ℕ → List ℕ → List ℕ
scrapped s start n scrap =
    cond (leb (start + n) (length s)) (cond (leb n (length scrap)) (take start s ++ (take n scrap ++ drop (start + n) s)) s) s
