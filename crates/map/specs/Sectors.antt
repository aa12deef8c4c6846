-- Main flash: sectors 0 to 3 of 16 KiB, 4 of 64 KiB, 5 to 11 of 128 KiB, by offsets from its start.
use Rattle.std.specs.Prelude.{cond, ◌&&◌, ℕ, ◌+◌, ◌-◌, ◌*◌, ◌/◌, ◌%◌, eqb, leb, ltb}

abbrev pub sector_length : ℕ → ℕ
sector_length k = cond (ltb k 4) 16_384 (cond (eqb k 4) 65_536 131_072)

abbrev pub sector_start : ℕ → ℕ
sector_start k = cond (ltb k 4) (k * 16_384) (cond (eqb k 4) 65_536 ((k - 4) * 131_072))

-- the sector that holds the byte at an offset
abbrev pub sector_of : ℕ → ℕ
sector_of offset = cond (ltb offset 65_536) (offset / 16_384) (cond (ltb offset 131_072) 4 (4 + offset / 131_072))

-- main flash of a part with all 12 sectors
abbrev pub largest_main : ℕ
largest_main = 1_048_576

-- n, the number of sectors of a part whose main flash has that length; 0 where no part has it
abbrev pub sectors_in : ℕ → ℕ
sectors_in len =
    cond (leb len 65_536) (cond (eqb (len % 16_384) 0) (len / 16_384) 0)
    (cond (leb len largest_main && eqb (len % 131_072) 0) (4 + len / 131_072) 0)
