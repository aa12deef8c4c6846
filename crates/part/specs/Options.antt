-- The option cells: byte 0 USER, byte 1 RDP, bytes 8 and 9 nWRP; the others are unused. A buffer too short to hold a byte counts
-- as holding 00 there, so without RDP the level is 1.
use Rattle.std.specs.Prelude.{cond, List, [], ◌∷◌, ℕ, ◌+◌, ◌*◌, ◌%◌, eqb, length, get_or, drop, set, replicate}
use Rattle.std.specs.Int.Bits.{bit_and, bit_or}
use Rattle.registers.specs.Words.{field, shl32}

abbrev pub user_of : List ℕ → ℕ
user_of options = get_or options 0 0

abbrev pub rdp_of : List ℕ → ℕ
rdp_of options = get_or options 1 0

abbrev pub nwrp_of : List ℕ → ℕ
nwrp_of options = get_or options 8 0 + 256 * get_or options 9 0

-- RDP AA is level 0, CC is 2, all else 1
abbrev pub level_of : List ℕ → ℕ
level_of options = cond (eqb (rdp_of options) 0xAA) 0 (cond (eqb (rdp_of options) 0xCC) 2 1)

-- OPTCR's fields as they load from the cells
abbrev pub loaded_optcr : List ℕ → ℕ
loaded_optcr options =
    bit_or (bit_and (user_of options) 0xEC) (bit_or (shl32 (rdp_of options) 8) (shl32 (bit_and (nwrp_of options) 0xFFF) 16))

-- the cells after a change: all FF but RDP, USER and nWRP from OPTCR, whose missing bits are 1
abbrev pub changed_options : List ℕ → ℕ → List ℕ
changed_options options optcr =
    set (set (set (set (replicate (length options) 255)
    0 (bit_or (bit_and optcr 0xEC) 0x13))
    1 (field optcr 8 8))
    8 (field optcr 16 8))
    9 (bit_or (field optcr 24 4) 0xF0)

-- the cells after a regression: RDP alone becomes AA
abbrev pub regressed_options : List ℕ → List ℕ
regressed_options options = set options 1 0xAA

-- a cell of a change that is cut: what it was, FF, or what it would have become, as its scrap byte leaves 0, 1 or 2 by 3
abbrev pub cut_option : ℕ → ℕ → ℕ → ℕ
cut_option old new scrap = cond (eqb (scrap % 3) 0) old (cond (eqb (scrap % 3) 1) 255 new)

abbrev pub cut_options : List ℕ → List ℕ → List ℕ → List ℕ
cut_options [] new scrap = []
cut_options (b ∷ bs) new scrap = cut_option b (get_or new 0 0) (get_or scrap 0 0) ∷ cut_options bs (drop 1 new) (drop 1 scrap)
