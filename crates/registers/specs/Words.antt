-- 32-bit words by shifts and masks: fields, byte lanes, and flags that are cleared by writing 1. The laws in plain arithmetic are in proofs/Laws.antt.
use Rattle.std.specs.Prelude.{Bool, not, ℕ, ◌-◌, ◌*◌, ◌/◌, ◌%◌, ◌^◌, eqb}
use Rattle.std.specs.Int.Bits.{bit_and, bit_or}

-- a shift to the left, and the complement, at 32 bits
abbrev pub shl32 : ℕ → ℕ → ℕ
shl32 x k = (x * 2 ^ k) % 2 ^ 32

abbrev pub not32 : ℕ → ℕ
not32 x = 2 ^ 32 - 1 - x

-- the m bits of x from bit k up
abbrev pub field : ℕ → ℕ → ℕ → ℕ
field x k m = bit_and (x / 2 ^ k) (2 ^ m - 1)

-- one of the bits of the mask is 1 in x
abbrev pub is_set : ℕ → ℕ → Bool
is_set x mask = not (eqb (bit_and x mask) 0)

-- the bits of the mask from a, the others from b
abbrev pub chosen : ℕ → ℕ → ℕ → ℕ
chosen mask a b = bit_or (bit_and a mask) (bit_and b (not32 mask))

-- how far up in its word the byte at an offset stands
abbrev pub lane_shift : ℕ → ℕ
lane_shift offset = bit_and offset 3 * 8

-- as many low lanes as an access of 1, 2 or 4 bytes is wide; of a width the three low bits count
abbrev pub low_mask : ℕ → ℕ
low_mask width = (2 ^ (8 * bit_and width 7) - 1) % 2 ^ 32

-- the lanes of a word that an access of a width covers at an offset
abbrev pub lane_mask : ℕ → ℕ → ℕ
lane_mask width offset = shl32 (low_mask width) (lane_shift offset)

-- what an access of a width reads at an offset of the word x
abbrev pub lanes : ℕ → ℕ → ℕ → ℕ
lanes x width offset = bit_and (x / 2 ^ lane_shift offset) (low_mask width)

-- what an access of a width writes at an offset of a word whose other lanes are 0
abbrev pub placed : ℕ → ℕ → ℕ → ℕ
placed value width offset = bit_and (shl32 value (lane_shift offset)) (lane_mask width offset)

-- the word after a write of that width: the other lanes stay
abbrev pub merged : ℕ → ℕ → ℕ → ℕ → ℕ
merged old value width offset = chosen (lane_mask width offset) (shl32 value (lane_shift offset)) old

-- the flags of x after a write to them: of the clearable ones, those written as 1 go
abbrev pub cleared_by : ℕ → ℕ → ℕ → ℕ
cleared_by x written clearable = bit_and x (not32 (bit_and written clearable))
