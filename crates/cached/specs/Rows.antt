-- Lines as worked rows: what reads and fetches answer with caches, and without where the two differ, and which lines are held, beside what document
-- 02 says (proofs/Rows.antt). The part has one sector, 12 throughout; an erase takes it to FF, and 02 programmed over 12 is 02.
use Rattle.std.specs.Prelude.{Bool, true, false, List, [], ◌∷◌, ◌++◌, map, ◌≡◌, ℕ, zero, suc, ◌+◌, ◌-◌, ◌*◌, replicate}
use Rattle.part.specs.State.{Part, code_of, value_of, with_main}
use Rattle.part.specs.declared.Call.{Call}
use Rattle.worked.specs.Bench.{reset, on, pass, read, read_by, write, fetch, write_acr, write_cr, keys, option_keys, write_optcr, timings, bench, row, Example}
use Rattle.cached.specs.Claims.{in_time, stale}
use Rattle.cached.specs.Device.{Device, after, call, device, step_by}
use Rattle.cached.specs.Lines.{no_lines}

-- at level 0, and at level 1
abbrev zero_part : Part
zero_part = with_main (bench 0 0xAA) (replicate 16_384 0x12)

abbrev one_part : Part
one_part = with_main (bench 0 0x00) (replicate 16_384 0x12)

-- the device after calls, with caches or without, and the code and value of one more
abbrev left : Bool → List Call → Part → Device
left cached cs p = after cached timings [] cs (device p no_lines)

abbrev said : Bool → List Call → Call → Part → List ℕ
said cached cs c p =
    let b = (step_by cached timings [] c (left cached cs p)).answer in
    code_of b ∷ value_of b ∷ []

abbrev data_tags : List Call → Part → List ℕ
data_tags cs p = (left true cs p).lines.data_side.tags

-- ---- calls

-- ACR: ICEN is 0200, DCEN 0400, ICRST 0800, DCRST 1000; its lanes 0 and 1 alone
abbrev lane0 : ℕ → Call
lane0 value = write 1 0x4002_3C00 value

abbrev lane1 : ℕ → Call
lane1 value = write 1 0x4002_3C01 value

abbrev read_word : Call
read_word = read 4 0x0800_0000

abbrev fetch_word : Call
fetch_word = fetch 0x0800_0000

-- both sides are on, and hold row 0; CR is open
abbrev filled : List Call
filled = reset 0 ∷ write_acr 0x0600 ∷ read_word ∷ fetch_word ∷ keys

-- sector 0 is erased; its first byte is programmed
abbrev erase : List Call
erase = write_cr 0x0001_0002 ∷ pass 1000 ∷ []

abbrev program : List Call
program = write_cr 0x0000_0001 ∷ write 1 0x0800_0000 0x02 ∷ pass 1000 ∷ []

-- reads of n rows, from row k on
abbrev rows : ℕ → ℕ → List Call
rows k zero = []
rows k (suc n) = read 1 (0x0800_0000 + 16 * k) ∷ rows (suc k) n

abbrev fetches : ℕ → ℕ → List Call
fetches k zero = []
fetches k (suc n) = fetch (0x0800_0000 + 16 * k) ∷ fetches (suc k) n

-- the tags of the n rows up to a row, the latest first
abbrev latest : ℕ → ℕ → List ℕ
latest tag zero = []
latest tag (suc n) = tag ∷ latest (tag - 1) n

abbrev reading : List Call
reading = reset 0 ∷ write_acr 0x0400 ∷ []

-- ---- the condition: lists that meet it, and lists that break one half of it each

abbrev met : List Call → List Call → Bool
met cs ds = in_time timings (map (call []) (cs ++ ds)) zero_part (stale false false)

abbrev cured : List Call
cured = write_acr 0 ∷ write_acr 0x1E00 ∷ []

abbrev pub ConditionWorked : Type 0
ConditionWorked =
    (met filled (erase ++ cured ++ read_word ∷ fetch_word ∷ []) ≡ true)
    × (met filled (erase ++ reset 0 ∷ read_word ∷ fetch_word ∷ []) ≡ true)
    × (met filled (erase ++ read_word ∷ []) ≡ false) × (met filled (erase ++ fetch_word ∷ []) ≡ false)
    × (met filled (erase ++ write_acr 0x0200 ∷ write_acr 0x1600 ∷ read_word ∷ []) ≡ true)
    × (met filled (erase ++ write_acr 0x0200 ∷ write_acr 0x1600 ∷ fetch_word ∷ []) ≡ false)
    × (met filled (erase ++ write_acr 0x1E00 ∷ read_word ∷ []) ≡ false)
    × (met filled (program ++ read_word ∷ []) ≡ true) × (met filled (program ++ fetch_word ∷ []) ≡ false)
    -- what is programmed in OTP, and reads elsewhere, don't matter, nor does an erase that still runs
    × (met filled (write_cr 1 ∷ write 1 0x1FFF_7800 0 ∷ pass 1000 ∷ fetch_word ∷ []) ≡ true)
    × (met filled (erase ++ read 4 0x4002_3C0C ∷ read 1 0x1FFF_7800 ∷ []) ≡ true)
    × (met filled (write_cr 0x0001_0002 ∷ pass 999 ∷ read_word ∷ []) ≡ true)

-- ---- the rows

abbrev pub line_rows : List Example
line_rows =
    -- an erase leaves both sides old: each half of the condition, broken, answers otherwise than the uncached part
    row (said true (filled ++ erase) read_word zero_part) (0 ∷ 0x1212_1212 ∷ [])
    ∷ row (said false (filled ++ erase) read_word zero_part) (0 ∷ 0xFFFF_FFFF ∷ [])
    ∷ row (said true (filled ++ erase) fetch_word zero_part) (0 ∷ 0x1212_1212 ∷ [])
    ∷ row (said false (filled ++ erase) fetch_word zero_part) (0 ∷ 0xFFFF_FFFF ∷ [])
    -- programming renews the data line, the written byte alone, and leaves the instruction line
    ∷ row (said true (filled ++ program) read_word zero_part) (0 ∷ 0x1212_1202 ∷ [])
    ∷ row (said true (filled ++ program) fetch_word zero_part) (0 ∷ 0x1212_1212 ∷ [])
    ∷ row (said false (filled ++ program) fetch_word zero_part) (0 ∷ 0x1212_1202 ∷ [])
    ∷ row (said true (filled ++ erase ++ program) read_word zero_part) (0 ∷ 0x1212_1202 ∷ [])
    -- so it does while the side is off, which keeps its lines
    ∷ row (said true (filled ++ write_acr 0 ∷ program ++ write_acr 0x0600 ∷ []) read_word zero_part) (0 ∷ 0x1212_1202 ∷ [])
    ∷ row (said true (filled ++ erase ++ write_acr 0 ∷ []) read_word zero_part) (0 ∷ 0xFFFF_FFFF ∷ [])
    ∷ row (said true (filled ++ erase ++ write_acr 0 ∷ read_word ∷ write_acr 0x0600 ∷ []) read_word zero_part) (0 ∷ 0x1212_1212 ∷ [])
    -- each side is emptied by its own bit while it is off, the same write may switch it on, and a 1 over a 1 empties again
    ∷ row (said true (filled ++ erase ++ write_acr 0x0200 ∷ write_acr 0x1600 ∷ []) read_word zero_part) (0 ∷ 0xFFFF_FFFF ∷ [])
    ∷ row (said true (filled ++ erase ++ write_acr 0x0200 ∷ write_acr 0x1600 ∷ []) fetch_word zero_part) (0 ∷ 0x1212_1212 ∷ [])
    ∷ row (said true (filled ++ erase ++ write_acr 0x0400 ∷ write_acr 0x0E00 ∷ []) fetch_word zero_part) (0 ∷ 0xFFFF_FFFF ∷ [])
    ∷ row (said true (filled ++ erase ++ write_acr 0x0400 ∷ write_acr 0x0E00 ∷ []) read_word zero_part) (0 ∷ 0x1212_1212 ∷ [])
    ∷ row (said true (reset 0 ∷ write_acr 0x1400 ∷ read_word ∷ keys ++ erase ++ write_acr 0 ∷ write_acr 0x1400 ∷ []) read_word zero_part) (0 ∷ 0xFFFF_FFFF ∷ [])
    -- not while it is on, nor by another lane while the bit stands at 1
    ∷ row (said true (filled ++ erase ++ write_acr 0x1E00 ∷ []) read_word zero_part) (0 ∷ 0x1212_1212 ∷ [])
    ∷ row (said true (filled ++ erase ++ write_acr 0x1E00 ∷ []) fetch_word zero_part) (0 ∷ 0x1212_1212 ∷ [])
    ∷ row (said true (reset 0 ∷ write_acr 0x1400 ∷ read_word ∷ keys ++ erase ++ lane1 0x10 ∷ lane0 0 ∷ lane1 0x04 ∷ []) read_word zero_part)
    (0 ∷ 0x1212_1212 ∷ [])
    -- a reset that is done empties, and one that is refused does not; so does the end of a regression
    ∷ row (said true (filled ++ erase ++ reset 0 ∷ write_acr 0x0600 ∷ []) read_word zero_part) (0 ∷ 0xFFFF_FFFF ∷ [])
    ∷ row (said true (filled ++ erase ++ reset 3 ∷ []) read_word zero_part) (0 ∷ 0x1212_1212 ∷ [])
    ∷ row (said true (reset 0 ∷ write_acr 0x0400 ∷ read_word ∷ option_keys ++ write_optcr 0x0FFF_AAEE ∷ pass 2000 ∷ []) read_word one_part) (0 ∷ 0xFFFF_FFFF ∷ [])
    -- the line used least recently is replaced, not the one filled first; a free one is filled before
    ∷ row (data_tags (reading ++ rows 0 3) zero_part) (3 ∷ 2 ∷ 1 ∷ 0 ∷ 0 ∷ 0 ∷ 0 ∷ 0 ∷ [])
    ∷ row (data_tags (reading ++ rows 0 8 ++ rows 0 1 ++ rows 8 1) zero_part) (9 ∷ 1 ∷ 8 ∷ 7 ∷ 6 ∷ 5 ∷ 4 ∷ 3 ∷ [])
    -- programming is no use, nor is an access with the side off, a fetch or a closed read; a debugger's read is
    ∷ row (data_tags (reading ++ rows 0 2 ++ keys ++ program) zero_part) (2 ∷ 1 ∷ 0 ∷ 0 ∷ 0 ∷ 0 ∷ 0 ∷ 0 ∷ [])
    ∷ row (data_tags (reading ++ rows 0 1 ++ write_acr 0x0200 ∷ rows 1 1 ++ fetch_word ∷ []) zero_part) (1 ∷ 0 ∷ 0 ∷ 0 ∷ 0 ∷ 0 ∷ 0 ∷ 0 ∷ [])
    ∷ row (data_tags (reading ++ rows 0 1 ++ on ∷ rows 1 1) one_part) (1 ∷ 0 ∷ 0 ∷ 0 ∷ 0 ∷ 0 ∷ 0 ∷ 0 ∷ [])
    ∷ row (data_tags (reading ++ on ∷ read_by 1 1 0x0800_0010 ∷ []) zero_part) (2 ∷ 0 ∷ 0 ∷ 0 ∷ 0 ∷ 0 ∷ 0 ∷ 0 ∷ [])
    -- of an access over two lines the lower is taken first: filling it pushes out the upper, the last of eight, which is then filled anew
    ∷ row (data_tags (reading ++ read 4 0x0800_000E ∷ []) zero_part) (2 ∷ 1 ∷ 0 ∷ 0 ∷ 0 ∷ 0 ∷ 0 ∷ 0 ∷ [])
    ∷ row (said true (reading ++ rows 1 8 ++ keys ++ erase) (read 4 0x0800_000E) zero_part) (0 ∷ 0xFFFF_FFFF ∷ [])
    -- 64 instruction lines: with 65 rows the first is gone
    ∷ row (left true (reset 0 ∷ write_acr 0x0200 ∷ fetches 0 64) zero_part).lines.code_side.tags (latest 64 64)
    ∷ row (left true (reset 0 ∷ write_acr 0x0200 ∷ fetches 0 65) zero_part).lines.code_side.tags (latest 65 64)
    ∷ []
