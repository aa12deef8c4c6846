-- Demand 3, worked: what a host sees of a level 1 part and of a level 2 part whose first byte of main flash and of SRAM is F0, beside what document 01
-- says that it may see. A claim that compares less, or leaves more out, gives other rows (proofs/Views.antt).
use Rattle.std.specs.Prelude.{cond, List, [], ◌∷◌, ◌++◌, map, ℕ, suc, eqb, length, get_or, replicate}
use Rattle.worked.specs.Bench.{reset, on, pass, wait, read_by, read, write, write_optcr, option_keys, by_cr, regressing, regressed, timings, bench, row, Example}
use Rattle.part.specs.Registers.{sr_of}
use Rattle.part.specs.State.{Part, fresh}
use Rattle.part.specs.declared.Call.{Call}
use Rattle.cached.specs.Device.{Request, call, window, Said, answered, shown, device}
use Rattle.cached.specs.Lines.{no_lines}
use Rattle.caches.specs.Sides.{side}
use Rattle.secrecy.specs.Secrecy.{Seen, views}

-- ---- a view in numbers

-- how many bytes are b
abbrev count : ℕ → List ℕ → ℕ
count b [] = 0
count b (x ∷ xs) = cond (eqb x b) (suc (count b xs)) (count b xs)

abbrev counts : List ℕ → List ℕ
counts bytes = length bytes ∷ count 0 bytes ∷ count 0xFF bytes ∷ []

-- an answer's code and value; of a window how many bytes, and how many are 00 and FF
abbrev told : Said → List ℕ
told (answered code value) = code ∷ value ∷ []
told (shown bytes) = counts bytes

-- the last view; where there is none, one that no row wants
abbrev pub last : List Seen → Seen
last [] = record { said = shown (99 ∷ []); rec = fresh; otp = []; options = []; main = 99 ∷ []; sram = 99 ∷ []; data_side = side (99 ∷ []) []; code_side = side (99 ∷ []) [] }
last (s ∷ []) = s
last (s ∷ t ∷ ss) = last (t ∷ ss)

-- of a request after some calls
abbrev seen_of : List Call → Request → Part → Seen
seen_of cs x p = last (views timings [] (map (call []) cs ++ x ∷ []) (device p no_lines))

abbrev told_of : List Call → Request → Part → List ℕ
told_of cs x p = told (seen_of cs x p).said

-- the same where a reset among them has scrap of its own: the change to level 2 is cut with a debugger connected, and RDP takes the new byte
abbrev told_from : List Request → Request → Part → List ℕ
told_from xs x p = told (last (views timings [] (xs ++ x ∷ []) (device p no_lines))).said

abbrev cut_to_two : List Request
cut_to_two = map (call []) (reset 0 ∷ on ∷ option_keys ++ write_optcr 0x0FFF_CCEE ∷ []) ++ call (replicate 16 2) (reset 0) ∷ []

-- of a list of calls: how many views, and how many bytes of main flash and of SRAM in all of them
abbrev mains : List Seen → List ℕ
mains [] = []
mains (s ∷ ss) = s.main ++ mains ss

abbrev srams : List Seen → List ℕ
srams [] = []
srams (s ∷ ss) = s.sram ++ srams ss

abbrev extent : List Call → Part → List ℕ
extent cs p =
    let vs = views timings [] (map (call []) cs) (device p no_lines) in
    length vs ∷ length (mains vs) ∷ length (srams vs) ∷ []

-- ---- level 1

abbrev one : Part
one = bench 0xF0 0x00

-- PG is set, and what is programmed takes 1,000 microseconds
abbrev unlocked : List Call
unlocked = by_cr 1

abbrev pub level_one : List Example
level_one =
    -- the CPU reads main flash while clean: that it is done is seen, F0 is not
    row (told_of (reset 0 ∷ []) (call [] (read 1 0x0800_0000)) one) (0 ∷ 0 ∷ [])
    -- so of the SRAM, whatever runs; that a write to it is done is seen too
    ∷ row (told_of (reset 0 ∷ []) (call [] (read 1 0x4002_4000)) one) (0 ∷ 0 ∷ [])
    ∷ row (told_of regressing (call [] (read 8 0x4002_4000)) one) (0 ∷ 0 ∷ [])
    ∷ row (told_of regressing (call [] (write 8 0x4002_4000 1)) one) (0 ∷ 0 ∷ [])
    -- a window while clean: 16,384 bytes are seen, and each as 0
    ∷ row (told_of (reset 0 ∷ []) (window 0 0) one) (16_384 ∷ 16_384 ∷ 0 ∷ [])
    -- refusals are seen: no power, outside the map, and closed from debugger on
    ∷ row (told_of [] (call [] (read 1 0x0800_0000)) one) (10 ∷ 0 ∷ [])
    ∷ row (told_of (reset 0 ∷ []) (call [] (read 1 0x0800_4000)) one) (7 ∷ 0 ∷ [])
    ∷ row (told_of (reset 0 ∷ on ∷ []) (call [] (read 1 0x0800_0000)) one) (13 ∷ 0 ∷ [])
    ∷ row (told_of (reset 0 ∷ on ∷ []) (call [] (read 1 0x4002_4000)) one) (13 ∷ 0 ∷ [])
    ∷ row (told_of (reset 0 ∷ on ∷ []) (call [] (read_by 1 1 0x4002_4000)) one) (13 ∷ 0 ∷ [])
    ∷ row (told_of (reset 0 ∷ on ∷ []) (call [] (write 1 0x4002_4000 1)) one) (13 ∷ 0 ∷ [])
    ∷ row (told_of (reset 0 ∷ on ∷ []) (window 0 0) one) (0 ∷ 0 ∷ 0 ∷ [])
    -- a debugger's window has no byte
    ∷ row (told_of (reset 0 ∷ []) (window 1 0) one) (0 ∷ 0 ∷ 0 ∷ [])
    ∷ row (told_of (reset 0 ∷ on ∷ []) (window 1 0) one) (0 ∷ 0 ∷ 0 ∷ [])
    -- all other values are seen while clean: CR, OTP, option cells, system memory, the microseconds of a wait, and a flag
    ∷ row (told_of (reset 0 ∷ []) (call [] (read 4 0x4002_3C10)) one) (0 ∷ 0x8000_0000 ∷ [])
    ∷ row (told_of (reset 0 ∷ []) (call [] (read 1 0x1FFF_7800)) one) (0 ∷ 0x5A ∷ [])
    ∷ row (told_of (reset 0 ∷ []) (call [] (read 2 0x1FFF_C000)) one) (0 ∷ 0x00FF ∷ [])
    ∷ row (told_of (reset 0 ∷ []) (call [] (read 2 0x1FFF_0000)) one) (0 ∷ 0xFFFF ∷ [])
    ∷ row (told_of (unlocked ++ write 1 0x0800_0000 0x3C ∷ []) (call [] (wait 1)) one) (0 ∷ 1000 ∷ [])
    ∷ row (told_of (reset 0 ∷ []) (call [] (write 1 0x0800_0000 0x3C)) one) (17 ∷ 0x80 ∷ [])
    -- the record after the call is seen: SR has that flag
    ∷ row (sr_of (seen_of (reset 0 ∷ []) (call [] (write 1 0x0800_0000 0x3C)) one).rec ∷ []) (0x80 ∷ [])
    -- OTP and option cells are seen: 5A programmed with 0F is 0A when its time has passed, and RDP is 00
    ∷ row
    (let s = seen_of (unlocked ++ write 1 0x1FFF_7800 0x0F ∷ []) (call [] (pass 1000)) one in
    length s.otp ∷ get_or s.otp 0 0 ∷ length s.options ∷ get_or s.options 1 1 ∷ []) (528 ∷ 0x0A ∷ 16 ∷ 0x00 ∷ [])
    -- a regression: main flash and SRAM are seen when it ends and not before, also at a later level 1; then the one is FF and the other 00
    ∷ row (extent (regressing ++ pass 1999 ∷ []) one) (5 ∷ 0 ∷ 0 ∷ [])
    ∷ row (extent (regressing ++ pass 1999 ∷ pass 1 ∷ []) one) (6 ∷ 16_384 ∷ 4096 ∷ [])
    ∷ row (extent (regressed ++ write_optcr 0x0FFF_00EE ∷ pass 1000 ∷ []) one) (7 ∷ 49_152 ∷ 12_288 ∷ [])
    ∷ row (counts (seen_of regressing (call [] (pass 2000)) one).main) (16_384 ∷ 0 ∷ 16_384 ∷ [])
    ∷ row (counts (seen_of regressing (call [] (pass 2000)) one).sram) (4096 ∷ 4096 ∷ 0 ∷ [])
    -- a debugger was connected at the reset that took the part to level 2: it has left, but what follows is not clean until the next reset
    ∷ row (told_from cut_to_two (call [] (read_by 1 4 0x4002_3C0C)) one) (15 ∷ 0 ∷ [])
    ∷ row (told_from cut_to_two (call [] (read 1 0x0800_0000)) one) (13 ∷ 0 ∷ [])
    ∷ row (told_from (cut_to_two ++ call [] (reset 0) ∷ []) (call [] (read 1 0x0800_0000)) one) (0 ∷ 0 ∷ [])
    -- a regression that is cut: main flash and SRAM are seen where RDP takes AA, and not where it keeps 00
    ∷ row
    (let vs : ℕ → List Seen = λ third. views timings [] (map (call []) (regressing ++ pass 1000 ∷ []) ++ call (replicate 16 third) (reset 0) ∷ []) (device one no_lines) in
    length (mains (vs 2)) ∷ length (srams (vs 2)) ∷ length (mains (vs 0)) ∷ length (srams (vs 0)) ∷ []) (16_384 ∷ 4096 ∷ 0 ∷ 0 ∷ [])
    -- at level 0 what is not clean is seen whole, by the CPU too
    ∷ row (told_of (regressed ++ on ∷ []) (call [] (read_by 1 1 0x0800_0000)) one) (0 ∷ 0xFF ∷ [])
    ∷ row (told_of (regressed ++ on ∷ []) (call [] (read 1 0x0800_0000)) one) (0 ∷ 0xFF ∷ [])
    ∷ row (told_of (regressed ++ on ∷ write 2 0x4002_4FFE 0xA5C3 ∷ []) (call [] (read_by 1 1 0x4002_4FFF)) one) (0 ∷ 0xA5 ∷ [])
    ∷ row (told_of (regressed ++ on ∷ []) (window 0 0) one) (16_384 ∷ 0 ∷ 16_384 ∷ [])
    ∷ []

-- ---- level 2

abbrev two : Part
two = bench 0xF0 0xCC

abbrev pub level_two : List Example
level_two =
    -- clean reads and a clean window are blank; OTP is seen
    row (told_of (reset 0 ∷ []) (call [] (read 1 0x0800_0000)) two) (0 ∷ 0 ∷ [])
    ∷ row (told_of (reset 0 ∷ []) (call [] (read 1 0x4002_4000)) two) (0 ∷ 0 ∷ [])
    ∷ row (told_of (reset 0 ∷ []) (window 0 0) two) (16_384 ∷ 16_384 ∷ 0 ∷ [])
    ∷ row (told_of (reset 0 ∷ []) (call [] (read 1 0x1FFF_7800)) two) (0 ∷ 0x5A ∷ [])
    -- no debugger, no other boot, and no option cells
    ∷ row (told_of (reset 0 ∷ []) (call [] on) two) (16 ∷ 0 ∷ [])
    ∷ row (told_of (reset 0 ∷ []) (call [] (reset 2)) two) (16 ∷ 0 ∷ [])
    ∷ row (told_of (reset 0 ∷ on ∷ []) (call [] (read_by 1 1 0x0800_0000)) two) (15 ∷ 0 ∷ [])
    ∷ row (told_of (reset 0 ∷ on ∷ []) (window 1 0) two) (0 ∷ 0 ∷ 0 ∷ [])
    ∷ row (told_of (reset 0 ∷ []) (call [] (read 2 0x1FFF_C000)) two) (13 ∷ 0 ∷ [])
    -- what is a regression at level 1 raises WRPERR, and main flash and SRAM are never seen
    ∷ row (told_of (reset 0 ∷ option_keys) (call [] (write_optcr 0x0FFF_AAEE)) two) (17 ∷ 0x10 ∷ [])
    ∷ row (extent (regressed ++ on ∷ read 1 0x0800_0000 ∷ []) two) (7 ∷ 0 ∷ 0 ∷ [])
    ∷ []
