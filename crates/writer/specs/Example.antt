-- The request's own numbers, worked out on drafts made by hand: answers at the borders, and the bytes that are left.
use Rattle.std.specs.Prelude.{List, [], ◌∷◌, ◌++◌, ◌≡◌, ℕ, replicate}
use Rattle.worked.specs.Bench.{reset, on, read, write, write_by, pass}
use Rattle.writer.specs.Writer.{Draft, draft, writer, begun, appended, closed}

-- n bytes that no job wrote
abbrev pub room : ℕ → List ℕ
room n = replicate n 0x5A

-- a draft made by hand: so many calls counted, so many bytes
abbrev pub by_hand : ℕ → ℕ → Draft
by_hand count n = draft (writer count) (room n)

-- 6 bytes and 7; the last byte of a record; the 2,000th call and one more; a count that a head can't hold; a pass of 4,000,000,000
-- microseconds, the longest that 32 bits hold, and one more; 5 before 20
abbrev pub WorkedCodes : Type 0
WorkedCodes =
    ((begun (room 6)).code ≡ 20) × ((begun (room 7)).code ≡ 0) × ((begun []).code ≡ 20)
    × ((appended on (by_hand 1 38)).code ≡ 20) × ((appended on (by_hand 1 39)).code ≡ 0)
    × ((appended on (by_hand 1_999 32_007)).code ≡ 0) × ((appended on (by_hand 1_999 32_006)).code ≡ 20)
    × ((appended on (by_hand 2_000 33_000)).code ≡ 20) × ((appended on (by_hand 4_294_967_295 39)).code ≡ 20)
    × ((appended (reset 3) (by_hand 2_000 0)).code ≡ 5)
    × ((appended (pass 4_000_000_000) (by_hand 0 23)).code ≡ 0)
    × ((appended (pass 4_294_967_295) (by_hand 0 23)).code ≡ 0)
    × ((appended (pass 4_294_967_296) (by_hand 0 23)).code ≡ 5)
    × ((appended (write 1 0x0800_0000 0x100) (by_hand 0 23)).code ≡ 5)
    × ((appended (read 4 0xFFFF_FFFF) (by_hand 0 23)).code ≡ 0)
    × ((closed (by_hand 0 6)).code ≡ 20) × ((closed (by_hand 2_000 7)).code ≡ 0) × ((closed (by_hand 2_001 7)).code ≡ 20)
    × ((closed (by_hand 65_536 7)).code ≡ 20)

-- a record where it belongs, with all other bytes as they were; a refusal that leaves everything
abbrev pub WorkedBytes : Type 0
WorkedBytes =
    ((begun (room 9)).draft.bytes ≡ 0x46 ∷ 0x4A ∷ 0x42 ∷ 0x01 ∷ 0x00 ∷ 0x00 ∷ 0x00 ∷ 0x5A ∷ 0x5A ∷ [])
    × ((appended on (by_hand 1 41)).draft ≡ draft (writer 2) (room 23 ++ (0x01 ∷ (replicate 15 0 ++ room 2))))
    × ((appended (write_by 1 4 0x0800_0010 0x1122_3344) (by_hand 0 23)).draft.bytes
    ≡ room 7 ++ (0x04 ∷ 0x01 ∷ 0x04 ∷ 0x00 ∷ 0x10 ∷ 0x00 ∷ 0x00 ∷ 0x08 ∷ 0x44 ∷ 0x33 ∷ 0x22 ∷ 0x11 ∷ 0x00 ∷ 0x00 ∷ 0x00 ∷ 0x00 ∷ []))
    × ((closed (by_hand 2_000 9)).draft ≡ draft (writer 2_000) (room 5 ++ (0xD0 ∷ 0x07 ∷ room 2)))
    × ((appended on (by_hand 1 38)).draft ≡ by_hand 1 38) × ((appended (reset 3) (by_hand 0 23)).draft ≡ by_hand 0 23)
    × ((closed (by_hand 2_001 9)).draft ≡ by_hand 2_001 9)
