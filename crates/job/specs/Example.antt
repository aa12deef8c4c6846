-- Document 01's example of a job, and others that the laws are tried on; of two of them the calls too.
use Rattle.std.specs.Prelude.{List, [], ◌∷◌, ◌++◌, ℕ, replicate}
use Rattle.cells.specs.Bytes.{bytes_of}
use Rattle.part.specs.declared.Call.{Call}
use Rattle.worked.specs.Bench.{reset, on, off, read_by, read, write, pass, wait, fetch}

-- a reset, and a read of OPTCR by word
abbrev pub example_job : List ℕ
example_job =
    0x46 ∷ 0x4A ∷ 0x42 ∷ 0x01 ∷ 0x00 ∷ 0x02 ∷ 0x00 ∷ replicate 16 0
    ++ (0x03 ∷ 0x00 ∷ 0x04 ∷ 0x00 ∷ 0x14 ∷ 0x3C ∷ 0x02 ∷ 0x40 ∷ replicate 8 0)

abbrev pub example_calls : List Call
example_calls = reset 0 ∷ read 4 0x4002_3C14 ∷ []

-- a job with one record of each kind
abbrev pub kinds_job : List ℕ
kinds_job =
    0x46 ∷ 0x4A ∷ 0x42 ∷ 0x01 ∷ 0x00 ∷ 0x08 ∷ 0x00
    ∷ 0 ∷ 0 ∷ 0 ∷ 0 ∷ 0x02 ∷ 0 ∷ 0 ∷ 0 ∷ 0 ∷ 0 ∷ 0 ∷ 0 ∷ 0 ∷ 0 ∷ 0 ∷ 0
    ∷ 1 ∷ 0 ∷ 0 ∷ 0 ∷ 0 ∷ 0 ∷ 0 ∷ 0 ∷ 0 ∷ 0 ∷ 0 ∷ 0 ∷ 0 ∷ 0 ∷ 0 ∷ 0
    ∷ 2 ∷ 0 ∷ 0 ∷ 0 ∷ 0 ∷ 0 ∷ 0 ∷ 0 ∷ 0 ∷ 0 ∷ 0 ∷ 0 ∷ 0 ∷ 0 ∷ 0 ∷ 0
    ∷ 3 ∷ 1 ∷ 2 ∷ 0 ∷ 0x0E ∷ 0x00 ∷ 0x00 ∷ 0x08 ∷ 0 ∷ 0 ∷ 0 ∷ 0 ∷ 0 ∷ 0 ∷ 0 ∷ 0
    ∷ 4 ∷ 0 ∷ 8 ∷ 0 ∷ 0x00 ∷ 0x78 ∷ 0xFF ∷ 0x1F ∷ 0x08 ∷ 0x07 ∷ 0x06 ∷ 0x05 ∷ 0x04 ∷ 0x03 ∷ 0x02 ∷ 0x01
    ∷ 5 ∷ 0 ∷ 0 ∷ 0 ∷ 0xE8 ∷ 0x03 ∷ 0x00 ∷ 0x00 ∷ 0 ∷ 0 ∷ 0 ∷ 0 ∷ 0 ∷ 0 ∷ 0 ∷ 0
    ∷ 6 ∷ 0 ∷ 0 ∷ 0 ∷ 0xF4 ∷ 0x01 ∷ 0x00 ∷ 0x00 ∷ 0 ∷ 0 ∷ 0 ∷ 0 ∷ 0 ∷ 0 ∷ 0 ∷ 0
    ∷ 7 ∷ 0 ∷ 4 ∷ 0 ∷ 0x0E ∷ 0x00 ∷ 0x00 ∷ 0x08 ∷ 0 ∷ 0 ∷ 0 ∷ 0 ∷ 0 ∷ 0 ∷ 0 ∷ 0
    ∷ []

abbrev pub kinds_calls : List Call
kinds_calls =
    reset 2 ∷ on ∷ off ∷ read_by 1 2 0x0800_000E ∷ write 8 0x1FFF_7800 0x0102_0304_0506_0708 ∷ pass 1_000 ∷ wait 500 ∷ fetch 0x0800_000E ∷ []

-- a reset, and a record of kind 8
abbrev pub damaged : List ℕ
damaged = 0x46 ∷ 0x4A ∷ 0x42 ∷ 0x01 ∷ 0x00 ∷ 0x02 ∷ 0x00 ∷ replicate 16 0 ++ (8 ∷ replicate 15 0)

-- a read of OPTCR by word, without a reset before it
abbrev pub unpowered : List ℕ
unpowered = 0x46 ∷ 0x4A ∷ 0x42 ∷ 0x01 ∷ 0x00 ∷ 0x01 ∷ 0x00 ∷ 0x03 ∷ 0x00 ∷ 0x04 ∷ 0x00 ∷ 0x14 ∷ 0x3C ∷ 0x02 ∷ 0x40 ∷ replicate 8 0

-- a reset, and a read of the first word of main flash by the CPU
abbrev pub firmware_job : List ℕ
firmware_job =
    0x46 ∷ 0x4A ∷ 0x42 ∷ 0x01 ∷ 0x00 ∷ 0x02 ∷ 0x00 ∷ replicate 16 0
    ++ (0x03 ∷ 0x00 ∷ 0x04 ∷ 0x00 ∷ 0x00 ∷ 0x00 ∷ 0x00 ∷ 0x08 ∷ replicate 8 0)

-- a reset, a read of the word at an address by the CPU, debugger on, the same read, and a wait of 0 milliseconds
abbrev pub probed_job : ℕ → List ℕ
probed_job address =
    let reading = 0x03 ∷ 0x00 ∷ 0x04 ∷ 0x00 ∷ bytes_of 4 address ++ replicate 8 0 in
    0x46 ∷ 0x4A ∷ 0x42 ∷ 0x01 ∷ 0x00 ∷ 0x05 ∷ 0x00 ∷ replicate 16 0 ++ reading ++ (0x01 ∷ replicate 15 0) ++ reading ++ (0x06 ∷ replicate 15 0)
