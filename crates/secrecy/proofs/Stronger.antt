-- Each stronger claim is false: on two parts whose first bytes of main flash and of SRAM are F0 and 0F, what it says to be equal differs.
use mathlib.Core.Path.{◌≡◌, refl, ap}
use mathlib.Core.List.{List, [], ◌∷◌}
use mathlib.Core.Logic.{inl}
use Prim.Native.Nat.{ℕ, ◌%◌}
use native.Mathlib.Omega.{arith}
use lib.ListN.{get_or}
use Rattle.worked.specs.Bench.{reset, on, read_by, read, fetch, write_acr, timings, bench}
use Rattle.part.specs.State.{Part}
use Rattle.cached.specs.Device.{call, window}
use Rattle.secrecy.specs.Claim.{value_said, ValuesWhole, SramWhole, WindowsWhole, MainSeen, SramSeen, FetchesWhole, DataSeen, CodeSeen, AnyLevel}
use Rattle.secrecy.specs.Secrecy.{Seen, FreshPair}
use Rattle.secrecy.specs.Views.{last}
use Rattle.secrecy.proofs.Claim.{any_pair}

abbrev bright : Part
bright = bench 0xF0 0x00

abbrev dark : Part
dark = bench 0x0F 0x00

pair : FreshPair bright dark
pair = any_pair bright.main dark.main bright.otp bright.options bright.sram dark.sram refl refl (inl refl)

no : ◌≡◌ {A = ℕ} 0x0F 0xF0 → ⊥
no e = omega arith

-- the value of a clean read is the byte
pub values_not_whole : ValuesWhole → ⊥
values_not_whole f = no (f timings (call [] (reset 0) ∷ []) (call [] (read 1 0x0800_0000)) bright dark pair)

-- in the SRAM too
pub sram_not_whole : SramWhole → ⊥
sram_not_whole f = no (f timings (call [] (reset 0) ∷ []) (call [] (read 1 0x4002_4000)) bright dark pair)

-- so is a clean window's first byte
pub windows_not_whole : WindowsWhole → ⊥
windows_not_whole f = no (ap (λ (w : List ℕ). get_or w 0 0) (f timings (call [] (reset 0) ∷ []) (window 0 0) bright dark pair))

-- main flash is not seen from the start
pub main_not_seen : MainSeen → ⊥
main_not_seen f = no (ap (λ (m : List ℕ). get_or m 0 0) (f timings [] (call [] (reset 0)) bright dark pair))

-- nor is the SRAM
pub sram_not_seen : SramSeen → ⊥
sram_not_seen f = no (ap (λ (s : List ℕ). get_or s 0 0) (f timings [] (call [] (reset 0)) bright dark pair))

-- a clean fetch gives it, and lines that the CPU fills hold it
pub fetches_not_whole : FetchesWhole → ⊥
fetches_not_whole f = no (ap (λ (n : ℕ). n % 256) (f timings (call [] (reset 0) ∷ []) (call [] (fetch 0x0800_0000)) bright dark pair))

pub data_not_seen : DataSeen → ⊥
data_not_seen f =
    no (ap (λ (s : List ℕ). get_or s 0 0)
    (f timings (call [] (reset 0) ∷ call [] (write_acr 0x400) ∷ []) (call [] (read 1 0x0800_0000)) bright dark pair))

pub code_not_seen : CodeSeen → ⊥
code_not_seen f =
    no (ap (λ (s : List ℕ). get_or s 0 0)
    (f timings (call [] (reset 0) ∷ call [] (write_acr 0x200) ∷ []) (call [] (fetch 0x0800_0000)) bright dark pair))

-- at level 0 a debugger reads the byte
pub not_at_level_0 : AnyLevel → ⊥
not_at_level_0 f =
    let p = bench 0xF0 0xAA in
    let q = bench 0x0F 0xAA in
    no (ap (λ (vs : List Seen). value_said (last vs).said)
    (f timings (call [] (reset 0) ∷ call [] on ∷ call [] (read_by 1 1 0x0800_0000) ∷ []) p.main q.main p.otp p.options p.sram refl))
