-- Write protection of sectors by nWRP, and of OTP blocks by their lock bytes.
use Rattle.std.specs.Prelude.{Bool, false, ◌&&◌, ◌||◌, List, ℕ, zero, suc, ◌+◌, ◌/◌, ◌%◌, ◌^◌, eqb, ltb, get_or}

-- bit i of nWRP at 0 protects sector i
abbrev pub protected_by : ℕ → ℕ → Bool
protected_by nwrp k = eqb (nwrp / 2 ^ k % 2) 0

-- one of the sectors below n is protected
abbrev pub any_protected : ℕ → ℕ → Bool
any_protected nwrp zero = false
any_protected nwrp (suc n) = protected_by nwrp n || any_protected nwrp n

-- an OTP offset lies in a block whose lock byte is 00: blocks 0 to 15 of 32 bytes, then the 16 lock bytes, which belong to none
abbrev pub block_locked : List ℕ → ℕ → Bool
block_locked otp offset = ltb offset 512 && eqb (get_or otp (512 + offset / 32) 0) 0
