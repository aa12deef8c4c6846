-- The map: where the bytes of an access lie. The area of a single byte is that of an access of width 1.
use Rattle.std.specs.Prelude.{Bool, cond, ◌&&◌, ℕ, ◌+◌, ◌-◌, ◌%◌, leb, ltb}
use Rattle.map.specs.declared.Area.{Area}
use Rattle.map.specs.declared.Area.TheVariants.{Flash, Registers, Sram, Outside}
use Rattle.map.specs.declared.Place.TheVariants.{Main, System, Otp, SystemAndOtp, OptionCells}

abbrev pub main_base : ℕ
main_base = 0x0800_0000

abbrev pub system_base : ℕ
system_base = 0x1FFF_0000

abbrev pub system_length : ℕ
system_length = 0x7800

abbrev pub otp_base : ℕ
otp_base = 0x1FFF_7800

abbrev pub otp_length : ℕ
otp_length = 528

abbrev pub option_base : ℕ
option_base = 0x1FFF_C000

abbrev pub option_length : ℕ
option_length = 16

abbrev pub register_base : ℕ
register_base = 0x4002_3C00

abbrev pub register_length : ℕ
register_length = 24

abbrev pub sram_base : ℕ
sram_base = 0x4002_4000

abbrev pub sram_length : ℕ
sram_length = 4096

-- all bytes of the access lie among the n from base
abbrev pub inside : ℕ → ℕ → ℕ → ℕ → Bool
inside address width base n = leb base address && leb (address + width) (base + n)

-- where an access lies, with its offset there; main flash has the given length. System memory and OTP are neighbours, so an
-- access can lie in both; every other pair of areas has a gap between.
abbrev pub area_of : ℕ → ℕ → ℕ → Area
area_of len address width =
    cond (inside address width main_base len) (Flash (Main (address - main_base)))
    (cond (inside address width register_base register_length) (Registers (address - register_base))
    (cond (inside address width system_base system_length) (Flash (System (address - system_base)))
    (cond (inside address width otp_base otp_length) (Flash (Otp (address - otp_base)))
    (cond (inside address width system_base (system_length + otp_length)) (Flash (SystemAndOtp (address - system_base)))
    (cond (inside address width option_base option_length) (Flash (OptionCells (address - option_base)))
    (cond (inside address width sram_base sram_length) (Sram (address - sram_base))
    Outside))))))

-- the bytes lie in two rows of 16
abbrev pub crosses_row : ℕ → ℕ → Bool
crosses_row address width = ltb 16 (address % 16 + width)
