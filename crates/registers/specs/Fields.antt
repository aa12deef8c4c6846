-- The bits of the six registers, under the names of PM0059 2.8. A flag or a single bit is a mask.
use Rattle.std.specs.Prelude.{cond, ℕ, ltb}
use Rattle.std.specs.Int.Bits.{bit_and, bit_or}
use Rattle.registers.specs.Words.{field, is_set, chosen}
use Rattle.registers.specs.declared.LockOf.TheVariants.{Cr, Optcr}
use Rattle.registers.specs.declared.Register.{Register}
use Rattle.registers.specs.declared.Register.TheVariants as register

-- offsets from 40023C00
abbrev pub ACR : ℕ
ACR = 0x00

abbrev pub KEYR : ℕ
KEYR = 0x04

abbrev pub OPTKEYR : ℕ
OPTKEYR = 0x08

abbrev pub SR : ℕ
SR = 0x0c

abbrev pub CR : ℕ
CR = 0x10

abbrev pub OPTCR : ℕ
OPTCR = 0x14

-- the register that holds the byte at an offset
abbrev pub register_at : ℕ → Register
register_at offset =
    cond (ltb offset KEYR) register.Acr
    (cond (ltb offset OPTKEYR) (register.Key Cr)
    (cond (ltb offset SR) (register.Key Optcr)
    (cond (ltb offset CR) register.Sr
    (cond (ltb offset OPTCR) (register.Control Cr)
    (register.Control Optcr)))))

-- ACR: its writable bits, and the four that govern the caches
abbrev pub acr_bits : ℕ
acr_bits = 0x1f07

abbrev pub ICEN : ℕ
ICEN = 0x200

abbrev pub DCEN : ℕ
DCEN = 0x400

abbrev pub ICRST : ℕ
ICRST = 0x800

abbrev pub DCRST : ℕ
DCRST = 0x1000

-- SR: its flags, all cleared by writing 1, and BSY
abbrev pub sr_flags : ℕ
sr_flags = 0xf3

abbrev pub EOP : ℕ
EOP = 0x01

abbrev pub OPERR : ℕ
OPERR = 0x02

abbrev pub WRPERR : ℕ
WRPERR = 0x10

abbrev pub PGAERR : ℕ
PGAERR = 0x20

abbrev pub PGPERR : ℕ
PGPERR = 0x40

abbrev pub PGSERR : ℕ
PGSERR = 0x80

abbrev pub BSY : ℕ
BSY = 0x1_0000

-- CR: its fields, and the two bits that can only be set
abbrev pub cr_fields : ℕ
cr_fields = 0x0300_037f

abbrev pub PG : ℕ
PG = 0x01

abbrev pub SER : ℕ
SER = 0x02

abbrev pub MER : ℕ
MER = 0x04

abbrev pub EOPIE : ℕ
EOPIE = 0x0100_0000

abbrev pub ERRIE : ℕ
ERRIE = 0x0200_0000

abbrev pub STRT : ℕ
STRT = 0x0001_0000

abbrev pub LOCK : ℕ
LOCK = 0x8000_0000

abbrev pub snb : ℕ → ℕ
snb cr = field cr 3 4

abbrev pub psize : ℕ → ℕ
psize cr = field cr 8 2

-- OPTCR: its fields, and the two bits that can only be set
abbrev pub optcr_fields : ℕ
optcr_fields = 0x0fff_ffec

abbrev pub OPTLOCK : ℕ
OPTLOCK = 0x01

abbrev pub OPTSTRT : ℕ
OPTSTRT = 0x02

abbrev pub rdp : ℕ → ℕ
rdp optcr = field optcr 8 8

-- what a write of w leaves in ACR: DCRST changes only if DCEN was 0, ICRST only if ICEN was 0
abbrev pub acr_after : ℕ → ℕ → ℕ
acr_after old w =
    chosen (bit_or (cond (is_set old DCEN) DCRST 0) (cond (is_set old ICEN) ICRST 0)) old (bit_and w acr_bits)
