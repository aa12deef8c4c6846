-- The named bits stand where PM0059 2.8 has them, and the named registers at their offsets: each equation computes.
use mathlib.Core.Path.{◌≡◌, refl}
use Prim.Native.Nat.{◌+◌, ◌-◌, ◌^◌}
use Rattle.registers.specs.Fields.{ACR, KEYR, OPTKEYR, SR, CR, OPTCR, acr_bits, ICEN, DCEN, ICRST, DCRST, sr_flags, EOP, OPERR, WRPERR}
use Rattle.registers.specs.Fields.{PGAERR, PGPERR, PGSERR, BSY, cr_fields, PG, SER, MER, EOPIE, ERRIE, STRT, LOCK, optcr_fields, OPTLOCK, OPTSTRT}

pub offsets : (ACR ≡ 0) × (KEYR ≡ 4) × (OPTKEYR ≡ 8) × (SR ≡ 12) × (CR ≡ 16) × (OPTCR ≡ 20)
offsets = (refl, refl, refl, refl, refl, refl)

-- ACR: LATENCY bits 2 to 0, PRFTEN 8, then the caches' bits 9 to 12
pub acr_places : (ICEN ≡ 2 ^ 9) × (DCEN ≡ 2 ^ 10) × (ICRST ≡ 2 ^ 11) × (DCRST ≡ 2 ^ 12) × (acr_bits ≡ (2 ^ 3 - 2 ^ 0) + (2 ^ 13 - 2 ^ 8))
acr_places = (refl, refl, refl, refl, refl)

pub sr_places :
    (EOP ≡ 2 ^ 0) × (OPERR ≡ 2 ^ 1) × (WRPERR ≡ 2 ^ 4) × (PGAERR ≡ 2 ^ 5) × (PGPERR ≡ 2 ^ 6) × (PGSERR ≡ 2 ^ 7) × (BSY ≡ 2 ^ 16)
    × (sr_flags ≡ (2 ^ 2 - 2 ^ 0) + (2 ^ 8 - 2 ^ 4))
sr_places = (refl, refl, refl, refl, refl, refl, refl, refl)

-- CR: PG, SER, MER and SNB bits 6 to 0, PSIZE bits 9 and 8, EOPIE and ERRIE
pub cr_places :
    (PG ≡ 2 ^ 0) × (SER ≡ 2 ^ 1) × (MER ≡ 2 ^ 2) × (STRT ≡ 2 ^ 16) × (EOPIE ≡ 2 ^ 24) × (ERRIE ≡ 2 ^ 25) × (LOCK ≡ 2 ^ 31)
    × (cr_fields ≡ (2 ^ 7 - 2 ^ 0) + (2 ^ 10 - 2 ^ 8) + (2 ^ 26 - 2 ^ 24))
cr_places = (refl, refl, refl, refl, refl, refl, refl, refl)

-- OPTCR: BOR_LEV bits 3 and 2, USER bits 7 to 5, RDP bits 15 to 8, nWRP bits 27 to 16
pub optcr_places : (OPTLOCK ≡ 2 ^ 0) × (OPTSTRT ≡ 2 ^ 1) × (optcr_fields ≡ (2 ^ 4 - 2 ^ 2) + (2 ^ 28 - 2 ^ 5))
optcr_places = (refl, refl, refl)
