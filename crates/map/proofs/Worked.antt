-- Values of the map worked out by hand from document 01, at the borders of sectors, parts, areas, rows and blocks: each equation computes.
use mathlib.Core.Path.{◌≡◌, refl}
use mathlib.Core.Bool.{true, false}
use lib.ListN.{replicate, set}
use Rattle.map.specs.Areas.{area_of, crosses_row}
use Rattle.map.specs.Protection.{block_locked}
use Rattle.map.specs.Sectors.{sector_start, sector_of, sectors_in}
use Rattle.map.specs.declared.Area.TheVariants.{Flash, Registers, Sram, Outside}
use Rattle.map.specs.declared.Place.TheVariants.{Main, System, Otp, SystemAndOtp, OptionCells}

pub sectors_worked :
    (sector_of 0x3FFF ≡ 0) × (sector_of 0x4000 ≡ 1) × (sector_of 0xFFFF ≡ 3) × (sector_of 0x1_0000 ≡ 4) × (sector_of 0x1_FFFF ≡ 4)
    × (sector_of 0x2_0000 ≡ 5) × (sector_of 0xE_0000 ≡ 11) × (sector_start 3 ≡ 0xC000) × (sector_start 4 ≡ 0x1_0000) × (sector_start 5 ≡ 0x2_0000)
    × (sector_start 11 ≡ 0xE_0000)
sectors_worked = (refl, refl, refl, refl, refl, refl, refl, refl, refl, refl, refl)

pub lengths_worked :
    (sectors_in 0 ≡ 0) × (sectors_in 16_384 ≡ 1) × (sectors_in 16_385 ≡ 0) × (sectors_in 65_536 ≡ 4) × (sectors_in 81_920 ≡ 0)
    × (sectors_in 131_072 ≡ 5) × (sectors_in 1_048_576 ≡ 12) × (sectors_in 1_179_648 ≡ 0)
lengths_worked = (refl, refl, refl, refl, refl, refl, refl, refl)

-- on a part of one sector
pub areas_worked :
    (area_of 16_384 0x0800_3FFC 4 ≡ Flash (Main 0x3FFC)) × (area_of 16_384 0x0800_3FFD 4 ≡ Outside) × (area_of 16_384 0x1FFF_77FC 4 ≡ Flash (System 0x77FC))
    × (area_of 16_384 0x1FFF_77FC 8 ≡ Flash (SystemAndOtp 0x77FC)) × (area_of 16_384 0x1FFF_7A0F 1 ≡ Flash (Otp 527)) × (area_of 16_384 0x1FFF_7A10 1 ≡ Outside)
    × (area_of 16_384 0x1FFF_C008 8 ≡ Flash (OptionCells 8)) × (area_of 16_384 0x4002_3C14 4 ≡ Registers 0x14) × (area_of 16_384 0x4002_3C14 8 ≡ Outside)
    × (area_of 16_384 0xFFFF_FFFC 8 ≡ Outside) × (area_of 16_384 0x4002_3FFF 1 ≡ Outside) × (area_of 16_384 0x4002_3FFF 2 ≡ Outside)
    × (area_of 16_384 0x4002_4000 8 ≡ Sram 0) × (area_of 16_384 0x4002_4001 4 ≡ Sram 1) × (area_of 16_384 0x4002_4FFF 1 ≡ Sram 4095)
    × (area_of 16_384 0x4002_4FFF 2 ≡ Outside) × (area_of 16_384 0x4002_5000 1 ≡ Outside)
areas_worked = (refl, refl, refl, refl, refl, refl, refl, refl, refl, refl, refl, refl, refl, refl, refl, refl, refl)

pub rows_worked :
    (crosses_row 0x0800_000F 2 ≡ true) × (crosses_row 0x0800_000E 2 ≡ false) × (crosses_row 0x0800_0010 8 ≡ false) × (crosses_row 0x1FFF_77FC 8 ≡ true)
rows_worked = (refl, refl, refl, refl)

-- lock byte 1 is 00
pub blocks_worked :
    (block_locked (set (replicate 528 255) 513 0) 31 ≡ false) × (block_locked (set (replicate 528 255) 513 0) 32 ≡ true)
    × (block_locked (set (replicate 528 255) 513 0) 63 ≡ true) × (block_locked (set (replicate 528 255) 513 0) 64 ≡ false)
    × (block_locked (set (replicate 528 255) 513 0) 513 ≡ false)
blocks_worked = (refl, refl, refl, refl, refl)
