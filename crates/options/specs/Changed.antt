-- What an option change and a regression make of each option cell, by its number: what `changed_options` and `regressed_options` give there.
use Rattle.std.specs.Prelude.{Bool, cond, ℕ, eqb}
use Rattle.std.specs.Int.Bits.{bit_and, bit_or}
use Rattle.registers.specs.Words.{field}

abbrev pub changed_at : ℕ → ℕ → ℕ
changed_at optcr i =
    cond (eqb i 9) (bit_or (field optcr 24 4) 0xF0) (cond (eqb i 8) (field optcr 16 8)
    (cond (eqb i 1) (field optcr 8 8) (cond (eqb i 0) (bit_or (bit_and optcr 0xEC) 0x13) 255)))

-- by a regression, or else an option change, of a cell that was `old`
abbrev pub new_at : Bool → ℕ → ℕ → ℕ → ℕ
new_at regress optcr i old = cond regress (cond (eqb i 1) 0xAA old) (changed_at optcr i)
