-- The worked answers and bytes, by evaluation.
use mathlib.Core.Path.{refl}
use Rattle.writer.specs.Example.{WorkedCodes, WorkedBytes}

worked_codes : WorkedCodes
worked_codes = (refl, refl, refl, refl, refl, refl, refl, refl, refl, refl, refl, refl, refl, refl, refl, refl, refl, refl, refl)

worked_bytes : WorkedBytes
worked_bytes = (refl, refl, refl, refl, refl, refl, refl)
