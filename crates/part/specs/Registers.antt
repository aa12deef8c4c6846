-- What the six registers read. Reserved bits read 0; KEYR and OPTKEYR read 0.
use Rattle.std.specs.Prelude.{Option, Some, None, Bool, true, false, cond, ℕ}
use Rattle.std.specs.Int.Bits.{bit_and, bit_or}
use Rattle.lock.specs.Keys.{is_open}
use Rattle.registers.specs.Fields.{acr_bits, sr_flags, cr_fields, optcr_fields, BSY, LOCK, STRT, OPTLOCK, OPTSTRT}
use Rattle.registers.specs.declared.LockOf.{LockOf}
use Rattle.registers.specs.declared.LockOf.TheVariants.{Cr, Optcr}
use Rattle.registers.specs.declared.Register.{Register}
use Rattle.registers.specs.declared.Register.TheVariants as register
use Rattle.part.specs.State.{is_busy}
use Rattle.part.specs.declared.Record.{Record}
use Rattle.part.specs.declared.Running.{Running}
use Rattle.part.specs.declared.Target.{Target}
use Rattle.part.specs.declared.Target.TheVariants as target

-- STRT stands while an erase runs, OPTSTRT while an option change or a regression does
abbrev pub erases : Target → Bool
erases (target.Bytes w) = false
erases (target.Sector k) = true
erases (target.Main len) = true
erases target.Options = false
erases (target.Regression len option) = false

abbrev pub changes_options : Target → Bool
changes_options (target.Bytes w) = false
changes_options (target.Sector k) = false
changes_options (target.Main len) = false
changes_options target.Options = true
changes_options (target.Regression len option) = true

abbrev pub strt : Option Running → Bool
strt None = false
strt (Some running) = erases running.target

abbrev pub optstrt : Option Running → Bool
optstrt None = false
optstrt (Some running) = changes_options running.target

abbrev pub sr_of : Record → ℕ
sr_of r = bit_or (bit_and r.sr sr_flags) (cond (is_busy r.op) BSY 0)

abbrev pub cr_of : Record → ℕ
cr_of r = bit_or (bit_and r.cr cr_fields) (bit_or (cond (is_open r.lock) 0 LOCK) (cond (strt r.op) STRT 0))

abbrev pub optcr_of : Record → ℕ
optcr_of r =
    bit_or (bit_and r.optcr optcr_fields) (bit_or (cond (is_open r.optlock) 0 OPTLOCK) (cond (optstrt r.op) OPTSTRT 0))

abbrev pub control_of : LockOf → Record → ℕ
control_of Cr r = cr_of r
control_of Optcr r = optcr_of r

abbrev pub register_of : Record → Register → ℕ
register_of r register.Acr = bit_and r.acr acr_bits
register_of r register.Sr = sr_of r
register_of r (register.Key which) = 0
register_of r (register.Control which) = control_of which r
