-- The life of an operation: a start, or a flag in its place; whether the lent buffers hold what it changes; time that passes over it; its end,
-- or the cut of a reset before that, which change cells.
use Rattle.std.specs.Prelude.{Option, Some, None, Bool, false, cond, not, ◌&&◌, List, ℕ, ◌+◌, ◌-◌, eqb, leb, ltb, length, replicate}
use Rattle.std.specs.Int.Bits.{bit_or}
use Rattle.cells.specs.Bytes.{programmed, sparing, erased, scrapped}
use Rattle.map.specs.Areas.{option_length}
use Rattle.map.specs.Sectors.{sectors_in, sector_start, sector_length}
use Rattle.registers.specs.Fields.{EOP, EOPIE, OPERR, ERRIE}
use Rattle.registers.specs.Words.{is_set}
use Rattle.time.specs.Units.{micros}
use Rattle.time.specs.declared.Micros.{Micros}
use Rattle.part.specs.Options.{level_of, loaded_optcr, changed_options, regressed_options, cut_options}
use Rattle.part.specs.State.{Part, having, reply, with_main, with_options, with_otp, with_sram, with_sr, with_optcr, with_op, with_debugger}
use Rattle.part.specs.declared.Answer.TheVariants.{Done, Flagged}
use Rattle.part.specs.declared.Running.{Running}
use Rattle.part.specs.declared.Record.{Record}
use Rattle.part.specs.declared.Reply.{Reply}
use Rattle.part.specs.declared.Target.{Target}
use Rattle.part.specs.declared.Target.TheVariants as target
use Rattle.part.specs.declared.Written.{Written}

-- ---- the start

-- one flag of SR rises, and OPERR with it if ERRIE is set
abbrev pub flagged : Record → ℕ → Reply
flagged r flag = reply (Flagged flag) (with_sr r (bit_or r.sr (bit_or flag (cond (is_set r.cr ERRIE) OPERR 0))))

abbrev pub started : Record → Target → Micros → Reply
started r t left = reply (Done 0) (with_op r (Some (record { target = t; left = left })))

-- a flag, or, where there is none, the operation
abbrev pub flagged_or : Record → Option ℕ → Target → Micros → Reply
flagged_or r None t left = started r t left
flagged_or r (Some flag) t left = flagged r flag

-- ---- the fit: main flash and OTP of these lengths do not hold the target, or a mass erase or regression began under another length

abbrev pub target_outside : Target → ℕ → ℕ → Bool
target_outside (target.Bytes w) main otp = ltb (cond w.otp otp main) (w.offset + w.width)
target_outside (target.Sector k) main otp = leb (sectors_in main) k
target_outside (target.Main len) main otp = not (eqb len main)
target_outside target.Options main otp = false
target_outside (target.Regression len option) main otp = not (eqb len main)

abbrev pub operation_outside : Option Running → ℕ → ℕ → Bool
operation_outside None main otp = false
operation_outside (Some running) main otp = target_outside running.target main otp

-- ---- the end

-- nothing runs, so BSY, STRT and OPTSTRT read 0, and EOP rises where EOPIE asks for it
abbrev pub idled : Record → Record
idled r = with_op (with_sr r (bit_or r.sr (cond (is_set r.cr EOPIE) EOP 0))) None

-- new option cells: OPTCR takes its fields from them, and level 2 lets no debugger stay
abbrev pub reloaded : Record → List ℕ → Record
reloaded r options = with_debugger (with_optcr r (loaded_optcr options)) (r.debugger && not (eqb (level_of options) 2)) r.mark

-- main flash or OTP is programmed with so many bytes of a value
abbrev pub programs : Part → Written → ℕ → Part
programs p w value =
    with_otp (with_main p (cond w.otp p.main (programmed p.main w.offset w.width value)))
    (cond w.otp (programmed p.otp w.offset w.width value) p.otp)

-- what a regression leaves beside its option cells: main flash is FF, and the SRAM zero
abbrev pub regressed : Part → List ℕ → Part
regressed p options =
    with_sram (with_options (with_main p (replicate (length p.main) 255)) options)
    (replicate (length p.sram) 0)

-- the last microsecond has passed
abbrev pub ended : Part → Target → Part
ended p (target.Bytes w) = programs (having p (idled p.rec)) w w.value
ended p (target.Sector k) = with_main (having p (idled p.rec)) (erased p.main (sector_start k) (sector_length k))
ended p (target.Main len) = with_main (having p (idled p.rec)) (replicate (length p.main) 255)
ended p target.Options =
    let options = changed_options p.options p.rec.optcr in
    with_options (having p (reloaded (idled p.rec) options)) options
ended p (target.Regression len option) =
    let options = regressed_options p.options in
    regressed (having p (reloaded (idled p.rec) options)) options

-- ---- the cut

-- a regression has more than its option time left: main flash is being erased, and the option cells wait
abbrev pub erasing : Micros → Micros → Bool
erasing option left = ltb option.0 left.0

-- how many bytes an operation with that time left is changing, in a part with main flash of that length
abbrev pub target_length : Target → Micros → ℕ → ℕ
target_length (target.Bytes w) left main = w.width
target_length (target.Sector k) left main = sector_length k
target_length (target.Main len) left main = main
target_length target.Options left main = option_length
target_length (target.Regression len option) left main = cond (erasing option left) main option_length

-- 21: something runs, and there are fewer scrap bytes than it is changing
abbrev pub scrap_short : Option Running → ℕ → ℕ → Bool
scrap_short None main scrap = false
scrap_short (Some running) main scrap = ltb scrap (target_length running.target running.left main)

-- the cells that a cut leaves: byte i of what is being changed takes scrap byte i
abbrev pub cut_by : Part → Target → Micros → List ℕ → Part
cut_by p (target.Bytes w) left scrap = programs p w (sparing w.width w.value scrap)
cut_by p (target.Sector k) left scrap = with_main p (scrapped p.main (sector_start k) (sector_length k) scrap)
cut_by p (target.Main len) left scrap = with_main p (scrapped p.main 0 (length p.main) scrap)
cut_by p target.Options left scrap = with_options p (cut_options p.options (changed_options p.options p.rec.optcr) scrap)
cut_by p (target.Regression len option) left scrap =
    cond (erasing option left)
    (with_main p (scrapped p.main 0 (length p.main) scrap))
    (regressed p (cut_options p.options (regressed_options p.options) scrap))

abbrev pub cut : Part → Option Running → List ℕ → Part
cut p None scrap = p
cut p (Some running) scrap = cut_by p running.target running.left scrap

-- ---- time

-- time passes over what runs
abbrev pub elapsed_over : Part → Option Running → Micros → Part
elapsed_over p None t = p
elapsed_over p (Some running) t =
    cond (ltb t.0 running.left.0)
    (having p (with_op p.rec (Some (record { target = running.target; left = micros (running.left.0 - t.0) }))))
    (ended p running.target)

abbrev pub elapsed : Part → Micros → Part
elapsed p t = elapsed_over p p.rec.op t

-- the time that an operation has left; 0 when idle
abbrev pub time_left : Option Running → Micros
time_left None = micros 0
time_left (Some running) = running.left

-- 19: busy with none left
abbrev pub none_left : Option Running → Bool
none_left None = false
none_left (Some running) = eqb running.left.0 0
