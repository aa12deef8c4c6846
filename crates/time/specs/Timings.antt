-- The timings: 24 numbers of microseconds, four rows by PSIZE of six columns.
use Rattle.std.specs.Prelude.{Bool, false, cond, ◌||◌, List, [], ◌∷◌, ℕ, ◌+◌, ◌*◌, eqb, ltb, get_or}
use Rattle.time.specs.Units.{micros}
use Rattle.time.specs.declared.Micros.{Micros}
use Rattle.time.specs.declared.Work.{Work}
use Rattle.time.specs.declared.Work.TheVariants.{Program, Erase16, Erase64, Erase128, MassErase, Options}

-- the most that a timing may be: a minute
abbrev pub longest_timing : ℕ
longest_timing = 60_000_000

-- one of them is 0, or more than that
abbrev pub out_of_range : List ℕ → Bool
out_of_range [] = false
out_of_range (t ∷ ts) = (ltb t 1 || ltb longest_timing t) || out_of_range ts

abbrev pub column : Work → ℕ
column Program = 0
column Erase16 = 1
column Erase64 = 2
column Erase128 = 3
column MassErase = 4
column Options = 5

-- how long a work lasts in a PSIZE row
abbrev pub duration : List ℕ → ℕ → Work → Micros
duration timings row w = micros (get_or timings (row * 6 + column w) 0)

-- a regression lasts mass erase plus option time
abbrev pub regression_time : List ℕ → ℕ → Micros
regression_time timings row = micros ((duration timings row MassErase).0 + (duration timings row Options).0)

-- the column of a sector's erase, by its size
abbrev pub sector_work : ℕ → Work
sector_work k = cond (ltb k 4) Erase16 (cond (eqb k 4) Erase64 Erase128)
