-- The kinds of a record, by number.
use Rattle.std.specs.Prelude.{cond, ℕ, eqb, Option, Some, None}
use Rattle.job.specs.declared.kinds.Kind.{Kind}
use Rattle.job.specs.declared.kinds.Kind.TheVariants.{Reset, On, Off, Read, Write, Pass, Wait, Fetch}

abbrev pub kind_of : ℕ → Option Kind
kind_of number =
    cond (eqb number 0) (Some Reset)
    (cond (eqb number 1) (Some On)
    (cond (eqb number 2) (Some Off)
    (cond (eqb number 3) (Some Read)
    (cond (eqb number 4) (Some Write)
    (cond (eqb number 5) (Some Pass)
    (cond (eqb number 6) (Some Wait)
    (cond (eqb number 7) (Some Fetch)
    None)))))))

abbrev pub number_of : Kind → ℕ
number_of Reset = 0
number_of On = 1
number_of Off = 2
number_of Read = 3
number_of Write = 4
number_of Pass = 5
number_of Wait = 6
number_of Fetch = 7
