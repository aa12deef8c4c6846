-- The worked jobs, by evaluation.
use mathlib.Core.Path.{refl}
use Rattle.written.specs.Example.{WorkedJobs}

worked_jobs : WorkedJobs
worked_jobs = (refl, refl, refl, refl, refl, refl, refl, refl, refl, refl)
