-- The refusals of a whole job by their numbers.
use Rattle.std.specs.Prelude.{ℕ, Result, Ok, Err}
use Rattle.flash_job.specs.declared.refused.JobRefusal.{JobRefusal}
use Rattle.flash_job.specs.declared.refused.JobRefusal.TheVariants.{BadBuffers, BadTimings, BadHead, BadJobLength, Malformed, NoRoom}

abbrev pub number_of : JobRefusal → ℕ
number_of BadBuffers = 1
number_of BadTimings = 2
number_of BadHead = 3
number_of BadJobLength = 4
number_of Malformed = 5
number_of NoRoom = 6

-- 0 for a job that ran
abbrev pub code_of : Result (Unit {0}) JobRefusal → ℕ
code_of (Ok ran) = 0
code_of (Err why) = number_of why
