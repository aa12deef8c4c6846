-- Jobs worked out: document 01's example and one of each kind, written; a call that is refused between two others; a job that is not closed.
use Rattle.std.specs.Prelude.{true, false, List, [], ◌∷◌, ◌++◌, ◌≡◌, replicate}
use Rattle.job.specs.Example.{example_job, example_calls, kinds_job, kinds_calls}
use Rattle.job.specs.Job.{file_refusal}
use Rattle.part.specs.declared.Call.{Call}
use Rattle.worked.specs.Bench.{reset, on}
use Rattle.writer.specs.Example.{room}
use Rattle.writer.specs.Writer.{begun}
use Rattle.written.specs.Claims.{any_unheld}
use Rattle.written.specs.Lists.{appended_all, taken_of, written, job_in}

-- a boot that there is not stands between two sound calls
abbrev pub mixed_calls : List Call
mixed_calls = reset 0 ∷ reset 3 ∷ on ∷ []

-- both jobs that document 01's reader is tried on, with two bytes behind one of them
abbrev pub WorkedJobs : Type 0
WorkedJobs =
    ((written example_calls (room 39)).bytes ≡ example_job) × ((written kinds_calls (room 137)).bytes ≡ kinds_job ++ room 2)
    × (taken_of mixed_calls (begun (room 39)).draft ≡ reset 0 ∷ on ∷ [])
    × (taken_of mixed_calls (begun (room 38)).draft ≡ reset 0 ∷ [])
    × (job_in (written mixed_calls (room 60)) ≡ 0x46 ∷ 0x4A ∷ 0x42 ∷ 0x01 ∷ 0x00 ∷ 0x02 ∷ 0x00 ∷ (replicate 16 0 ++ (0x01 ∷ replicate 15 0)))
    × (file_refusal (job_in (appended_all example_calls (begun (room 39)).draft)) 32 ≡ 4)
    × (file_refusal (job_in (written example_calls (room 39))) 32 ≡ 0)
    × (file_refusal (job_in (appended_all mixed_calls (written example_calls (room 71)))) 64 ≡ 4)
    × (any_unheld kinds_calls ≡ false) × (any_unheld mixed_calls ≡ true)
