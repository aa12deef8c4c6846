-- A job's run, call by call: the call of a record is made, and its answer stored in its place.
use Rattle.std.specs.Prelude.{List, ◌++◌, ℕ, ◌*◌, take, drop}
use Rattle.job.specs.Job.{record_at, answer_bytes}
use Rattle.job.specs.Record.{call_in}
use Rattle.part.specs.declared.Answer.{Answer}
use Rattle.part.specs.declared.Call.{Call}

-- the call of record i
abbrev pub call_at : List ℕ → ℕ → Call
call_at job i = call_in (record_at job i)

-- the answer buffer with the answer of call i stored
abbrev pub answered : List ℕ → ℕ → Answer → List ℕ
answered room i a = take (16 * i) room ++ (answer_bytes a ++ drop 16 (drop (16 * i) room))
