-- What is left to check decides as all records do.
use Rattle.std.proofs.Common.{◌-◌, ◌≡◌}
use Rattle.job.specs.Job.{is_malformed, read_calls}
use Rattle.jobfile.proofs.check.malformed_among.Given as goal

abbrev pub invariant-loop-i : goal.invariant-loop-i
invariant-loop-i l = is_malformed (read_calls l.job l.i (l.count - l.i)) ≡ is_malformed (read_calls l.job 0 l.count)
