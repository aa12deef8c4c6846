-- What is left to store, from each number on, ends as the whole does.
use Rattle.std.proofs.Common.{◌-◌, ◌≡◌, ◌≤◌}
use Rattle.std.proofs.lemmas.List.Edits.{sets}
use Rattle.job.specs.Job.{numbers_from, timings_of}
use Rattle.jobfile.proofs.timings.load.Given as goal

abbrev pub invariant-loop-i : goal.invariant-loop-i
invariant-loop-i l = (l.i ≤ 24) × (sets l.timings l.i (numbers_from l.bytes l.i (24 - l.i)) ≡ timings_of l.bytes)
