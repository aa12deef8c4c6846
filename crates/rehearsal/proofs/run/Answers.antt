-- The buffers are the definition's part, and the timings its 1,000 microseconds.
use Rattle.std.proofs.Common.{refl, ◌∙◌}
use Rattle.rehearsal.proofs.Timed.{rehearses}
use Rattle.rehearsal.proofs.run.Goals as goal

pub returns : goal.returns
returns c =
    rehearses c.as_flattened.result.now c.args.job.now c.args.answers.now (c.as_flattened.ensures.value ∙ rw c.to_le_bytes-timings.ensures refl)
    c.flash_job_run.ensures refl
