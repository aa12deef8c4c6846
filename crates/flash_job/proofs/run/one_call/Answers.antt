-- The call is the record's, its outcome the step's, and its answer goes where 16 bytes are left for it.
use Rattle.std.proofs.Common.{ap, ◌∙◌}
use Rattle.cached.specs.Device.{Served, step_by}
use Rattle.job.specs.Job.{answer_bytes}
use Rattle.jobfile.proofs.Chunks.{place_put}
use Rattle.lined.specs.Lent.{device_of}
use Rattle.part.specs.Refusals.{malformed}
use Rattle.flash_job.proofs.Runs.{call_told, runs_as_steps}
use Rattle.flash_job.specs.Run.{call_at}
use Rattle.flash_job.proofs.run.one_call.Goals as goal

pub perform-reply-requires : goal.perform-reply-requires
perform-reply-requires c =
    (ap malformed (call_told c.args.job.now c.args.i _ c.call_in-c.ensures) ∙ c.requires.5, c.requires.4)

pub returns-clause-called : goal.returns-clause-called
returns-clause-called c =
    let a = c.args in
    let d = device_of a.r a.cells.now a.lines.now in
    let x = call_at a.job.now a.i in
    let told = call_told a.job.now a.i _ c.call_in-c.ensures in
    let made = runs_as_steps a.cached a.timings.now a.scrap.now d _ x _ c.requires.4 c.requires.3 c.requires.5 told c.perform-reply.ensures.served in
    let put = place_put 16 a.answers.now a.i c.requires.2 _
    (answer_bytes (step_by a.cached a.timings.now a.scrap.now x d).answer) _ (ap (λ (o : Served). answer_bytes o.answer) made)
    c.put_answer.ensures in
    (ap (λ (o : Served). o.device) made, put)
