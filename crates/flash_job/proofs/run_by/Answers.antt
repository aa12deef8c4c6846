-- The checks are the definition's, in its order; a job that they leave is run, and a refused one has touched nothing.
use Rattle.std.proofs.Common.{sym, ◌∙◌, rules}
use Rattle.std.proofs.lemmas.Result.{err_from_is_err_and}
use Rattle.part.specs.State.{part, fresh}
use Rattle.flash_job.proofs.Judged.{found, refused, runs, sound, untimely}
use Rattle.flash_job.proofs.run_by.Goals as goal

pub returns-then-out_of_range : goal.returns-then-out_of_range
returns-then-out_of_range c =
    let a = c.args in
    untimely a.cached (part fresh a.main.now a.otp.now a.options.now a.sram.now) a.timings.now a.scrap.now a.job.now a.answers.now _
    c.load_timings.ensures (sym c.bad_buffers.ensures ∙ c.if-bad_buffers.false) (sym c.out_of_range.ensures ∙ c.if-out_of_range.true)

pub returns-in_err-n : goal.returns-in_err-n
returns-in_err-n c =
    let a = c.args in
    let r = err_from_is_err_and c.from_residual.result c.from_residual.ensures.1 in
    let k = found (part fresh a.main.now a.otp.now a.options.now a.sram.now) a.timings.now _ _ _ c.load_timings.ensures
    c.bad_buffers.ensures c.if-bad_buffers.false c.out_of_range.ensures c.if-out_of_range.false in
    rw (r.1, r.2) (refused k a.scrap.now a.job.now a.answers.now a.cached _ c.in_err-n.ensures)

pub run_calls-requires : goal.run_calls-requires
run_calls-requires c =
    let a = c.args in
    sound
    (found (part fresh a.main.now a.otp.now a.options.now a.sram.now) a.timings.now _ _ _ c.load_timings.ensures
    c.bad_buffers.ensures c.if-bad_buffers.false c.out_of_range.ensures c.if-out_of_range.false)
    a.scrap.now a.job.now a.answers.now c.in_ok-n.ensures

pub returns : goal.returns
returns c =
    let a = c.args in
    let ran =
    runs
    (found (part fresh a.main.now a.otp.now a.options.now a.sram.now) a.timings.now _ _ _ c.load_timings.ensures
    c.bad_buffers.ensures c.if-bad_buffers.false c.out_of_range.ensures c.if-out_of_range.false)
    a.scrap.now a.job.now a.answers.now c.in_ok-n.ensures a.cached _ c.run_calls.ensures.ran in
    search (rules, ran)
