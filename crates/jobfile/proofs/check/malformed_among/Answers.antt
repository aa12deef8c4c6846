-- At the first malformed record the verdict is known; a sound one leaves it to the rest.
use Rattle.std.proofs.Common.{sym, ap, ◌∙◌, add-one}
use Rattle.job.specs.Record.{record_call}
use Rattle.jobfile.proofs.Turns.{turn}
use Rattle.jobfile.proofs.check.malformed_among.Goals as goal

pub returns-then-is_none : goal.returns-then-is_none
returns-then-is_none c =
    let l = c.loop-i in
    let told = c.record_call.ensures ∙ ap record_call c.record_at.ensures in
    sym (turn c.args.job.now c.args.count l.i c.loop-i-test.true told c.is_none.ensures c.if-is_none.true) ∙ l.invariant

pub loop-i-preserved : goal.loop-i-preserved
loop-i-preserved c =
    let l = c.loop-i in
    let told = c.record_call.ensures ∙ ap record_call c.record_at.ensures in
    let rest = turn c.args.job.now c.args.count l.i c.loop-i-test.true told c.is_none.ensures c.if-is_none.false in
    rw add-one (sym rest ∙ l.invariant)
