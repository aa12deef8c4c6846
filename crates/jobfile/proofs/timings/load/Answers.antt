-- A list of 24 numbers is stored over from end to end; in a turn one number more stands in its place.
use Rattle.std.proofs.Common.{◌<◌, sym, ◌∙◌, arith}
use Rattle.job.specs.Job.{timings_of}
use Rattle.jobfile.proofs.Stored.{stored_whole, timings_turn}
use Rattle.jobfile.proofs.timings.load.Goals as goal

pub loop-i-init : goal.loop-i-init
loop-i-init c = (omega arith, stored_whole c.args.timings.now (timings_of c.args.bytes.now) c.requires)

pub loop-i-preserved : goal.loop-i-preserved
loop-i-preserved c =
    let l = c.loop-i in
    let more : l.i < 24 = omega (arith, c.loop-i-test.true, c.requires) in
    let rest = sym (timings_turn l.timings c.args.bytes.now l.i more) ∙ l.invariant.1 in
    (omega arith, rw c.number_at.ensures rest)
