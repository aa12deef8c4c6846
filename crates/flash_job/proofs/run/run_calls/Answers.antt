-- Each turn makes the call of its record; when none is left the whole job is done.
use Rattle.std.proofs.Common.{refl, ap, ◌∙◌, arith, rules}
use Rattle.cached.specs.Device.{Device, device}
use Rattle.cached.specs.Lines.{no_lines}
use Rattle.part.specs.Lent.{part_of}
use Rattle.part.specs.declared.Record.{Record}
use Rattle.flash_job.proofs.Runs.{start, call_good, next, ends}
use Rattle.flash_job.proofs.run.run_calls.Goals as goal

pub loop-i-init : goal.loop-i-init
loop-i-init c =
    let lent : Record → Device = λ r. device (part_of r c.args.cells.now) no_lines in record {
      same = record { main = refl; otp = refl; options = refl; sram = refl };
      sofar = start (ap lent c.fresh-r.ensures) c.requires.4 c.requires.5;
    }

pub one_call-r-requires : goal.one_call-r-requires
one_call-r-requires c =
    let k = c.loop-i.invariant.sofar in (
      omega (arith, c.loop-i-test.true, c.requires.0),
      omega (arith, c.loop-i-test.true, c.requires.1),
      omega (arith, c.loop-i-test.true, c.requires.2, c.loop-i.auto.answers),
      c.requires.3,
      k.fits,
      call_good c.loop-i-test.true k,
    )

pub loop-i-preserved : goal.loop-i-preserved
loop-i-preserved c =
    let k = c.loop-i.invariant in
    let s = c.one_call-r.ensures.same.0 in record {
      same = record {
        main = s.main ∙ k.same.main;
        otp = s.otp ∙ k.same.otp;
        options = s.options ∙ k.same.options;
        sram = s.sram ∙ k.same.sram;
      };
      sofar = next c.loop-i-test.true k.sofar (omega (arith, c.loop-i-test.true, c.requires.2, c.loop-i.auto.answers)) c.one_call-r.ensures.called;
    }

pub returns : goal.returns
returns c =
    let ran = ends (omega (arith, c.loop-i-test.false, c.loop-i.auto.i-end)) c.requires.4 refl c.loop-i.invariant.sofar in
    search (rules, ran)
