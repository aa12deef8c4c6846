-- Each turn makes the call of its record.
use Rattle.cached.specs.Device.{device}
use Rattle.cached.specs.Lines.{no_lines}
use Rattle.lined.specs.Lent.{device_of}
use Rattle.part.specs.Lent.{SameBuffers, part_of}
use Rattle.part.specs.State.{fresh}
use Rattle.flash_job.proofs.Runs.{Sofar}
use Rattle.flash_job.proofs.run.run_calls.Given as goal

abbrev pub invariant-loop-i : goal.invariant-loop-i
invariant-loop-i l = record {
  same : SameBuffers l.initial.cells l.cells;
  sofar : Sofar l.cached l.timings l.scrap l.job l.initial.answers l.i-end (device (part_of fresh l.initial.cells) no_lines) l.i
      (device_of l.r l.cells l.lines) l.answers;
}
