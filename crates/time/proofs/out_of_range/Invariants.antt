-- What was found so far, or what is found from here on, is the answer for the whole.
use Rattle.std.proofs.Common.{drop, ◌≡◌, ◌||◌}
use Rattle.time.specs.Timings.{out_of_range}
use Rattle.time.proofs.out_of_range.Given as goal

abbrev pub invariant-loop-t : goal.invariant-loop-t
invariant-loop-t l = l.bad || out_of_range (drop l.t-index l.timings) ≡ out_of_range l.timings
