-- Pass and wait.
use Rattle.std.specs.Prelude.{Bool, cond, not, leb, ltb}
use Rattle.time.specs.Units.{to_micros, longest_pass, longest_wait}
use Rattle.time.specs.declared.Micros.{Micros}
use Rattle.part.specs.Operations.{elapsed, time_left, none_left}
use Rattle.part.specs.State.{Part, Outcome, kept, refuse}
use Rattle.part.specs.declared.Answer.{Answer}
use Rattle.part.specs.declared.Answer.TheVariants.{Done, Expired}
use Rattle.part.specs.declared.Lapse.{Lapse}
use Rattle.part.specs.declared.Lapse.TheVariants.{Pass, Wait}
use Rattle.part.specs.declared.Reason.TheVariants.{TooLong, NoPower, NoneLeft}

-- 8
abbrev pub too_long : Lapse → Bool
too_long (Pass t) = ltb longest_pass t.0
too_long (Wait t) = ltb longest_wait t.0

-- a pass lets its time pass; a wait the time that is left, or its limit where that is less
abbrev pub lapse_time : Lapse → Micros → Micros
lapse_time (Pass t) left = t
lapse_time (Wait t) left = cond (leb left.0 (to_micros t).0) left (to_micros t)

-- a wait answers with the time that passed, and where its limit was less than what is left it has expired
abbrev pub lapse_answer : Lapse → Micros → Answer
lapse_answer (Pass t) left = Done 0
lapse_answer (Wait t) left = cond (leb left.0 (to_micros t).0) (Done left.0) (Expired (to_micros t))

abbrev pub lapsed : Lapse → Part → Outcome
lapsed t p =
    cond (too_long t) (kept p (refuse TooLong p.rec))
    (cond (not p.rec.power) (kept p (refuse NoPower p.rec))
    (cond (none_left p.rec.op) (kept p (refuse NoneLeft p.rec))
    (record { answer = lapse_answer t (time_left p.rec.op); part = elapsed p (lapse_time t (time_left p.rec.op)) })))
