-- Reset, the debugger, and every call as one step; a run over a list of calls.
use Rattle.std.specs.Prelude.{None, true, false, cond, not, ◌&&◌, ◌||◌, List, [], ◌∷◌, ℕ, eqb, length}
use Rattle.lock.specs.Keys.{lock_at}
use Rattle.lock.specs.declared.LockState.TheVariants.{Closed}
use Rattle.map.specs.Areas.{area_of}
use Rattle.time.specs.Timings.{out_of_range}
use Rattle.part.specs.Operations.{scrap_short, cut}
use Rattle.part.specs.Options.{level_of, loaded_optcr}
use Rattle.part.specs.Passing.{lapsed}
use Rattle.part.specs.Reads.{read_answer, fetch_answer}
use Rattle.part.specs.Refusals.{length_refused, malformed}
use Rattle.part.specs.State.{Part, Outcome, having, reply, refuse, kept, with_debugger}
use Rattle.part.specs.Writes.{write_outcome}
use Rattle.part.specs.declared.Answer.{Answer}
use Rattle.part.specs.declared.Answer.TheVariants.{Done}
use Rattle.part.specs.declared.Call.{Call}
use Rattle.part.specs.declared.Call.TheVariants.{Reset, Debugger, Read, Write, Time, Fetch}
use Rattle.part.specs.declared.Link.{Link}
use Rattle.part.specs.declared.Link.TheVariants.{On, Off}
use Rattle.part.specs.declared.Reason.TheVariants.{BadLength, BadTiming, Malformed, NoPower, ShutByLevel2, ShortScrap}
use Rattle.part.specs.declared.Record.{Record}
use Rattle.part.specs.declared.Reply.{Reply}

-- the record after a reset: OPTCR takes its fields from the cells, both locks close, nothing runs; the mark stands exactly for a boot other
-- than from flash (0), or with a debugger connected, which leaves then if the cells say level 2
abbrev pub reset_record : Record → List ℕ → ℕ → Record
reset_record r options boot =
    record {
      acr = 0;
      sr = 0;
      cr = 0;
      lock = lock_at Closed;
      optcr = loaded_optcr options;
      optlock = lock_at Closed;
      op = None;
      power = true;
      debugger = r.debugger && not (eqb (level_of options) 2);
      mark = not (eqb boot 0) || r.debugger;
    }

-- what runs is cut, and the record loads from the cells as the cut left them
abbrev pub reset_part : List ℕ → Part → ℕ → Part
reset_part scrap p boot =
    let q = cut p p.rec.op scrap in
    having q (reset_record p.rec q.options boot)

-- 16 by the level before that, and 21
abbrev pub reset_outcome : List ℕ → Part → ℕ → Outcome
reset_outcome scrap p boot =
    cond (eqb (level_of p.options) 2 && not (eqb boot 0)) (kept p (refuse ShutByLevel2 p.rec))
    (cond (scrap_short p.rec.op (length p.main) (length scrap)) (kept p (refuse ShortScrap p.rec))
    (record { answer = Done 0; part = reset_part scrap p boot }))

-- on sets the mark; off, connected or not, keeps it
abbrev pub debugger_reply : Record → List ℕ → Link → Reply
debugger_reply r options On =
    cond (not r.power) (refuse NoPower r)
    (cond (eqb (level_of options) 2) (refuse ShutByLevel2 r)
    (reply (Done 0) (with_debugger r true true)))
debugger_reply r options Off =
    cond (not r.power) (refuse NoPower r)
    (reply (Done 0) (with_debugger r false r.mark))

-- ---- a call

-- what a call does that refusals 1, 2 and 5 let through
abbrev pub performed : List ℕ → List ℕ → Call → Part → Outcome
performed timings scrap (Reset boot) p = reset_outcome scrap p boot
performed timings scrap (Debugger link) p = kept p (debugger_reply p.rec p.options link)
performed timings scrap (Read a) p =
    kept p (reply (read_answer p (area_of (length p.main) a.address a.width) a) p.rec)
performed timings scrap (Write a value) p = write_outcome timings p (area_of (length p.main) a.address a.width) a value
performed timings scrap (Time t) p = lapsed t p
performed timings scrap (Fetch address) p = kept p (reply (fetch_answer p address) p.rec)

-- they come first, for every call
abbrev pub step : List ℕ → List ℕ → Call → Part → Outcome
step timings scrap c p =
    cond (length_refused timings p) (kept p (refuse BadLength p.rec))
    (cond (out_of_range timings) (kept p (refuse BadTiming p.rec))
    (cond (malformed c) (kept p (refuse Malformed p.rec))
    (performed timings scrap c p)))

-- ---- a list of calls: their answers, and the part after them

abbrev pub answers : List ℕ → List ℕ → List Call → Part → List Answer
answers timings scrap [] p = []
answers timings scrap (c ∷ cs) p = (step timings scrap c p).answer ∷ answers timings scrap cs (step timings scrap c p).part

abbrev pub after : List ℕ → List ℕ → List Call → Part → Part
after timings scrap [] p = p
after timings scrap (c ∷ cs) p = after timings scrap cs (step timings scrap c p).part
