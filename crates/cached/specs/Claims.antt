-- What is claimed of the caches (proofs/Laws.antt, proofs/Transparent.antt): they change values alone, and where lines are emptied in time they
-- change nothing. When that is, is said by the history of the uncached part: what each call ended or emptied.
use Rattle.std.specs.Prelude.{Option, Some, None, Bool, true, false, cond, not, ◌&&◌, List, [], ◌∷◌, ◌≡◌, ℕ, eqb}
use Rattle.map.specs.Areas.{inside}
use Rattle.part.specs.Calls.{step, answers as answersUncached, after as afterUncached}
use Rattle.part.specs.Rules.{bit, in_main, word_after}
use Rattle.part.specs.State.{Part, Outcome, fresh, code_of, is_busy}
use Rattle.part.specs.declared.Call.{Call}
use Rattle.part.specs.declared.Running.{Running}
use Rattle.part.specs.declared.Call.TheVariants.{Reset, Debugger, Read, Write, Time, Fetch}
use Rattle.part.specs.declared.Target.{Target}
use Rattle.part.specs.declared.Target.TheVariants as target
use Rattle.cached.specs.Device.{Device, device, answers, after, cached_step, Request, call, window, Said, said_to, device_after, said_uncached, part_after}
use Rattle.cached.specs.Lines.{no_lines}

-- ---- values alone

-- a read that starts in main flash while DCEN, bit 10 of ACR, is 1, or a fetch while ICEN, bit 9, is
abbrev pub uses_lines : Call → Part → Bool
uses_lines (Reset boot) p = false
uses_lines (Debugger link) p = false
uses_lines (Read a) p = bit p.rec.acr 10 && in_main p a.address
uses_lines (Write a v) p = false
uses_lines (Time t) p = false
uses_lines (Fetch address) p = bit p.rec.acr 9

-- lines change no code, no register and no cell: the record and every buffer are the uncached part's; an answer is another only in the value of
-- such a read or fetch that is done
abbrev pub OnlyValues : Type 0
OnlyValues =
    (timings scrap : List ℕ) (c : Call) (d : Device)
    → (let x = step timings scrap c d.part in
    let y = cached_step timings scrap c d in
    (code_of y.answer ≡ code_of x.answer) × (y.device.part ≡ x.part)
    × ((uses_lines c d.part && eqb (code_of x.answer) 0) ≡ false → y.answer ≡ x.answer))

-- without caches every list of calls is answered as by the uncached part, which has no lines
abbrev pub WithoutLines : Type 0
WithoutLines =
    (timings scrap : List ℕ) (cs : List Call) (d : Device)
    → (answers false timings scrap cs d ≡ answersUncached timings scrap cs d.part)
    × ((after false timings scrap cs d).part ≡ afterUncached timings scrap cs d.part)

-- a call that is not done leaves all lines as they are: a closed read fills none
abbrev pub UndoneKeeps : Type 0
UndoneKeeps =
    (timings scrap : List ℕ) (c : Call) (d : Device) → eqb (code_of (step timings scrap c d.part).answer) 0 ≡ false
    → (cached_step timings scrap c d).device.lines ≡ d.lines

-- ---- which sides may hold old bytes

pub record Stale : Type 0 where
  pub data_old : Bool
  pub code_old : Bool

abbrev pub stale : Bool → Bool → Stale
stale d c = record { data_old = d; code_old = c }

-- an operation ends: an erase leaves both sides old, programming of main flash the instruction side; the end of a regression empties both
abbrev pub stale_at : Target → Stale → Stale
stale_at (target.Bytes w) s = cond w.otp s (stale s.data_old true)
stale_at (target.Sector k) s = stale true true
stale_at (target.Main len) s = stale true true
stale_at target.Options s = s
stale_at (target.Regression len option) s = stale false false

-- what ran before, and what runs now
abbrev pub stale_over : Option Running → Option Running → Stale → Stale
stale_over None now s = s
stale_over (Some running) now s = cond (is_busy now) s (stale_at running.target s)

-- a word is written to ACR, 0 in the lanes that are not: DCRST is bit 12 and wants DCEN, bit 10, to be 0; ICRST is bit 11, and ICEN bit 9
abbrev pub stale_word : ℕ → ℕ → Stale → Stale
stale_word acr w s = stale (s.data_old && not (bit w 12 && not (bit acr 10))) (s.code_old && not (bit w 11 && not (bit acr 9)))

-- after a call on the uncached part, with its outcome; a reset that is done empties both sides
abbrev pub stale_by : Call → Part → Outcome → Stale → Stale
stale_by (Reset boot) p x s = cond (eqb (code_of x.answer) 0) (stale false false) s
stale_by (Debugger link) p x s = s
stale_by (Read a) p x s = s
stale_by (Write a v) p x s =
    cond (eqb (code_of x.answer) 0 && inside a.address a.width 0x4002_3C00 4) (stale_word p.rec.acr (word_after 0 v a) s) s
stale_by (Time t) p x s = stale_over p.rec.op x.part.rec.op s
stale_by (Fetch address) p x s = s

abbrev pub stale_after : List ℕ → Request → Part → Stale → Stale
stale_after timings (call scrap c) p s = stale_by c p (step timings scrap c p) s
stale_after timings (window who sector) p s = s

-- ---- the lists on which both parts answer equally

-- a read that starts in main flash finds the data side emptied in time, and a fetch the instruction side
abbrev pub heeds : Call → Part → Stale → Bool
heeds (Reset boot) p s = true
heeds (Debugger link) p s = true
heeds (Read a) p s = not (in_main p a.address && s.data_old)
heeds (Write a v) p s = true
heeds (Time t) p s = true
heeds (Fetch address) p s = not s.code_old

abbrev pub heeds_in : Request → Part → Stale → Bool
heeds_in (call scrap c) p s = heeds c p s
heeds_in (window who sector) p s = true

abbrev pub in_time : List ℕ → List Request → Part → Stale → Bool
in_time timings [] p s = true
in_time timings (x ∷ xs) p s = heeds_in x p s && in_time timings xs (part_after timings x p) (stale_after timings x p s)

-- what a host is told of a list of requests, with caches and without
abbrev pub told : List ℕ → List Request → Device → List Said
told timings [] d = []
told timings (x ∷ xs) d = said_to timings x d ∷ told timings xs (device_after timings x d)

abbrev pub told_uncached : List ℕ → List Request → Part → List Said
told_uncached timings [] p = []
told_uncached timings (x ∷ xs) p = said_uncached timings x p ∷ told_uncached timings xs (part_after timings x p)

-- from a fresh record, which has no lines
abbrev pub Transparent : Type 0
Transparent =
    (timings : List ℕ) (xs : List Request) (p : Part) → p.rec ≡ fresh → in_time timings xs p (stale false false) ≡ true
    → told timings xs (device p no_lines) ≡ told_uncached timings xs p
