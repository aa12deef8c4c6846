-- Lines change values alone.
use Rattle.std.specs.Prelude.{Option, Some, None}
use mathlib.Core.Bool.{Bool, true, false, ◌&&◌, and-false, true≢false}
use mathlib.Core.List.{List, [], ◌∷◌}
use mathlib.Core.Path.{◌≡◌, refl, sym, ap, ◌∙◌}
use Prim.Native.Nat.{ℕ}
use native.Mathlib.Omega.{arith}
use lib.Dec.{leb}
use lib.ListN.{length}
use borrow.Author.Tests.{eqb-true, eq-eqb, leb-false, lt-ltb}
use Rattle.cascade.proofs.Picks.{keep_by, keep₂_by}
use Rattle.map.proofs.Forms.{both_left, both_right}
use Rattle.part.proofs.Stepped.{refute}
use Rattle.part.proofs.Bytes.{among_in}
use Rattle.part.proofs.Effects.{read_keeps}
use Rattle.registers.proofs.Laws.{a_bit}
use Rattle.registers.specs.Fields.{ICEN, DCEN}
use Rattle.registers.specs.Words.{is_set}
use Rattle.part.specs.State.{Part}
use Rattle.map.specs.Areas.{inside, main_base}
use Rattle.part.specs.Calls.{step}
use Rattle.part.specs.State.{code_of}
use Rattle.part.specs.declared.Answer.{Answer}
use Rattle.part.specs.declared.Running.{Running}
use Rattle.caches.specs.Sides.{Side}
use Rattle.part.specs.declared.Call.TheVariants.{Reset, Debugger, Read, Write, Time, Fetch}
use Rattle.part.proofs.Stepped.{Plain, plain_undone, step_each}
use Rattle.part.specs.Operations.{elapsed_over, time_left}
use Rattle.part.specs.Passing.{lapse_answer, lapse_time}
use Rattle.part.specs.declared.Lapse.{Lapse}
use Rattle.part.specs.declared.Lapse.TheVariants.{Pass, Wait}
use Rattle.time.specs.Units.{to_micros}
use Rattle.time.specs.declared.Micros.{Micros}
use Rattle.part.specs.State.{kept, refuse}
use Rattle.part.specs.declared.{Call.Call, Reason.Reason, Record.Record}
use Rattle.part.specs.declared.Answer.TheVariants.{Refused}
use Rattle.cached.specs.Device.{Device, Served, device, served, through_lines}
use Rattle.cached.specs.Claims.{OnlyValues, UndoneKeeps, WithoutLines}
use Rattle.cached.proofs.Done.{read_done}
use Rattle.cached.specs.Lines.{Lined, Lines, Looked, after_time, is_done, lined, lined_by, lines, looked, looked_up}

-- the lines are looked at
abbrev pub looks : Bool → List ℕ → Answer → ℕ → ℕ → Bool
looks on main b address width = on && (is_done b && inside address width main_base (length main))

pub unlooked : (on : Bool) (main : List ℕ) (b : Answer) (address width : ℕ) (s : Side) → looks on main b address width ≡ false
    → looked_up on main b address width s ≡ looked b s
unlooked on main b address width s e = rw e refl

-- an access that is looked up was done, and is
looked_code : (on : Bool) (main : List ℕ) (b : Answer) (address width : ℕ) (s : Side) → code_of (looked_up on main b address width s).answer ≡ code_of b
looked_code on main b address width s =
    keep_by (λ (x : Looked). code_of x.answer ≡ code_of b) (looks on main b address width) _ _
    (λ e. sym (eqb-true (code_of b) 0 (both_left (is_done b) _ (both_right on _ e)))) (λ _. refl)

pub only_values : OnlyValues
only_values timings scrap (Reset boot) d = (refl, refl, λ _. refl)
only_values timings scrap (Debugger link) d = (refl, refl, λ _. refl)
only_values timings scrap (Write a v) d = (refl, refl, λ _. refl)
only_values timings scrap (Time t) d = (refl, refl, λ _. refl)
only_values timings scrap (Read a) d =
    let x = step timings scrap (Read a) d.part in
    let p = d.part in
    let on = is_set p.rec.acr DCEN in
    let main = x.part.main in (
      looked_code on main x.answer a.address a.width d.lines.data_side,
      refl,
      λ e. ap (λ (l : Looked). l.answer) (unlooked on main x.answer a.address a.width d.lines.data_side (refute _ (λ t.
          let on_is = both_left on _ t in
          let rest = both_right on _ t in
          let done = eqb-true (code_of x.answer) 0 (both_left (is_done x.answer) _ rest) in
          let kept = read_keeps timings scrap a p in
          let here = ap (λ (q : Part). inside a.address a.width main_base (length q.main)) (sym kept) ∙ both_right (is_done x.answer) _ rest in
          let r = (read_done timings scrap p a done here).0 in
          let starts = among_in a.address 0x0800_0000 (length p.main) r.low (omega (arith, r.some, r.high)) in
          true≢false (sym (rw (sym (a_bit p.rec.acr 10) ∙ on_is, starts, eq-eqb (code_of x.answer) 0 done) refl) ∙ e)))),
    )
only_values timings scrap (Fetch address) d =
    let x = step timings scrap (Fetch address) d.part in
    let on = is_set d.part.rec.acr ICEN in (
      looked_code on x.part.main x.answer address 4 d.lines.code_side,
      refl,
      λ e. ap (λ (l : Looked). l.answer) (unlooked on x.part.main x.answer address 4 d.lines.code_side (refute _ (λ t.
          let on_is = both_left on _ t in
          let done = both_left (is_done x.answer) _ (both_right on _ t) in
          true≢false (sym (rw (sym (a_bit d.part.rec.acr 9) ∙ on_is, done) refl) ∙ e)))),
    )

-- a plain refusal leaves the answer and all lines
timed_none : (op : Option Running) (main : List ℕ) (l : Lines) → after_time op op main l ≡ l
timed_none None main l = refl
timed_none (Some running) main l = refl

refused_lined : (c : Call) (why : Reason) → Plain why → (r : Record) (main : List ℕ) (l : Lines)
    → lined_by c r (Refused why) r main l ≡ lined (Refused why) l
refused_lined (Reset boot) why plain r main l = rw (plain_undone why plain) refl
refused_lined (Debugger link) why plain r main l = refl
refused_lined (Read a) why plain r main l = rw (plain_undone why plain, and-false (is_set r.acr DCEN)) refl
refused_lined (Write a v) why plain r main l = rw (plain_undone why plain) refl
refused_lined (Time t) why plain r main l = ap (lined (Refused why)) (timed_none r.op main l)
refused_lined (Fetch address) why plain r main l = rw (plain_undone why plain, and-false (is_set r.acr ICEN)) refl

pub refused_through : (c : Call) (why : Reason) → Plain why → (d : Device)
    → through_lines true c d (kept d.part (refuse why d.part.rec)) ≡ served (Refused why) d
refused_through c why plain d =
    ap {B = Served} (λ (y : Lined). served y.answer (device d.part y.lines)) (refused_lined c why plain d.part.rec d.part.main d.lines)

without_lines : WithoutLines
without_lines timings scrap [] d = (refl, refl)
without_lines timings scrap (c ∷ cs) d =
    let x = step timings scrap c d.part in
    let (said, after) = without_lines timings scrap cs (device x.part d.lines) in
    (ap {B = List Answer} (λ rest. x.answer ∷ rest) said, after)

-- an access that is not done is not looked up, and a wait that has expired has not ended what runs
undone_keeps : UndoneKeeps
undone_keeps timings scrap (Reset boot) d e = rw e refl
undone_keeps timings scrap (Debugger link) d e = refl
undone_keeps timings scrap (Read a) d e =
    let x = step timings scrap (Read a) d.part in
    let on = is_set d.part.rec.acr DCEN in
    ap (λ (l : Looked). lines l.side d.lines.code_side) (unlooked on x.part.main x.answer a.address a.width d.lines.data_side
    (rw e (and-false on)))
undone_keeps timings scrap (Write a v) d e = rw e refl
undone_keeps timings scrap (Time t) d e =
    step_each (λ o. is_done o.answer ≡ false → after_time r.op o.part.rec.op o.part.main l ≡ l) timings scrap (Time t) p
    (λ why _ _. timed_none r.op p.main l) (λ _ _. over r.op t) e
  where
    p : Part
    p = d.part

    r : Record
    r = d.part.rec

    l : Lines
    l = d.lines

    over : (op : Option Running) (t : Lapse) → is_done (lapse_answer t (time_left op)) ≡ false
        → after_time op (elapsed_over p op (lapse_time t (time_left op))).rec.op (elapsed_over p op (lapse_time t (time_left op))).main l ≡ l
    over None t = λ _. refl
    over (Some running) (Pass u) = λ e. absurd (true≢false e)
    over (Some running) (Wait u) =
        let left = running.left.0 in
        let limit = (to_micros u).0 in
        keep₂_by (λ (b : Answer) (t : Micros). is_done b ≡ false
        → after_time (Some running) (elapsed_over p (Some running) t).rec.op (elapsed_over p (Some running) t).main l ≡ l)
        (leb left limit) _ _ _ _ (λ _ e. absurd (true≢false e)) (λ longer _. rw (lt-ltb limit left (leb-false left limit longer)) refl)
undone_keeps timings scrap (Fetch address) d e =
    let x = step timings scrap (Fetch address) d.part in
    let on = is_set d.part.rec.acr ICEN in
    ap (λ (l : Looked). lines d.lines.data_side l.side) (unlooked on x.part.main x.answer address 4 d.lines.code_side (rw e (and-false on)))
