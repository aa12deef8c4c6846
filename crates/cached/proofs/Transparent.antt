-- The part with its caches answers as the uncached part on every list in which lines are emptied in time: a side that is not old has rows of main
-- flash in its lines, and a call that changes main flash leaves them so, empties them, or makes the side old.
use Rattle.std.specs.Prelude.{Option, Some, None}
use mathlib.Core.Bool.{Bool, true, false, cond, not, ◌&&◌, and-false}
use mathlib.Core.List.{List, [], ◌∷◌}
use mathlib.Core.Path.{◌≡◌, refl, sym, ap, ap₂, subst, ◌∙◌}
use Prim.Native.Nat.{ℕ, ◌-◌}
use native.Mathlib.Omega.{arith}
use lib.Dec.{ltb, lit<}
use lib.ListN.{length}
use borrow.Author.Tests.{eqb-true, not-true}
use Rattle.caches.proofs.Laws.{accessed_value}
use Rattle.caches.specs.Sides.{Side}
use Rattle.cascade.proofs.Picks.{keep, keep_by, keep₂_by}
use Rattle.cells.proofs.Laws.{programmed_other}
use Rattle.cells.specs.Bytes.{programmed}
use Rattle.map.proofs.Forms.{both_left, both_right}
use Rattle.map.proofs.Laws.{area_is, inside_both}
use Rattle.map.specs.Areas.{area_of, inside, main_base, register_base}
use Rattle.map.specs.declared.Area.{Area}
use Rattle.map.specs.declared.Area.TheVariants.{Registers}
use Rattle.part.proofs.Bytes.{among_in, wide}
use Rattle.part.proofs.Effects.{fetch_keeps, read_keeps}
use Rattle.part.proofs.Entries.{access_is, sized}
use Rattle.part.proofs.Stepped.{Plain, and_false_right, or_left, plain_undone, step_each}
use Rattle.part.proofs.WriteEffects.{whole_is, write_cells}
use Rattle.part.specs.Calls.{step}
use Rattle.part.specs.Operations.{elapsed_over, ended}
use Rattle.part.specs.Refusals.{misaligned, too_big, unconnected}
use Rattle.part.specs.Rules.{bit, in_main, word_after}
use Rattle.part.specs.State.{Part, Outcome, code_of, value_of, is_busy, kept, refuse}
use Rattle.part.specs.Writes.{write_outcome}
use Rattle.part.specs.declared.{Access.Access, Answer.Answer, Call.Call, Reason.Reason, Record.Record, Target.Target}
use Rattle.part.specs.declared.Running.{Running}
use Rattle.part.specs.declared.Answer.TheVariants.{Done}
use Rattle.part.specs.declared.Call.TheVariants.{Reset, Debugger, Read, Write, Time, Fetch}
use Rattle.part.specs.declared.Link.TheVariants.{On, Off}
use Rattle.part.specs.declared.Target.TheVariants as target
use Rattle.registers.proofs.Laws.{a_bit, merged_alone}
use Rattle.registers.specs.Fields.{DCEN, ICEN, DCRST, ICRST}
use Rattle.registers.specs.Words.{is_set, placed}
use Rattle.time.specs.declared.Micros.{Micros}
use Rattle.cached.specs.Claims.{Stale, Transparent, heeds, in_time, stale, stale_at, stale_by, stale_over, stale_word, told, told_uncached}
use Rattle.cached.specs.Device.{Request, call, window, Said, answered, device, said_uncached}
use Rattle.cached.specs.Lines.{Lines, Looked, after_time, after_write, at_end, emptied_if, is_done, lined_by, lines, looked_up, no_lines, takes}
use Rattle.cached.proofs.Done.{Reached, done_performed, fetch_done, read_done, rows_fit, undone}
use Rattle.cached.proofs.Laws.{looks}
use Rattle.cached.proofs.Sound.{SideSound, accessed_sound, aged, emptied_if_lem, emptied_sound, none_sound, refreshed_sound, sized as side_sized}

-- both sides, over main flash
pub record Sound (main : List ℕ) (l : Lines) (s : Stale) : Type 0 where
  pub data_side : SideSound 7 main s.data_old l.data_side
  pub code_side : SideSound 63 main s.code_old l.code_side

-- ---- an access through a side that is not old gives what the cells give

looked_sound : {n : ℕ} {old : Bool} (p : Part) (on : Bool) (b : Answer) (address width : ℕ) (s : Side) → SideSound n p.main old s
    → (looks on p.main b address width ≡ true → Reached p address width b)
    → ((looks on p.main b address width ≡ true → old ≡ false) → (looked_up on p.main b address width s).answer ≡ b)
    × SideSound n p.main old (looked_up on p.main b address width s).side
looked_sound {n} {old} p on b address width s k f =
    let t = looks on p.main b address width in
    keep_by (λ (x : Looked). ((t ≡ true → old ≡ false) → x.answer ≡ b) × SideSound n p.main old x.side) t _ _
    (λ e.
    let r = f e in (
      λ new.
          ap Done (accessed_value p.main (address - main_base) width r.some r.row s (side_sized k) (k.mirrors (new e)) r.few)
          ∙ sym r.value,
      accessed_sound k (address - main_base) width r.some r.row,
    )) (λ _. (λ _. refl, k))

-- ---- a write to ACR

-- the lanes written to it, where the write is done
lone_is : (timings scrap : List ℕ) (a : Access) (v : ℕ) (p : Part) → code_of (step timings scrap (Write a v) p).answer ≡ 0
    → inside a.address a.width register_base 4 ≡ true → placed v a.width (a.address - register_base) ≡ word_after 0 v a
lone_is timings scrap a v p done here =
    let made = done_performed timings scrap (Write a v) p done in
    let sizes = sized a (sym (access_is a) ∙ or_left _ (too_big a.width v) made.sound) in
    let (some, few) = wide a sizes in
    let (low, high) = inside_both a.address a.width register_base 4 here in
    let o = a.address - register_base in
    let area : area_of (length p.main) a.address a.width ≡ Registers o =
    (area_is (length p.main) a.address a.width (rows_fit timings p made.fits).1 some few (Registers o)).1 (omega arith, omega arith) in
    let A : Outcome → Type 0 = λ x. code_of x.answer ≡ 0 → misaligned o a.width ≡ false in
    let at : A (write_outcome timings p (Registers o) a v) =
    keep A (not p.rec.power) _ _ (undone 10 refl) (keep A (unconnected a.who p.rec.debugger) _ _ (undone 15 refl)
    (keep_by (λ y. A (kept p y)) (misaligned o a.width) _ _ (λ _. undone 9 refl) (λ e _. e))) in
    let straight = subst A (sym (made.is ∙ ap (λ (x : Area). write_outcome timings p x a v) area)) at done in
    sym (merged_alone v a.width o) ∙ whole_is a v o (omega arith) sizes straight 0 (lit< tt)

takes_is : (acr written w : ℕ) → written ≡ w
    → (takes acr written DCEN DCRST ≡ (bit w 12 && not (bit acr 10))) × (takes acr written ICEN ICRST ≡ (bit w 11 && not (bit acr 9)))
takes_is acr written w e = (
  rw (a_bit written 12, a_bit acr 10, e) refl,
  rw (a_bit written 11, a_bit acr 9, e) refl,
)

-- ---- every call

module _ (timings scrap : List ℕ) (p : Part) (l : Lines) (s : Stale) (k : Sound p.main l s) where
  abbrev r : Record
  r = p.rec

  -- what is left of a call: the answer of the uncached part where lines were emptied in time, and lines as they should be
  abbrev After : Call → Outcome → Type 0
  After c x =
      let y = lined_by c r x.answer x.part.rec x.part.main l in
      (heeds c p s ≡ true → y.answer ≡ x.answer) × Sound x.part.main y.lines (stale_by c p x s)

  timed_none : (op : Option Running) (main : List ℕ) → Sound main l s → Sound main (after_time op op main l) (stale_over op op s)
  timed_none None main g = g
  timed_none (Some running) main g = g

  refused : (c : Call) (why : Reason) → Plain why → After c (kept p (refuse why r))
  refused (Reset boot) why plain = rw (plain_undone why plain) (λ _. refl, k)
  refused (Debugger link) why plain = (λ _. refl, k)
  refused (Read a) why plain = rw (plain_undone why plain, and-false (is_set r.acr DCEN)) (λ _. refl, k)
  refused (Write a v) why plain = rw (plain_undone why plain) (λ _. refl, k)
  refused (Time t) why plain = (λ _. refl, timed_none r.op p.main k)
  refused (Fetch address) why plain = rw (plain_undone why plain, and-false (is_set r.acr ICEN)) (λ _. refl, k)

  -- time passes over what runs
  abbrev Over : Option Running → Part → Type 0
  Over op q = Sound q.main (after_time op q.rec.op q.main l) (stale_over op q.rec.op s)

  ended_sound : (t : Target) → Sound (ended p t).main (at_end t (ended p t).main l) (stale_at t s)
  ended_sound (target.Bytes w) = at w.otp
    where
      at : (otp : Bool)
          → (let main = cond otp p.main (programmed p.main w.offset w.width w.value) in
          Sound main (at_end (target.Bytes (record { value = w.value; offset = w.offset; width = w.width; otp = otp })) main l)
          (stale_at (target.Bytes (record { value = w.value; offset = w.offset; width = w.width; otp = otp })) s))
      at true = k
      at false =
          record {
            data_side = refreshed_sound k.data_side _ w.offset w.width (λ i out.
                programmed_other p.main w.offset w.width w.value i (λ low high _. out low high));
            code_side = aged k.code_side _;
          }
  ended_sound (target.Sector n) = record { data_side = aged k.data_side _; code_side = aged k.code_side _ }
  ended_sound (target.Main len) = record { data_side = aged k.data_side _; code_side = aged k.code_side _ }
  ended_sound target.Options = k
  ended_sound (target.Regression len option) =
      record { data_side = emptied_sound k.data_side _ false; code_side = emptied_sound k.code_side _ false }

  over : (op : Option Running) (t : Micros) → Over op (elapsed_over p op t)
  over None t = k
  over (Some running) t = keep (Over (Some running)) (ltb t.0 running.left.0) _ _ k (at running.target (ended_sound running.target))
    where
      at : (g : Target) → Sound (ended p g).main (at_end g (ended p g).main l) (stale_at g s)
          → Sound (ended p g).main (cond (is_busy (ended p g).rec.op) l (at_end g (ended p g).main l)) (cond (is_busy (ended p g).rec.op) s (stale_at g s))
      at (target.Bytes w) z = z
      at (target.Sector n) z = z
      at (target.Main len) z = z
      at target.Options z = z
      at (target.Regression len option) z = z

  pub next : (c : Call) → After c (step timings scrap c p)
  next (Reset boot) =
      step_each (After (Reset boot)) timings scrap (Reset boot) p (refused (Reset boot))
      (λ _ _ _. (λ _. refl, record { data_side = emptied_sound k.data_side _ false; code_side = emptied_sound k.code_side _ false }))
  next (Debugger On) = step_each (After (Debugger On)) timings scrap (Debugger On) p (refused (Debugger On)) (λ _ _ _. (λ _. refl, k))
  next (Debugger Off) = step_each (After (Debugger Off)) timings scrap (Debugger Off) p (refused (Debugger Off)) (λ _ _. (λ _. refl, k))
  next (Time t) = step_each (After (Time t)) timings scrap (Time t) p (refused (Time t)) (λ _ _. (λ _. refl, over r.op _))
  next (Read a) =
      let x = step timings scrap (Read a) p in
      let on = is_set r.acr DCEN in
      let reach : looks on p.main x.answer a.address a.width ≡ true → Reached p a.address a.width x.answer =
      λ e.
      let rest = both_right on _ e in
      let done = eqb-true (code_of x.answer) 0 (both_left (is_done x.answer) _ rest) in
      (read_done timings scrap p a done (both_right (is_done x.answer) _ rest)).0 in
      let (answer, side) = looked_sound p on x.answer a.address a.width l.data_side k.data_side reach in
      let G : List ℕ → Type 0 = λ main.
      let y = looked_up on main x.answer a.address a.width l.data_side in
      (heeds (Read a) p s ≡ true → y.answer ≡ x.answer) × Sound main (lines y.side l.code_side) s in
      subst G (sym (ap (λ (q : Part). q.main) (read_keeps timings scrap a p))) (
        λ heed. answer (λ e.
            let here = among_in a.address 0x0800_0000 (length p.main) (reach e).low (omega (arith, (reach e).some, (reach e).high)) in
            and_false_right (in_main p a.address) s.data_old here (not-true _ heed)),
        record { data_side = side; code_side = k.code_side },
      )
  next (Fetch address) =
      let x = step timings scrap (Fetch address) p in
      let on = is_set r.acr ICEN in
      let reach : looks on p.main x.answer address 4 ≡ true → Reached p address 4 x.answer =
      λ e. (fetch_done timings scrap p address (eqb-true (code_of x.answer) 0 (both_left (is_done x.answer) _ (both_right on _ e)))).0 in
      let (answer, side) = looked_sound p on x.answer address 4 l.code_side k.code_side reach in
      let G : List ℕ → Type 0 = λ main.
      let y = looked_up on main x.answer address 4 l.code_side in
      (heeds (Fetch address) p s ≡ true → y.answer ≡ x.answer) × Sound main (lines l.data_side y.side) s in
      subst G (sym (ap (λ (q : Part). q.main) (fetch_keeps timings scrap address p)))
      (λ heed. answer (λ _. not-true _ heed), record { data_side = k.data_side; code_side = side })
  next (Write a v) =
      let x = step timings scrap (Write a v) p in
      let done = is_done x.answer in
      let here = inside a.address a.width register_base 4 in
      let written = placed v a.width (a.address - register_base) in
      let reads = takes r.acr written DCEN DCRST in
      let fetches = takes r.acr written ICEN ICRST in
      let word = word_after 0 v a in (
        λ _. refl,
        subst (λ (main : List ℕ). Sound main (after_write r.acr x.answer a v l) (stale_by (Write a v) p x s)) (sym (write_cells timings scrap a v p).0)
            (keep₂_by (Sound p.main) (done && here) (lines (emptied_if reads l.data_side) (emptied_if fetches l.code_side)) l (stale_word r.acr word s) s
            (λ e.
            let (is_reads, is_fetches) = takes_is r.acr written word
            (lone_is timings scrap a v p (eqb-true (code_of x.answer) 0 (both_left done here e)) (both_right done here e)) in
            record {
              data_side = subst (λ (t : Bool). SideSound 7 p.main (s.data_old && not t) (emptied_if reads l.data_side)) is_reads (emptied_if_lem k.data_side reads);
              code_side = subst (λ (t : Bool). SideSound 63 p.main (s.code_old && not t) (emptied_if fetches l.code_side)) is_fetches
                  (emptied_if_lem k.code_side fetches);
            }) (λ _. k)),
      )

-- ---- lists

same_told : (timings : List ℕ) (xs : List Request) (p : Part) (l : Lines) (s : Stale) → Sound p.main l s → in_time timings xs p s ≡ true
    → told timings xs (device p l) ≡ told_uncached timings xs p
same_told timings [] p l s k e = refl
same_told timings (call scrap c ∷ xs) p l s k e =
    let x = step timings scrap c p in
    let (same, sound) = next timings scrap p l s k c in
    ap₂ {C = List Said} (λ t ts. t ∷ ts) (ap (λ (b : Answer). answered (code_of b) (value_of b)) (same (both_left (heeds c p s) _ e)))
    (same_told timings xs x.part _ _ sound (both_right (heeds c p s) _ e))
same_told timings (window who sector ∷ xs) p l s k e = ap {B = List Said} (λ ts. said_uncached timings (window who sector) p ∷ ts) (same_told timings xs p l s k e)

pub fresh_sound : (main : List ℕ) → Sound main no_lines (stale false false)
fresh_sound main = record { data_side = none_sound 7 main false; code_side = none_sound 63 main false }

pub transparent : Transparent
transparent timings xs p f = same_told timings xs p no_lines (stale false false) (fresh_sound p.main)
