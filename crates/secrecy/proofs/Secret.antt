-- Demand 3. Two parts that differ in main flash and SRAM alone, above level 0, answer alike: no answer but a clean CPU read looks at their bytes, and
-- only the end of a regression, or its cut past the erase, brings level 0, and makes them equal. Equal parts answer alike for ever.
use Rattle.std.specs.Prelude.{Option, Some, None}
use mathlib.Core.Bool.{Bool, true, false, not, cond, ◌&&◌, ◌||◌, true≢false, and-false}
use mathlib.Core.List.{List, [], ◌∷◌}
use mathlib.Core.Logic.{◌⊎◌, inl, inr, ⊎_elim}
use mathlib.Core.Path.{◌≡◌, refl, sym, ap, ◌∙◌, subst}
use Prim.Native.Nat.{ℕ, ◌-◌}
use native.Mathlib.Omega.{arith}
use lib.Dec.{eqb, leb, ltb}
use lib.ListN.{length, take, drop, replicate, length-take, length-drop, length-replicate}
use borrow.Author.Tests.{eqb-false, eq-eqb, ltb-false, not-false}
use denote.Exit.{left}
use Rattle.cascade.proofs.Picks.{keep₂, keep₂_by}
use Rattle.cells.proofs.Laws.{programmed_length, erased_length, scrapped_length, stored_length}
use Rattle.cells.specs.Bytes.{programmed, sparing, erased, scrapped, stored}
use Rattle.map.specs.Areas.{area_of, inside, main_base}
use Rattle.map.specs.Sectors.{sectors_in, sector_start, sector_length}
use Rattle.time.specs.Timings.{out_of_range}
use Rattle.time.specs.Units.{micros}
use Rattle.map.specs.declared.{Area.Area, Place.Place}
use Rattle.map.specs.declared.Area.TheVariants.{Flash, Outside, Registers, Sram}
use Rattle.map.specs.declared.Place.TheVariants.{Main, OptionCells, Otp, System, SystemAndOtp}
use Rattle.time.specs.declared.{Micros.Micros}
use Rattle.part.specs.Calls.{step, reset_record, debugger_reply}
use Rattle.part.specs.Operations.{cut, cut_by, elapsed_over, ended, erasing, idled, none_left, scrap_short}
use Rattle.part.specs.Options.{level_of, changed_options}
use Rattle.part.specs.Passing.{lapsed, too_long}
use Rattle.part.specs.Reads.{read_answer, cells_value, closed_read, flash_answer, read_at}
use Rattle.part.specs.Refusals.{bad_length, bad_who, bad_width, unconnected, guarded, malformed}
use Rattle.part.specs.State.{Part, Outcome, part, code_of, value_of, having, is_busy, kept, refuse, reply}
use Rattle.part.specs.Writes.{flash_reply, register_reply, write_at, write_outcome}
use Rattle.part.specs.declared.{Access.Access, Answer.Answer, Call.Call, Lapse.Lapse, Record.Record, Reply.Reply, Target.Target}
use Rattle.part.specs.declared.Running.{Running}
use Rattle.part.specs.declared.Answer.TheVariants.{Done, Refused}
use Rattle.part.specs.declared.Call.TheVariants.{Debugger, Fetch, Read, Reset, Time, Write}
use Rattle.part.specs.declared.Reason.TheVariants.{BadLength, BadTiming, ClosedAccess, Malformed, NoPower, NoneLeft, NotConnected, OutsideMap}
use Rattle.part.specs.declared.Reason.TheVariants.{ShortScrap, ShutByLevel2, Stalled, TooLong}
use Rattle.part.specs.declared.Target.TheVariants as target
use Rattle.part.proofs.Stepped.{and_false_left, and_false_right, or_left, or_right, by_contra}
use Rattle.cached.specs.Device.{Request, call, window, Said, answered, shown, said_uncached, part_after}
use Rattle.secrecy.specs.Secrecy.{Event, event_of, is_done_said, clean, opened, is_secret, hidden, blanked, FreshPair}
use Rattle.secrecy.proofs.Invariant.{Inv, Sure, changed_level, cut_level, connected_unclean, fresh_holds}

-- two parts after a request: equal but for main flash and SRAM, which are equal too or guarded above level 0
pub record Moved (p q : Part) : Type 0 where
  pub rec : q.rec ≡ p.rec
  pub otp : q.otp ≡ p.otp
  pub options : q.options ≡ p.options
  pub secret : ((q.main ≡ p.main) × (q.sram ≡ p.sram))
      ⊎ ((length q.main ≡ length p.main) × (length q.sram ≡ length p.sram) × (eqb (level_of p.options) 0 ≡ false))

-- what is shown of an answer
abbrev pub told : List Event → Request → ℕ → Said → Said
told h x len s = cond (hidden h x len s) (blanked s) s

pub record Alike (timings : List ℕ) (h : List Event) (x : Request) (p q : Part) : Type 0 where
  pub said : told h x (length q.main) (said_uncached timings x q) ≡ told h x (length p.main) (said_uncached timings x p)
  pub done : is_done_said (said_uncached timings x q) ≡ is_done_said (said_uncached timings x p)
  pub next : Moved (part_after timings x p) (part_after timings x q)

abbrev said_of : Answer → Said
said_of a = answered (code_of a) (value_of a)

-- main flash m and SRAM b of the one part, n and d of the other
module _ (timings : List ℕ) (h : List Event) (r : Record) (m n o options b d : List ℕ)
    (v : Inv h (part r m o options b)) (len : length n ≡ length m) (back : length d ≡ length b) (level : eqb (level_of options) 0 ≡ false) where
  abbrev p : Part
  p = part r m o options b

  abbrev q : Part
  q = part r n o options d

  abbrev short : ℕ → ℕ → Bool
  short k j = bad_length r.op k (length o) (length options) j (length timings)

  -- the record and the cells but main flash are the same, and main flash changes by one function in both
  by : (s : Record) (f : List ℕ → List ℕ) (o' : List ℕ) → length (f n) ≡ length (f m) → Moved (part s (f m) o' options b) (part s (f n) o' options d)
  by s f o' e = record { rec = refl; otp = refl; options = refl; secret = inr (e, back, level) }

  still : (s : Record) → Moved (having p s) (having q s)
  still s = by s (λ l. l) o len

  -- ---- who reads main flash or SRAM above level 0 is the CPU, and the history is clean
  pub clean_cpu : (who : ℕ) → r.power ≡ true → bad_who who ≡ false → unconnected who r.debugger ≡ false → guarded r.mark options ≡ false
      → (clean h ≡ true) × (eqb who 0 ≡ true)
  clean_cpu who power good con unguarded =
      let unmarked : r.mark ≡ false = and_false_left r.mark (not (eqb (level_of options) 0)) (ap not level) unguarded in
      let c : clean h ≡ true = not-false (clean h) (sym (v.mark power) ∙ unmarked) in (
        c,
        by_contra (eqb who 0) (λ e.
            let one : who ≡ 1 = let z = eqb-false who 0 e in omega (arith, ltb-false 1 who good) in
            let linked : r.debugger ≡ true = not-false r.debugger (and_false_right (eqb who 1) (not r.debugger) (eq-eqb who 1 one) con) in
            true≢false (sym c ∙ connected_unclean h (sym v.conn ∙ linked))),
      )

  -- ---- what a call shows of the one part and of the other, with lengths l and k of main flash
  abbrev Same : List ℕ → Call → ℕ → Outcome → ℕ → Outcome → Type 0
  Same scrap c l x k y =
      (told h (call scrap c) k (said_of y.answer) ≡ told h (call scrap c) l (said_of x.answer))
      × (is_done_said (said_of y.answer) ≡ is_done_said (said_of x.answer)) × Moved x.part y.part

  abbrev Both : List ℕ → Call → Outcome → Outcome → Type 0
  Both scrap c x y = Same scrap c (length m) x (length m) y

  -- one reply for both
  both_by : (scrap : List ℕ) (c : Call) (y : Reply) → Both scrap c (kept p y) (kept q y)
  both_by scrap c y = (refl, refl, still y.rec)

  -- a call on the part x, by its refusals 1, 2 and 5 and by what it does where main flash has length k; the SRAM has length j
  abbrev front : Call → (ℕ → Part → Outcome) → ℕ → ℕ → Part → Outcome
  front c y k j x =
      cond (short k j) (kept x (refuse BadLength r)) (cond (out_of_range timings) (kept x (refuse BadTiming r))
      (cond (malformed c) (kept x (refuse Malformed r)) (y k x)))

  abbrev Tells : List ℕ → Call → Type 0
  Tells scrap c = Same scrap c (length m) (step timings scrap c p) (length n) (step timings scrap c q)

  call_same : (scrap : List ℕ) (c : Call) (y : ℕ → Part → Outcome) → (malformed c ≡ false → Both scrap c (y (length m) p) (y (length m) q))
      → Same scrap c (length m) (front c y (length m) (length b) p) (length n) (front c y (length n) (length d) q)
  call_same scrap c y both =
      subst (λ (k : ℕ). Same scrap c (length m) (front c y (length m) (length b) p) k (front c y k (length d) q)) (sym len)
      (subst (λ (j : ℕ). Both scrap c (front c y (length m) (length b) p) (front c y (length m) j q)) (sym back)
      (keep₂ (Both scrap c) (short (length m) (length b)) _ _ _ _ (both_by scrap c (refuse BadLength r))
      (keep₂ (Both scrap c) (out_of_range timings) _ _ _ _ (both_by scrap c (refuse BadTiming r))
      (keep₂_by (Both scrap c) (malformed c) _ _ _ _ (λ _. both_by scrap c (refuse Malformed r)) both))))

  -- ---- a read
  module _ (a : Access) (sound : malformed (Read a) ≡ false) where
    abbrev seen_at : Area → Said → Said
    seen_at area s = cond (clean h && ((eqb a.who 0 && is_secret area) && is_done_said s)) (blanked s) s

    abbrev Reads : Area → Answer → Answer → Type 0
    Reads area x y = (seen_at area (said_of y) ≡ seen_at area (said_of x)) × (is_done_said (said_of y) ≡ is_done_said (said_of x))

    -- what cells give: main flash to a clean CPU alone
    cells_same : (place : Place) → closed_read r.mark options place ≡ false
        → (guarded r.mark options ≡ false → (clean h ≡ true) × (eqb a.who 0 ≡ true))
        → Reads (Flash place) (Done (cells_value m o options place a.width)) (Done (cells_value n o options place a.width))
    cells_same (Main i) e f = (rw ((f e).0, (f e).1) refl, refl)
    cells_same (System i) e f = (refl, refl)
    cells_same (Otp i) e f = (refl, refl)
    cells_same (SystemAndOtp i) e f = (refl, refl)
    cells_same (OptionCells i) e f = (refl, refl)

    read_at_same : (area : Area) → r.power ≡ true → unconnected a.who r.debugger ≡ false
        → Reads area (read_at p area a.width) (read_at q area a.width)
    read_at_same (Flash place) power con =
        keep₂ (Reads (Flash place)) (is_busy r.op) _ _ _ _ (refl, refl)
        (keep₂_by (Reads (Flash place)) (closed_read r.mark options place) _ _ _ _ (λ _. (refl, refl))
        (λ unclosed. cells_same place unclosed (clean_cpu a.who power (or_left (bad_who a.who) (bad_width a.width) sound) con)))
    read_at_same (Registers i) power con = (refl, refl)
    read_at_same (Sram i) power con =
        keep₂_by (Reads (Sram i)) (guarded r.mark options) _ _ _ _ (λ _. (refl, refl)) (λ unguarded.
        let (c, cpu) = clean_cpu a.who power (or_left (bad_who a.who) (bad_width a.width) sound) con unguarded in
        (rw (c, cpu) refl, refl))
    read_at_same Outside power con = (refl, refl)

    read_same : (area : Area) → Reads area (read_answer p area a) (read_answer q area a)
    read_same area =
        keep₂_by (Reads area) (not r.power) _ _ _ _ (λ _. (refl, refl))
        (λ power. keep₂_by (Reads area) (unconnected a.who r.debugger) _ _ _ _ (λ _. (refl, refl))
        (λ con. read_at_same area (not-false r.power power) con))

  -- ---- a fetch
  fetch_same : (scrap : List ℕ) (address : ℕ) → (let y : Part → Answer = λ x.
      cond (not r.power) (Refused NoPower)
      (cond (not (inside address 4 main_base (length m))) (Refused OutsideMap) (flash_answer r x.main o options (Main (address - main_base)) 4)) in
      Both scrap (Fetch address) (kept p (reply (y p) r)) (kept q (reply (y q) r)))
  fetch_same scrap address =
      let c = Fetch address in
      let Q : Answer → Answer → Type 0 = λ x y. Both scrap c (kept p (reply x r)) (kept q (reply y r)) in
      let one : (x : Answer) → Q x x = λ x. both_by scrap c (reply x r) in
      keep₂_by Q (not r.power) _ _ _ _ (λ _. one (Refused NoPower)) (λ power.
      keep₂ Q (not (inside address 4 main_base (length m))) _ _ _ _ (one (Refused OutsideMap))
      (keep₂ Q (is_busy r.op) _ _ _ _ (one (Refused Stalled))
      (keep₂_by Q (guarded r.mark options) _ _ _ _ (λ _. one (Refused ClosedAccess)) (λ unguarded.
      (rw (clean_cpu 0 (not-false r.power power) refl refl unguarded).0 refl, refl, still r)))))

  -- ---- a window
  window_told : (who sector : ℕ) (b : Bool) → (b ≡ false → (clean h ≡ true) × (eqb who 0 ≡ true))
      → (let s = shown (cond b [] (take (sector_length sector) (drop (sector_start sector) n))) in
      let t = shown (cond b [] (take (sector_length sector) (drop (sector_start sector) m))) in
      told h (window who sector) 0 s ≡ told h (window who sector) 0 t)
  window_told who sector true f = refl
  window_told who sector false f =
      let e : length (take (sector_length sector) (drop (sector_start sector) n)) ≡ length (take (sector_length sector) (drop (sector_start sector) m)) =
      simp (length-take, length-drop, len) in
      rw ((f refl).0, (f refl).1) (ap {B = Said} (λ (k : ℕ). shown (replicate k 0)) e)

  abbrev shut_by : ℕ → ℕ → ℕ → ℕ → Bool
  shut_by k j who sector =
      short k j || out_of_range timings || not r.power || is_busy r.op || leb (sectors_in k) sector || bad_who who || unconnected who r.debugger
      || guarded r.mark options

  window_clean : (k j who sector : ℕ) → shut_by k j who sector ≡ false → (clean h ≡ true) × (eqb who 0 ≡ true)
  window_clean k j who sector e =
      let first = short k j || out_of_range timings in
      let before = first || not r.power || is_busy r.op || leb (sectors_in k) sector in
      let known = or_left (before || bad_who who || unconnected who r.debugger) (guarded r.mark options) e in
      let good = or_left (before || bad_who who) (unconnected who r.debugger) known in
      let powered = or_left (first || not r.power) (is_busy r.op) (or_left _ (leb (sectors_in k) sector) (or_left before (bad_who who) good)) in
      clean_cpu who (not-false _ (or_right first (not r.power) powered)) (or_right before (bad_who who) good)
      (or_right (before || bad_who who) (unconnected who r.debugger) known)
      (or_right (before || bad_who who || unconnected who r.debugger) (guarded r.mark options) e)

  window_alike : (who sector : ℕ) → Alike timings h (window who sector) p q
  window_alike who sector =
      record {
        said =
            (λ i. told h (window who sector) 0 (shown (cond (shut_by (len i) (back i) who sector) []
            (take (sector_length sector) (drop (sector_start sector) n)))))
            ∙ window_told who sector (shut_by (length m) (length b) who sector) (window_clean (length m) (length b) who sector);
        done = refl;
        next = still r;
      }

  -- ---- an erase that is cut keeps the length
  scrapped_same : (scrap : List ℕ) (start : ℕ) (k : ℕ → ℕ) → length (scrapped n start (k (length n)) scrap) ≡ length (scrapped m start (k (length m)) scrap)
  scrapped_same scrap start k = scrapped_length n start (k (length n)) scrap ∙ len ∙ sym (scrapped_length m start (k (length m)) scrap)

  -- ---- time
  moved_end : (t : Target) → Sure (Some (record { target = t; left = micros 0 })) r.optcr options
      → Moved (ended p t) (ended q t)
  moved_end (target.Bytes w) sure =
      by (idled r) (λ l. cond w.otp l (programmed l w.offset w.width w.value)) _
      (keep₂ (λ (x y : List ℕ). length x ≡ length y) w.otp n _ m _ len
      (programmed_length n w.offset w.width w.value ∙ len ∙ sym (programmed_length m w.offset w.width w.value)))
  moved_end (target.Sector k) sure =
      by (idled r) (λ l. erased l (sector_start k) (sector_length k)) o
      (erased_length n (sector_start k) (sector_length k) ∙ len ∙ sym (erased_length m (sector_start k) (sector_length k)))
  moved_end (target.Main k) sure = by (idled r) (λ l. replicate (length l) 255) o (simp (length-replicate, len))
  moved_end target.Options sure =
      record { rec = refl; otp = refl; options = refl; secret = inr (len, back, changed_level options r.optcr (sure refl level)) }
  moved_end (target.Regression k option) sure =
      record { rec = refl; otp = refl; options = refl; secret = inl (ap (λ (i : ℕ). replicate i 255) len, ap (λ (i : ℕ). replicate i 0) back) }

  moved : (op : Option Running) (t : Micros) → Sure op r.optcr options → Moved (elapsed_over p op t) (elapsed_over q op t)
  moved None t sure = still r
  moved (Some running) t sure =
      keep₂ Moved (ltb t.0 running.left.0) _ _ _ _ (still _) (moved_end running.target sure)

  -- ---- the cut of a reset: both parts take the same scrap
  abbrev after_reset : List ℕ → ℕ → Part → Part
  after_reset scrap boot x = having x (reset_record r x.options boot)

  moved_cut : (scrap : List ℕ) (boot : ℕ) (t : Target) (left : Micros) → Sure (Some (record { target = t; left = left })) r.optcr options
      → Moved (after_reset scrap boot (cut_by p t left scrap)) (after_reset scrap boot (cut_by q t left scrap))
  moved_cut scrap boot (target.Bytes w) left sure =
      let value = sparing w.width w.value scrap in
      by _ (λ l. cond w.otp l (programmed l w.offset w.width value)) _
      (keep₂ (λ (x y : List ℕ). length x ≡ length y) w.otp n _ m _ len
      (programmed_length n w.offset w.width value ∙ len ∙ sym (programmed_length m w.offset w.width value)))
  moved_cut scrap boot (target.Sector k) left sure =
      by _ (λ l. scrapped l (sector_start k) (sector_length k) scrap) o (scrapped_same scrap (sector_start k) (λ _. sector_length k))
  moved_cut scrap boot (target.Main k) left sure = by _ (λ l. scrapped l 0 (length l) scrap) o (scrapped_same scrap 0 (λ k. k))
  moved_cut scrap boot target.Options left sure =
      let new = changed_options options r.optcr in
      record {
        rec = refl;
        otp = refl;
        options = refl;
        secret = inr (len, back, cut_level options new scrap level (changed_level options r.optcr (sure refl level)));
      }
  moved_cut scrap boot (target.Regression k option) left sure =
      keep₂ (λ (x y : Part). Moved (after_reset scrap boot x) (after_reset scrap boot y)) (erasing option left) _ _ _ _
      (by _ (λ l. scrapped l 0 (length l) scrap) o (scrapped_same scrap 0 (λ k. k)))
      (record { rec = refl; otp = refl; options = refl; secret = inl (ap (λ (i : ℕ). replicate i 255) len, ap (λ (i : ℕ). replicate i 0) back) })

  reset_moved : (scrap : List ℕ) (boot : ℕ) (op : Option Running) → Sure op r.optcr options
      → Moved (after_reset scrap boot (cut p op scrap)) (after_reset scrap boot (cut q op scrap))
  reset_moved scrap boot None sure = still _
  reset_moved scrap boot (Some running) sure = moved_cut scrap boot running.target running.left sure

  reset_same : (scrap : List ℕ) (boot : ℕ) → (let y : Part → Outcome = λ x.
      cond (eqb (level_of options) 2 && not (eqb boot 0)) (kept x (refuse ShutByLevel2 r))
      (cond (scrap_short r.op (length m) (length scrap)) (kept x (refuse ShortScrap r))
      (record { answer = Done 0; part = after_reset scrap boot (cut x r.op scrap) })) in Both scrap (Reset boot) (y p) (y q))
  reset_same scrap boot =
      keep₂ (Both scrap (Reset boot)) (eqb (level_of options) 2 && not (eqb boot 0)) _ _ _ _ (both_by scrap (Reset boot) (refuse ShutByLevel2 r))
      (keep₂ (Both scrap (Reset boot)) (scrap_short r.op (length m) (length scrap)) _ _ _ _ (both_by scrap (Reset boot) (refuse ShortScrap r))
      (refl, refl, reset_moved scrap boot r.op v.sure))

  lapse_same : (scrap : List ℕ) (t : Lapse) → Both scrap (Time t) (lapsed t p) (lapsed t q)
  lapse_same scrap t =
      keep₂ (Both scrap (Time t)) (too_long t) _ _ _ _ (both_by scrap (Time t) (refuse TooLong r))
      (keep₂ (Both scrap (Time t)) (not r.power) _ _ _ _ (both_by scrap (Time t) (refuse NoPower r))
      (keep₂ (Both scrap (Time t)) (none_left r.op) _ _ _ _ (both_by scrap (Time t) (refuse NoneLeft r))
      (refl, refl, moved r.op _ v.sure)))

  -- ---- a write: main flash counts by its length alone, and the SRAM only takes bytes
  write_at_same : (scrap : List ℕ) (a : Access) (w : ℕ) (area : Area) → Both scrap (Write a w) (write_at timings p area a w) (write_at timings q area a w)
  write_at_same scrap a w (Flash place) = both_by scrap (Write a w) (flash_reply timings r o options place a w)
  write_at_same scrap a w (Registers i) =
      subst (λ (k : ℕ). Both scrap (Write a w) (write_at timings p (Registers i) a w) (kept q (register_reply timings r k options i a w))) (sym len)
      (both_by scrap (Write a w) (register_reply timings r (length m) options i a w))
  write_at_same scrap a w (Sram i) =
      keep₂ (Both scrap (Write a w)) (guarded r.mark options) _ _ _ _ (both_by scrap (Write a w) (refuse ClosedAccess r))
      (refl, refl, record { rec = refl; otp = refl; options = refl; secret = inr (len, stored_same, level) })
    where
      stored_same : length (stored d i a.width w) ≡ length (stored b i a.width w)
      stored_same = stored_length d i a.width w ∙ back ∙ sym (stored_length b i a.width w)
  write_at_same scrap a w Outside = both_by scrap (Write a w) (refuse OutsideMap r)

  write_same : (scrap : List ℕ) (a : Access) (w : ℕ) (area : Area) → Both scrap (Write a w) (write_outcome timings p area a w) (write_outcome timings q area a w)
  write_same scrap a w area =
      keep₂ (Both scrap (Write a w)) (not r.power) _ _ _ _ (both_by scrap (Write a w) (refuse NoPower r))
      (keep₂ (Both scrap (Write a w)) (unconnected a.who r.debugger) _ _ _ _ (both_by scrap (Write a w) (refuse NotConnected r))
      (write_at_same scrap a w area))

  tells : (scrap : List ℕ) (c : Call) → Tells scrap c
  tells scrap (Reset boot) =
      call_same scrap (Reset boot) (λ k x.
      cond (eqb (level_of options) 2 && not (eqb boot 0)) (kept x (refuse ShutByLevel2 r))
      (cond (scrap_short r.op k (length scrap)) (kept x (refuse ShortScrap r))
      (record { answer = Done 0; part = after_reset scrap boot (cut x r.op scrap) })))
      (λ _. reset_same scrap boot)
  tells scrap (Debugger link) =
      call_same scrap (Debugger link) (λ k x. kept x (debugger_reply r options link)) (λ _. both_by scrap (Debugger link) (debugger_reply r options link))
  tells scrap (Read a) =
      call_same scrap (Read a) (λ k x. kept x (reply (read_answer x (area_of k a.address a.width) a) x.rec))
      (λ sound. let s = read_same a sound (area_of (length m) a.address a.width) in (s.0, s.1, still r))
  tells scrap (Fetch address) =
      call_same scrap (Fetch address) (λ k x. kept x (reply (cond (not r.power) (Refused NoPower)
      (cond (not (inside address 4 main_base k)) (Refused OutsideMap) (flash_answer r x.main o options (Main (address - main_base)) 4))) r))
      (λ _. fetch_same scrap address)
  tells scrap (Write a w) =
      call_same scrap (Write a w) (λ k x. write_outcome timings x (area_of k a.address a.width) a w)
      (λ _. write_same scrap a w (area_of (length m) a.address a.width))
  tells scrap (Time t) = call_same scrap (Time t) (λ k x. lapsed t x) (λ _. lapse_same scrap t)

  alike : (x : Request) → Alike timings h x p q
  alike (call scrap c) = let e = tells scrap c in record { said = e.0; done = e.1; next = e.2 }
  alike (window who sector) = window_alike who sector

-- ---- lists

-- two parts that a host cannot tell apart: equal, or apart in main flash and SRAM alone above level 0, never opened
pub record Apart (h : List Event) (p q : Part) : Type 0 where
  pub rec : q.rec ≡ p.rec
  pub otp : q.otp ≡ p.otp
  pub options : q.options ≡ p.options
  pub len : length q.main ≡ length p.main
  pub back : length q.sram ≡ length p.sram
  pub level : eqb (level_of p.options) 0 ≡ false
  pub shut : opened h ≡ false

pub still_shut : (l k : ℕ) (b : Bool) → eqb k 0 ≡ false → b ≡ false → ((eqb l 1 && eqb k 0) || b) ≡ false
still_shut l k b e f = rw (e, f, and-false (eqb l 1)) refl

pub alike_apart : (timings : List ℕ) (h : List Event) (x : Request) (p q : Part) → Inv h p → Apart h p q → Alike timings h x p q
alike_apart timings h x p q v a =
    let e : part p.rec q.main p.otp p.options q.sram ≡ q =
    λ i. part (sym a.rec i) q.main (sym a.otp i) (sym a.options i) q.sram in
    subst (λ (z : Part). Alike timings h x p z) e
    (alike timings h p.rec p.main q.main p.otp p.options p.sram q.sram v a.len a.back a.level x)

pub event_same : (timings : List ℕ) (h : List Event) (x : Request) (p q : Part) → Apart h p q → Alike timings h x p q
    → event_of timings x q ≡ event_of timings x p
event_same timings h x p q a k =
    λ i. record { request = x; done = k.done i; before = level_of (a.options i); after = level_of (k.next.options i) }

-- after a request the two are equal, or still apart
pub apart_next : (timings : List ℕ) (h : List Event) (x : Request) (p q : Part) → Apart h p q → (k : Alike timings h x p q)
    → (part_after timings x q ≡ part_after timings x p) ⊎ Apart (event_of timings x p ∷ h) (part_after timings x p) (part_after timings x q)
apart_next timings h x p q a k =
    ⊎_elim (λ e. inl (λ i. part (k.next.rec i) (e.0 i) (k.next.otp i) (k.next.options i) (e.1 i)))
    (λ e. inr (record {
      rec = k.next.rec;
      otp = k.next.otp;
      options = k.next.options;
      len = e.0;
      back = e.1;
      level = e.2;
      shut = still_shut (level_of p.options) (level_of (part_after timings x p).options) (opened h) e.2 a.shut;
    }))
    k.next.secret

-- a fresh pair is apart, and its history is empty
pub fresh_inv : (p q : Part) → FreshPair p q → Inv [] p
fresh_inv p q f = fresh_holds p f.fresh_p

pub fresh_apart : (p q : Part) → FreshPair p q → Apart [] p q
fresh_apart p q f =
    record {
      rec = f.fresh_q ∙ sym f.fresh_p;
      otp = f.otp;
      options = f.options;
      len = f.len;
      back = f.sram;
      shut = refl;
      level = ⊎_elim (λ e. ap (λ (l : ℕ). eqb l 0) e) (λ e. ap (λ (l : ℕ). eqb l 0) e) f.level;
    }
