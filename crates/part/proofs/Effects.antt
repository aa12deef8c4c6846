-- What each call but a write and a reset leaves, field by field of the record and byte by byte of the cells: a call that is done takes the last branch of
-- its cascade, and that branch is opened here once, with the laws of bits and bytes in place of the step's helpers.
use mathlib.Core.Bool.{Bool, true, false, not, cond, ◌&&◌, ◌||◌, true≢false, and-true, and-false}
use mathlib.Core.List.{List, [], ◌∷◌}
use mathlib.Core.Logic.{◌↔◌}
use mathlib.Core.Path.{◌≡◌, refl, sym, ap, subst, ◌∙◌}
use Prim.Native.Nat.{ℕ, zero, suc, ◌+◌, ◌*◌, ◌^◌, ◌≤◌, ◌<◌}
use native.Mathlib.Nat.{zero-div, div-eq_of_lt}
use native.Mathlib.Omega.{arith}
use lib.Dec.{eqb, leb, ltb, lit<, lit≤, eqb-suc-zero}
use lib.ListN.{length, get_or, replicate, drop, length-take, length-drop, length-set, length-replicate, get_or-replicate, get_or-eq_default}
use lib.Pow.{pow-lt}
use lib.Seq.{get_or-take, get_or-drop}
use borrow.Author.Tests.{eqb-true, leb-true, leb-false, ltb-true, lt-ltb, le-ltb, not-false}
use Rattle.cascade.proofs.Picks.{keep, keep_by, keep₂_by}
use Rattle.cells.proofs.Laws.{programmed_length, programmed_byte_lem, programmed_other, stored_length, stored_byte_lem, stored_other, erased_length, erased_byte_lem}
use Rattle.cells.proofs.Laws.{erased_other}
use Rattle.cells.specs.Bytes.{stored, programmed, erased}
use Rattle.map.proofs.Forms.{both_left, both_right}
use Rattle.map.specs.Sectors.{sector_start, sector_length}
use Rattle.registers.proofs.Laws.{a_bit, bit_or_lem}
use Rattle.registers.specs.Fields.{EOP, EOPIE}
use Rattle.registers.specs.Words.{is_set}
use Rattle.time.specs.Units.{micros, millis}
use Rattle.part.specs.Calls.{step}
use Rattle.part.specs.Effects.{AreBytes, Ends, Holds, OffEffect, OnEffect, PassEffect, Passes, Programs, RanOut, FetchKeeps, ReadKeeps, Stays}
use Rattle.part.specs.Effects.{WaitDone, WaitExpired, Waited, WindowShows, changed_byte, erased_byte, nearer, programmed_byte, stored_byte, shut}
use Rattle.part.specs.Operations.{elapsed, elapsed_over, ended, idled, time_left}
use Rattle.part.specs.Options.{level_of, changed_options, regressed_options}
use Rattle.part.specs.Passing.{lapse_answer, lapse_time}
use Rattle.part.specs.Reads.{window_shut, window_of}
use Rattle.part.specs.Rules.{bit, is_in, among, mark_guards, present, main_lengths, target_fits, operation_fits, entry1, entry2}
use Rattle.part.specs.State.{Part, Outcome, code_of, having, is_busy, with_debugger, with_main, with_otp}
use Rattle.part.proofs.Bytes.{among_in}
use Rattle.part.proofs.Entries.{entry1_is, entry2_is, level_2, present_is, who_is, guards_is}
use Rattle.part.proofs.RegisterBits.{loaded, set_byte, changed_length, changed_bytes, changed_small, by_order}
use Rattle.part.proofs.Stepped.{or_left, or_right, plain_other, stepped, change_codes, by_contra, step_each}
use Rattle.part.proofs.Types.{Micros, Answer, Read, Fetch, Debugger, Time, Lapse, Pass, Wait, Off, On, Option, None, Some}
use Rattle.part.proofs.Types.{Record, Running, Target, Written}
use Rattle.part.proofs.Types.target

-- ---- reset, the debugger, read

-- a call with code 0 was not refused, and did what its last branch says
pub on_effect : OnEffect
on_effect timings scrap p =
    step_each (λ o. code_of o.answer ≡ 0 → o.part ≡ having p (with_debugger p.rec true true)) timings scrap (Debugger On) p
    (λ why plain e. plain_other why 0 plain refl e) (λ _ _ _ _. refl)

pub off_effect : OffEffect
off_effect timings scrap p =
    step_each (λ o. code_of o.answer ≡ 0 → o.part ≡ having p (with_debugger p.rec false p.rec.mark)) timings scrap (Debugger Off) p
    (λ why plain e. plain_other why 0 plain refl e) (λ _ _ _. refl)

pub read_keeps : ReadKeeps
read_keeps timings scrap a p = stepped (λ o. o.part ≡ p) timings scrap (Read a) p (λ _ _. refl) (λ _ _ _. refl)

pub fetch_keeps : FetchKeeps
fetch_keeps timings scrap address p = stepped (λ o. o.part ≡ p) timings scrap (Fetch address) p (λ _ _. refl) (λ _ _ _. refl)

-- ---- what an end leaves in the cells

-- a byte among n, or not
pub by_among : (P : ℕ → Type 0) (j base n a b : ℕ) → (base ≤ j → j < base + n → P a) → ((base ≤ j → j < base + n → ⊥) → P b) → P (cond (among j base n) a b)
by_among P j base n a b f g =
    keep_by P (among j base n) a b
    (λ e. f (leb-true base j (both_left (leb base j) (ltb j (base + n)) e)) (ltb-true j (base + n) (both_right (leb base j) (ltb j (base + n)) e)))
    (λ e. g (λ l h. true≢false (sym (among_in j base n l h) ∙ e)))

programmed_holds : (s : List ℕ) (w : Written) → w.offset + w.width ≤ length s
    → Holds (programmed s w.offset w.width w.value) (length s) (programmed_byte w s)
programmed_holds s w fits =
    record {
      count = programmed_length s w.offset w.width w.value;
      byte = λ j h.
          by_among (λ z. get_or (programmed s w.offset w.width w.value) j 0 ≡ z) j w.offset w.width _ _
          (λ a b. programmed_byte_lem s w.offset w.width w.value j a b h)
          (λ out. programmed_other s w.offset w.width w.value j (λ a b _. out a b));
    }

pub stored_holds : (s : List ℕ) (offset width value : ℕ) → offset + width ≤ length s
    → Holds (stored s offset width value) (length s) (stored_byte offset width value s)
stored_holds s offset width value fits =
    record {
      count = stored_length s offset width value;
      byte = λ j h.
          by_among (λ z. get_or (stored s offset width value) j 0 ≡ z) j offset width _ _
          (stored_byte_lem s offset width value j fits) (stored_other s offset width value j fits);
    }

erased_holds : (s : List ℕ) (k : ℕ) → sector_start k + sector_length k ≤ length s
    → Holds (erased s (sector_start k) (sector_length k)) (length s) (erased_byte k s)
erased_holds s k fits =
    record {
      count = erased_length s (sector_start k) (sector_length k);
      byte = λ j h.
          by_among (λ z. get_or (erased s (sector_start k) (sector_length k)) j 0 ≡ z) j (sector_start k) (sector_length k) _ _
          (erased_byte_lem s (sector_start k) (sector_length k) j fits) (erased_other s (sector_start k) (sector_length k) j fits);
    }

pub filled_holds : (n b : ℕ) → Holds (replicate n b) n (λ j. b)
filled_holds n b = record { count = length-replicate n b; byte = λ j h. get_or-replicate n j b 0 h }

pub held_bytes : {s : List ℕ} {n : ℕ} {f : ℕ → ℕ} → Holds s n f → ((j : ℕ) → f j < 256) → AreBytes s
held_bytes {s} {n} {f} held small j =
    by_order (get_or s j 0 < 256) n j (λ l. rw (get_or-eq_default s 0 {n = j} (rw held.count l)) (lit< tt)) (λ l. rw (held.byte j l) (small j))

-- EOP is bit 0
eop_bit : (b : Bool) (k : ℕ) → bit (cond b EOP 0) k ≡ (eqb k 0 && b)
eop_bit false k = rw (zero-div (2 ^ k)) (sym (and-false (eqb k 0)))
eop_bit true zero = refl
eop_bit true (suc k) = rw (div-eq_of_lt (pow-lt {i = 0} {j = suc k} (omega arith)), eqb-suc-zero k)

eop_bits : (r : Record) (k : ℕ) → bit (idled r).sr k ≡ (bit r.sr k || (eqb k 0 && bit r.cr 24))
eop_bits r k =
    bit_or_lem r.sr (cond (is_set r.cr EOPIE) EOP 0) k
    ∙ ap (λ (b : Bool). bit r.sr k || b) (eop_bit (is_set r.cr EOPIE) k ∙ ap (λ (b : Bool). eqb k 0 && b) (a_bit r.cr 24))

-- a regression brings level 0, or level 1 where there is no room for RDP
pub regressed_level : (options : List ℕ) → eqb (level_of (regressed_options options)) 2 ≡ false
regressed_level [] = refl
regressed_level (a ∷ []) = refl
regressed_level (a ∷ b ∷ os) = refl

module _ (p : Part) (sixteen : length p.options ≡ 16) (bytes : AreBytes p.options) where
  -- where neither changes, and whatever main flash and OTP become
  steady : (main otp : List ℕ) → Stays p (with_otp (with_main (having p (idled p.rec)) main) otp)
  steady main otp = record { sram = refl; options = refl; optcr = refl; debugger = refl }

  programs : (w : Written) (otp : Bool) → leb (w.offset + w.width) (cond otp (length p.otp) (length p.main)) ≡ true
      → Programs otp (programmed_byte w) p
      (with_otp (with_main (having p (idled p.rec)) (cond otp p.main (programmed p.main w.offset w.width w.value)))
      (cond otp (programmed p.otp w.offset w.width w.value) p.otp))
  programs w true fits = (refl, programmed_holds p.otp w (leb-true (w.offset + w.width) (length p.otp) fits))
  programs w false fits = (programmed_holds p.main w (leb-true (w.offset + w.width) (length p.main) fits), refl)

  ends : (t : Target) → target_fits t p ≡ true → Ends p t (ended p t)
  ends (target.Bytes w) fits =
      record { fields = refl; sr = eop_bits p.rec; leaves = (programs w w.otp fits, steady _ _) }
  ends (target.Sector k) fits =
      record {
        fields = refl;
        sr = eop_bits p.rec;
        leaves = (erased_holds p.main k (leb-true (sector_start k + sector_length k) (length p.main) fits), refl, steady _ _);
      }
  ends (target.Main len) fits =
      record { fields = refl; sr = eop_bits p.rec; leaves = (filled_holds (length p.main) 255, refl, steady _ _) }
  ends target.Options fits =
      let options = changed_options p.options p.rec.optcr in
      let held : Holds options 16 (changed_byte p.rec.optcr) =
      record { count = changed_length p.options p.rec.optcr ∙ sixteen; byte = λ i h. changed_bytes p.options p.rec.optcr i sixteen h } in
      record {
        fields = refl;
        sr = eop_bits p.rec;
        leaves = (
          refl,
          refl,
          refl,
          held,
          loaded options (held_bytes held (changed_small p.rec.optcr)),
          ap (λ (b : Bool). p.rec.debugger && not b) (level_2 options),
        );
      }
  ends (target.Regression len option) fits =
      let options = regressed_options p.options in
      let held : Holds options 16 (λ i. cond (eqb i 1) 0xAA (get_or p.options i 0)) =
      record { count = length-set p.options 1 0xAA ∙ sixteen; byte = λ i h. set_byte p.options 1 0xAA i (rw sixteen (lit< tt)) } in
      record {
        fields = refl;
        sr = eop_bits p.rec;
        leaves = (
          filled_holds (length p.main) 255,
          refl,
          filled_holds (length p.sram) 0,
          held,
          loaded options (held_bytes held (λ i. keep (λ (z : ℕ). z < 256) (eqb i 1) 0xAA (get_or p.options i 0) (lit< tt) (bytes i))),
          rw (regressed_level p.options) (and-true p.rec.debugger),
        );
      }

-- ---- time

passes : (p : Part) (t : Micros) → length p.options ≡ 16 → operation_fits p.rec.op p ≡ true → Passes p t.0 (elapsed p t)
passes p t sixteen fits =
    let over : Option Running → Part = λ op. elapsed_over p op t in
    record {
      idle = λ e. ap over e;
      on = λ running e l. ap over e ∙ rw (lt-ltb t.0 running.left.0 l);
      over = λ running e l bytes.
          subst (λ op. operation_fits op p ≡ true → Ends p running.target (over op)) (sym e)
          (λ f. rw (le-ltb t.0 running.left.0 l) (ends p sixteen bytes running.target f)) fits;
    }

-- lengths that are not refused: main flash is that of a part, there are 16 option bytes and 4,096 of SRAM, and what runs fits
pub record Fitting (p : Part) : Type 0 where
  pub main : is_in (length p.main) main_lengths ≡ true
  pub options : length p.options ≡ 16
  pub sram : length p.sram ≡ 4096
  pub op : operation_fits p.rec.op p ≡ true

pub fitting : (timings : List ℕ) (p : Part) → entry1 timings p ≡ false → Fitting p
fitting timings p e =
    let main = is_in (length p.main) main_lengths in
    let otp = eqb (length p.otp) 528 in
    let options = eqb (length p.options) 16 in
    let sram = eqb (length p.sram) 4096 in
    let times = eqb (length timings) 24 in
    let op = operation_fits p.rec.op p in
    let all = not-false (main && otp && options && sram && times && op) e in
    let four = both_left (main && otp && options && sram) times (both_left _ op all) in
    let three = both_left (main && otp && options) sram four in
    record {
      main = both_left main otp (both_left _ options three);
      options = eqb-true (length p.options) 16 (both_right (main && otp) options three);
      sram = eqb-true (length p.sram) 4096 (both_right (main && otp && options) sram four);
      op = both_right (main && otp && options && sram && times) op all;
    }

-- what has time left runs
pub left_runs : (op : Option Running) (n : ℕ) → n < (time_left op).0 → (running : Running) × (op ≡ Some running) × (n < running.left.0)
left_runs None n h = absurd (omega arith)
left_runs (Some running) n h = (running, refl, h)

module _ (timings scrap : List ℕ) (p : Part) (t : Lapse) where
  -- a pass or a wait that answers with code 0 or 18 was not refused, so the lengths fit, and time passed
  timed : (P : Outcome → Type 0) (n : ℕ) → is_in n change_codes ≡ true
      → (((u : Micros) → Passes p u.0 (elapsed p u)) → code_of (lapse_answer t (time_left p.rec.op)) ≡ n
      → P (record { answer = lapse_answer t (time_left p.rec.op); part = elapsed p (lapse_time t (time_left p.rec.op)) }))
      → code_of (step timings scrap (Time t) p).answer ≡ n → P (step timings scrap (Time t) p)
  timed P n among f =
      step_each (λ o. code_of o.answer ≡ n → P o) timings scrap (Time t) p (λ why plain e. plain_other why n plain among e) (λ fits _.
      let now = fitting timings p (sym (entry1_is timings p) ∙ fits) in
      f (λ u. passes p u now.options now.op))

pub pass_effect : PassEffect
pass_effect timings scrap p t = timed timings scrap p (Pass (micros t)) (λ o. Passes p t o.part) 0 refl (λ let_pass _. let_pass (micros t))

pub wait_done : WaitDone
wait_done timings scrap p t =
    let rest = time_left p.rec.op in
    timed timings scrap p (Wait (millis t)) (Waited p (1000 * t)) 0 refl (λ let_pass.
    keep₂_by (λ (a : Answer) (u : Micros). code_of a ≡ 0 → Waited p (1000 * t) (record { answer = a; part = elapsed p u })) (leb rest.0 (t * 1000)) _ _ _ _
    (λ e _. record { within = omega (arith, leb-true rest.0 (t * 1000) e); value = refl; part = let_pass rest }) (λ _ e. absurd (omega arith)))

pub wait_expired : WaitExpired
wait_expired timings scrap p t =
    let rest = time_left p.rec.op in
    timed timings scrap p (Wait (millis t)) (RanOut p (1000 * t)) 18 refl (λ let_pass.
    keep₂_by (λ (a : Answer) (u : Micros). code_of a ≡ 18 → RanOut p (1000 * t) (record { answer = a; part = elapsed p u })) (leb rest.0 (t * 1000)) _ _ _ _
    (λ _ e. absurd (omega arith)) (λ e _.
    let now = left_runs p.rec.op (1000 * t) (omega (arith, leb-false rest.0 (t * 1000) e)) in
    let limit : t * 1000 ≡ 1000 * t = omega arith in
    record {
      running = now.0;
      runs = now.1;
      more = now.2;
      value = limit;
      part = (let_pass (micros (t * 1000))).on now.0 now.1 (omega (arith, now.2)) ∙ ap (nearer p now.0) limit;
    }))

-- ---- the window

module _ (timings : List ℕ) (p : Part) (who sector : ℕ) where
  shut_is : window_shut timings p who sector ≡ shut timings p who sector
  shut_is = at (entry1 timings p) refl
    where
      at : (t : Bool) → entry1 timings p ≡ t → window_shut timings p who sector ≡ shut timings p who sector
      at true e = rw (entry1_is timings p, e)
      at false e =
          rw (entry1_is timings p, entry2_is timings, present_is (length p.main) sector (fitting timings p e).main, who_is who, guards_is p)

  sector_fits : shut timings p who sector ≡ false → sector_start sector + sector_length sector ≤ length p.main
  sector_fits e =
      let before = entry1 timings p || entry2 timings || not p.rec.power || is_busy p.rec.op in
      let away = not (present p sector) in
      let nobody = not (is_in who (0 ∷ 1 ∷ [])) in
      let unconnected = eqb who 1 && not p.rec.debugger in
      leb-true (sector_start sector + sector_length sector) (length p.main)
      (not-false (present p sector)
      (or_right before away (or_left (before || away) nobody (or_left (before || away || nobody) unconnected
      (or_left (before || away || nobody || unconnected) (mark_guards p) e)))))

  window_bytes : shut timings p who sector ≡ false
      → Holds (window_of timings p who sector) (sector_length sector) (λ i. get_or p.main (sector_start sector + i) 0)
  window_bytes e =
      let fits = sector_fits e in
      rw (shut_is, e)
      (record {
        count = simp (length-take, length-drop) (omega arith);
        byte = λ i h. get_or-take (sector_length sector) (drop (sector_start sector) p.main) i 0 h ∙ get_or-drop (sector_start sector) p.main i 0;
      })

  window_empty : (window_of timings p who sector ≡ []) ↔ (shut timings p who sector ≡ true)
  window_empty = (
    λ z. by_contra (shut timings p who sector) (λ e.
        let some : 1 ≤ sector_length sector =
        keep (λ (l : ℕ). 1 ≤ l) (ltb sector 4) 16_384 _ (lit≤ tt) (keep (λ (l : ℕ). 1 ≤ l) (eqb sector 4) 65_536 131_072 (lit≤ tt) (lit≤ tt)) in
        omega (arith, (window_bytes e).count, ap length z)),
    λ e. rw (shut_is, e),
  )

pub window_shows : WindowShows
window_shows timings p who sector = (window_empty timings p who sector, window_bytes timings p who sector)
