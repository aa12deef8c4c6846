-- What holds of a refusal, which changes nothing, and of each branch of what a call does that refusals 1, 2 and 5 let through, holds of the step.
use mathlib.Core.Bool.{Bool, true, false, cond, ◌&&◌, ◌||◌, true≢false, false≢true, not}
use mathlib.Core.List.{List, [], ◌∷◌}
use mathlib.Core.Path.{◌≡◌, refl, sym, ◌∙◌, ap}
use Prim.Native.Nat.{ℕ}
use lib.Dec.{eqb}
use lib.ListN.{length}
use Rattle.cascade.proofs.Picks.{keep_by, keep}
use Rattle.time.specs.Timings.{out_of_range}
use Rattle.lock.specs.Keys.{is_open}
use Rattle.registers.specs.Fields.{acr_after, sr_flags, register_at}
use Rattle.registers.specs.Words.{cleared_by}
use Rattle.part.specs.Calls.{performed, step, reset_part}
use Rattle.part.specs.Operations.{elapsed, none_left, scrap_short, time_left}
use Rattle.part.specs.Options.{level_of, rdp_of}
use Rattle.part.specs.Passing.{lapse_answer, lapse_time, too_long}
use Rattle.part.specs.Refusals.{length_refused, malformed, misaligned, unconnected}
use Rattle.part.specs.Rules.{is_in}
use Rattle.part.specs.State.{Part, Outcome, kept, refuse, number_of, reply, with_debugger, is_busy, lock_in, with_acr, with_sr}
use Rattle.part.specs.Writes.{cell_write, control_write, key_write, register_write, sram_write, stored, write_at, write_outcome, write_to}
use Rattle.part.proofs.Types.{Call, Reason, BadLength, BadTiming, Malformed, Reset, Debugger, Read, Write, Time, Fetch, On, Off, Done, NoPower, NoneLeft}
use Rattle.part.proofs.Types.{ShortScrap, ShutByLevel2, TooLong, Area, Outside, Flash, Registers, Sram, Place, LockOf, Cr, Optcr, Register, Access}
use Rattle.part.proofs.Types.{BadRegisterAccess}
use Rattle.part.proofs.Types.{Locked, NotConnected, OutsideMap, Stalled, Record, Reply}
use Rattle.part.proofs.Types.register

-- the codes with which a call can change the part; every other is that of a plain refusal
abbrev pub change_codes : List ℕ
change_codes = 0 ∷ 14 ∷ 17 ∷ 18 ∷ []

abbrev pub Plain : Reason → Type 0
Plain why = is_in (number_of why) change_codes ≡ false

pub stepped {ℓ} : (P : Outcome → Type ℓ) (timings scrap : List ℕ) (c : Call) (p : Part) → ((why : Reason) → Plain why → P (kept p (refuse why p.rec)))
    → (length_refused timings p ≡ false → out_of_range timings ≡ false → malformed c ≡ false → P (performed timings scrap c p)) → P (step timings scrap c p)
stepped P timings scrap c p f g =
    keep_by P (length_refused timings p) _ _ (λ _. f BadLength refl)
    (λ e. keep_by P (out_of_range timings) _ _ (λ _. f BadTiming refl)
    (λ t. keep_by P (malformed c) _ _ (λ _. f Malformed refl) (λ m. g e t m)))

-- P of what a call does that is not refused; a reset has scrap enough, a read, a write and a fetch have refusals of their own, and a debugger is let on
-- below level 2 alone
abbrev pub Does : (Outcome → Type 0) → List ℕ → List ℕ → Call → Part → Type 0
Does P timings scrap (Reset boot) p =
    scrap_short p.rec.op (length p.main) (length scrap) ≡ false
    → P (record { answer = Done 0; part = reset_part scrap p boot })
Does P timings scrap (Debugger On) p = eqb (level_of p.options) 2 ≡ false → P (kept p (reply (Done 0) (with_debugger p.rec true true)))
Does P timings scrap (Debugger Off) p = P (kept p (reply (Done 0) (with_debugger p.rec false p.rec.mark)))
Does P timings scrap (Read a) p = P (performed timings scrap (Read a) p)
Does P timings scrap (Write a v) p = P (performed timings scrap (Write a v) p)
Does P timings scrap (Fetch address) p = P (performed timings scrap (Fetch address) p)
Does P timings scrap (Time t) p = P (record { answer = lapse_answer t (time_left p.rec.op); part = elapsed p (lapse_time t (time_left p.rec.op)) })

pub step_each : (P : Outcome → Type 0) (timings scrap : List ℕ) (c : Call) (p : Part) → ((why : Reason) → Plain why → P (kept p (refuse why p.rec)))
    → (length_refused timings p ≡ false → malformed c ≡ false → Does P timings scrap c p) → P (step timings scrap c p)
step_each P timings scrap c p bar f = stepped P timings scrap c p bar (λ fits _ ok. at c (f fits ok))
  where
    at : (c : Call) → Does P timings scrap c p → P (performed timings scrap c p)
    at (Reset boot) x =
        keep P (eqb (level_of p.options) 2 && not (eqb boot 0)) _ _ (bar ShutByLevel2 refl)
        (keep_by P (scrap_short p.rec.op (length p.main) (length scrap)) _ _ (λ _. bar ShortScrap refl) x)
    at (Debugger On) x =
        keep (λ y. P (kept p y)) (not p.rec.power) _ _ (bar NoPower refl)
        (keep_by (λ y. P (kept p y)) (eqb (level_of p.options) 2) _ _ (λ _. bar ShutByLevel2 refl) x)
    at (Debugger Off) x = keep (λ y. P (kept p y)) (not p.rec.power) _ _ (bar NoPower refl) x
    at (Read a) x = x
    at (Write a v) x = x
    at (Fetch address) x = x
    at (Time t) x =
        keep P (too_long t) _ _ (bar TooLong refl)
        (keep P (not p.rec.power) _ _ (bar NoPower refl) (keep P (none_left p.rec.op) _ _ (bar NoneLeft refl) x))

-- ---- a write, by its refusals, to each register, to flash cells and to the SRAM

module _ (timings : List ℕ) (r : Record) (len : ℕ) (options : List ℕ) (P : Reply → Type 0) (bar : (why : Reason) → Plain why → P (refuse why r)) where
  -- CR and OPTCR, past refusals 11 and 12
  pub control_each : (which : LockOf) (w : ℕ) → (is_busy r.op ≡ false → P (stored timings r len options which w))
      → P (control_write timings r len options which w)
  control_each which w control =
      keep_by P (is_busy r.op) _ _ (λ _. bar Stalled refl)
      (λ idle. keep P (not (is_open (lock_in which r))) _ _ (bar Locked refl) (control idle))

  pub register_each : (x : Register) (whole lone value : ℕ) → P (reply (Done 0) (with_acr r (acr_after r.acr whole)))
      → P (reply (Done 0) (with_sr r (cleared_by r.sr lone sr_flags))) → P (key_write Cr r value) → P (key_write Optcr r value)
      → ((which : LockOf) → is_busy r.op ≡ false → P (stored timings r len options which whole))
      → P (write_to timings r len options x whole lone value)
  register_each register.Acr whole lone value acr sr key optkey control = acr
  register_each register.Sr whole lone value acr sr key optkey control = sr
  register_each (register.Key Cr) whole lone value acr sr key optkey control = key
  register_each (register.Key Optcr) whole lone value acr sr key optkey control = optkey
  register_each (register.Control which) whole lone value acr sr key optkey control = control_each which whole (control which)

-- a write to flash cells and one to a register, past refusals 9 and 11, and one to the backup SRAM
pub write_each : (timings : List ℕ) (p : Part) (P : Outcome → Type 0) → ((why : Reason) → Plain why → P (kept p (refuse why p.rec)))
    → (area : Area) (a : Access) (value : ℕ)
    → ((place : Place) → area ≡ Flash place → is_busy p.rec.op ≡ false → P (kept p (cell_write timings p.rec p.otp p.options place a value)))
    → ((o : ℕ) → area ≡ Registers o → misaligned o a.width ≡ false
    → P (kept p (register_write timings p.rec (length p.main) p.options (register_at o) o a.width value)))
    → ((o : ℕ) → area ≡ Sram o → P (sram_write p o a value))
    → P (write_outcome timings p area a value)
write_each timings p P bar area a value cells registers sram =
    keep P (not p.rec.power) _ _ (bar NoPower refl)
    (keep P (unconnected a.who p.rec.debugger) _ _ (bar NotConnected refl) (at area refl))
  where
    at : (x : Area) → area ≡ x → P (write_at timings p x a value)
    at (Flash place) e = keep_by (λ y. P (kept p y)) (is_busy p.rec.op) _ _ (λ _. bar Stalled refl) (cells place e)
    at (Registers o) e = keep_by (λ y. P (kept p y)) (misaligned o a.width) _ _ (λ _. bar BadRegisterAccess refl) (registers o e)
    at (Sram o) e = sram o e
    at Outside e = bar OutsideMap refl

-- ---- Booleans

pub by_contra : (t : Bool) → (t ≡ false → ⊥) → t ≡ true
by_contra true f = refl
by_contra false f = absurd (f refl)

pub refute : (t : Bool) → (t ≡ true → ⊥) → t ≡ false
refute true f = absurd (f refl)
refute false f = refl

pub or_left : (a b : Bool) → (a || b) ≡ false → a ≡ false
or_left true b e = e
or_left false b e = refl

pub or_right : (a b : Bool) → (a || b) ≡ false → b ≡ false
or_right true b e = absurd (true≢false e)
or_right false b e = e

pub not_and : (a b : Bool) → not (a && b) ≡ (not a || not b)
not_and true b = refl
not_and false b = refl

pub and_false_right : (a b : Bool) → a ≡ true → (a && b) ≡ false → b ≡ false
and_false_right true b e f = f
and_false_right false b e f = absurd (false≢true e)

pub and_false_left : (a b : Bool) → b ≡ true → (a && b) ≡ false → a ≡ false
and_false_left true b e f = sym e ∙ f
and_false_left false b e f = refl

-- a plain refusal is not done
pub plain_undone : (why : Reason) → Plain why → eqb (number_of why) 0 ≡ false
plain_undone why e = or_left (eqb (number_of why) 0) _ e

-- nor has it one of the other codes
pub plain_other {ℓ} : {A : Type ℓ} (why : Reason) (n : ℕ) → Plain why → is_in n change_codes ≡ true → number_of why ≡ n → A
plain_other why n e among z = absurd (true≢false (sym among ∙ ap (λ k. is_in k change_codes) (sym z) ∙ e))

-- ---- levels

level_cases : (a b : Bool) → eqb (cond a 0 (cond b 2 1)) 0 ≡ false → eqb (cond a 0 (cond b 2 1)) 2 ≡ false → eqb (cond a 0 (cond b 2 1)) 1 ≡ true
level_cases true b p q = absurd (true≢false p)
level_cases false true p q = absurd (true≢false q)
level_cases false false p q = refl

-- a level that is neither 0 nor 2 is 1
pub level_one_lem : (o : List ℕ) → eqb (level_of o) 0 ≡ false → eqb (level_of o) 2 ≡ false → eqb (level_of o) 1 ≡ true
level_one_lem o p q = level_cases (eqb (rdp_of o) 0xAA) (eqb (rdp_of o) 0xCC) p q
