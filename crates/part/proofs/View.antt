-- What any call does to a part, in nine cases: it is refused; a reset; the debugger comes or goes; a read; a write stores fields or raises a flag,
-- starts an operation, or lays bytes in the SRAM; time passes over what runs, or ends it. What holds in each of them holds of the step (`viewed`).
use mathlib.Core.Bool.{Bool, true, false, cond, not, ◌&&◌, ◌||◌, true≢false, false≢true}
use mathlib.Core.List.{List}
use mathlib.Core.Logic.{◌⊎◌, inl, inr}
use mathlib.Core.Path.{◌≡◌, refl, sym, ap, subst, ◌∙◌}
use Prim.Native.Nat.{ℕ, ◌+◌, ◌-◌, ◌≤◌, ◌^◌}
use native.Mathlib.Omega.{arith}
use lib.Bits.{bit_and}
use lib.Dec.{eqb, leb}
use lib.ListN.{length}
use borrow.Author.Tests.{eq-eqb, le-ltb, not-false, le-leb, lt-leb}
use Rattle.std.specs.Prelude.{is_some}
use Rattle.cascade.proofs.Picks.{keep, keep_by}
use Rattle.cells.specs.Bytes.{stored as storedBytes}
use Rattle.lock.specs.Keys.{lock_at}
use Rattle.map.proofs.Laws.{Lies, area_is}
use Rattle.map.specs.Areas.{area_of, main_base, otp_base, otp_length, crosses_row}
use Rattle.map.specs.Protection.{protected_by, any_protected}
use Rattle.map.specs.Sectors.{sectors_in, largest_main}
use Rattle.registers.specs.Fields.{WRPERR, SER, MER, STRT, LOCK, OPTLOCK, OPTSTRT, cr_fields, optcr_fields, snb, psize, rdp, PG, PGAERR, PGPERR, PGSERR}
use Rattle.registers.specs.Fields.{register_at}
use Rattle.registers.specs.Words.{is_set}
use Rattle.part.specs.Calls.{step, reset_part}
use Rattle.part.specs.Operations.{elapsed_over, flagged_or, scrap_short, target_outside}
use Rattle.part.specs.Options.{level_of, nwrp_of}
use Rattle.part.specs.Refusals.{guarded, length_refused, malformed, too_big}
use Rattle.part.specs.Rules.{is_in, main_lengths}
use Rattle.part.specs.State.{Part, Outcome, is_busy, kept, refuse, reply, with_cr, with_debugger, with_lock, with_op, with_optcr, with_sram}
use Rattle.part.specs.Writes.{cell_write, program_flag, erase_flag, erase_target, cr_start, optcr_start, locked_if, protected_at, register_write, stored, written}
use Rattle.part.proofs.Bytes.{wide}
use Rattle.part.proofs.Entries.{sized, access_is, fits_is, listed_small}
use Rattle.part.proofs.Stepped.{Does, Plain, and_false_right, level_one_lem, or_left, step_each, register_each, write_each}
use Rattle.part.proofs.Types.{Running, Flash, Place, OptionCells, Otp, System, SystemAndOtp, Main, LockOf, Cr, Optcr, Closed, Micros, Access, Answer, Done}
use Rattle.part.proofs.Types.{Call, Reset, Read, Write, Fetch, Debugger, Time, Off, On, Lapse, Option, Some, None, ClosedAccess, Reason, Record, Reply}
use Rattle.part.proofs.Types.{Target}
use Rattle.part.proofs.Types.target

-- main flash of a part is no longer than that of twelve sectors
pub part_small : (len : ℕ) → eqb (sectors_in len) 0 ≡ false → len ≤ largest_main
part_small len e = listed_small len (not-false (is_in len main_lengths) (sym (fits_is len) ∙ e))

-- cells that are never programmed raise a flag
pub shut_flag : (cr : ℕ) (a : Access) → is_some (program_flag cr a true) ≡ true
shut_flag cr a =
    let Rises : Option ℕ → Type 0 = λ flag. is_some flag ≡ true in
    keep Rises (not (is_set cr PG)) (Some PGSERR) _ refl (keep Rises (crosses_row a.address a.width) (Some PGAERR) _ refl
    (keep Rises (not (eqb a.width (2 ^ psize cr))) (Some PGPERR) (Some WRPERR) refl refl))

abbrev pub is_options : Target → Bool
is_options (target.Bytes w) = false
is_options (target.Sector k) = false
is_options (target.Main len) = false
is_options target.Options = true
is_options (target.Regression len option) = false

abbrev pub running : Record → Target → Micros → Record
running s t left = with_op s (Some (record { target = t; left = left }))

-- of a record, fields of registers and locks change alone, and OPTCR's only where nothing runs
pub record Stores (r s : Record) : Type 0 where
  pub op : s.op ≡ r.op
  pub power : s.power ≡ r.power
  pub debugger : s.debugger ≡ r.debugger
  pub mark : s.mark ≡ r.mark
  pub optcr : is_busy r.op ≡ true → s.optcr ≡ r.optcr

-- an operation starts where nothing runs, inside main flash of that length or OTP; an option change above level 0 has no AA in RDP
pub record Begins (len : ℕ) (options : List ℕ) (r s : Record) (t : Target) : Type 0 where
  pub idle : is_busy r.op ≡ false
  pub inside : target_outside t len otp_length ≡ false
  pub sure : is_options t ≡ true → eqb (level_of options) 0 ≡ false → eqb (rdp s.optcr) 0xAA ≡ false

-- ---- a write to flash cells or a register

module _ (timings : List ℕ) (len : ℕ) (options : List ℕ) (r : Record) where
  -- it stores, whatever it answers, or starts
  abbrev Wrote : Reply → Type 0
  Wrote y =
      ((s : Record) × Stores r s × (y.rec ≡ s))
      ⊎ ((s : Record) × (t : Target) × (left : Micros) × Stores r s × Begins len options r s t × (y ≡ reply (Done 0) (running s t left)))

  same : Stores r r
  same = record { op = refl; power = refl; debugger = refl; mark = refl; optcr = λ _. refl }

  kept_by : (y : Reply) → Stores r y.rec → Wrote y
  kept_by y k = inl (y.rec, k, refl)

  flagged_or_by : (s : Record) (f : Option ℕ) (t : Target) (left : Micros) → Stores r s → (is_some f ≡ false → Begins len options r s t)
      → Wrote (flagged_or s f t left)
  flagged_or_by s None t left k g = inr (s, t, left, k, g refl, refl)
  flagged_or_by s (Some flag) t left k g = kept_by _ (record { op = k.op; power = k.power; debugger = k.debugger; mark = k.mark; optcr = k.optcr })

  locked_stores : (which : LockOf) (s : Record) → Stores r s → Stores r (with_lock which s (lock_at Closed))
  locked_stores Cr s k = record { op = k.op; power = k.power; debugger = k.debugger; mark = k.mark; optcr = k.optcr }
  locked_stores Optcr s k = record { op = k.op; power = k.power; debugger = k.debugger; mark = k.mark; optcr = k.optcr }

  -- the lock closes in the same write
  locked_by : (which : LockOf) (t : Bool) (y : Reply) → Wrote y → Wrote (locked_if which t y)
  locked_by which false y (inl (s, k, e)) = inl (s, k, e)
  locked_by which false y (inr k) = inr k
  locked_by which true y (inl (s, k, e)) =
      inl (with_lock which s (lock_at Closed), locked_stores which s k, ap (λ (z : Record). with_lock which z (lock_at Closed)) e)
  locked_by Cr true y (inr (s, t, left, k, b, e)) =
      inr (
        with_lock Cr s (lock_at Closed),
        t,
        left,
        locked_stores Cr s k,
        record { idle = b.idle; inside = b.inside; sure = b.sure },
        ap (locked_if Cr true) e,
      )
  locked_by Optcr true y (inr (s, t, left, k, b, e)) =
      inr (
        with_lock Optcr s (lock_at Closed),
        t,
        left,
        locked_stores Optcr s k,
        record { idle = b.idle; inside = b.inside; sure = b.sure },
        ap (locked_if Optcr true) e,
      )

  same_length : not (eqb len len) ≡ false
  same_length = ap not (eq-eqb len len refl)

  -- an erase that no flag stops has a sector that is there, or all of main flash
  erase_in : (w n nwrp : ℕ) (guard : Bool) → n ≡ sectors_in len → is_some (erase_flag w n nwrp guard) ≡ false
      → (target_outside (erase_target w len) len otp_length ≡ false) × (is_options (erase_target w len) ≡ false)
  erase_in w n nwrp guard e =
      at (is_set w SER) (is_set w MER) (leb n (snb w)) refl
    where
      at : (ser mer absent : Bool) → leb n (snb w) ≡ absent
          → is_some (cond (not ser && not mer) (Some 0x80)
          (cond ((ser && mer) || (ser && absent) || cond ser (protected_by nwrp (snb w)) (any_protected nwrp n) || guard) (Some WRPERR) None)) ≡ false
          → (let t : Target = cond ser (target.Sector (snb w)) (target.Main len) in (target_outside t len otp_length ≡ false) × (is_options t ≡ false))
      at true true absent a z = absurd (true≢false z)
      at true false true a z = absurd (true≢false z)
      at true false false a z = (ap (λ (k : ℕ). leb k (snb w)) (sym e) ∙ a, refl)
      at false mer absent a z = (same_length, refl)

  -- OPTCR is written only while nothing runs; then an option change starts only if it does not bring level 0
  stored_by : (w : ℕ) (which : LockOf) → is_busy r.op ≡ false → Wrote (stored timings r len options which w)
  stored_by w Cr idle =
      let s = with_cr r (bit_and w cr_fields) in
      let k : Stores r s = record { op = refl; power = refl; debugger = refl; mark = refl; optcr = λ _. refl } in
      locked_by Cr (is_set w LOCK) (cr_start timings s len options w)
      (keep Wrote (is_set w STRT) _ _
      (flagged_or_by s (erase_flag w (sectors_in len) (nwrp_of options) (guarded r.mark options)) (erase_target w len) _ k (λ z.
      let (inside, other) = erase_in w (sectors_in len) (nwrp_of options) (guarded r.mark options) refl z in
      record { idle = idle; inside = inside; sure = λ c. absurd (true≢false (sym c ∙ other)) }))
      (kept_by _ k))
  stored_by w Optcr idle =
      let s = with_optcr r (bit_and w optcr_fields) in
      let k : Stores r s = record { op = refl; power = refl; debugger = refl; mark = refl; optcr = λ b. absurd (true≢false (sym b ∙ idle)) } in
      locked_by Optcr (is_set w OPTLOCK) (optcr_start timings s len options w)
      (keep Wrote (is_set w OPTSTRT) _ _
      (keep_by Wrote (eqb (level_of options) 2) _ _ (λ _. kept_by _ (record { op = refl; power = refl; debugger = refl; mark = refl; optcr = k.optcr }))
      (λ not2. keep_by Wrote (eqb (level_of options) 1 && eqb (rdp s.optcr) 0xAA) _ _
      (λ _. inr (s, _, _, k, record { idle = idle; inside = same_length; sure = λ c. absurd (false≢true c) }, refl))
      (λ other. inr (
        s,
        target.Options,
        _,
        k,
        record {
          idle = idle;
          inside = refl;
          sure = λ _ above. and_false_right (eqb (level_of options) 1) (eqb (rdp s.optcr) 0xAA) (level_one_lem options above not2) other;
        },
        refl,
      ))))
      (kept_by _ k))

  -- the bytes that a write to main flash or OTP programs lie inside; other cells are never programmed
  place_in : len ≤ largest_main → (otp : List ℕ) (a : Access) (v : ℕ) (place : Place) → Lies len a.address a.width (Flash place)
      → is_some (program_flag r.cr a (protected_at (nwrp_of options) otp place || guarded r.mark options)) ≡ false
      → target_outside (target.Bytes (written a v)) len otp_length ≡ false
  place_in small otp a v (Main o) (l, h) e =
      rw (lt-leb otp_base a.address (omega arith)) (le-ltb len (a.address - main_base + a.width) (omega arith))
  place_in small otp a v (System o) l e = absurd (false≢true (sym e ∙ shut_flag r.cr a))
  place_in small otp a v (Otp o) (l, h) e =
      rw (le-leb otp_base a.address (omega arith)) (le-ltb otp_length (a.address - otp_base + a.width) (omega arith))
  place_in small otp a v (SystemAndOtp o) l e = absurd (false≢true (sym e ∙ shut_flag r.cr a))
  place_in small otp a v (OptionCells o) l e = absurd (false≢true (sym e ∙ shut_flag r.cr a))

-- ---- every call

-- P of each case, for a call on the part p
pub record View (P : Call → Outcome → Type 0) (scrap : List ℕ) (p : Part) : Type 0 where
  pub refused : (c : Call) (why : Reason) → Plain why → P c (kept p (refuse why p.rec))
  pub reset : (boot : ℕ) → scrap_short p.rec.op (length p.main) (length scrap) ≡ false
      → P (Reset boot) (record { answer = Done 0; part = reset_part scrap p boot })
  pub on : eqb (level_of p.options) 2 ≡ false → P (Debugger On) (kept p (reply (Done 0) (with_debugger p.rec true true)))
  pub off : P (Debugger Off) (kept p (reply (Done 0) (with_debugger p.rec false p.rec.mark)))
  pub told : (a : Access) (b : Answer) → P (Read a) (kept p (reply b p.rec))
  pub fetched : (address : ℕ) (b : Answer) → P (Fetch address) (kept p (reply b p.rec))
  pub stored : (a : Access) (v : ℕ) (b : Answer) (s : Record) → Stores p.rec s → P (Write a v) (kept p (reply b s))
  pub started : (a : Access) (v : ℕ) (s : Record) (t : Target) (left : Micros) → Stores p.rec s → Begins (length p.main) p.options p.rec s t
      → P (Write a v) (kept p (reply (Done 0) (running s t left)))
  pub laid : (a : Access) (v o : ℕ) → P (Write a v) (record { answer = Done 0; part = with_sram p (storedBytes p.sram o a.width v) })
  pub passed : (t : Lapse) (b : Answer) (op : Option Running) → p.rec.op ≡ op → (left : Micros)
      → P (Time t) (record { answer = b; part = elapsed_over p op left })

module _ (P : Call → Outcome → Type 0) (timings scrap : List ℕ) (p : Part) (k : View P scrap p) where
  abbrev r : Record
  r = p.rec

  abbrev len : ℕ
  len = length p.main

  -- a write that leaves that reply
  abbrev Q : Access → ℕ → Reply → Type 0
  Q a v y = P (Write a v) (kept p y)

  abbrev W : Reply → Type 0
  W = Wrote timings len p.options r

  by : (a : Access) (v : ℕ) (y : Reply) → W y → Q a v y
  by a v y (inl (s, st, e)) = subst (λ (z : Record). Q a v (reply y.answer z)) (sym e) (k.stored a v y.answer s st)
  by a v y (inr (s, t, left, st, b, e)) = subst (Q a v) (sym e) (k.started a v s t left st b)

  cells_by : len ≤ largest_main → (a : Access) (v : ℕ) (place : Place) → Lies len a.address a.width (Flash place) → is_busy r.op ≡ false
      → W (cell_write timings r p.otp p.options place a v)
  cells_by small a v place l idle =
      let flag = program_flag r.cr a (protected_at (nwrp_of p.options) p.otp place || guarded r.mark p.options) in
      flagged_or_by timings len p.options r r flag (target.Bytes (written a v)) _ (same timings len p.options r) (λ z. record {
        idle = idle;
        inside = place_in timings len p.options r small p.otp a v place l z;
        sure = λ c. absurd (false≢true c);
      })

  register_by : (o width v : ℕ) → W (register_write timings r len p.options (register_at o) o width v)
  register_by o width v =
      let fields : (y : Reply) → Stores r y.rec → W y = kept_by timings len p.options r in
      let still : (s : Record) → s.op ≡ r.op → s.power ≡ r.power → s.debugger ≡ r.debugger → s.mark ≡ r.mark → s.optcr ≡ r.optcr → Stores r s =
      λ s op power debugger mark optcr. record { op = op; power = power; debugger = debugger; mark = mark; optcr = λ _. optcr } in
      register_each timings r len p.options W (λ why _. fields _ (same timings len p.options r)) (register_at o) _ _ v
      (fields _ (still _ refl refl refl refl refl)) (fields _ (still _ refl refl refl refl refl)) (fields _ (still _ refl refl refl refl refl))
      (fields _ (still _ refl refl refl refl refl)) (stored_by timings len p.options r _)

  does : (c : Call) → length_refused timings p ≡ false → malformed c ≡ false → Does (P c) timings scrap c p
  does (Reset boot) fits ok = k.reset boot
  does (Debugger On) fits ok = k.on
  does (Debugger Off) fits ok = k.off
  does (Read a) fits ok = k.told a _
  does (Fetch address) fits ok = k.fetched address _
  does (Time t) fits ok = k.passed t _ r.op refl _
  does (Write a v) fits ok =
      let small = part_small len (or_left _ _ (or_left _ _ (or_left _ _ (or_left _ _ (or_left _ _ fits))))) in
      let (some, few) = wide a (sized a (sym (access_is a) ∙ or_left _ (too_big a.width v) ok)) in
      write_each timings p (P (Write a v)) (k.refused (Write a v)) (area_of len a.address a.width) a v
      (λ place q idle. by a v _ (cells_by small a v place ((area_is len a.address a.width small some few (Flash place)).0 q) idle))
      (λ o _ _. by a v _ (register_by o a.width v))
      (λ o _. keep (P (Write a v)) (guarded r.mark p.options) _ _ (k.refused (Write a v) ClosedAccess refl) (k.laid a v o))

  pub viewed : (c : Call) → P c (step timings scrap c p)
  viewed c = step_each (P c) timings scrap c p (k.refused c) (does c)
