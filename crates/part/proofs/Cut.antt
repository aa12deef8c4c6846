-- What a reset leaves: the record, and the cells where it cuts an operation, byte by byte.
use mathlib.Core.Bool.{Bool, true, false, not, cond, ◌&&◌, ◌||◌, true≢false}
use mathlib.Core.List.{List, [], ◌∷◌}
use mathlib.Core.Logic.{◌⊎◌, inl, inr}
use mathlib.Core.Path.{◌≡◌, refl, sym, ap, subst, ◌∙◌}
use Prim.Native.Nat.{ℕ, zero, suc, ◌+◌, ◌-◌, ◌/◌, ◌%◌, ◌^◌, ◌≤◌, ◌<◌}
use native.Mathlib.Nat.{mod-lt, sub-zero}
use native.Mathlib.Omega.{arith}
use lib.Bits.{bit_and, bit_or}
use lib.Dec.{eqb, leb, ltb, lit<}
use lib.ListN.{length, get_or, drop, replicate, set, get_or-eq_default}
use borrow.Author.Tests.{leb-true, le-leb, lt-leb, ltb-true, ltb-false, lt-ltb, le-ltb}
use Rattle.cascade.proofs.Picks.{keep, keep_by}
use Rattle.cells.proofs.Laws.{programmed_length, programmed_byte_lem, programmed_other, scrapped_length, scrapped_byte, scrapped_other, sparing_byte}
use Rattle.cells.specs.Bytes.{programmed, scrapped, sparing}
use Rattle.map.specs.Sectors.{sector_start, sector_length}
use Rattle.registers.proofs.Laws.{bit_and_lem, bit_or_lem}
use Rattle.time.specs.Units.{micros}
use Rattle.part.specs.Calls.{step, reset_record}
use Rattle.part.specs.Effects.{AreBytes, Cuts, Holds, IsReset, OneOfThree, OnlyFalls, Programs, ResetEffect, Same, changed_byte, one_of_three, scrap_byte}
use Rattle.part.specs.Effects.{spared_byte}
use Rattle.part.specs.Operations.{cut, cut_by, erasing, scrap_short, target_length}
use Rattle.part.specs.Options.{changed_options, cut_option, cut_options, regressed_options}
use Rattle.part.specs.Rules.{bit, among, operation_fits, scrap_wanted, target_bytes, target_fits}
use Rattle.part.specs.State.{Part, code_of, fresh, having, part, with_debugger, with_main, with_op, with_optcr, with_otp}
use Rattle.part.proofs.Effects.{by_among, filled_holds, fitting}
use Rattle.part.proofs.Entries.{entry1_is, level_2}
use Rattle.part.proofs.RegisterBits.{by_order, changed_bytes, changed_length, changed_small, loaded, set_byte}
use Rattle.part.proofs.Stepped.{and_false_right, or_left, plain_other, step_each}
use Rattle.part.proofs.Types.{Running, Micros, Option, None, Some, Record, Reset, Target, Written}
use Rattle.part.proofs.Types.target

-- ---- option cells

-- an option cell is one of three
by_third : (P : ℕ → Type 0) (r : ℕ) → r < 3 → P 0 → P 1 → P 2 → P r
by_third P zero h a b c = a
by_third P (suc zero) h a b c = b
by_third P (suc (suc zero)) h a b c = c
by_third P (suc (suc (suc n))) h a b c = absurd (omega arith)

third_is : (scrap old new : ℕ) → cut_option old new scrap ≡ one_of_three scrap old new
third_is scrap old new =
    by_third (λ r. cond (eqb r 0) old (cond (eqb r 1) 255 new) ≡ cond (eqb r 2) new (cond (eqb r 1) 0xFF old)) (scrap % 3) (mod-lt scrap (lit< tt))
    refl refl refl

pub one_of_three_lem : OneOfThree
one_of_three_lem scrap old new =
    let P : ℕ → Type 0 = λ r.
    let x : ℕ = cond (eqb r 2) new (cond (eqb r 1) 0xFF old) in
    (x ≡ old) ⊎ (x ≡ 0xFF) ⊎ (x ≡ new) in
    by_third P (scrap % 3) (mod-lt scrap (lit< tt)) (inl refl) (inr (inl refl)) (inr (inr refl))

-- what holds of each of the three holds of the cell
pub third_each : (P : ℕ → Type 0) (scrap old new : ℕ) → P old → P 255 → P new → P (cut_option old new scrap)
third_each P scrap old new a b c = keep P (eqb (scrap % 3) 0) old _ a (keep P (eqb (scrap % 3) 1) 255 new b c)

pub cut_length : (s new scrap : List ℕ) → length (cut_options s new scrap) ≡ length s
cut_length [] new scrap = refl
cut_length (b ∷ s) new scrap = ap suc (cut_length s (drop 1 new) (drop 1 scrap))

pub behind : (s : List ℕ) (i : ℕ) → get_or (drop 1 s) i 0 ≡ get_or s (suc i) 0
behind [] i = refl
behind (b ∷ s) i = refl

pub cut_byte : (s new scrap : List ℕ) (i : ℕ) → i < length s → get_or (cut_options s new scrap) i 0 ≡ cut_option (get_or s i 0) (get_or new i 0) (get_or scrap i 0)
cut_byte [] new scrap i h = absurd (omega arith)
cut_byte (b ∷ s) new scrap zero h = refl
cut_byte (b ∷ s) new scrap (suc i) h = cut_byte s (drop 1 new) (drop 1 scrap) i (omega arith) ∙ rw (behind new i, behind scrap i) refl

cut_holds : (s new scrap : List ℕ) (f : ℕ → ℕ) → length s ≡ 16 → ((i : ℕ) → i < 16 → get_or new i 0 ≡ f i)
    → Holds (cut_options s new scrap) 16 (λ i. one_of_three (get_or scrap i 0) (get_or s i 0) (f i))
cut_holds s new scrap f sixteen e =
    record {
      count = cut_length s new scrap ∙ sixteen;
      byte = λ i h.
          cut_byte s new scrap i (rw sixteen h) ∙ third_is (get_or scrap i 0) (get_or s i 0) (get_or new i 0)
          ∙ ap (one_of_three (get_or scrap i 0) (get_or s i 0)) (e i h);
    }

-- bytes stay bytes
cut_bytes : (s new scrap : List ℕ) → AreBytes s → AreBytes new → AreBytes (cut_options s new scrap)
cut_bytes [] new scrap a b i = a i
cut_bytes (x ∷ s) new scrap a b zero = third_each (λ z. z < 256) (get_or scrap 0 0) x (get_or new 0 0) (a 0) (lit< tt) (b 0)
cut_bytes (x ∷ s) new scrap a b (suc i) = cut_bytes s (drop 1 new) (drop 1 scrap) (λ i. a (suc i)) (λ i. rw (behind new i) (b (suc i))) i

-- ---- main flash and OTP

spared_holds : (s : List ℕ) (w : Written) (scrap : List ℕ) → AreBytes scrap → w.offset + w.width ≤ length s
    → Holds (programmed s w.offset w.width (sparing w.width w.value scrap)) (length s) (spared_byte scrap w s)
spared_holds s w scrap bytes fits =
    let value = sparing w.width w.value scrap in
    record {
      count = programmed_length s w.offset w.width value;
      byte = λ j h.
          by_among (λ z. get_or (programmed s w.offset w.width value) j 0 ≡ z) j w.offset w.width _ _
          (λ a b. programmed_byte_lem s w.offset w.width value j a b h
          ∙ ap (bit_and (get_or s j 0)) (sparing_byte w.width w.value scrap bytes (j - w.offset) (omega arith)))
          (λ out. programmed_other s w.offset w.width value j (λ a b _. out a b));
    }

scrapped_holds : (s : List ℕ) (start n : ℕ) (scrap : List ℕ) → start + n ≤ length s → n ≤ length scrap
    → Holds (scrapped s start n scrap) (length s) (scrap_byte scrap start n s)
scrapped_holds s start n scrap fits room =
    record {
      count = scrapped_length s start n scrap;
      byte = λ j h.
          by_among (λ z. get_or (scrapped s start n scrap) j 0 ≡ z) j start n _ _
          (scrapped_byte s start n scrap fits room j) (scrapped_other s start n scrap fits room j);
    }

all_scrapped : (s scrap : List ℕ) → length s ≤ length scrap → Holds (scrapped s 0 (length s) scrap) (length s) (λ j. get_or scrap j 0)
all_scrapped s scrap room =
    record {
      count = scrapped_length s 0 (length s) scrap;
      byte = λ j h. scrapped_byte s 0 (length s) scrap (omega arith) room j (omega arith) (omega arith) ∙ rw (sub-zero j) refl;
    }

pub only_falls : OnlyFalls
only_falls scrap w s j =
    let i = j - w.offset in
    let old = get_or s j 0 in
    let written = w.value / 256 ^ i % 256 in
    let saved = get_or scrap i 0 in
    let here = among j w.offset w.width in
    let bits : (k : ℕ) → bit (bit_and old (bit_or written saved)) k ≡ (bit old k && (bit written k || bit saved k)) =
    λ k. bit_and_lem old (bit_or written saved) k ∙ ap (λ (b : Bool). bit old k && b) (bit_or_lem written saved k) in (
      λ out. rw out refl,
      λ k low. keep (λ (z : ℕ). bit z k ≡ false) here _ old (bits k ∙ rw low refl) low,
      λ k high. keep (λ (z : ℕ). bit z k ≡ false → bit written k ≡ false) here _ old
          (λ low. or_left (bit written k) (bit saved k) (and_false_right (bit old k) _ high (sym (bits k) ∙ low)))
          (λ low. absurd (true≢false (sym high ∙ low))),
    )

-- ---- the cut

module _ (p : Part) (scrap : List ℕ) (sixteen : length p.options ≡ 16) (bytes : AreBytes p.options) (scraps : AreBytes scrap) where
  changed_new : AreBytes (changed_options p.options p.rec.optcr)
  changed_new i =
      by_order (get_or (changed_options p.options p.rec.optcr) i 0 < 256) 16 i
      (λ l. rw (get_or-eq_default (changed_options p.options p.rec.optcr) 0 {n = i} (rw (changed_length p.options p.rec.optcr, sixteen) l))
      (lit< tt))
      (λ l. rw (changed_bytes p.options p.rec.optcr i sixteen l) (changed_small p.rec.optcr i))

  regressed_byte : (i : ℕ) → get_or (regressed_options p.options) i 0 ≡ cond (eqb i 1) 0xAA (get_or p.options i 0)
  regressed_byte i = set_byte p.options 1 0xAA i (rw sixteen (lit< tt))

  regressed_new : AreBytes (regressed_options p.options)
  regressed_new i = rw (regressed_byte i) (keep (λ (z : ℕ). z < 256) (eqb i 1) 0xAA (get_or p.options i 0) (lit< tt) (bytes i))

  -- the option cells after a cut are bytes
  target_bytes_lem : (t : Target) (left : Micros) → AreBytes (cut_by p t left scrap).options
  target_bytes_lem (target.Bytes w) left = bytes
  target_bytes_lem (target.Sector k) left = bytes
  target_bytes_lem (target.Main len) left = bytes
  target_bytes_lem target.Options left = cut_bytes p.options (changed_options p.options p.rec.optcr) scrap bytes changed_new
  target_bytes_lem (target.Regression len option) left =
      keep (λ (q : Part). AreBytes q.options) (erasing option left) _ _ bytes
      (cut_bytes p.options (regressed_options p.options) scrap bytes regressed_new)

  operation_bytes : (op : Option Running) → AreBytes (cut p op scrap).options
  operation_bytes None = bytes
  operation_bytes (Some running) = target_bytes_lem running.target running.left

  programs_cut : (r : Record) (w : Written) (otp : Bool) → leb (w.offset + w.width) (cond otp (length p.otp) (length p.main)) ≡ true
      → (let value = sparing w.width w.value scrap in
      Programs otp (spared_byte scrap w) p
      (having (with_otp (with_main p (cond otp p.main (programmed p.main w.offset w.width value)))
      (cond otp (programmed p.otp w.offset w.width value) p.otp)) r))
  programs_cut r w true fits = (refl, spared_holds p.otp w scrap scraps (leb-true (w.offset + w.width) (length p.otp) fits))
  programs_cut r w false fits = (spared_holds p.main w scrap scraps (leb-true (w.offset + w.width) (length p.main) fits), refl)

  cuts : (r : Record) (t : Target) (left : Micros) → target_fits t p ≡ true → ltb (length scrap) (target_length t left (length p.main)) ≡ false
      → Cuts scrap p t left.0 (having (cut_by p t left scrap) r)
  cuts r (target.Bytes w) left fits room = (programs_cut r w w.otp fits, refl, refl)
  cuts r (target.Sector k) left fits room = (
    scrapped_holds p.main (sector_start k) (sector_length k) scrap (leb-true (sector_start k + sector_length k) (length p.main) fits)
        (ltb-false (length scrap) (sector_length k) room),
    refl,
    refl,
    refl,
  )
  cuts r (target.Main len) left fits room = (all_scrapped p.main scrap (ltb-false (length scrap) (length p.main) room), refl, refl, refl)
  cuts r target.Options left fits room = (
    refl,
    refl,
    refl,
    cut_holds p.options (changed_options p.options p.rec.optcr) scrap (changed_byte p.rec.optcr) sixteen (λ i h.
        changed_bytes p.options p.rec.optcr i sixteen h),
  )
  cuts r (target.Regression len option) left fits room =
      let P : Part → Type 0 = λ q.
      (q.otp ≡ p.otp)
      × (option.0 < left.0 → Holds q.main (length p.main) (λ j. get_or scrap j 0) × (q.options ≡ p.options) × (q.sram ≡ p.sram))
      × (left.0 ≤ option.0
      → Holds q.main (length p.main) (λ j. 255) × Holds q.sram (length p.sram) (λ j. 0)
      × Holds q.options 16 (λ i. one_of_three (get_or scrap i 0) (get_or p.options i 0) (cond (eqb i 1) 0xAA (get_or p.options i 0)))) in
      keep_by P (erasing option left) _ _
      (λ first.
      let more = ltb-true option.0 left.0 first in
      let enough = ltb-false (length scrap) (length p.main) (rw first at room) in
      (refl, (λ _. (all_scrapped p.main scrap enough, refl, refl)), (λ less. absurd (omega arith))))
      (λ second.
      let less = ltb-false option.0 left.0 second in
      let options = cut_holds p.options (regressed_options p.options) scrap (λ i. cond (eqb i 1) 0xAA (get_or p.options i 0)) sixteen
      (λ i _. regressed_byte i) in
      (refl, (λ more. absurd (omega arith)), (λ _. (filled_holds (length p.main) 255, filled_holds (length p.sram) 0, options))))

-- ---- the reset

pub reset_effect : ResetEffect
reset_effect timings scrap boot p bytes scraps =
    step_each (λ o. code_of o.answer ≡ 0 → IsReset scrap p boot o.part) timings scrap (Reset boot) p (λ why plain e. plain_other why 0 plain refl e)
    (λ fits _ room _.
    let now = fitting timings p (sym (entry1_is timings p) ∙ fits) in
    let over : Option Running → Part = λ op. cut p op scrap in
    let options = (over p.rec.op).options in
    let rec = reset_record p.rec options boot in
    record {
      fields = ap (λ (b : Bool). with_debugger rec (p.rec.debugger && not b) rec.mark) (level_2 options);
      optcr = loaded options (operation_bytes p scrap now.options bytes scraps p.rec.op);
      idle = λ e. subst (λ op. Same p (having (over op) rec)) (sym e) (record { main = refl; otp = refl; options = refl; sram = refl });
      cut = λ running e.
          subst (λ op. operation_fits op p ≡ true → scrap_short op (length p.main) (length scrap) ≡ false
          → Cuts scrap p running.target running.left.0 (having (over op) rec)) (sym e)
          (cuts p scrap now.options bytes scraps rec running.target running.left) now.op room;
    })

-- ---- entry 21

-- the bytes that are being changed
length_is : (t : Target) (left : Micros) (p : Part) → target_length t left (length p.main) ≡ target_bytes t left.0 p
length_is (target.Bytes w) left p = refl
length_is (target.Sector k) left p = refl
length_is (target.Main len) left p = refl
length_is target.Options left p = refl
length_is (target.Regression len option) left p =
    by_order (cond (erasing option left) (length p.main) 16 ≡ cond (leb left.0 option.0) 16 (length p.main)) left.0 option.0
    (λ l. rw (le-ltb option.0 left.0 l, le-leb left.0 option.0 l) refl)
    (λ l. rw (lt-ltb option.0 left.0 l, lt-leb left.0 option.0 l) refl)

pub short_is : (op : Option Running) (n : ℕ) (p : Part) → scrap_short op (length p.main) n ≡ ltb n (scrap_wanted op p)
short_is None n p = sym (le-ltb n 0 (omega arith))
short_is (Some running) n p = ap (λ (k : ℕ). ltb n k) (length_is running.target running.left p)

-- ---- worked

-- a part of one sector with that RDP and CC pending in OPTCR, on which something runs
abbrev running_on : ℕ → Target → ℕ → Part
running_on rdp t left =
    part (with_op (with_optcr fresh 0x0000_CC00) (Some (record { target = t; left = micros left }))) (replicate 16_384 255) (replicate 528 255)
    (set (replicate 16 255) 1 rdp) (replicate 4096 0)

abbrev reset_code : List ℕ → ℕ → Part → ℕ
reset_code scrap boot p = code_of (step (replicate 24 1000) scrap (Reset boot) p).answer

-- boot 1 is judged at level 0, before the cut brings level 2; at level 2 it is refused before scrap is asked for; a regression with its option time
-- left wants 16 bytes, and with a microsecond more all of main flash
pub reset_worked : (reset_code (replicate 16 2) 1 (running_on 0xAA target.Options 500) ≡ 0)
    × (reset_code [] 1 (running_on 0xCC target.Options 500) ≡ 16) × (reset_code [] 0 (running_on 0xCC target.Options 500) ≡ 21)
    × (reset_code (replicate 16 0) 0 (running_on 0x00 (target.Regression 16_384 (micros 1000)) 1000) ≡ 0)
    × (reset_code (replicate 16 0) 0 (running_on 0x00 (target.Regression 16_384 (micros 1000)) 1001) ≡ 21)
reset_worked = (refl, refl, refl, refl, refl)
