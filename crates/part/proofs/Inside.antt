-- Refusal 1 stays away: what a call starts lies inside the buffers that were lent to it, and no call changes a buffer's length. So where the
-- lengths fit a part, they fit it after every call.
use mathlib.Core.Bool.{Bool, true, false, not, ◌||◌}
use mathlib.Core.List.{List}
use mathlib.Core.Path.{◌≡◌, refl, sym, ap, ◌∙◌}
use Prim.Native.Nat.{ℕ, ◌-◌}
use lib.Dec.{eqb, ltb}
use lib.ListN.{length, length-replicate, length-set}
use borrow.Author.Tests.{eqb-true, not-false}
use Rattle.cascade.proofs.Picks.{keep}
use Rattle.cells.proofs.Laws.{programmed_length, erased_length, stored_length, scrapped_length}
use Rattle.cells.specs.Bytes.{stored as storedBytes, sparing}
use Rattle.map.specs.Areas.{otp_length, option_length, sram_length}
use Rattle.map.specs.Sectors.{sectors_in, sector_start, sector_length}
use Rattle.time.specs.Units.{micros}
use Rattle.part.specs.Calls.{step, reset_part}
use Rattle.part.specs.Operations.{cut, cut_by, elapsed_over, ended, erasing, operation_outside, target_outside}
use Rattle.part.specs.Options.{changed_options, regressed_options}
use Rattle.part.specs.Refusals.{bad_length, length_refused}
use Rattle.part.specs.State.{Part, Outcome, having, with_op, with_debugger, with_sram}
use Rattle.part.proofs.Cut.{cut_length}
use Rattle.part.proofs.Stepped.{or_left, or_right}
use Rattle.part.proofs.View.{running, viewed}
use Rattle.part.proofs.Types.{Running, Micros, Call}
use Rattle.part.proofs.Types.{Option, None, Some, Record, Target}
use Rattle.part.proofs.Types.target

-- ---- lengths that fit

-- the tests of refusal 1 that look at no operation
abbrev unfit : Part → ℕ → Bool
unfit p timings =
    eqb (sectors_in (length p.main)) 0 || not (eqb (length p.otp) otp_length) || not (eqb (length p.options) option_length)
    || not (eqb (length p.sram) sram_length) || not (eqb timings 24)

otp_fits : (p : Part) (timings : ℕ) → unfit p timings ≡ false → length p.otp ≡ otp_length
otp_fits p timings e =
    eqb-true (length p.otp) otp_length
    (not-false (eqb (length p.otp) otp_length) (or_right (eqb (sectors_in (length p.main)) 0) (not (eqb (length p.otp) otp_length))
    (or_left _ (not (eqb (length p.options) option_length)) (or_left _ (not (eqb (length p.sram) sram_length)) (or_left _ (not (eqb timings 24)) e)))))

module _ (timings : List ℕ) where
  abbrev Fits : Part → Type 0
  Fits p = length_refused timings p ≡ false

  -- other cells of the same lengths, and an operation that lies inside
  refit : (p q : Part) → Fits p → length q.main ≡ length p.main → length q.otp ≡ length p.otp → length q.options ≡ length p.options
      → length q.sram ≡ length p.sram → operation_outside q.rec.op (length p.main) (length p.otp) ≡ false → Fits q
  refit p q k m o c s i =
      (λ j. bad_length q.rec.op (m j) (o j) (c j) (s j) (length timings)) ∙ (λ j. or_left (unfit p (length timings)) _ k j || i j)

  module _ (p : Part) (k : Fits p) where
    abbrev r : Record
    r = p.rec

    abbrev len : ℕ
    len = length p.main

    fit : unfit p (length timings) ≡ false
    fit = or_left (unfit p (length timings)) _ k

    runs : operation_outside r.op len (length p.otp) ≡ false
    runs = or_right (unfit p (length timings)) _ k

    -- a call that changes no cell
    same_cells : (s : Record) → operation_outside s.op len (length p.otp) ≡ false → Fits (having p s)
    same_cells s i = refit p (having p s) k refl refl refl refl i

    abbrev After : Outcome → Type 0
    After o = Fits o.part

    abbrev SameLengths : Part → Type 0
    SameLengths q =
        (length q.main ≡ len) × (length q.otp ≡ length p.otp) × (length q.options ≡ length p.options) × (length q.sram ≡ length p.sram)

    -- the end of an operation keeps every length
    ended_fits : (t : Target) → target_outside t len (length p.otp) ≡ false → Fits (ended p t)
    ended_fits (target.Bytes w) i =
        refit p (ended p (target.Bytes w)) k
        (keep (λ (l : List ℕ). length l ≡ len) w.otp _ _ refl (programmed_length p.main w.offset w.width w.value))
        (keep (λ (l : List ℕ). length l ≡ length p.otp) w.otp _ _ (programmed_length p.otp w.offset w.width w.value) refl)
        refl refl refl
    ended_fits (target.Sector n) i = refit p (ended p (target.Sector n)) k (erased_length p.main (sector_start n) (sector_length n)) refl refl refl refl
    ended_fits (target.Main n) i = refit p (ended p (target.Main n)) k (length-replicate len 255) refl refl refl refl
    ended_fits target.Options i = refit p (ended p target.Options) k refl refl (simp (length-set, length-replicate)) refl refl
    ended_fits (target.Regression n option) i =
        refit p (ended p (target.Regression n option)) k (length-replicate len 255) refl (length-set p.options 1 0xAA)
        (length-replicate (length p.sram) 0) refl

    -- and so does its cut
    target_lengths : (scrap : List ℕ) (t : Target) (left : Micros) → SameLengths (cut_by p t left scrap)
    target_lengths scrap (target.Bytes w) left =
        let value = sparing w.width w.value scrap in (
          keep (λ (l : List ℕ). length l ≡ len) w.otp _ _ refl (programmed_length p.main w.offset w.width value),
          keep (λ (l : List ℕ). length l ≡ length p.otp) w.otp _ _ (programmed_length p.otp w.offset w.width value) refl,
          refl,
          refl,
        )
    target_lengths scrap (target.Sector n) left = (scrapped_length p.main (sector_start n) (sector_length n) scrap, refl, refl, refl)
    target_lengths scrap (target.Main n) left = (scrapped_length p.main 0 len scrap, refl, refl, refl)
    target_lengths scrap target.Options left = (refl, refl, cut_length p.options (changed_options p.options r.optcr) scrap, refl)
    target_lengths scrap (target.Regression n option) left =
        keep SameLengths (erasing option left) _ _ (scrapped_length p.main 0 len scrap, refl, refl, refl)
        (length-replicate len 255, refl, cut_length p.options (regressed_options p.options) scrap, length-replicate (length p.sram) 0)

    cut_lengths : (scrap : List ℕ) (op : Option Running) → SameLengths (cut p op scrap)
    cut_lengths scrap None = (refl, refl, refl, refl)
    cut_lengths scrap (Some running) = target_lengths scrap running.target running.left

    elapsed_fits : (op : Option Running) (t : Micros) → operation_outside op len (length p.otp) ≡ false → Fits (elapsed_over p op t)
    elapsed_fits None t i = k
    elapsed_fits (Some running) t i =
        keep Fits (ltb t.0 running.left.0) _ _
        (same_cells (with_op r (Some (record { target = running.target; left = micros (running.left.0 - t.0) }))) i) (ended_fits running.target i)

    -- lengths that fit a part fit it after every call
    pub next_fits : (scrap : List ℕ) (c : Call) → Fits (step timings scrap c p).part
    next_fits scrap =
        let e = otp_fits p (length timings) fit in
        viewed (λ c. After) timings scrap p (record {
          refused = λ _ _ _. k;
          reset = λ boot _.
              let (m, o, c, s) = cut_lengths scrap r.op in
              refit p (reset_part scrap p boot) k m o c s refl;
          on = λ _. same_cells (with_debugger r true true) runs;
          off = same_cells (with_debugger r false r.mark) runs;
          told = λ _ _. k;
          fetched = λ _ _. k;
          stored = λ _ _ _ s st. same_cells s (ap (λ (op : Option Running). operation_outside op len (length p.otp)) st.op ∙ runs);
          started = λ _ _ s t left _ b. same_cells (running s t left) (ap (λ (n : ℕ). target_outside t len n) e ∙ b.inside);
          laid = λ a v o. refit p (with_sram p (storedBytes p.sram o a.width v)) k refl refl refl (stored_length p.sram o a.width v) runs;
          passed = λ _ _ op e t. elapsed_fits op t (ap (λ (op : Option Running). operation_outside op len (length p.otp)) (sym e) ∙ runs);
        })
