-- What is known of a call that is done, and of a read or a fetch of main flash that is.
use mathlib.Core.Bool.{true, false, not, true≢false}
use mathlib.Core.List.{List}
use mathlib.Core.Path.{◌≡◌, refl, sym, ap, subst, ◌∙◌}
use Prim.Native.Nat.{ℕ, ◌+◌, ◌-◌, ◌*◌, ◌%◌, ◌≤◌}
use native.Mathlib.Omega.{arith}
use lib.Dec.{eqb, lit≤}
use lib.ListN.{length}
use borrow.Author.Tests.{eq-eqb, not-false}
use Rattle.caches.specs.Sides.{row_of}
use Rattle.cascade.proofs.Picks.{keep_by}
use Rattle.cells.specs.Bytes.{value_at}
use Rattle.map.proofs.Laws.{inside_both}
use Rattle.map.specs.Areas.{area_of, inside, main_base}
use Rattle.map.specs.Sectors.{largest_main}
use Rattle.part.proofs.Bytes.{wide}
use Rattle.part.proofs.Entries.{access_is, fits_is, in_all, listed_small, sized}
use Rattle.part.proofs.Stepped.{or_left, plain_undone, stepped}
use Rattle.part.specs.Calls.{performed, step}
use Rattle.part.specs.Reads.{fetch_answer, flash_answer, read_answer}
use Rattle.part.specs.Refusals.{bad_who, bad_width, guarded, length_refused, malformed, unconnected}
use Rattle.part.specs.Rules.{is_in, main_lengths}
use Rattle.part.specs.State.{Part, Outcome, code_of, is_busy, number_of}
use Rattle.part.specs.declared.Access.{Access}
use Rattle.part.specs.declared.Answer.{Answer}
use Rattle.part.specs.declared.Answer.TheVariants.{Done}
use Rattle.part.specs.declared.Call.{Call}
use Rattle.part.specs.declared.Call.TheVariants.{Read, Fetch}
use Rattle.map.specs.declared.Area.{Area}
use Rattle.map.specs.declared.Area.TheVariants.{Flash}
use Rattle.map.specs.declared.Place.TheVariants.{Main}

-- a number that is 0 is not that of a refusal
pub undone : {A : Type 0} (n : ℕ) → eqb n 0 ≡ false → n ≡ 0 → A
undone n e z = absurd (true≢false (sym (eq-eqb n 0 z) ∙ e))

pub record Performed (timings scrap : List ℕ) (c : Call) (p : Part) (o : Outcome) : Type 0 where
  pub fits : length_refused timings p ≡ false
  pub sound : malformed c ≡ false
  pub is : o ≡ performed timings scrap c p

-- a call that is done is let through by refusals 1, 2 and 5
pub done_performed : (timings scrap : List ℕ) (c : Call) (p : Part) → code_of (step timings scrap c p).answer ≡ 0
    → Performed timings scrap c p (step timings scrap c p)
done_performed timings scrap c p =
    stepped (λ o. code_of o.answer ≡ 0 → Performed timings scrap c p o) timings scrap c p
    (λ why plain e. undone (number_of why) (plain_undone why plain) e) (λ fits _ sound _. record { fits = fits; sound = sound; is = refl })

-- main flash of a part has whole rows
pub rows_fit : (timings : List ℕ) (p : Part) → length_refused timings p ≡ false → (length p.main % 16 ≡ 0) × (length p.main ≤ largest_main)
rows_fit timings p fits =
    let len = length p.main in
    let listed = not-false (is_in len main_lengths) (sym (fits_is len) ∙ or_left _ _ (or_left _ _ (or_left _ _ (or_left _ _ (or_left _ _ fits))))) in (
      in_all (λ k. k % 16 ≡ 0) len main_lengths (refl, (refl, (refl, (refl, (refl, (refl, (refl, (refl, (refl, (refl, (refl, (refl, tt)))))))))))) listed,
      listed_small len listed,
    )

-- an access of main flash that is done: its bytes lie there, in whole rows, nothing runs, and they are not guarded
pub record Reached (p : Part) (address width : ℕ) (b : Answer) : Type 0 where
  pub some : 1 ≤ width
  pub few : width ≤ 8
  pub low : main_base ≤ address
  pub high : address + width ≤ main_base + length p.main
  pub row : 16 * row_of (address - main_base + width - 1) + 16 ≤ length p.main
  pub power : p.rec.power ≡ true
  pub unguarded : guarded p.rec.mark p.options ≡ false
  pub value : b ≡ Done (value_at p.main (address - main_base) width)

-- what flash cells answer that are not refused
cells_done : (p : Part) (o width : ℕ) → code_of (flash_answer p.rec p.main p.otp p.options (Main o) width) ≡ 0
    → (guarded p.rec.mark p.options ≡ false) × (flash_answer p.rec p.main p.otp p.options (Main o) width ≡ Done (value_at p.main o width))
cells_done p o width =
    let A : Answer → Type 0 = λ b. code_of b ≡ 0 → (guarded p.rec.mark p.options ≡ false) × (b ≡ Done (value_at p.main o width)) in
    keep_by A (is_busy p.rec.op) _ _ (λ _. undone 11 refl) (λ _. keep_by A (guarded p.rec.mark p.options) _ _ (λ _. undone 13 refl) (λ e _. (e, refl)))

reached : (timings : List ℕ) (p : Part) (address width : ℕ) (b : Answer) → length_refused timings p ≡ false → 1 ≤ width → width ≤ 8
    → inside address width main_base (length p.main) ≡ true → p.rec.power ≡ true
    → (guarded p.rec.mark p.options ≡ false) × (b ≡ Done (value_at p.main (address - main_base) width)) → Reached p address width b
reached timings p address width b fits some few here power (unguarded, value) =
    let (low, high) = inside_both address width main_base (length p.main) here in
    let (rows, small) = rows_fit timings p fits in
    record {
      some = some;
      few = few;
      low = low;
      high = high;
      row = omega arith;
      power = power;
      unguarded = unguarded;
      value = value;
    }

module _ (timings scrap : List ℕ) (p : Part) where
  -- a read, with who may do it
  pub read_done : (a : Access) → code_of (step timings scrap (Read a) p).answer ≡ 0 → inside a.address a.width main_base (length p.main) ≡ true
      → Reached p a.address a.width (step timings scrap (Read a) p).answer
      × (bad_who a.who ≡ false) × (unconnected a.who p.rec.debugger ≡ false)
  read_done a done here =
      let made = done_performed timings scrap (Read a) p done in
      let area : area_of (length p.main) a.address a.width ≡ Flash (Main (a.address - main_base)) = rw here refl in
      let (some, few) = wide a (sized a (sym (access_is a) ∙ made.sound)) in
      let A : Answer → Type 0 = λ b. code_of b ≡ 0
      → Reached p a.address a.width b × (bad_who a.who ≡ false) × (unconnected a.who p.rec.debugger ≡ false) in
      let at : A (read_answer p (Flash (Main (a.address - main_base))) a) =
      keep_by A (not p.rec.power) _ _ (λ _. undone 10 refl) (λ power.
      keep_by A (unconnected a.who p.rec.debugger) _ _ (λ _. undone 15 refl) (λ con e. (
        reached timings p a.address a.width _ made.fits some few here (not-false _ power) (cells_done p (a.address - main_base) a.width e),
        or_left (bad_who a.who) (bad_width a.width) made.sound,
        con,
      ))) in
      let answer = ap (λ (o : Outcome). o.answer) made.is ∙ ap (λ (x : Area). read_answer p x a) area in
      subst A (sym answer) at done

  -- a fetch
  pub fetch_done : (address : ℕ) → code_of (step timings scrap (Fetch address) p).answer ≡ 0
      → Reached p address 4 (step timings scrap (Fetch address) p).answer × (inside address 4 main_base (length p.main) ≡ true)
  fetch_done address done =
      let made = done_performed timings scrap (Fetch address) p done in
      let A : Answer → Type 0 = λ b. code_of b ≡ 0 → Reached p address 4 b × (inside address 4 main_base (length p.main) ≡ true) in
      let at : A (fetch_answer p address) =
      keep_by A (not p.rec.power) _ _ (λ _. undone 10 refl) (λ power.
      keep_by A (not (inside address 4 main_base (length p.main))) _ _ (λ _. undone 7 refl) (λ there e. (
        reached timings p address 4 _ made.fits (lit≤ tt) (lit≤ tt) (not-false _ there) (not-false _ power) (cells_done p (address - main_base) 4 e),
        not-false _ there,
      ))) in
      subst A (sym (ap (λ (o : Outcome). o.answer) made.is)) at done
