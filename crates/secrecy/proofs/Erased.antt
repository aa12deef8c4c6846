-- Only two things change RDP: the end of an option change or a regression, and its cut. A regression has erased main flash by then, and an option
-- change that runs above level 0 has no AA to bring, by the invariant of every list.
use Rattle.std.specs.Prelude.{Option, Some, None}
use mathlib.Core.Bool.{false, true≢false}
use mathlib.Core.Path.{◌≡◌, refl, sym, ap, subst, ◌∙◌}
use mathlib.Core.List.{List, [], ◌∷◌, ◌++◌, map}
use Prim.Native.Nat.{ℕ, ◌<◌}
use native.Mathlib.Omega.{arith}
use lib.Dec.{eqb, ltb}
use lib.ListN.{length, get_or, replicate, length-replicate, get_or-replicate}
use lib.Seq.{ext_get_or}
use borrow.Author.Tests.{eq-eqb, ne_eqb}
use Rattle.cascade.proofs.Picks.{keep}
use Rattle.cells.specs.Bytes.{scrapped}
use Rattle.worked.specs.Bench.{bench, pass, regressing, reset, timings}
use Rattle.time.specs.declared.{Micros.Micros}
use Rattle.part.specs.Operations.{cut, cut_by, elapsed_over, ended, erasing, regressed}
use Rattle.part.specs.Options.{changed_options, cut_options, level_of, regressed_options}
use Rattle.part.specs.State.{Part, with_main}
use Rattle.part.specs.declared.Target.{Target}
use Rattle.part.specs.declared.Running.{Running}
use Rattle.part.specs.declared.Target.TheVariants as target
use Rattle.part.proofs.Entries.{level_0}
use Rattle.part.proofs.View.{viewed}
use Rattle.secrecy.specs.Claim.{parts_after}
use Rattle.secrecy.specs.Erased.{ByCut, ByEnd, ErasedExactly, ErasedFirst, MainErased, rdp_in}
use Rattle.cached.specs.Device.{Request, call, part_after, window}
use Rattle.secrecy.specs.Secrecy.{Event}
use Rattle.secrecy.proofs.Claim.{inv_after}
use Rattle.secrecy.proofs.Invariant.{Inv, Sure, changed_level, cut_level, fresh_holds}

-- above level 0, or all FF
abbrev Shut : Part → Type 0
Shut q = eqb (level_of q.options) 0 ≡ false

abbrev Kept : Part → Type 0
Kept q = rdp_in q ≡ 0xAA → MainErased q

-- main flash of FF
filled : (q : Part) (n : ℕ) → q.main ≡ replicate n 255 → Kept q
filled q n e = λ _ j h.
    ap (λ (m : List ℕ). get_or m j 0) e ∙ get_or-replicate n j 255 0 (subst (λ (k : ℕ). j < k) (ap length e ∙ length-replicate n 255) h)

-- RDP is not AA above level 0
shut : (q : Part) → Shut q → Kept q
shut q e a = absurd (true≢false (sym (level_0 q.options ∙ eq-eqb (rdp_in q) 0xAA a) ∙ e))

module _ (h : List Event) (p : Part) (v : Inv h p) (above : Shut p) where
  ended_kept : (t : Target) (left : Micros) → Sure (Some (record { target = t; left = left })) p.rec.optcr p.options → Kept (ended p t)
  ended_kept (target.Bytes w) left sure = shut (ended p (target.Bytes w)) above
  ended_kept (target.Sector k) left sure = shut (ended p (target.Sector k)) above
  ended_kept (target.Main len) left sure = shut (ended p (target.Main len)) above
  ended_kept target.Options left sure = shut (ended p target.Options) (changed_level p.options p.rec.optcr (sure refl above))
  ended_kept (target.Regression len option) left sure = filled (ended p (target.Regression len option)) (length p.main) refl

  elapsed_kept : (op : Option Running) (t : Micros) → Sure op p.rec.optcr p.options → Kept (elapsed_over p op t)
  elapsed_kept None t sure = shut p above
  elapsed_kept (Some running) t sure = keep Kept (ltb t.0 running.left.0) _ _ (shut p above) (ended_kept running.target running.left sure)

  cut_kept : (scrap : List ℕ) (t : Target) (left : Micros) → Sure (Some (record { target = t; left = left })) p.rec.optcr p.options
      → Kept (cut_by p t left scrap)
  cut_kept scrap (target.Bytes w) left sure = shut (cut_by p (target.Bytes w) left scrap) above
  cut_kept scrap (target.Sector k) left sure = shut (cut_by p (target.Sector k) left scrap) above
  cut_kept scrap (target.Main len) left sure = shut (cut_by p (target.Main len) left scrap) above
  cut_kept scrap target.Options left sure =
      shut (cut_by p target.Options left scrap)
      (cut_level p.options (changed_options p.options p.rec.optcr) scrap above (changed_level p.options p.rec.optcr (sure refl above)))
  cut_kept scrap (target.Regression len option) left sure =
      let rest = regressed p (cut_options p.options (regressed_options p.options) scrap) in
      keep Kept (erasing option left) _ rest (shut (with_main p (scrapped p.main 0 (length p.main) scrap)) above) (filled rest (length p.main) refl)

  reset_kept : (scrap : List ℕ) (op : Option Running) → Sure op p.rec.optcr p.options → Kept (cut p op scrap)
  reset_kept scrap None sure = shut p above
  reset_kept scrap (Some running) sure = cut_kept scrap running.target running.left sure

  next_kept : (timings : List ℕ) (x : Request) → Kept (part_after timings x p)
  next_kept timings (window who sector) = shut p above
  next_kept timings (call scrap c) =
      viewed (λ _ o. Kept o.part) timings scrap p (record {
        refused = λ _ _ _. shut p above;
        reset = λ _ _. reset_kept scrap p.rec.op v.sure;
        on = λ _. shut p above;
        off = shut p above;
        told = λ _ _. shut p above;
        fetched = λ _ _. shut p above;
        stored = λ _ _ _ _ _. shut p above;
        started = λ _ _ _ _ _ _ _. shut p above;
        laid = λ _ _ _. shut p above;
        passed = λ _ _ op e t. elapsed_kept op t (subst (λ (op : Option Running). Sure op p.rec.optcr p.options) e v.sure);
      }) c

pub erased_first : ErasedFirst
erased_first timings xs x p f other =
    let q = parts_after timings xs p in
    next_kept _ q (inv_after timings xs [] p (fresh_holds p f)) (level_0 q.options ∙ ne_eqb (rdp_in q) 0xAA other) timings x

-- ---- the terms, worked

pub erased_exactly : ErasedExactly
erased_exactly p = (
  λ e. ext_get_or 0 p.main (replicate (length p.main) 0xFF) (sym (length-replicate (length p.main) 0xFF)) (λ j h.
      e j h ∙ sym (get_or-replicate (length p.main) j 0xFF 0 h)),
  λ e j h. ap (λ (m : List ℕ). get_or m j 0) e ∙ get_or-replicate (length p.main) j 0xFF 0 h,
)

not_aa : ◌≡◌ {A = ℕ} 0x00 0xAA → ⊥
not_aa e = omega arith

pub by_end : ByEnd
by_end = (refl, refl, refl, erased_first timings (map (call []) (regressing ++ pass 1999 ∷ [])) (call [] (pass 1)) (bench 0xF0 0x00) refl not_aa refl)

pub by_cut : ByCut
by_cut =
    (refl, refl, refl, erased_first timings (map (call []) (regressing ++ pass 1000 ∷ [])) (call (replicate 16 2) (reset 0)) (bench 0xF0 0x00) refl not_aa refl)
