-- A side as calls leave it from free lines on: its tags are those of its uses, and unless it is old its lines are rows of main flash.
use mathlib.Core.Bool.{Bool, true, false, not, ◌&&◌, true≢false, and-true}
use mathlib.Core.List.{List, [], ◌∷◌}
use mathlib.Core.Path.{◌≡◌, refl, sym, ap, subst, ◌∙◌}
use Prim.Native.Nat.{ℕ, zero, suc, ◌+◌, ◌-◌, ◌*◌, ◌<◌, ◌≤◌}
use native.Mathlib.Omega.{arith}
use lib.Dec.{eqb}
use lib.ListN.{length, get_or, replicate, length-replicate}
use Rattle.caches.proofs.Laws.{Mirrors, emptied_none, latest_own, none_mirrors, refreshed_lengths, refreshed_mirrors, refreshed_tags}
use Rattle.caches.proofs.Laws.{used_lengths, used_mirrors}
use Rattle.caches.proofs.Replacement.{tags_length, use_tags, used_tags}
use Rattle.caches.proofs.Steps.{refreshed_free}
use Rattle.caches.specs.Claims.{Use, latest, tags_of}
use Rattle.caches.specs.Sides.{Side, Sized, Through, accessed, emptied, none, refreshed, row_of, used}
use Rattle.cascade.proofs.Picks.{keep}
use Rattle.cached.specs.Lines.{emptied_if}

-- n + 1 lines over main flash
pub record SideSound (n : ℕ) (main : List ℕ) (old : Bool) (s : Side) : Type 0 where
  pub uses : List Use
  pub tags : s.tags ≡ tags_of (suc n) (latest uses)
  pub bytes : length s.bytes ≡ 16 * suc n
  pub free : get_or s.tags 0 0 ≡ 0 → s ≡ none (length s.tags)
  pub mirrors : old ≡ false → Mirrors main s

tags_none : (n : ℕ) → replicate n 0 ≡ tags_of n []
tags_none zero = refl
tags_none (suc n) = ap (λ (l : List ℕ). 0 ∷ l) (tags_none n)

pub none_sound : (n : ℕ) (main : List ℕ) (old : Bool) → SideSound n main old (none (suc n))
none_sound n main old =
    record {
      uses = [];
      tags = tags_none (suc n);
      bytes = length-replicate (16 * suc n) 0;
      free = λ _. ap none (sym (length-replicate (suc n) 0));
      mirrors = λ _. none_mirrors main (suc n);
    }

module _ {n : ℕ} {main : List ℕ} {old : Bool} {s : Side} (k : SideSound n main old s) where
  pub count : length s.tags ≡ suc n
  count = ap length k.tags ∙ tags_length (suc n) (latest k.uses)

  pub sized : Sized s
  sized = (rw count (omega arith), rw count k.bytes)

  -- emptied, whatever main flash is
  pub emptied_sound : (next : List ℕ) (stale : Bool) → SideSound n next stale (emptied s)
  emptied_sound next stale = subst (SideSound n next stale) (sym (emptied_none s k.free ∙ ap none count)) (none_sound n next stale)

  pub emptied_if_lem : (t : Bool) → SideSound n main (old && not t) (emptied_if t s)
  emptied_if_lem true = emptied_sound main (old && false)
  emptied_if_lem false = subst (λ (b : Bool). SideSound n main b s) (sym (and-true old)) k

  -- old from now on, whatever main flash is
  pub aged : (next : List ℕ) → SideSound n next true s
  aged next = record { uses = k.uses; tags = k.tags; bytes = k.bytes; free = k.free; mirrors = λ e. absurd (true≢false e) }

  pub used_sound : (row : ℕ) → 16 * row + 16 ≤ length main → SideSound n main old (used main row s)
  used_sound row fits =
      let u : Use = record { cells = main; row = row } in
      record {
        uses = u ∷ k.uses;
        tags = use_tags n main u k.uses s k.tags;
        bytes = (used_lengths main row s sized fits).1 ∙ k.bytes;
        free = λ e. absurd (let z = sym (ap (λ (l : List ℕ). get_or l 0 0) (used_tags main row s)) ∙ e in omega arith);
        mirrors = λ e. used_mirrors main row s sized (k.mirrors e) fits;
      }

  -- bytes of main flash change, and the line that holds them follows
  pub refreshed_sound : (next : List ℕ) (o width : ℕ) → ((i : ℕ) → (o ≤ i → i < o + width → ⊥) → get_or next i 0 ≡ get_or main i 0)
      → SideSound n next old (refreshed next o width s)
  refreshed_sound next o width stays =
      let same = refreshed_tags next o width s in
      record {
        uses = k.uses;
        tags = same ∙ k.tags;
        bytes = (refreshed_lengths next o width s).1 ∙ k.bytes;
        free = λ e.
            let first = sym (ap (λ (l : List ℕ). get_or l 0 0) same) ∙ e in
            sym (refreshed_free next o width s first) ∙ k.free first ∙ ap (λ (l : List ℕ). none (length l)) (sym same);
        mirrors = λ e. refreshed_mirrors main next o width s sized (latest_own n k.uses s k.tags) stays (k.mirrors e);
      }

pub accessed_sound : {n : ℕ} {main : List ℕ} {old : Bool} {s : Side} → SideSound n main old s → (o width : ℕ) → 1 ≤ width
    → 16 * row_of (o + width - 1) + 16 ≤ length main → SideSound n main old (accessed main o width s).side
accessed_sound {n} {main} {old} {s} k o width some fits =
    let low = used_sound k (row_of o) (omega arith) in
    keep (λ (x : Through). SideSound n main old x.side) (eqb (row_of o) (row_of (o + width - 1))) _ _ low (used_sound low (row_of (o + width - 1)) fits)
