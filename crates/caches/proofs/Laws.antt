-- What a use, an access, programming and emptying keep: the lengths, the tags, and that the lines mirror main flash.
use mathlib.Core.Bool.{Bool, true, false, cond}
use mathlib.Core.Path.{◌≡◌, refl, sym, ap, ap₂, ◌∙◌}
use mathlib.Core.List.{List, [], ◌∷◌, ◌++◌}
use Prim.Native.Nat.{ℕ, zero, suc, ◌+◌, ◌-◌, ◌*◌, ◌%◌, ◌<◌, ◌≤◌}
use native.Mathlib.Omega.{arith}
use native.Mathlib.Nat.{add-zero}
use borrow.Author.Tests.{leb-true, leb-false, eqb-true, eqb-false}
use lib.Dec.{eqb, leb}
use lib.ListN.{length, get_or, set, take, drop, replicate, length-append, length-drop, length-set, length-replicate, get_or-replicate, get_or-append}
use lib.Seq.{get_or-set_same, get_or-set_other, get_or-take, get_or-drop, get_or-append-add, length-take-le}
use Rattle.cascade.proofs.Picks.{keep, keep_by, keep₂}
use Rattle.cells.specs.Bytes.{little, value_at}
use Rattle.caches.specs.Sides.{Side, Sized, side, none, row_of, slot, holds, sixteen, line_of, raised, used}
use Rattle.caches.specs.Sides.{Through, accessed, refreshed_byte, refreshed, emptied}
use Rattle.caches.specs.Claims.{Use, latest, tags_of}
use Rattle.caches.proofs.Slots.{slot_below}
use Rattle.caches.proofs.Replacement.{own_slot, apart_latest}

-- two numbers compare one way or the other
by_order : (P : Type 0) (a b : ℕ) → (a ≤ b → P) → (b < a → P) → P
by_order P a b f g = keep_by (λ (x : Bool). P) (leb a b) true true (λ e. f (leb-true a b e)) (λ e. g (leb-false a b e))

-- two numbers are equal or not
by_equal : (P : Type 0) (a b : ℕ) → (a ≡ b → P) → ((a ≡ b → ⊥) → P) → P
by_equal P a b f g = keep_by (λ (x : Bool). P) (eqb a b) true true (λ e. f (eqb-true a b e)) (λ e. g (eqb-false a b e))

-- ---- lines that are raised

module _ (n k : ℕ) (new xs : List ℕ) (e : length new ≡ n) (l : n * k + n ≤ length xs) where
  abbrev rest : List ℕ
  rest = take (n * k) xs ++ drop (n * k + n) xs

  first : length (take (n * k) xs) ≡ n * k
  first = length-take-le (n * k) xs (omega arith)

  pub raised_length : length (raised n k new xs) ≡ length xs
  raised_length = simp (length-append, length-drop, first) (omega arith)

  -- the new ones stand in front
  pub raised_front : (i : ℕ) → i < n → get_or (raised n k new xs) i 0 ≡ get_or new i 0
  raised_front i h = get_or-append new rest 0 i (omega arith)

  past : (i : ℕ) → get_or (raised n k new xs) (n + i) 0 ≡ get_or rest i 0
  past i = rw e at (get_or-append-add new rest i 0)

  -- those before the place went up
  pub raised_before : (i : ℕ) → i < n * k → get_or (raised n k new xs) (n + i) 0 ≡ get_or xs i 0
  raised_before i h = past i ∙ get_or-append (take (n * k) xs) (drop (n * k + n) xs) 0 i (omega (arith, first)) ∙ get_or-take (n * k) xs i 0 h

  -- those after it stay
  pub raised_after : (i : ℕ) → n * k + n ≤ i → get_or (raised n k new xs) i 0 ≡ get_or xs i 0
  raised_after i h =
      let j = i - (n * k + n) in
      let from : i ≡ n + (n * k + j) = omega arith in
      let to : n * k + n + j ≡ i = omega arith in
      ap (λ (x : ℕ). get_or (raised n k new xs) x 0) from ∙ past (n * k + j)
      ∙ rw first at (get_or-append-add (take (n * k) xs) (drop (n * k + n) xs) j 0) ∙ get_or-drop (n * k + n) xs j 0 ∙ ap (λ (x : ℕ). get_or xs x 0) to

-- ---- lengths

abbrev pub SameLengths : Side → Side → Type 0
SameLengths t s = (length t.tags ≡ length s.tags) × (length t.bytes ≡ length s.bytes)

pub sized_same : (s t : Side) → Sized s → SameLengths t s → Sized t
sized_same s t z e = (omega arith, omega arith)

sixteen_length : (xs : List ℕ) (k : ℕ) → 16 * k + 16 ≤ length xs → length (sixteen xs k) ≡ 16
sixteen_length xs k l = length-take-le 16 (drop (16 * k) xs) (rw length-drop (omega arith))

module _ (main : List ℕ) (row : ℕ) (s : Side) (z : Sized s) where
  below : slot row s.tags < length s.tags
  below = slot_below row s.tags z.0

  place : 1 * slot row s.tags + 1 ≤ length s.tags
  place = omega (arith, below)

  places : 16 * slot row s.tags + 16 ≤ length s.bytes
  places = omega (arith, below)

  module _ (l : 16 * row + 16 ≤ length main) where
    pub line_length : length (line_of main row s) ≡ 16
    line_length =
        keep (λ (xs : List ℕ). length xs ≡ 16) (holds row s) (sixteen s.bytes (slot row s.tags)) (sixteen main row)
        (sixteen_length s.bytes (slot row s.tags) places) (sixteen_length main row l)

    pub used_lengths : SameLengths (used main row s) s
    used_lengths = (
      raised_length 1 (slot row s.tags) (suc row ∷ []) s.tags refl place,
      raised_length 16 (slot row s.tags) (line_of main row s) s.bytes line_length places,
    )

    pub used_sized : Sized (used main row s)
    used_sized = sized_same s (used main row s) z used_lengths

pub refreshed_byte_lengths : (main : List ℕ) (o : ℕ) (s : Side) → SameLengths (refreshed_byte main o s) s
refreshed_byte_lengths main o s =
    keep (λ t. SameLengths t s) (holds (row_of o) s) _ s (refl, length-set s.bytes (16 * slot (row_of o) s.tags + o % 16) (get_or main o 0)) (refl, refl)

pub refreshed_lengths : (main : List ℕ) (o n : ℕ) (s : Side) → SameLengths (refreshed main o n s) s
refreshed_lengths main o zero s = (refl, refl)
refreshed_lengths main o (suc n) s =
    let t = refreshed_byte main o s in
    let a = refreshed_lengths main (suc o) n t in
    let b = refreshed_byte_lengths main o s in
    (a.0 ∙ b.0, a.1 ∙ b.1)

pub emptied_lengths : (s : Side) → length s.bytes ≡ 16 * length s.tags → SameLengths (emptied s) s
emptied_lengths s e =
    keep (λ t. SameLengths t s) (eqb (get_or s.tags 0 0) 0) s (none (length s.tags)) (refl, refl)
    (length-replicate (length s.tags) 0, length-replicate (16 * length s.tags) 0 ∙ sym e)

-- the rows of an access lie inside where its last one does
module _ (main : List ℕ) (o width : ℕ) (one : 1 ≤ width) (l : 16 * row_of (o + width - 1) + 16 ≤ length main) where
  low_inside : 16 * row_of o + 16 ≤ length main
  low_inside = omega arith

  module _ (s : Side) (z : Sized s) where
    pub accessed_lengths : SameLengths (accessed main o width s).side s
    accessed_lengths =
        let low = row_of o in
        let high = row_of (o + width - 1) in
        let t = used main low s in
        let a = used_lengths main low s z low_inside in
        let b = used_lengths main high t (used_sized main low s z low_inside) l in
        keep (λ (x : Through). SameLengths x.side s) (eqb low high) _ _ a (b.0 ∙ a.0, b.1 ∙ a.1)

    pub accessed_sized : Sized (accessed main o width s).side
    accessed_sized = sized_same s (accessed main o width s).side z accessed_lengths

-- ---- tags

pub refreshed_byte_tags : (main : List ℕ) (o : ℕ) (s : Side) → (refreshed_byte main o s).tags ≡ s.tags
refreshed_byte_tags main o s = keep (λ (t : Side). t.tags ≡ s.tags) (holds (row_of o) s) _ s refl refl

pub refreshed_tags : (main : List ℕ) (o n : ℕ) (s : Side) → (refreshed main o n s).tags ≡ s.tags
refreshed_tags main o zero s = refl
refreshed_tags main o (suc n) s = refreshed_tags main (suc o) n (refreshed_byte main o s) ∙ refreshed_byte_tags main o s

-- they depend on nothing but the tags
module _ (s t : Side) (e : t.tags ≡ s.tags) where
  pub used_only : (m n : List ℕ) (row : ℕ) → (used m row t).tags ≡ (used n row s).tags
  used_only m n row = ap (λ (xs : List ℕ). raised 1 (slot row xs) (suc row ∷ []) xs) e

  pub emptied_only : (emptied t).tags ≡ (emptied s).tags
  emptied_only = free t ∙ ap (λ (xs : List ℕ). cond (eqb (get_or xs 0 0) 0) xs (replicate (length xs) 0)) e ∙ sym (free s)
    where
      free : (s : Side) → (emptied s).tags ≡ cond (eqb (get_or s.tags 0 0) 0) s.tags (replicate (length s.tags) 0)
      free s = keep₂ (λ (x : Side) (y : List ℕ). x.tags ≡ y) (eqb (get_or s.tags 0 0) 0) s (none (length s.tags)) _ _ refl refl

pub accessed_only : (s t : Side) → t.tags ≡ s.tags → (m n : List ℕ) (o width : ℕ)
    → (accessed m o width t).side.tags ≡ (accessed n o width s).side.tags
accessed_only s t e m n o width =
    let low = row_of o in
    let high = row_of (o + width - 1) in
    let a = used_only s t e m n low in
    keep₂ (λ (x y : Through). x.side.tags ≡ y.side.tags) (eqb low high) _ _ _ _ a (used_only (used n low s) (used m low t) a m n high)

-- ---- mirrors

-- the bytes of each line that is held are those of main flash
abbrev pub Mirrors : List ℕ → Side → Type 0
Mirrors main s =
    (k j : ℕ) → k < length s.tags → j < 16 → (row : ℕ) → get_or s.tags k 0 ≡ suc row → get_or s.bytes (16 * k + j) 0 ≡ get_or main (16 * row + j) 0

pub none_mirrors : (main : List ℕ) (n : ℕ) → Mirrors main (none n)
none_mirrors main n k j p q row e = absurd (omega (arith, get_or-replicate {A = ℕ} n k 0 0 (simp length-replicate at p)))

get_d_sixteen : (xs : List ℕ) (k j : ℕ) → j < 16 → get_or (sixteen xs k) j 0 ≡ get_or xs (16 * k + j) 0
get_d_sixteen xs k j h = get_or-take 16 (drop (16 * k) xs) j 0 h ∙ get_or-drop (16 * k) xs j 0

module _ (main : List ℕ) (row : ℕ) (s : Side) (z : Sized s) (mirrors : Mirrors main s) where
  -- what a use finds are the cells
  pub line_mirrors : (j : ℕ) → j < 16 → get_or (line_of main row s) j 0 ≡ get_or main (16 * row + j) 0
  line_mirrors j h =
      let k = slot row s.tags in
      keep_by (λ (xs : List ℕ). get_or xs j 0 ≡ get_or main (16 * row + j) 0) (holds row s) (sixteen s.bytes k) (sixteen main row)
      (λ e. get_d_sixteen s.bytes k j h ∙ mirrors k j (below main row s z) h row (eqb-true (get_or s.tags k 0) (suc row) e))
      (λ _. get_d_sixteen main row j h)

  pub used_mirrors : 16 * row + 16 ≤ length main → Mirrors main (used main row s)
  used_mirrors l k j p q other e = by_order P k 0 front (λ a. by_order P k at (before a) after)
    where
      at : ℕ
      at = slot row s.tags

      tags : List ℕ
      tags = (used main row s).tags

      bytes : List ℕ
      bytes = (used main row s).bytes

      P : Type 0
      P = get_or bytes (16 * k + j) 0 ≡ get_or main (16 * other + j) 0

      sixteen_long : length (line_of main row s) ≡ 16
      sixteen_long = line_length main row s z l

      front : k ≤ 0 → P
      front a =
          let zeroth : k ≡ 0 = omega arith in
          let tag : get_or tags 0 0 ≡ suc other = rw zeroth at e in
          let same : row ≡ other = omega arith in
          let index : 16 * k + j ≡ j = omega arith in
          rw (index, ← same) (raised_front 16 at (line_of main row s) s.bytes sixteen_long (places main row s z) j q ∙ line_mirrors j q)

      before : 0 < k → k ≤ at → P
      before a b =
          let line : k ≡ 1 + (k - 1) = omega arith in
          let index : 16 * k + j ≡ 16 + (16 * (k - 1) + j) = omega arith in
          let tag : get_or tags k 0 ≡ get_or s.tags (k - 1) 0
          = ap (λ (x : ℕ). get_or tags x 0) line ∙ raised_before 1 at (suc row ∷ []) s.tags refl (place main row s z) (k - 1) (omega arith) in
          rw index (raised_before 16 at (line_of main row s) s.bytes sixteen_long (places main row s z) (16 * (k - 1) + j) (omega arith)
          ∙ mirrors (k - 1) j (omega (arith, below main row s z)) q other (sym tag ∙ e))

      after : at < k → P
      after a =
          let tag : get_or tags k 0 ≡ get_or s.tags k 0 = raised_after 1 at (suc row ∷ []) s.tags refl (place main row s z) k (omega arith) in
          raised_after 16 at (line_of main row s) s.bytes sixteen_long (places main row s z) (16 * k + j) (omega arith)
          ∙ mirrors k j (omega (arith, p, (used_lengths main row s z l).0)) q other (sym tag ∙ e)

-- the value of n bytes is that of equal bytes
little_same : (f g : ℕ → ℕ) (a b n : ℕ) → ((i : ℕ) → i < n → f (a + i) ≡ g (b + i)) → little f a n ≡ little g b n
little_same f g a b zero h = refl
little_same f g a b (suc n) h =
    let head : f a ≡ g b = rw (add-zero a, add-zero b) at (h 0 (omega arith)) in
    let tail = little_same f g (suc a) (suc b) n (λ i l.
    let x : suc a + i ≡ a + suc i = omega arith in
    let y : suc b + i ≡ b + suc i = omega arith in
    rw (x, y) (h (suc i) (omega arith))) in
    ap₂ (λ (x y : ℕ). x + 256 * y) head tail

module _ (main : List ℕ) (o width : ℕ) (one : 1 ≤ width) (l : 16 * row_of (o + width - 1) + 16 ≤ length main) where
  module _ (s : Side) (z : Sized s) (mirrors : Mirrors main s) where
    abbrev low : ℕ
    low = row_of o

    abbrev high : ℕ
    high = row_of (o + width - 1)

    abbrev t : Side
    t = used main low s

    inside : 16 * low + 16 ≤ length main
    inside = low_inside main o width one l

    t_sized : Sized t
    t_sized = used_sized main low s z inside

    t_mirrors : Mirrors main t
    t_mirrors = used_mirrors main low s z mirrors inside

    pub accessed_mirrors : Mirrors main (accessed main o width s).side
    accessed_mirrors = keep (λ (x : Through). Mirrors main x.side) (eqb low high) _ _ t_mirrors (used_mirrors main high t t_sized t_mirrors l)

    -- through lines that mirror main flash the value is the cells'
    pub accessed_value : width ≤ 8 → (accessed main o width s).value ≡ value_at main o width
    accessed_value eight =
        keep_by (λ (x : Through). x.value ≡ value_at main o width) (eqb low high) _ _
        (λ e. let same = eqb-true low high e in little_same _ _ (o % 16) o width (λ i h. within i (omega arith)))
        (λ e. let apart = eqb-false low high e in little_same _ _ (o % 16) o width (λ i h. across i h apart))
      where
        within : (i : ℕ) → o % 16 + i < 16 → get_or (line_of main low s) (o % 16 + i) 0 ≡ get_or main (o + i) 0
        within i h =
            let index : 16 * low + (o % 16 + i) ≡ o + i = omega arith in
            line_mirrors main low s z mirrors (o % 16 + i) h ∙ ap (λ (x : ℕ). get_or main x 0) index

        across : (i : ℕ) → i < width → (low ≡ high → ⊥) → get_or (line_of main low s ++ line_of main high t) (o % 16 + i) 0 ≡ get_or main (o + i) 0
        across i h apart =
            let long = line_length main low s z inside in
            by_order _ 16 (o % 16 + i)
            (λ a. let j = o % 16 + i - 16 in let from : o % 16 + i ≡ 16 + j = omega arith in let index : 16 * high + j ≡ o + i = omega arith in
            ap (λ (x : ℕ). get_or (line_of main low s ++ line_of main high t) x 0) from ∙ rw long at (get_or-append-add (line_of main low s) (line_of main high t) j 0)
            ∙ line_mirrors main high t t_sized t_mirrors j (omega arith) ∙ ap (λ (x : ℕ). get_or main x 0) index)
            (λ a. get_or-append (line_of main low s) (line_of main high t) 0 (o % 16 + i) (omega (arith, long)) ∙ within i a)

-- ---- programming under lines that mirror main flash

-- each tag of a row stands in the row's slot
abbrev pub Own : Side → Type 0
Own s = (k row : ℕ) → get_or s.tags k 0 ≡ suc row → slot row s.tags ≡ k

pub latest_own : (m : ℕ) (us : List Use) (s : Side) → s.tags ≡ tags_of (suc m) (latest us) → Own s
latest_own m us s e k row t = rw e (own_slot m (latest us) (apart_latest us) k row (rw e at t))

-- the lines mirror main flash but for n bytes from an offset
abbrev pub MirrorsBut : List ℕ → ℕ → ℕ → Side → Type 0
MirrorsBut main o n s =
    (k j : ℕ) → k < length s.tags → j < 16 → (row : ℕ) → get_or s.tags k 0 ≡ suc row
    → (o ≤ 16 * row + j → 16 * row + j < o + n → ⊥) → get_or s.bytes (16 * k + j) 0 ≡ get_or main (16 * row + j) 0

byte_mirrors : (main : List ℕ) (o n : ℕ) (s : Side) → Sized s → Own s → MirrorsBut main o (suc n) s
    → MirrorsBut main (suc o) n (refreshed_byte main o s)
byte_mirrors main o n s z own but = keep_by (MirrorsBut main (suc o) n) (holds (row_of o) s) _ s held other
  where
    at : ℕ
    at = slot (row_of o) s.tags

    held : holds (row_of o) s ≡ true → MirrorsBut main (suc o) n (side s.tags (set s.bytes (16 * at + o % 16) (get_or main o 0)))
    held e k j p q row t out =
        let tag = eqb-true (get_or s.tags at 0) (suc (row_of o)) e in
        by_equal _ (16 * row + j) o
        (λ here. let mine : row ≡ row_of o = omega arith in
        let place : at ≡ k = rw mine at (own k row t) in
        let index : 16 * at + o % 16 ≡ 16 * k + j = omega arith in
        rw (index, here) (get_or-set_same s.bytes (16 * k + j) (get_or main o 0) 0 (omega arith)))
        (λ there. let apart : 16 * k + j ≡ 16 * at + o % 16 → ⊥ = λ x.
        let place : k ≡ at = omega arith in let same : get_or s.tags at 0 ≡ suc row = rw place at t in there (omega arith) in
        get_or-set_other s.bytes (16 * at + o % 16) (16 * k + j) (get_or main o 0) 0 apart ∙ but k j p q row t (λ a b. out (omega arith) (omega arith)))

    other : holds (row_of o) s ≡ false → MirrorsBut main (suc o) n s
    other e k j p q row t out =
        let free = eqb-false (get_or s.tags at 0) (suc (row_of o)) e in
        let there : 16 * row + j ≡ o → ⊥ = λ here. let mine : row ≡ row_of o = omega arith in
        let place : at ≡ k = rw mine at (own k row t) in free (rw place (t ∙ ap suc mine)) in
        but k j p q row t (λ a b. out (omega arith) (omega arith))

but_mirrors : (main : List ℕ) (o n : ℕ) (s : Side) → Sized s → Own s → MirrorsBut main o n s → Mirrors main (refreshed main o n s)
but_mirrors main o zero s z own but = λ k j p q row t. but k j p q row t (λ a b. omega arith)
but_mirrors main o (suc n) s z own but =
    let t = refreshed_byte main o s in
    but_mirrors main (suc o) n t (sized_same s t z (refreshed_byte_lengths main o s)) (rw (refreshed_byte_tags main o s) own)
    (byte_mirrors main o n s z own but)

-- bytes that changed in main flash are refreshed
pub refreshed_mirrors : (old main : List ℕ) (o n : ℕ) (s : Side) → Sized s → Own s
    → ((i : ℕ) → (o ≤ i → i < o + n → ⊥) → get_or main i 0 ≡ get_or old i 0) → Mirrors old s → Mirrors main (refreshed main o n s)
refreshed_mirrors old main o n s z own stays mirrors =
    but_mirrors main o n s z own (λ k j p q row t out. mirrors k j p q row t ∙ sym (stays (16 * row + j) out))

-- ---- lines that are free

pub emptied_none : (s : Side) → (get_or s.tags 0 0 ≡ 0 → s ≡ none (length s.tags)) → emptied s ≡ none (length s.tags)
emptied_none s f =
    keep_by (λ (t : Side). t ≡ none (length s.tags)) (eqb (get_or s.tags 0 0) 0) s (none (length s.tags))
    (λ e. f (eqb-true (get_or s.tags 0 0) 0 e)) (λ _. refl)

-- the first line is free only where no row was used
pub first_free : (m : ℕ) (us : List Use) → get_or (tags_of (suc m) (latest us)) 0 0 ≡ 0 → us ≡ []
first_free m [] e = refl
first_free m (u ∷ us) e = absurd (omega arith)
