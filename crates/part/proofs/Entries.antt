-- The tests of the step that look at no address are the plain tests of document 01's entries 1, 2, 5, 8, 10 and 16.
use mathlib.Core.Bool.{Bool, true, false, not, cond, ◌&&◌, ◌||◌, true≢false, false≢true, or-false, or_assoc}
use mathlib.Core.List.{List, [], ◌∷◌}
use mathlib.Core.Path.{◌≡◌, refl, sym, ap, ◌∙◌, subst}
use Prim.Native.Nat.{ℕ, zero, suc, ◌+◌, ◌-◌, ◌^◌, ◌≤◌, ◌<◌}
use native.Mathlib.Nat.{not-suc-le-zero}
use native.Mathlib.Omega.{arith}
use lib.Dec.{eqb, leb, ltb, lit≤}
use lib.ListN.{length, get_or}
use borrow.Author.Tests.{eqb-true, eqb-false, eq-eqb, ne_eqb, leb-true, leb-false, le-leb, lt-leb, ltb-false, lt-ltb, le-ltb, not-false}
use Rattle.cascade.proofs.Picks.{keep, keep_by}
use Rattle.map.proofs.Forms.{both_left, both_right}
use Rattle.map.proofs.Laws.{sector_holds, sector_below, sectors_most, sectors_fit, sectors_none}
use Rattle.map.specs.Sectors.{sectors_in, sector_start, sector_length, sector_of, largest_main}
use Rattle.registers.proofs.Laws.{lane_power}
use Rattle.time.proofs.Laws.{in_range}
use Rattle.time.specs.Timings.{out_of_range, longest_timing}
use Rattle.part.specs.Operations.{operation_outside, target_outside}
use Rattle.part.specs.Options.{level_of}
use Rattle.part.specs.Refusals.{length_refused, bad_who, bad_width, too_big, guarded}
use Rattle.part.specs.Rules.{any_below, is_in, mark_guards, target_fits, operation_fits, main_lengths, entry1, entry2, wrong_access}
use Rattle.part.specs.State.{Part}
use Rattle.part.proofs.Stepped.{or_left, or_right, not_and, by_contra}
use Rattle.part.proofs.Types.{Running, Access, Option, None, Some, Target}
use Rattle.part.proofs.Types.target

-- ---- Booleans and searches

-- two tests are equal that are false together
pub same : (s t : Bool) → (s ≡ false → t ≡ false) → (t ≡ false → s ≡ false) → s ≡ t
same true true f g = refl
same true false f g = g refl
same false t f g = sym (f refl)

-- two choices by one test
pub onward : {A : Type 0} (t : Bool) (a x y : A) → (t ≡ false → x ≡ y) → cond t a x ≡ cond t a y
onward true a x y f = refl
onward false a x y f = f refl

-- a search finds nothing exactly where each test fails
pub any_none : (f : ℕ → Bool) (n : ℕ) → ((i : ℕ) → i < n → f i ≡ false) → any_below f n ≡ false
any_none f zero g = refl
any_none f (suc n) g = rw (g n (omega arith)) (any_none f n (λ i h. g i (omega arith)))

pub any_each : (f : ℕ → Bool) (n : ℕ) → any_below f n ≡ false → (i : ℕ) → i < n → f i ≡ false
any_each f zero e i h = absurd (not-suc-le-zero h)
any_each f (suc n) e i h = at (eqb i n) refl (or_left (f n) (any_below f n) e) (λ l. any_each f n (or_right (f n) (any_below f n) e) i l)
  where
    at : (t : Bool) → eqb i n ≡ t → f n ≡ false → (i < n → f i ≡ false) → f i ≡ false
    at true q z g = ap f (eqb-true i n q) ∙ z
    at false q z g = g (let ne = eqb-false i n q in omega arith)

pub any_one : (f : ℕ → Bool) (n i : ℕ) → i < n → f i ≡ true → any_below f n ≡ true
any_one f n i h e = by_contra (any_below f n) (λ q. true≢false (sym e ∙ any_each f n q i h))

-- a search with one answer throughout has that answer
pub any_all : (f : ℕ → Bool) (n : ℕ) (g : Bool) → 1 ≤ n → ((i : ℕ) → i < n → f i ≡ g) → any_below f n ≡ g
any_all f n true h e = any_one f n 0 h (e 0 h)
any_all f n false h e = any_none f n e

-- ---- entry 1

abbrev pub All : (ℕ → Type 0) → List ℕ → Type 0
All P [] = Unit {0}
All P (y ∷ ys) = P y × All P ys

pub in_all : (P : ℕ → Type 0) (x : ℕ) (ys : List ℕ) → All P ys → is_in x ys ≡ true → P x
in_all P x [] a e = absurd (false≢true e)
in_all P x (y ∷ ys) a e = at (eqb x y) refl e (in_all P x ys a.1)
  where
    at : (t : Bool) → eqb x y ≡ t → (eqb x y || is_in x ys) ≡ true → (is_in x ys ≡ true → P x) → P x
    at true q z g = subst P (sym (eqb-true x y q)) a.0
    at false q z g = g (sym (ap (λ (b : Bool). b || is_in x ys) q) ∙ z)

-- a length of the list is that of a part, and fits in a mebibyte
listed_fits : (len : ℕ) → is_in len main_lengths ≡ true → eqb (sectors_in len) 0 ≡ false
listed_fits len e =
    in_all (λ k. eqb (sectors_in k) 0 ≡ false) len main_lengths
    (refl, (refl, (refl, (refl, (refl, (refl, (refl, (refl, (refl, (refl, (refl, (refl, tt)))))))))))) e

pub listed_small : (len : ℕ) → is_in len main_lengths ≡ true → len ≤ largest_main
listed_small len e =
    leb-true len largest_main (in_all (λ k. leb k largest_main ≡ true) len main_lengths
    (refl, (refl, (refl, (refl, (refl, (refl, (refl, (refl, (refl, (refl, (refl, (refl, tt)))))))))))) e)

-- the length of n sectors is listed
starts_listed : (n : ℕ) → 1 ≤ n → n ≤ 12 → is_in (sector_start n) main_lengths ≡ true
starts_listed n one twelve =
    let e : suc (n - 1) ≡ n = omega arith in
    rw e at (not-false (is_in (sector_start (suc (n - 1))) main_lengths)
    (any_each (λ k. not (is_in (sector_start (suc k)) main_lengths)) 12 refl (n - 1) (omega arith)))

unlisted_none : (len : ℕ) → is_in len main_lengths ≡ false → sectors_in len ≡ 0
unlisted_none len e =
    (sectors_none len).1 (λ n one twelve z. true≢false (sym (starts_listed n one twelve) ∙ sym (ap (λ (k : ℕ). is_in k main_lengths) z) ∙ e))

pub fits_is : (len : ℕ) → eqb (sectors_in len) 0 ≡ not (is_in len main_lengths)
fits_is len = at (is_in len main_lengths) refl
  where
    at : (t : Bool) → is_in len main_lengths ≡ t → eqb (sectors_in len) 0 ≡ not t
    at true q = listed_fits len q
    at false q = eq-eqb (sectors_in len) 0 (unlisted_none len q)

-- a sector is below n exactly where it ends inside main flash
pub present_is : (len k : ℕ) → is_in len main_lengths ≡ true → leb (sectors_in len) k ≡ not (leb (sector_start k + sector_length k) len)
present_is len k e =
    let n = sectors_in len in
    let one : 1 ≤ n = let z = eqb-false n 0 (listed_fits len e) in omega arith in
    let start : len ≡ sector_start n = (sectors_fit n len one (sectors_most len)).0 refl in
    same (leb n k) (not (leb (sector_start k + sector_length k) len))
    (λ below. ap not (le-leb (sector_start k + sector_length k) len
    (let h = leb-false n k below in
    let o = (sector_below n (sector_start k + sector_length k - 1)).0 (rw (last_in k) h) in
    let pos = length_pos k in
    rw start (omega arith))))
    (λ ends. lt-leb n k
    (let h = leb-true (sector_start k + sector_length k) len (not-false _ ends) in
    let pos = length_pos k in
    let o : sector_start k + sector_length k - 1 < sector_start n = rw start at (let z : sector_start k + sector_length k - 1 < len = omega arith in z) in
    rw (last_in k) at ((sector_below n (sector_start k + sector_length k - 1)).1 o)))
  where
    length_pos : (k : ℕ) → 1 ≤ sector_length k
    length_pos k = keep (λ (l : ℕ). 1 ≤ l) (ltb k 4) 16_384 _ (lit≤ tt) (keep (λ (l : ℕ). 1 ≤ l) (eqb k 4) 65_536 131_072 (lit≤ tt) (lit≤ tt))

    -- the last byte of sector k lies in it
    last_in : (k : ℕ) → sector_of (sector_start k + sector_length k - 1) ≡ k
    last_in k = let pos = length_pos k in (sector_holds k (sector_start k + sector_length k - 1)).1 (omega arith, omega arith)

-- a running target fits exactly where it is not outside
target_is : (t : Target) (p : Part) → is_in (length p.main) main_lengths ≡ true
    → target_outside t (length p.main) (length p.otp) ≡ not (target_fits t p)
target_is (target.Bytes w) p e = beyond (cond w.otp (length p.otp) (length p.main)) (w.offset + w.width)
  where
    beyond : (a b : ℕ) → ltb a b ≡ not (leb b a)
    beyond a b = same (ltb a b) (not (leb b a)) (λ z. ap not (le-leb b a (ltb-false a b z))) (λ z. le-ltb a b (leb-true b a (not-false _ z)))
target_is (target.Sector k) p e = present_is (length p.main) k e
target_is (target.Main len) p e = refl
target_is target.Options p e = refl
target_is (target.Regression len option) p e = refl

operation_is : (op : Option Running) (p : Part) → is_in (length p.main) main_lengths ≡ true
    → operation_outside op (length p.main) (length p.otp) ≡ not (operation_fits op p)
operation_is None p e = refl
operation_is (Some running) p e = target_is running.target p e

pub entry1_is : (timings : List ℕ) (p : Part) → length_refused timings p ≡ entry1 timings p
entry1_is timings p = at (is_in (length p.main) main_lengths) refl
  where
    at : (t : Bool) → is_in (length p.main) main_lengths ≡ t → length_refused timings p ≡ entry1 timings p
    at true q =
        rw (fits_is (length p.main), operation_is p.rec.op p q) (simp not_and)
    at false q = rw (fits_is (length p.main), q) refl

-- ---- entry 2

pub entry2_is : (timings : List ℕ) → out_of_range timings ≡ entry2 timings
entry2_is timings =
    same (out_of_range timings) (entry2 timings)
    (λ e. any_none _ (length timings) (λ i h.
    let b = (in_range timings).0 e i h in
    rw (le-leb 1 (get_or timings i 0) b.0, le-leb (get_or timings i 0) longest_timing b.1) refl))
    (λ e. (in_range timings).1 (λ i h.
    let t = get_or timings i 0 in
    let b = not-false (leb 1 t && leb t longest_timing) (any_each _ (length timings) e i h) in
    (leb-true 1 t (both_left (leb 1 t) (leb t longest_timing) b), leb-true t longest_timing (both_right (leb 1 t) (leb t longest_timing) b))))

-- ---- levels

pub level_2 : (options : List ℕ) → eqb (level_of options) 2 ≡ eqb (get_or options 1 0) 0xCC
level_2 options =
    let rdp = get_or options 1 0 in
    let P : ℕ → Type 0 = λ n. eqb n 2 ≡ eqb rdp 0xCC in
    keep_by P (eqb rdp 0xAA) 0 _ (λ a. let e = eqb-true rdp 0xAA a in sym (ne_eqb rdp 0xCC (λ c. omega arith)))
    (λ _. keep_by P (eqb rdp 0xCC) 2 1 (λ c. sym c) (λ c. sym c))

pub level_0 : (options : List ℕ) → eqb (level_of options) 0 ≡ eqb (get_or options 1 0) 0xAA
level_0 options =
    let P : ℕ → Type 0 = λ n. eqb n 0 ≡ eqb (get_or options 1 0) 0xAA in
    keep_by P (eqb (get_or options 1 0) 0xAA) 0 _ (λ a. sym a) (λ a. keep P (eqb (get_or options 1 0) 0xCC) 2 1 (sym a) (sym a))

pub guards_is : (p : Part) → guarded p.rec.mark p.options ≡ mark_guards p
guards_is p = ap (λ (b : Bool). p.rec.mark && not b) (level_0 p.options)

-- ---- entry 5

-- a number above the last of 0 .. n is none of them
pub who_is : (who : ℕ) → bad_who who ≡ not (is_in who (0 ∷ 1 ∷ []))
who_is zero = refl
who_is (suc zero) = refl
who_is (suc (suc n)) =
    rw (lt-ltb 1 (suc (suc n)) (omega arith), ne_eqb (suc (suc n)) 0 (λ e. omega arith), ne_eqb (suc (suc n)) 1 (λ e. omega arith)) refl

pub boot_is : (boot : ℕ) → ltb 2 boot ≡ not (is_in boot (0 ∷ 1 ∷ 2 ∷ []))
boot_is zero = refl
boot_is (suc zero) = refl
boot_is (suc (suc zero)) = refl
boot_is (suc (suc (suc n))) =
    let m = suc (suc (suc n)) in
    rw (lt-ltb 2 m (omega arith), ne_eqb m 0 (λ e. omega arith), ne_eqb m 1 (λ e. omega arith), ne_eqb m 2 (λ e. omega arith)) refl

pub width_is : (w : ℕ) → bad_width w ≡ not (is_in w (1 ∷ 2 ∷ 4 ∷ 8 ∷ []))
width_is w = simp (or_assoc, or-false)

-- the widths of an access
abbrev pub Sized : Access → Type 0
Sized a = is_in a.width (1 ∷ 2 ∷ 4 ∷ 8 ∷ []) ≡ true

pub by_width : (P : ℕ → Type 0) (w : ℕ) → P 1 → P 2 → P 4 → P 8 → is_in w (1 ∷ 2 ∷ 4 ∷ 8 ∷ []) ≡ true → P w
by_width P w one two four eight = in_all P w (1 ∷ 2 ∷ 4 ∷ 8 ∷ []) (one, (two, (four, (eight, tt))))

pub sized : (a : Access) → wrong_access a ≡ false → Sized a
sized a e = both_right (is_in a.who (0 ∷ 1 ∷ [])) (is_in a.width (1 ∷ 2 ∷ 4 ∷ 8 ∷ [])) (not-false _ e)

pub access_is : (a : Access) → (bad_who a.who || bad_width a.width) ≡ wrong_access a
access_is a = rw (who_is a.who, width_is a.width) (simp not_and)

pub too_big_is : (width value : ℕ) → too_big width value ≡ leb (256 ^ width) value
too_big_is width value = ap (λ (n : ℕ). leb n value) (sym (lane_power width))
