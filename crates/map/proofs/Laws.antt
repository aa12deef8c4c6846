-- What a reader may use in place of the definitions of the map: each law says in plain arithmetic which bytes a sector, an area, a
-- row or a protected block has. They hold by the cases of the definitions, and linear arithmetic in each.
use mathlib.Core.Bool.{Bool, true, false, cond, ◌||◌, false≢true, or-true}
use mathlib.Core.List.{List}
use mathlib.Core.Logic.{◌↔◌}
use mathlib.Core.Path.{◌≡◌, refl, ap, subst}
use Prim.Native.Nat.{ℕ, zero, suc, ◌+◌, ◌-◌, ◌*◌, ◌/◌, ◌%◌, ◌^◌, ◌<◌, ◌≤◌, min}
use native.Mathlib.Nat.{add-zero}
use native.Mathlib.Omega.{arith}
use lib.Dec.{leb, ltb}
use lib.ListN.{get_or}
use borrow.Author.Tests.{leb-true, leb-false, ltb-true, ltb-false, eqb-true, le-leb, lt-leb, lt-ltb, le-ltb, eq-eqb, ne_eqb}
use Rattle.cascade.proofs.Picks.{keep_by}
use Rattle.map.specs.Sectors.{largest_main, sector_length, sector_start, sector_of, sectors_in}
use Rattle.map.specs.Areas.{main_base, system_base, system_length, otp_base, otp_length, option_base, option_length, register_base, register_length}
use Rattle.map.specs.Areas.{inside, area_of, crosses_row, sram_base, sram_length}
use Rattle.map.specs.Protection.{protected_by, any_protected, block_locked}
use Rattle.map.specs.declared.Area.{Area}
use Rattle.map.specs.declared.Area.TheVariants.{Flash, Registers, Sram, Outside}
use Rattle.map.specs.declared.Place.TheVariants.{Main, System, Otp, SystemAndOtp, OptionCells}
use Rattle.map.proofs.Forms.{both_left, both_right}

-- ---- cases

by_test : (P : Type 0) (t : Bool) → (t ≡ true → P) → (t ≡ false → P) → P
by_test P t f g = keep_by (λ (x : Bool). P) t true true f g

by_order : (P : Type 0) (a b : ℕ) → (a ≤ b → P) → (b < a → P) → P
by_order P a b f g = by_test P (leb a b) (λ e. f (leb-true a b e)) (λ e. g (leb-false a b e))

-- where sector k starts and ends, and which sector has an offset, as sums without cases: linear arithmetic takes `-` and `min` apart
abbrev Sums : ℕ → Type 0
Sums k =
    (sector_start k ≡ k * 16_384 + (k - 4) * 49_152 + (k - 5) * 65_536)
    × (sector_start k + sector_length k ≡ (k + 1) * 16_384 + (k - 3) * 49_152 + (k - 4) * 65_536)

sector_sums : (k : ℕ) → Sums k
sector_sums k =
    by_order (Sums k) 4 k
    (λ p. by_order (Sums k) k 4
    (λ q. let e : k ≡ 4 = omega arith in rw e (refl, refl))
    (λ q. rw (le-ltb k 4 p, ne_eqb k 4 (λ e. omega arith)) (omega arith)))
    (λ p. rw (lt-ltb k 4 p) (omega arith))

offset_sum : (o : ℕ) → sector_of o ≡ min (o / 16_384) 4 + o / 131_072
offset_sum o =
    let P = sector_of o ≡ min (o / 16_384) 4 + o / 131_072 in
    by_order P 65_536 o
    (λ p. by_order P 131_072 o
    (λ q. rw (le-ltb o 65_536 p, le-ltb o 131_072 q) (omega arith))
    (λ q. rw (le-ltb o 65_536 p, lt-ltb o 131_072 q) (omega arith)))
    (λ p. rw (lt-ltb o 65_536 p) (omega arith))

by_length : (P : Type 0) (len : ℕ)
    → (len ≤ 65_536 → len % 16_384 ≡ 0 → sectors_in len ≡ len / 16_384 → P)
    → (65_536 < len → len ≤ largest_main → len % 131_072 ≡ 0 → sectors_in len ≡ 4 + len / 131_072 → P)
    → (((n : ℕ) → 1 ≤ n → n ≤ 12 → len ≡ sector_start n → ⊥) → sectors_in len ≡ 0 → P) → P
by_length P len f g h =
    by_order P len 65_536
    (λ p. by_order P (len % 16_384) 0
    (λ q. let e : len % 16_384 ≡ 0 = omega arith in f p e (rw (le-leb len 65_536 p, eq-eqb (len % 16_384) 0 e)))
    (λ q. h (λ n a b e. omega (arith, sector_sums n)) (rw (le-leb len 65_536 p, ne_eqb (len % 16_384) 0 (λ e. omega arith)))))
    (λ p. by_order P len largest_main
    (λ q. by_order P (len % 131_072) 0
    (λ r. let e : len % 131_072 ≡ 0 = omega arith in g p q e (rw (lt-leb len 65_536 p, le-leb len largest_main q, eq-eqb (len % 131_072) 0 e)))
    (λ r. h (λ n a b e. by_order ⊥ n 4 (λ l. omega (arith, sector_sums n)) (λ l. let s = large n l in omega arith))
    (rw (lt-leb len 65_536 p, le-leb len largest_main q, ne_eqb (len % 131_072) 0 (λ e. omega arith)))))
    (λ q. h (λ n a b e. omega (arith, sector_sums n)) (rw (lt-leb len 65_536 p, lt-leb len largest_main q))))
  where
    large : (n : ℕ) → 4 < n → sector_start n ≡ (n - 4) * 131_072
    large n l = omega (arith, sector_sums n)

-- ---- sectors tile main flash

-- a sector starts where the one below it ends, the first at 0
pub sector_first : sector_start 0 ≡ 0
sector_first = refl

pub sector_next : (k : ℕ) → sector_start (k + 1) ≡ sector_start k + sector_length k
sector_next k = omega (arith, sector_sums k, sector_sums (k + 1))

-- sector k holds exactly the bytes from its start, as many as its length
pub sector_holds : (k o : ℕ) → (sector_of o ≡ k) ↔ (sector_start k ≤ o) × (o < sector_start k + sector_length k)
sector_holds k o = omega (arith, sector_sums k, offset_sum o)

-- the bytes before the start of sector n are those of the sectors below n
pub sector_below : (n o : ℕ) → (sector_of o < n) ↔ (o < sector_start n)
sector_below n o = omega (arith, sector_sums n, offset_sum o)

-- ---- the length of main flash fixes n

pub sectors_most : (len : ℕ) → sectors_in len ≤ 12
sectors_most len = by_length (sectors_in len ≤ 12) len (λ p q e. omega arith) (λ p q r e. omega arith) (λ none e. omega arith)

-- a part has n sectors exactly where its main flash ends at the start of sector n
pub sectors_fit : (n len : ℕ) → 1 ≤ n → n ≤ 12 → (sectors_in len ≡ n) ↔ (len ≡ sector_start n)
sectors_fit n len a b =
    by_length ((sectors_in len ≡ n) ↔ (len ≡ sector_start n)) len
    (λ p q e. omega (arith, sector_sums n)) (λ p q r e. omega (arith, sector_sums n))
    (λ none e. (λ h. absurd (omega arith), λ h. absurd (none n a b h)))

-- every sector that a part has lies inside its main flash
pub sector_inside : (k len : ℕ) → k < sectors_in len → sector_start k + sector_length k ≤ len
sector_inside k len h =
    by_length (sector_start k + sector_length k ≤ len) len
    (λ p q e. omega (arith, sector_sums k)) (λ p q r e. omega (arith, sector_sums k)) (λ none e. omega arith)

-- "No other length fits."
pub sectors_none : (len : ℕ) → (sectors_in len ≡ 0) ↔ ((n : ℕ) → 1 ≤ n → n ≤ 12 → len ≡ sector_start n → ⊥)
sectors_none len = (
  λ z n a b e. let m = (sectors_fit n len a b).1 e in omega arith,
  λ none. by_order (sectors_in len ≡ 0) (sectors_in len) 0
      (λ p. omega arith)
      (λ p. absurd (none (sectors_in len) p (sectors_most len) ((sectors_fit (sectors_in len) len p (sectors_most len)).0 refl))),
)

-- ---- areas

pub inside_both : (a w b n : ℕ) → inside a w b n ≡ true → (b ≤ a) × (a + w ≤ b + n)
inside_both a w b n e = (leb-true b a (both_left (leb b a) _ e), leb-true (a + w) (b + n) (both_right (leb b a) _ e))

outside_high : (a w b n : ℕ) → inside a w b n ≡ false → b ≤ a → b + n < a + w
outside_high a w b n e p = leb-false (a + w) (b + n) (rw (le-leb b a p) at e)

-- the byte at an address belongs to no area
abbrev pub Nowhere : ℕ → ℕ → Type 0
Nowhere len a =
    (0x0800_0000 ≤ a → a < 0x0800_0000 + len → ⊥)
    × (0x4002_3C00 ≤ a → a < 0x4002_3C18 → ⊥)
    × (0x1FFF_0000 ≤ a → a < 0x1FFF_7A10 → ⊥)
    × (0x1FFF_C000 ≤ a → a < 0x1FFF_C010 → ⊥) × (0x4002_4000 ≤ a → a < 0x4002_5000 → ⊥)

-- where the bytes of an access lie, area by area
abbrev pub Lies : ℕ → ℕ → ℕ → Area → Type 0
Lies len a w (Flash (Main o)) = (a ≡ 0x0800_0000 + o) × (o + w ≤ len)
Lies len a w (Registers o) = (a ≡ 0x4002_3C00 + o) × (o + w ≤ 24)
Lies len a w (Flash (System o)) = (a ≡ 0x1FFF_0000 + o) × (o + w ≤ 0x7800)
Lies len a w (Flash (Otp o)) = (a ≡ 0x1FFF_7800 + o) × (o + w ≤ 528)
Lies len a w (Flash (SystemAndOtp o)) = (a ≡ 0x1FFF_0000 + o) × (o < 0x7800) × (0x7800 < o + w) × (o + w ≤ 0x7800 + 528)
Lies len a w (Flash (OptionCells o)) = (a ≡ 0x1FFF_C000 + o) × (o + w ≤ 16)
Lies len a w (Sram o) = (a ≡ 0x4002_4000 + o) × (o + w ≤ 4096)
Lies len a w Outside = (i : ℕ) × (i < w) × Nowhere len (a + i)

-- the area of byte i of an access whose bytes lie all in areas
abbrev pub byte_area : Area → ℕ → Area
byte_area (Flash (Main o)) i = Flash (Main (o + i))
byte_area (Registers o) i = Registers (o + i)
byte_area (Flash (System o)) i = Flash (System (o + i))
byte_area (Flash (Otp o)) i = Flash (Otp (o + i))
byte_area (Flash (SystemAndOtp o)) i = cond (ltb (o + i) 30_720) (Flash (System (o + i))) (Flash (Otp (o + i - 30_720)))
byte_area (Flash (OptionCells o)) i = Flash (OptionCells (o + i))
byte_area (Sram o) i = Sram (o + i)
byte_area Outside i = Outside

by_range : (P : Type 0) (b e a : ℕ) → (b ≤ a → a < e → P) → ((b ≤ a → a < e → ⊥) → P) → P
by_range P b e a f g =
    by_order P b a
    (λ p. by_order P e a (λ q. g (λ x y. omega arith)) (λ q. f p q))
    (λ p. g (λ x y. omega arith))

by_byte : (P : Type 0) (len a : ℕ) → (Nowhere len a → P)
    → (0x0800_0000 ≤ a → a < 0x0800_0000 + len → P)
    → (0x4002_3C00 ≤ a → a < 0x4002_3C18 → P)
    → (0x1FFF_0000 ≤ a → a < 0x1FFF_7A10 → P)
    → (0x1FFF_C000 ≤ a → a < 0x1FFF_C010 → P)
    → (0x4002_4000 ≤ a → a < 0x4002_5000 → P) → P
by_byte P len a none main register system option sram =
    by_range P 0x0800_0000 (0x0800_0000 + len) a main (λ m.
    by_range P 0x4002_3C00 0x4002_3C18 a register (λ r.
    by_range P 0x1FFF_0000 0x1FFF_7A10 a system (λ s.
    by_range P 0x1FFF_C000 0x1FFF_C010 a option (λ o.
    by_range P 0x4002_4000 0x4002_5000 a sram (λ b. none (m, r, s, o, b))))))

module _ (len a w : ℕ) (small : len ≤ largest_main) (some : 1 ≤ w) (few : w ≤ 8) where
  -- areas that are no neighbours lie further apart than an access is wide, so its first or its last byte is in none
  lies_outside : inside a w main_base len ≡ false → inside a w register_base register_length ≡ false
      → inside a w system_base (system_length + otp_length) ≡ false → inside a w option_base option_length ≡ false → inside a w sram_base sram_length ≡ false
      → Lies len a w Outside
  lies_outside m r s o b =
      by_byte (Lies len a w Outside) len a (λ n. (0, some, rw add-zero n))
      (λ p q. (w - 1, omega arith, omega (arith, outside_high a w main_base len m p)))
      (λ p q. (w - 1, omega arith, omega (arith, outside_high a w register_base register_length r p)))
      (λ p q. (w - 1, omega arith, omega (arith, outside_high a w system_base (system_length + otp_length) s p)))
      (λ p q. (w - 1, omega arith, omega (arith, outside_high a w option_base option_length o p)))
      (λ p q. (w - 1, omega arith, omega (arith, outside_high a w sram_base sram_length b p)))

  lies : Lies len a w (area_of len a w)
  lies =
      let L = Lies len a w in
      keep_by L (inside a w main_base len) (Flash (Main (a - main_base))) _
      (λ e. omega (arith, inside_both a w main_base len e))
      (λ m. keep_by L (inside a w register_base register_length) (Registers (a - register_base)) _
      (λ e. omega (arith, inside_both a w register_base register_length e))
      (λ r. keep_by L (inside a w system_base system_length) (Flash (System (a - system_base))) _
      (λ e. omega (arith, inside_both a w system_base system_length e))
      (λ s. keep_by L (inside a w otp_base otp_length) (Flash (Otp (a - otp_base))) _
      (λ e. omega (arith, inside_both a w otp_base otp_length e))
      (λ t. keep_by L (inside a w system_base (system_length + otp_length)) (Flash (SystemAndOtp (a - system_base))) _
      (λ e.
      let fits = inside_both a w system_base (system_length + otp_length) e in
      let before = by_order (a < otp_base) otp_base a (λ p. absurd (omega (arith, outside_high a w otp_base otp_length t p))) (λ p. p) in
      omega (arith, outside_high a w system_base system_length s fits.0))
      (λ st. keep_by L (inside a w option_base option_length) (Flash (OptionCells (a - option_base))) _
      (λ e. omega (arith, inside_both a w option_base option_length e))
      (λ o. keep_by L (inside a w sram_base sram_length) (Sram (a - sram_base)) Outside
      (λ e. omega (arith, inside_both a w sram_base sram_length e))
      (λ b. lies_outside m r st o b)))))))

  no : (b n : ℕ) → (b ≤ a → a + w ≤ b + n → ⊥) → inside a w b n ≡ false
  no b n out = by_test (inside a w b n ≡ false) (inside a w b n) (λ e. let h = inside_both a w b n e in absurd (out h.0 h.1)) (λ e. e)

  yes : (b n : ℕ) → (b ≤ a) × (a + w ≤ b + n) → inside a w b n ≡ true
  yes b n (p, q) = rw (le-leb b a p, le-leb (a + w) (b + n) q)

  lying : (x : Area) → Lies len a w x → area_of len a w ≡ x
  lying (Flash (Main o)) (e, h) = rw (yes main_base len (omega arith)) (ap (λ (i : ℕ). Flash (Main i)) (omega arith))
  lying (Registers o) (e, h) = rw (no main_base len (omega arith), yes register_base register_length (omega arith)) (ap Registers (omega arith))
  lying (Flash (System o)) (e, h) =
      rw (no main_base len (omega arith), no register_base register_length (omega arith), yes system_base system_length (omega arith))
      (ap (λ (i : ℕ). Flash (System i)) (omega arith))
  lying (Flash (Otp o)) (e, h) =
      rw (no main_base len (omega arith), no register_base register_length (omega arith))
      (rw (no system_base system_length (omega arith), yes otp_base otp_length (omega arith)) (ap (λ (i : ℕ). Flash (Otp i)) (omega arith)))
  lying (Flash (SystemAndOtp o)) (e, f, g, h) =
      rw (no main_base len (omega arith), no register_base register_length (omega arith))
      (rw (no system_base system_length (omega arith), no otp_base otp_length (omega arith), yes system_base (system_length + otp_length) (omega arith))
      (ap (λ (i : ℕ). Flash (SystemAndOtp i)) (omega arith)))
  lying (Flash (OptionCells o)) (e, h) =
      rw (no main_base len (omega arith), no register_base register_length (omega arith))
      (rw (no system_base system_length (omega arith), no otp_base otp_length (omega arith), no system_base (system_length + otp_length) (omega arith))
      (rw (yes option_base option_length (omega arith)) (ap (λ (i : ℕ). Flash (OptionCells i)) (omega arith))))
  lying (Sram o) (e, h) =
      rw (no main_base len (omega arith), no register_base register_length (omega arith))
      (rw (no system_base system_length (omega arith), no otp_base otp_length (omega arith), no system_base (system_length + otp_length) (omega arith))
      (rw (no option_base option_length (omega arith), yes sram_base sram_length (omega arith)) (ap Sram (omega arith))))
  lying Outside (i, l, (m, r, s, o, b)) =
      rw (no main_base len (λ p q. m (omega arith) (omega arith)), no register_base register_length (λ p q. r (omega arith) (omega arith)))
      (rw (no system_base system_length (λ p q. s (omega arith) (omega arith)), no otp_base otp_length (λ p q. s (omega arith) (omega arith)))
      (rw (no system_base (system_length + otp_length) (λ p q. s (omega arith) (omega arith)))
      (rw (no option_base option_length (λ p q. o (omega arith) (omega arith)), no sram_base sram_length (λ p q. b (omega arith) (omega arith))))))

  -- the area of an access says exactly where its bytes lie
  pub area_is : (x : Area) → (area_of len a w ≡ x) ↔ Lies len a w x
  area_is x = (λ e. subst (Lies len a w) e lies, lying x)

byte_lies : (len a w i : ℕ) → i < w → (x : Area) → (x ≡ Outside → ⊥) → Lies len a w x → Lies len (a + i) 1 (byte_area x i)
byte_lies len a w i l (Flash (Main o)) n h = omega arith
byte_lies len a w i l (Registers o) n h = omega arith
byte_lies len a w i l (Flash (System o)) n h = omega arith
byte_lies len a w i l (Flash (Otp o)) n h = omega arith
byte_lies len a w i l (Flash (SystemAndOtp o)) n h =
    keep_by (Lies len (a + i) 1) (ltb (o + i) 30_720) (Flash (System (o + i))) (Flash (Otp (o + i - 30_720)))
    (λ t. omega (arith, ltb-true (o + i) 30_720 t)) (λ t. omega (arith, ltb-false (o + i) 30_720 t))
byte_lies len a w i l (Flash (OptionCells o)) n h = omega arith
byte_lies len a w i l (Sram o) n h = omega arith
byte_lies len a w i l Outside n h = absurd (n refl)

module _ (len a w : ℕ) (small : len ≤ largest_main) (some : 1 ≤ w) (few : w ≤ 8) where
  -- each byte of an access that is not outside lies in the access's area, at its own offset
  pub area_byte : (x : Area) → area_of len a w ≡ x → (x ≡ Outside → ⊥) → (i : ℕ) → i < w → area_of len (a + i) 1 ≡ byte_area x i
  area_byte x e n i l =
      (area_is len (a + i) 1 small (omega arith) (omega arith) (byte_area x i)).1
      (byte_lies len a w i l x n ((area_is len a w small some few x).0 e))

  -- "a byte outside the map": one is enough
  pub area_outside : (area_of len a w ≡ Outside) ↔ (i : ℕ) × (i < w) × (area_of len (a + i) 1 ≡ Outside)
  area_outside = (
    λ e.
        let h = (area_is len a w small some few Outside).0 e in
        (h.0, h.1, (area_is len (a + h.0) 1 small (omega arith) (omega arith) Outside).1 (0, omega arith, rw add-zero h.2)),
    λ h.
        let b = (area_is len (a + h.0) 1 small (omega arith) (omega arith) Outside).0 h.2 in
        let z : b.0 ≡ 0 = omega (arith, b.1) in
        (area_is len a w small some few Outside).1 (h.0, h.1, rw (z, add-zero) at b.2),
  )

-- ---- rows

-- an access lies in one row of 16 exactly where its first and last byte do
pub row_is : (address width : ℕ) → 1 ≤ width → (crosses_row address width ≡ false) ↔ ((address + width - 1) / 16 ≡ address / 16)
row_is address width l = (λ e. let h = ltb-false 16 (address % 16 + width) e in omega arith, λ e. le-ltb 16 (address % 16 + width) (omega arith))

-- a row of main flash lies in one sector
pub row_sector : (o width i : ℕ) → crosses_row (0x0800_0000 + o) width ≡ false → i < width → sector_of (o + i) ≡ sector_of o
row_sector o width i e l = omega (arith, ltb-false 16 ((0x0800_0000 + o) % 16 + width) e, offset_sum (o + i), offset_sum o)

-- and a row of OTP in one block of 32 bytes
pub row_block : (o width i : ℕ) → crosses_row (0x1FFF_7800 + o) width ≡ false → i < width → (o + i) / 32 ≡ o / 32
row_block o width i e l = let row = ltb-false 16 ((0x1FFF_7800 + o) % 16 + width) e in omega arith

-- ---- protection

-- bits 0 to n - 1 of nWRP count, and one at 0 is enough
pub protected_is : (nwrp n : ℕ) → (any_protected nwrp n ≡ true) ↔ (k : ℕ) × (k < n) × (nwrp / 2 ^ k % 2 ≡ 0)
protected_is nwrp zero = (λ e. absurd (false≢true e), λ h. absurd (omega (arith, h.1)))
protected_is nwrp (suc n) = (
  λ e. by_test ((k : ℕ) × (k < suc n) × (nwrp / 2 ^ k % 2 ≡ 0)) (protected_by nwrp n)
      (λ t. (n, omega arith, eqb-true (nwrp / 2 ^ n % 2) 0 t))
      (λ t. let h = (protected_is nwrp n).0 (rw t at e) in (h.0, omega (arith, h.1), h.2)),
  λ h.
      let k = h.0 in
      by_order ((protected_by nwrp n || any_protected nwrp n) ≡ true) n k
      (λ l. let e : k ≡ n = omega (arith, h.1) in rw (eq-eqb (nwrp / 2 ^ n % 2) 0 (rw e at h.2)))
      (λ l. rw ((protected_is nwrp n).1 (k, l, h.2)) (or-true (protected_by nwrp n))),
)

-- "Block i is locked exactly when lock byte i is 00."
pub block_locked_lem : (otp : List ℕ) (i j : ℕ) → i < 16 → j < 32 → (block_locked otp (32 * i + j) ≡ true) ↔ (get_or otp (512 + i) 0 ≡ 0)
block_locked_lem otp i j p q =
    let e : (32 * i + j) / 32 ≡ i = omega arith in
    rw (lt-ltb (32 * i + j) 512 (omega arith), e) (eqb-true (get_or otp (512 + i) 0) 0, eq-eqb (get_or otp (512 + i) 0) 0)

-- "16 lock bytes, which belong to no block"
pub block_none : (otp : List ℕ) (o : ℕ) → 512 ≤ o → block_locked otp o ≡ false
block_none otp o p = rw (le-ltb o 512 p)
