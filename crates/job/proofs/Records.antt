-- A record written is read as it was, and a record read is written as it was: the fields of a sound record fit into their bytes.
use mathlib.Core.Bool.{Bool, true, false, cond, ◌||◌, or-false}
use mathlib.Core.List.{List, [], ◌∷◌, ◌++◌}
use mathlib.Core.Path.{◌≡◌, refl, sym, ap, ◌∙◌}
use Prim.Native.Nat.{ℕ, zero, suc, ◌+◌, ◌*◌, ◌/◌, ◌%◌, ◌^◌, ◌<◌, ◌≤◌}
use native.Mathlib.Nat.{pow-zero, pow-succ', mod-eq_of_lt, pow-le-pow_right, lt_of_lt_of_le}
use native.Mathlib.Omega.{arith}
use lib.Dec.{ltb, lit<, lit≤}
use lib.ListN.{length, get_or, take, drop, length-append, length-drop, take-append-drop}
use lib.Seq.{append_snoc, get_or_at, drop-cons, drop-drop, take_all}
use borrow.Author.Tests.{eqb-true, ltb-false, le-ltb, leb-false, not-false}
use Rattle.std.specs.Prelude.{Option, Some}
use Rattle.cells.specs.Bytes.{value_at, bytes_of}
use Rattle.part.proofs.Entries.{width_is, by_width}
use Rattle.part.proofs.Stepped.{or_left}
use Rattle.part.specs.Refusals.{bad_width, too_big}
use Rattle.part.specs.declared.Call.TheVariants.{Reset, Debugger, Read, Write, Time, Fetch}
use Rattle.part.specs.declared.Lapse.TheVariants.{Pass, Wait}
use Rattle.part.specs.declared.Link.TheVariants.{On, Off}
use Rattle.job.specs.Claims.{CallKept, FieldsKept, HeldExactly, RecordRead, RecordWritten}
use Rattle.job.specs.Kinds.{number_of}
use Rattle.job.specs.Record.{fields, uses_of, filled, out_of, wrong_unused, malformed_record, call_as, fields_of, record_bytes}
use Rattle.job.specs.declared.Fields.{Fields}
use Rattle.job.specs.declared.Widths.{Widths}
use Rattle.job.specs.declared.Widths.TheVariants.{Unused, Any, Word}
use Rattle.job.specs.declared.kinds.Kind.{Kind}
use Rattle.job.specs.declared.kinds.Kind.TheVariants as kind
use Rattle.job.proofs.Rows.{Kept, of_kind, numbered}

-- ---- the fields of a call

pub call_kept : CallKept
call_kept (Reset boot) = refl
call_kept (Debugger On) = refl
call_kept (Debugger Off) = refl
call_kept (Read a) = refl
call_kept (Write a value) = refl
call_kept (Time (Pass t)) = refl
call_kept (Time (Wait t)) = refl
call_kept (Fetch address) = refl

-- of a record the number is asked for before value and width, of a call last
turned : (who number value width : Bool) → (who || number || value || width) ≡ (who || width || value || number)
turned true number value width = refl
turned false true true true = refl
turned false true true false = refl
turned false true false true = refl
turned false true false false = refl
turned false false true true = refl
turned false false true false = refl
turned false false false true = refl
turned false false false false = refl

pub held_exactly : HeldExactly
held_exactly (Reset boot) = boot_first (ltb 2 boot) refl
  where
    -- a boot that is long is above 2
    boot_first : (t : Bool) → ltb 2 boot ≡ t → (t || false || false) ≡ (t || ltb 0xFFFF_FFFF boot)
    boot_first true e = refl
    boot_first false e = sym (le-ltb 0xFFFF_FFFF boot (omega (arith, ltb-false 2 boot e)))
held_exactly (Debugger On) = refl
held_exactly (Debugger Off) = refl
held_exactly (Read a) = turned (ltb 1 a.who) (ltb 0xFFFF_FFFF a.address) false (bad_width a.width) ∙ simp or-false
held_exactly (Write a value) = turned (ltb 1 a.who) (ltb 0xFFFF_FFFF a.address) (too_big a.width value) (bad_width a.width)
held_exactly (Time (Pass t)) = simp or-false
held_exactly (Time (Wait t)) = simp or-false
held_exactly (Fetch address) = simp or-false

-- ---- what fits

unfilled : (x : ℕ) → filled x ≡ false → x ≡ 0
unfilled x e = eqb-true x 0 (not-false _ e)

used_width : (widths : Widths) (w : ℕ) → out_of widths w ≡ false → w ≤ 8
used_width Any w e = by_width (λ (w : ℕ). w ≤ 8) w (lit≤ tt) (lit≤ tt) (lit≤ tt) (lit≤ tt) (not-false _ (sym (width_is w) ∙ e))
used_width Unused w e = let z = unfilled w e in omega arith
used_width Word w e = let z = eqb-true w 4 (not-false _ e) in omega arith

used_value : (used : Bool) (w v : ℕ) → w ≤ 8 → cond used (too_big w v) (filled v) ≡ false → v < 256 ^ 8
used_value true w v l e =
    let k : 8 * w ≤ 64 = omega arith in
    lt_of_lt_of_le (leb-false (2 ^ (8 * w)) v e) (pow-le-pow_right {n = 2} (lit< tt) k)
used_value false w v l e = let z = unfilled v e in rw z (lit< tt)

-- the highest that any kind takes
highest : (kind : Kind) → (number_of kind < 256) × ((uses_of kind).who ≤ 1) × ((uses_of kind).number ≤ 0xFFFF_FFFF)
highest kind.Reset = (lit< tt, lit≤ tt, lit≤ tt)
highest kind.On = (lit< tt, lit≤ tt, lit≤ tt)
highest kind.Off = (lit< tt, lit≤ tt, lit≤ tt)
highest kind.Read = (lit< tt, lit≤ tt, lit≤ tt)
highest kind.Write = (lit< tt, lit≤ tt, lit≤ tt)
highest kind.Pass = (lit< tt, lit≤ tt, lit≤ tt)
highest kind.Wait = (lit< tt, lit≤ tt, lit≤ tt)
highest kind.Fetch = (lit< tt, lit≤ tt, lit≤ tt)

-- each field of a sound record fits into its bytes
record Fits (f : Fields) : Type 0 where
  kind : f.kind < 256
  who : f.who < 256
  width : f.width < 256
  unused : f.unused ≡ 0
  number : f.number < 256 ^ 4
  value : f.value < 256 ^ 8

fits : (f : Fields) → malformed_record f ≡ false → Fits f
fits f e =
    let k = of_kind f e in
    let u = uses_of k.kind in
    let h = highest k.kind in
    let narrow = used_width u.width f.width k.kept.width in
    record {
      kind = rw (numbered f.kind k.kind k.is) h.0;
      who = omega (arith, h.1, ltb-false u.who f.who k.kept.who);
      width = omega arith;
      unused = unfilled f.unused (or_left (wrong_unused f) _ e);
      number = omega (arith, h.2, ltb-false u.number f.number k.kept.number);
      value = used_value u.value f.width f.value narrow k.kept.value;
    }

-- ---- a number as bytes, and back

pub read_back : (n v : ℕ) (p rest : List ℕ) (at : ℕ) → length p ≡ at → v < 256 ^ n → value_at (p ++ (bytes_of n v ++ rest)) at n ≡ v
read_back zero v p rest at e h = omega (arith, rw (pow-zero 256) at h)
read_back (suc n) v p rest at e h =
    let front = p ++ (v % 256 ∷ []) in
    let tail = bytes_of n (v / 256) ++ rest in
    let grown : length front ≡ suc at = length-append p (v % 256 ∷ []) ∙ omega arith in
    let next = read_back n (v / 256) front rest (suc at) grown (omega (arith, rw (pow-succ' 256 n) at h)) in
    let high : value_at (p ++ (v % 256 ∷ tail)) (suc at) n ≡ v / 256 = ap (λ (s : List ℕ). value_at s (suc at) n) (sym (append_snoc p (v % 256) tail)) ∙ next in
    let low = get_or_at p (v % 256) tail 0 at e in
    omega (arith, low, high)

pub bytes_back : (s : List ℕ) (n at : ℕ) → at + n ≤ length s → ((i : ℕ) → get_or s i 0 < 256) → bytes_of n (value_at s at n) ≡ take n (drop at s)
bytes_back s zero at h b = refl
bytes_back s (suc n) at h b =
    let rest = value_at s (suc at) n in
    let low : (get_or s at 0 + 256 * rest) % 256 ≡ get_or s at 0 = omega (arith, b at) in
    let high : (get_or s at 0 + 256 * rest) / 256 ≡ rest = omega (arith, b at) in
    rw (low, high, drop-cons s at 0 (omega arith)) (ap (λ (xs : List ℕ). get_or s at 0 ∷ xs) (bytes_back s n (suc at) (omega arith) b))

pub record_read : RecordRead
record_read f e =
    let k = fits f e in
    let front = f.kind % 256 ∷ f.who % 256 ∷ f.width % 256 ∷ f.unused % 256 ∷ [] in
    let number : value_at (record_bytes f) 4 4 ≡ f.number = read_back 4 f.number front (bytes_of 8 f.value) 4 refl k.number in
    let value : value_at (record_bytes f) 8 8 ≡ f.value = read_back 8 f.value (front ++ bytes_of 4 f.number) [] 8 refl k.value in
    let unused : f.unused % 256 ≡ f.unused = omega (arith, k.unused) in
    λ i. fields (mod-eq_of_lt k.kind i) (mod-eq_of_lt k.who i) (mod-eq_of_lt k.width i) (unused i) (number i) (value i)

pub record_written : RecordWritten
record_written s e b =
    let low : (i : ℕ) → get_or s i 0 % 256 ≡ get_or s i 0 = λ i. mod-eq_of_lt (b i) in
    let at : (i : ℕ) → i < 16 → drop i s ≡ get_or s i 0 ∷ drop (suc i) s = λ i h. drop-cons s i 0 (omega arith) in
    let number = bytes_back s 4 4 (omega arith) b in
    let value = bytes_back s 8 8 (omega arith) b ∙ take_all 8 (drop 8 s) (omega (arith, length-drop 8 s)) in
    let split = ap (λ (xs : List ℕ). take 4 (drop 4 s) ++ xs) (sym (drop-drop 4 4 s)) ∙ take-append-drop 4 (drop 4 s) in
    (λ i. low 0 i ∷ low 1 i ∷ low 2 i ∷ low 3 i ∷ (number i ++ value i))
    ∙ ap (λ (xs : List ℕ). get_or s 0 0 ∷ get_or s 1 0 ∷ get_or s 2 0 ∷ get_or s 3 0 ∷ xs) split
    ∙ sym (at 0 (lit< tt) ∙ ap (λ (xs : List ℕ). get_or s 0 0 ∷ xs) (at 1 (lit< tt) ∙ ap (λ (xs : List ℕ). get_or s 1 0 ∷ xs)
    (at 2 (lit< tt) ∙ ap (λ (xs : List ℕ). get_or s 2 0 ∷ xs) (at 3 (lit< tt)))))

-- ---- the fields of a sound record are those of its call

pub fields_kept : FieldsKept
fields_kept f e =
    let k = of_kind f e in
    ap (λ (kind : Option Kind). fields_of (call_as kind f)) k.is ∙ at k.kind (numbered f.kind k.kind k.is) k.kept
  where
    none : {x : ℕ} → ltb 0 x ≡ false → x ≡ 0
    none {x} q = omega (arith, ltb-false 0 x q)

    same : {kind who width number value : ℕ} → f.kind ≡ kind → f.who ≡ who → f.width ≡ width → f.number ≡ number → f.value ≡ value
        → fields kind who width 0 number value ≡ f
    same k p q r t = λ i. fields (sym k i) (sym p i) (sym q i) (sym (fits f e).unused i) (sym r i) (sym t i)

    at : (kind : Kind) → f.kind ≡ number_of kind → Kept (uses_of kind) f → fields_of (call_as (Some kind) f) ≡ f
    at kind.Reset n k = same n (none k.who) (unfilled _ k.width) refl (unfilled _ k.value)
    at kind.On n k = same n (none k.who) (unfilled _ k.width) (none k.number) (unfilled _ k.value)
    at kind.Off n k = same n (none k.who) (unfilled _ k.width) (none k.number) (unfilled _ k.value)
    at kind.Read n k = same n refl refl refl (unfilled _ k.value)
    at kind.Write n k = same n refl refl refl refl
    at kind.Pass n k = same n (none k.who) (unfilled _ k.width) refl (unfilled _ k.value)
    at kind.Wait n k = same n (none k.who) (unfilled _ k.width) refl (unfilled _ k.value)
    at kind.Fetch n k = same n (none k.who) (eqb-true _ 4 (not-false _ k.width)) refl (unfilled _ k.value)
