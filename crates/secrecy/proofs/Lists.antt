-- Demand 3 over lists, with lines. Of two parts apart, lines are filled and moved alike, since neither looks at a byte; a value that comes from a
-- line is one that is hidden; and the call that brings level 0 empties them.
use Rattle.std.specs.Prelude.{Option, Some, None}
use mathlib.Core.Bool.{Bool, true, false, cond, ◌&&◌, true≢false}
use mathlib.Core.List.{List, [], ◌∷◌}
use mathlib.Core.Logic.{◌⊎◌, inl, inr, ⊎_elim}
use mathlib.Core.Path.{◌≡◌, refl, sym, ap, ap₂, subst, ◌∙◌}
use Prim.Native.Nat.{ℕ, ◌-◌}
use lib.Dec.{eqb, ltb}
use lib.ListN.{length}
use borrow.Author.Tests.{eqb-true}
use Rattle.cached.proofs.Done.{fetch_done, read_done}
use Rattle.cached.proofs.Laws.{looks}
use Rattle.cached.proofs.Sound.{count}
use Rattle.cached.proofs.Transparent.{Sound, fresh_sound, next}
use Rattle.cached.specs.Claims.{Stale, stale, stale_by}
use Rattle.cached.specs.Device.{Device, Request, call, window, Said, answered, device, device_after, part_after, said_to}
use Rattle.cached.specs.Lines.{Lines, Looked, after_time, after_write, at_end, both_emptied, emptied_if, is_done, lined_by, lines, looked, looked_up, no_lines, takes}
use Rattle.caches.proofs.Laws.{accessed_only, emptied_none, emptied_only, refreshed_tags}
use Rattle.caches.specs.Sides.{Side, Through, none, side}
use Rattle.cascade.proofs.Picks.{keep, keep₂}
use Rattle.map.proofs.Forms.{both_left, both_right}
use Rattle.map.specs.Areas.{inside, main_base, register_base}
use Rattle.part.proofs.Effects.{fetch_keeps, read_keeps}
use Rattle.part.proofs.View.{viewed}
use Rattle.part.specs.Calls.{step}
use Rattle.part.specs.Operations.{elapsed_over, ended}
use Rattle.part.specs.Options.{level_of}
use Rattle.part.specs.State.{Part, Outcome, part, code_of, value_of, is_busy}
use Rattle.part.specs.declared.{Access.Access, Answer.Answer, Call.Call, Record.Record, Target.Target}
use Rattle.part.specs.declared.Running.{Running}
use Rattle.part.specs.declared.Answer.TheVariants.{Done}
use Rattle.part.specs.declared.Call.TheVariants.{Debugger, Fetch, Read, Reset, Time, Write}
use Rattle.part.specs.declared.Target.TheVariants as target
use Rattle.registers.specs.Fields.{DCEN, ICEN, DCRST, ICRST}
use Rattle.registers.specs.Words.{is_set, placed}
use Rattle.time.specs.declared.{Micros.Micros}
use Rattle.secrecy.specs.Secrecy.{Event, FreshPair, Secrecy, Seen, event_of, opened, seen, tagged, views}
use Rattle.secrecy.proofs.Invariant.{Inv, Sure, changed_level, next_inv}
use Rattle.secrecy.proofs.Secret.{Alike, Apart, alike_apart, clean_cpu, event_same, fresh_apart, fresh_inv, still_shut, told}

-- ---- tags: which lines are held, and in what order

pub record SameTags (l k : Lines) : Type 0 where
  pub data_side : k.data_side.tags ≡ l.data_side.tags
  pub code_side : k.code_side.tags ≡ l.code_side.tags

-- two choices by equal tests
by_test : (t w : Bool) → w ≡ t → (x y x' y' : Looked) → x'.side.tags ≡ x.side.tags → y'.side.tags ≡ y.side.tags
    → (cond w x' y').side.tags ≡ (cond t x y).side.tags
by_test t w e x y x' y' f g =
    subst (λ (w : Bool). (cond w x' y').side.tags ≡ (cond t x y).side.tags) (sym e)
    (keep₂ (λ (a b : Looked). b.side.tags ≡ a.side.tags) t x y x' y' f g)

module _ (l k : Lines) (e : SameTags l k) where
  both_same : SameTags (both_emptied l) (both_emptied k)
  both_same = record { data_side = emptied_only l.data_side k.data_side e.data_side; code_side = emptied_only l.code_side k.code_side e.code_side }

  if_same : (s u : Side) → u.tags ≡ s.tags → (t : Bool) → (emptied_if t u).tags ≡ (emptied_if t s).tags
  if_same s u f true = emptied_only s u f
  if_same s u f false = f

  end_same : (t : Target) (m n : List ℕ) → SameTags (at_end t m l) (at_end t n k)
  end_same (target.Bytes w) m n =
      keep₂ SameTags w.otp l _ k _ e (record {
        data_side = refreshed_tags n w.offset w.width k.data_side ∙ e.data_side ∙ sym (refreshed_tags m w.offset w.width l.data_side);
        code_side = e.code_side;
      })
  end_same (target.Sector n) m _ = e
  end_same (target.Main len) m n = e
  end_same target.Options m n = e
  end_same (target.Regression len option) m n = both_same

  time_same : (op now : Option Running) (m n : List ℕ) → SameTags (after_time op now m l) (after_time op now n k)
  time_same None now m n = e
  time_same (Some running) now m n = keep₂ SameTags (is_busy now) l _ k _ e (end_same running.target m n)

  looked_same : (on : Bool) (m n : List ℕ) (b d : Answer) (address width : ℕ) (s u : Side) → u.tags ≡ s.tags → length n ≡ length m
      → is_done d ≡ is_done b → (looked_up on n d address width u).side.tags ≡ (looked_up on m b address width s).side.tags
  looked_same on m n b d address width s u f len done =
      let tests : looks on n d address width ≡ looks on m b address width = λ i. on && (done i && inside address width main_base (len i)) in
      by_test (looks on m b address width) (looks on n d address width) tests _ _ _ _ (accessed_only s u f n m (address - main_base) width) f

  lined_same : (c : Call) (r s : Record) (m n : List ℕ) (b d : Answer) → length n ≡ length m → is_done d ≡ is_done b
      → SameTags (lined_by c r b s m l).lines (lined_by c r d s n k).lines
  lined_same (Reset boot) r s m n b d len done =
      subst (λ (t : Bool). SameTags (cond (is_done b) (both_emptied l) l) (cond t (both_emptied k) k)) (sym done)
      (keep₂ SameTags (is_done b) _ l _ k both_same e)
  lined_same (Debugger link) r s m n b d len done = e
  lined_same (Read a) r s m n b d len done =
      record {
        data_side = looked_same (is_set r.acr DCEN) m n b d a.address a.width l.data_side k.data_side e.data_side len done;
        code_side = e.code_side;
      }
  lined_same (Write a v) r s m n b d len done =
      let written = placed v a.width (a.address - register_base) in
      let here = inside a.address a.width register_base 4 in
      subst (λ (t : Bool). SameTags (after_write r.acr b a v l) (cond (t && here) (lines (emptied_if (takes r.acr written DCEN DCRST) k.data_side)
      (emptied_if (takes r.acr written ICEN ICRST) k.code_side)) k)) (sym done)
      (keep₂ SameTags (is_done b && here) _ l _ k (record {
        data_side = if_same l.data_side k.data_side e.data_side (takes r.acr written DCEN DCRST);
        code_side = if_same l.code_side k.code_side e.code_side (takes r.acr written ICEN ICRST);
      }) e)
  lined_same (Time t) r s m n b d len done = time_same r.op s.op m n
  lined_same (Fetch address) r s m n b d len done =
      record {
        data_side = e.data_side;
        code_side = looked_same (is_set r.acr ICEN) m n b d address 4 l.code_side k.code_side e.code_side len done;
      }

-- ---- the call that brings level 0 empties both sides

module _ (h : List Event) (p : Part) (v : Inv h p) (above : eqb (level_of p.options) 0 ≡ false) (l : Lines) where
  abbrev r : Record
  r = p.rec

  abbrev Opens : Call → Outcome → Type 0
  Opens c o = eqb (level_of o.part.options) 0 ≡ true → (lined_by c r o.answer o.part.rec o.part.main l).lines ≡ both_emptied l

  -- the option cells stay
  shut : {A : Type 0} → eqb (level_of p.options) 0 ≡ true → A
  shut e = absurd (true≢false (sym e ∙ above))

  abbrev Over : Option Running → Part → Type 0
  Over op q = eqb (level_of q.options) 0 ≡ true → after_time op q.rec.op q.main l ≡ both_emptied l

  end_empties : (t : Target) (left : Micros) → Sure (Some (record { target = t; left = left })) r.optcr p.options
      → Over (Some (record { target = t; left = left })) (ended p t)
  end_empties (target.Bytes w) left sure e = shut e
  end_empties (target.Sector k) left sure e = shut e
  end_empties (target.Main len) left sure e = shut e
  end_empties target.Options left sure e = absurd (true≢false (sym e ∙ changed_level p.options r.optcr (sure refl above)))
  end_empties (target.Regression len option) left sure e = refl

  over_empties : (op : Option Running) (t : Micros) → Sure op r.optcr p.options → Over op (elapsed_over p op t)
  over_empties None t sure = λ e. shut e
  over_empties (Some running) t sure =
      keep (Over (Some running)) (ltb t.0 running.left.0) _ _ (λ e. shut e) (end_empties running.target running.left sure)

  pub opening_empties : (timings scrap : List ℕ) (c : Call) → Opens c (step timings scrap c p)
  opening_empties timings scrap =
      viewed Opens timings scrap p (record {
        refused = λ c why _ e. shut e;
        reset = λ boot _ e. refl;
        on = λ _ e. shut e;
        off = λ e. shut e;
        told = λ _ _ e. shut e;
        fetched = λ _ _ e. shut e;
        stored = λ _ _ _ _ _ e. shut e;
        started = λ _ _ _ _ _ _ _ e. shut e;
        laid = λ _ _ _ e. shut e;
        passed = λ t b op same u.
            subst (λ (o : Option Running). eqb (level_of (elapsed_over p op u).options) 0 ≡ true
            → after_time o (elapsed_over p op u).rec.op (elapsed_over p op u).main l ≡ both_emptied l) (sym same)
            (over_empties op u (subst (λ (o : Option Running). Sure o r.optcr p.options) same v.sure));
      })

-- ---- what is told

-- a value that comes from a line is hidden
module _ (timings scrap : List ℕ) (h : List Event) (p : Part) (v : Inv h p) (above : eqb (level_of p.options) 0 ≡ false) where
  clean_read : (a : Access) → (let x = step timings scrap (Read a) p in looks (is_set p.rec.acr DCEN) p.main x.answer a.address a.width ≡ true
      → (value : ℕ) → told h (call scrap (Read a)) (length p.main) (answered 0 value) ≡ answered 0 0)
  clean_read a e value =
      let b = (step timings scrap (Read a) p).answer in
      let rest = both_right (is_set p.rec.acr DCEN) _ e in
      let here = both_right (is_done b) _ rest in
      let (reach, who, con) = read_done timings scrap p a (eqb-true (code_of b) 0 (both_left (is_done b) _ rest)) here in
      let (clean_is, cpu) =
      clean_cpu timings h p.rec p.main p.main p.otp p.options p.sram p.sram v refl refl above a.who reach.power who con
      reach.unguarded in
      rw (clean_is, cpu, here) refl

  clean_fetch : (address : ℕ) → (let x = step timings scrap (Fetch address) p in looks (is_set p.rec.acr ICEN) p.main x.answer address 4 ≡ true
      → (value : ℕ) → told h (call scrap (Fetch address)) (length p.main) (answered 0 value) ≡ answered 0 0)
  clean_fetch address e value =
      let b = (step timings scrap (Fetch address) p).answer in
      let rest = both_right (is_set p.rec.acr ICEN) _ e in
      let (reach, _) = fetch_done timings scrap p address (eqb-true (code_of b) 0 (both_left (is_done b) _ rest)) in
      let (clean_is, _) =
      clean_cpu timings h p.rec p.main p.main p.otp p.options p.sram p.sram v refl refl above 0 reach.power refl refl
      reach.unguarded in
      rw clean_is refl

abbrev pub said_by : Answer → Said
said_by b = answered (code_of b) (value_of b)

-- both answers come from lines and are blank, or both from the cells
looked_told : (h : List Event) (x : Request) (k n : ℕ) → n ≡ k → (t w : Bool) → w ≡ t → (u v : Through) (b d : Answer) (s z : Side)
    → (t ≡ true → (value : ℕ) → told h x k (answered 0 value) ≡ answered 0 0) → told h x n (said_by d) ≡ told h x k (said_by b)
    → told h x n (said_by (cond w (looked (Done v.value) v.side) (looked d z)).answer)
    ≡ told h x k (said_by (cond t (looked (Done u.value) u.side) (looked b s)).answer)
looked_told h x k n e t w f u v b d s z blank same =
    subst (λ (w : Bool). told h x n (said_by (cond w (looked (Done v.value) v.side) (looked d z)).answer)
    ≡ told h x k (said_by (cond t (looked (Done u.value) u.side) (looked b s)).answer)) (sym f) (at t blank)
  where
    at : (t : Bool) → (t ≡ true → (value : ℕ) → told h x k (answered 0 value) ≡ answered 0 0)
        → told h x n (said_by (cond t (looked (Done v.value) v.side) (looked d z)).answer)
        ≡ told h x k (said_by (cond t (looked (Done u.value) u.side) (looked b s)).answer)
    at true blank = ap (λ (k : ℕ). told h x k (answered 0 v.value)) e ∙ blank refl v.value ∙ sym (blank refl u.value)
    at false blank = same

-- ---- two devices that a host cannot tell apart

pub record ApartWith (h : List Event) (d e : Device) : Type 0 where
  pub parts : Apart h d.part e.part
  pub tags : SameTags d.lines e.lines
  pub old₁ : Stale
  pub old₂ : Stale
  pub sound₁ : Sound d.part.main d.lines old₁
  pub sound₂ : Sound e.part.main e.lines old₂

-- the invariant looks at nothing that differs
inv_other : (h : List Event) (p q : Part) → Inv h p → Apart h p q → Inv h q
inv_other h p q v a =
    let e : part p.rec q.main q.otp p.options q.sram ≡ q = λ i. part (sym a.rec i) q.main q.otp (sym a.options i) q.sram in
    subst (Inv h) e (record { conn = v.conn; mark = v.mark; sure = v.sure; off2 = v.off2 })

module _ (timings : List ℕ) (h : List Event) (d e : Device) (v : Inv h d.part) (a : ApartWith h d e) where
  abbrev p : Part
  p = d.part

  abbrev q : Part
  q = e.part

  abbrev above : eqb (level_of p.options) 0 ≡ false
  above = a.parts.level

  alike : (x : Request) → Alike timings h x p q
  alike x = alike_apart timings h x p q v a.parts

  abbrev Says : Request → Type 0
  Says x = told h x (length q.main) (said_to timings x e) ≡ told h x (length p.main) (said_to timings x d)

  pub said_same : (x : Request) → Says x
  said_same (window who sector) = (alike (window who sector)).said
  said_same (call scrap (Reset boot)) = (alike (call scrap (Reset boot))).said
  said_same (call scrap (Debugger link)) = (alike (call scrap (Debugger link))).said
  said_same (call scrap (Write b w)) = (alike (call scrap (Write b w))).said
  said_same (call scrap (Time t)) = (alike (call scrap (Time t))).said
  said_same (call scrap (Read b)) =
      let x = call scrap (Read b) in
      let main : (z : Part) → (step timings scrap (Read b) z).part.main ≡ z.main = λ z. ap (λ (y : Part). y.main) (read_keeps timings scrap b z) in
      let looking : (z : Part) → Bool = λ z. let y = step timings scrap (Read b) z in looks (is_set z.rec.acr DCEN) y.part.main y.answer b.address b.width in
      let tests : looking q ≡ looking p =
      λ i. is_set (a.parts.rec i).acr DCEN && ((alike x).done i
      && inside b.address b.width main_base ((ap length (main q) ∙ a.parts.len ∙ sym (ap length (main p))) i)) in
      looked_told h x (length p.main) (length q.main) a.parts.len (looking p) (looking q) tests _ _ _ _ _ _
      (λ t. clean_read timings scrap h p v above b
      (ap (λ (m : List ℕ). looks (is_set p.rec.acr DCEN) m (step timings scrap (Read b) p).answer b.address b.width) (sym (main p)) ∙ t))
      (alike x).said
  said_same (call scrap (Fetch address)) =
      let x = call scrap (Fetch address) in
      let main : (z : Part) → (step timings scrap (Fetch address) z).part.main ≡ z.main =
      λ z. ap (λ (y : Part). y.main) (fetch_keeps timings scrap address z) in
      let looking : (z : Part) → Bool = λ z. let y = step timings scrap (Fetch address) z in looks (is_set z.rec.acr ICEN) y.part.main y.answer address 4 in
      let tests : looking q ≡ looking p =
      λ i. is_set (a.parts.rec i).acr ICEN && ((alike x).done i
      && inside address 4 main_base ((ap length (main q) ∙ a.parts.len ∙ sym (ap length (main p))) i)) in
      looked_told h x (length p.main) (length q.main) a.parts.len (looking p) (looking q) tests _ _ _ _ _ _
      (λ t. clean_fetch timings scrap h p v above address
      (ap (λ (m : List ℕ). looks (is_set p.rec.acr ICEN) m (step timings scrap (Fetch address) p).answer address 4) (sym (main p)) ∙ t))
      (alike x).said

  -- lines after a request, with their tags and what is known of them
  pub record LinesAfter (x : Request) : Type 0 where
    pub tags : SameTags (device_after timings x d).lines (device_after timings x e).lines
    pub old₁ : Stale
    pub old₂ : Stale
    pub sound₁ : Sound (device_after timings x d).part.main (device_after timings x d).lines old₁
    pub sound₂ : Sound (device_after timings x e).part.main (device_after timings x e).lines old₂

  lines_after : (x : Request) → LinesAfter x
  lines_after (window who sector) = record { tags = a.tags; old₁ = a.old₁; old₂ = a.old₂; sound₁ = a.sound₁; sound₂ = a.sound₂ }
  lines_after (call scrap c) =
      let k = alike (call scrap c) in
      let x = step timings scrap c p in
      let y = step timings scrap c q in
      let len : length y.part.main ≡ length x.part.main = ⊎_elim (λ z. ap length z.0) (λ z. z.0) k.next.secret in
      let at : Record → Record → Type 0 = λ r s. SameTags (lined_by c p.rec x.answer x.part.rec x.part.main d.lines).lines
      (lined_by c r y.answer s y.part.main e.lines).lines in
      record {
        tags = subst (λ (r : Record). at r y.part.rec) (sym a.parts.rec) (subst (at p.rec) (sym k.next.rec)
            (lined_same d.lines e.lines a.tags c p.rec x.part.rec x.part.main y.part.main x.answer y.answer len k.done));
        old₁ = stale_by c p x a.old₁;
        old₂ = stale_by c q y a.old₂;
        sound₁ = (next timings scrap p d.lines a.old₁ a.sound₁ c).1;
        sound₂ = (next timings scrap q e.lines a.old₂ a.sound₂ c).1;
      }

  -- at level 0 both sides of both are empty
  none_left_lem : {main : List ℕ} {l : Lines} {s : Stale} → Sound main l s → both_emptied l ≡ no_lines
  none_left_lem {main} {l} {s} k =
      λ i. lines ((emptied_none l.data_side k.data_side.free ∙ ap none (count k.data_side)) i)
      ((emptied_none l.code_side k.code_side.free ∙ ap none (count k.code_side)) i)

  lines_equal : (x : Request) → eqb (level_of (part_after timings x p).options) 0 ≡ true → (device_after timings x e).lines ≡ (device_after timings x d).lines
  lines_equal (window who sector) z = absurd (true≢false (sym z ∙ above))
  lines_equal (call scrap c) z =
      let zero_q = ap (λ (o : List ℕ). eqb (level_of o) 0) (alike (call scrap c)).next.options ∙ z in
      let above_q = ap (λ (o : List ℕ). eqb (level_of o) 0) a.parts.options ∙ above in
      opening_empties h q (inv_other h p q v a.parts) above_q e.lines timings scrap c zero_q ∙ none_left_lem a.sound₂
      ∙ sym (opening_empties h p v above d.lines timings scrap c z ∙ none_left_lem a.sound₁)

  -- after a request the two are equal, or still apart
  pub devices_next : (x : Request)
      → (device_after timings x e ≡ device_after timings x d)
      ⊎ ApartWith (event_of timings x p ∷ h) (device_after timings x d) (device_after timings x e)
  devices_next x = at (eqb (level_of (part_after timings x p).options) 0) refl
    where
      k : Alike timings h x p q
      k = alike x

      after : (z : Request) (f : Device) → (device_after timings z f).part ≡ part_after timings z f.part
      after (call scrap c) f = refl
      after (window who sector) f = refl

      at : (t : Bool) → eqb (level_of (part_after timings x p).options) 0 ≡ t
          → (device_after timings x e ≡ device_after timings x d)
          ⊎ ApartWith (event_of timings x p ∷ h) (device_after timings x d) (device_after timings x e)
      at true z =
          let (main, sram) = ⊎_elim (λ s. s) (λ s. absurd (true≢false (sym z ∙ s.2))) k.next.secret in
          let parts : part_after timings x q ≡ part_after timings x p = λ i. part (k.next.rec i) (main i) (k.next.otp i) (k.next.options i) (sram i) in
          inl (λ i. device ((after x e ∙ parts ∙ sym (after x d)) i) (lines_equal x z i))
      at false z =
          let f = lines_after x in
          let G : Part → Part → Type 0 = Apart (event_of timings x p ∷ h) in
          inr (record {
            parts = subst (λ (y : Part). G y (device_after timings x e).part) (sym (after x d)) (subst (G (part_after timings x p)) (sym (after x e)) (record {
              rec = k.next.rec;
              otp = k.next.otp;
              options = k.next.options;
              len = ⊎_elim (λ s. ap length s.0) (λ s. s.0) k.next.secret;
              back = ⊎_elim (λ s. ap length s.1) (λ s. s.1) k.next.secret;
              level = z;
              shut = still_shut (level_of p.options) (level_of (part_after timings x p).options) (opened h) z a.parts.shut;
            }));
            tags = f.tags;
            old₁ = f.old₁;
            old₂ = f.old₂;
            sound₁ = f.sound₁;
            sound₂ = f.sound₂;
          })

  event_equal : (x : Request) → event_of timings x q ≡ event_of timings x p
  event_equal x = event_same timings h x p q a.parts (alike x)

-- ---- lists

-- what is seen, by what is told, whether the history was opened, and the device after it
abbrev seen_from : Said → Bool → Device → Seen
seen_from s shown d =
    record {
      said = s;
      rec = d.part.rec;
      otp = d.part.otp;
      options = d.part.options;
      main = cond shown d.part.main [];
      sram = cond shown d.part.sram [];
      data_side = cond shown d.lines.data_side (tagged d.lines.data_side);
      code_side = cond shown d.lines.code_side (tagged d.lines.code_side);
    }

-- before that, of devices apart the same is seen
apart_seen : (s : Said) (shown : Bool) (h : List Event) (d e : Device) → opened h ≡ shown → ApartWith h d e → seen_from s shown e ≡ seen_from s shown d
apart_seen s shown h d e f a =
    rw (sym f ∙ a.parts.shut) (λ i. record {
      said = s;
      rec = a.parts.rec i;
      otp = a.parts.otp i;
      options = a.parts.options i;
      main = [];
      sram = [];
      data_side = side (a.tags.data_side i) [];
      code_side = side (a.tags.code_side i) [];
    })

seen_by : (s t : Said) (shown other : Bool) (h : List Event) (d e : Device) → t ≡ s → other ≡ shown → opened h ≡ shown → (e ≡ d) ⊎ ApartWith h d e
    → seen_from t other e ≡ seen_from s shown d
seen_by s t shown other h d e said f g (inl same) = λ i. seen_from (said i) (f i) (same i)
seen_by s t shown other h d e said f g (inr a) = (λ i. seen_from (said i) (f i) e) ∙ apart_seen s shown h d e g a

seen_same : (timings : List ℕ) (h : List Event) (x : Request) (d e : Device) → Inv h d.part → ApartWith h d e
    → seen timings h x e ≡ seen timings h x d
seen_same timings h x d e v a =
    seen_by (told h x (length d.part.main) (said_to timings x d)) (told h x (length e.part.main) (said_to timings x e))
    (opened (event_of timings x d.part ∷ h)) (opened (event_of timings x e.part ∷ h)) (event_of timings x d.part ∷ h)
    (device_after timings x d) (device_after timings x e) (said_same timings h d e v a x)
    (ap (λ (z : Event). opened (z ∷ h)) (event_equal timings h d e v a x)) refl (devices_next timings h d e v a x)

-- what holds of devices apart holds of equal ones
or_equal : (f : Device → List Seen) (d e : Device) {A : Type 0} → (e ≡ d) ⊎ A → (A → f e ≡ f d) → f e ≡ f d
or_equal f d e (inl same) g = ap f same
or_equal f d e (inr a) g = g a

views_same : (timings : List ℕ) (xs : List Request) (h : List Event) (d e : Device) → Inv h d.part → ApartWith h d e
    → views timings h xs e ≡ views timings h xs d
views_same timings [] h d e v a = refl
views_same timings (x ∷ xs) h d e v a =
    let i = next_inv h d.part v timings x in
    ap₂ {C = List Seen} (λ s t. s ∷ t) (seen_same timings h x d e v a)
    (ap (λ (z : Event). views timings (z ∷ h) xs (device_after timings x e)) (event_equal timings h d e v a x)
    ∙ or_equal (views timings (event_of timings x d.part ∷ h) xs) (device_after timings x d) (device_after timings x e) (devices_next timings h d e v a x)
    (views_same timings xs (event_of timings x d.part ∷ h) (device_after timings x d) (device_after timings x e) (inv_after x i)))
  where
    inv_after : (x : Request) → Inv (event_of timings x d.part ∷ h) (part_after timings x d.part)
        → Inv (event_of timings x d.part ∷ h) (device_after timings x d).part
    inv_after (call scrap c) i = i
    inv_after (window who sector) i = i

pub fresh_apart_with : (p q : Part) → FreshPair p q → ApartWith [] (device p no_lines) (device q no_lines)
fresh_apart_with p q f =
    record {
      parts = fresh_apart p q f;
      tags = record { data_side = refl; code_side = refl };
      old₁ = stale false false;
      old₂ = stale false false;
      sound₁ = fresh_sound p.main;
      sound₂ = fresh_sound q.main;
    }

pub secret : Secrecy
secret timings xs p q f = views_same timings xs [] (device p no_lines) (device q no_lines) (fresh_inv p q f) (fresh_apart_with p q f)
