-- When flags, what runs and the cells change, for every call: its code says which law of what it leaves applies (Effects.antt, WriteEffects.antt),
-- and a code other than 0 is that of an entry that applies, so of a call of one kind.
use mathlib.Core.Bool.{Bool, true, false, not, cond, ◌&&◌, ◌||◌, true≢false, false≢true, and-true, and-false, or-true, or-false, or_assoc}
use mathlib.Core.List.{List, [], ◌∷◌}
use mathlib.Core.Logic.{◌⊎◌, inl, inr, ⊎_elim}
use mathlib.Core.Path.{◌≡◌, refl, sym, ap, subst, ◌∙◌}
use Prim.Native.Nat.{ℕ, ◌*◌, ◌/◌, ◌^◌, ◌<◌, ◌≤◌}
use native.Mathlib.Nat.{zero-div}
use native.Mathlib.Omega.{arith}
use lib.Dec.{eqb, leb, ltb, lit<, lit≤}
use lib.ListN.{length}
use borrow.Author.Tests.{eqb-true, eq-eqb, ltb-true, le-leb, lt-leb, le-ltb, leb-true, not-false, ne_eqb}
use Rattle.cascade.proofs.Picks.{keep_by}
use Rattle.map.proofs.Forms.{both_left, both_right}
use Rattle.part.specs.Calls.{step}
use Rattle.part.specs.Effects.{AreBytes, Cuts, Ends, Passes, Same, accepted, asks, clears, covers, is_reset, lets, nearer, CellsChange, Changes, EndsOnly}
use Rattle.part.specs.Effects.{EopRises, FlagFalls, FlagRises, OnlyWhileBusy, OperrRises, SramApart, Starts, uses_sram, writes_sram}
use Rattle.part.specs.Operations.{time_left}
use Rattle.part.specs.Registers.{cr_of, optcr_of}
use Rattle.part.specs.Rules.{bit, is_in, to_flash, to_sram, to_word, word_after, Told, told, Entry, first, entries, done_value, entries_of, scrap_wanted}
use Rattle.part.specs.State.{Part, Outcome, having, code_of, value_of, is_busy, with_sram}
use Rattle.part.proofs.Codes.{answered}
use Rattle.part.proofs.Cut.{reset_effect}
use Rattle.part.proofs.Effects.{on_effect, off_effect, read_keeps, fetch_keeps, pass_effect, wait_done, wait_expired, left_runs}
use Rattle.part.proofs.Entries.{in_all}
use Rattle.part.proofs.RegisterBits.{Masks, agree_below, by_order, sr_bits}
use Rattle.part.proofs.Stepped.{and_false_right, or_left, or_right, change_codes}
use Rattle.part.proofs.Types.{Access, Call, Reset, Read, Write, Fetch, Debugger, Time, Pass, Wait, Off, On, Option, None, Some, Record, Running}
use Rattle.part.proofs.WriteEffects.{by_or, write_where, program_starts, flag_raised, acr_written, key_written, wrong_key_lem, sr_written, cr_written}
use Rattle.part.proofs.WriteEffects.{optcr_written, other_refusal_keeps, by_word, sram_written, words, write_cells}

-- what a call with that code and value leaves: a bit of SR stays unless it is cleared, a flag and OPERR (bit 1) rise with code 17, and EOP
-- (bit 0) at an end; what runs goes on unless it ends, and a write may start something; cells change at an end or a cut, and the SRAM by a write
pub record Changed (scrap : List ℕ) (p : Part) (c : Call) (code value : ℕ) (q : Part) : Type 0 where
  pub sr : (k : ℕ) → k < 32
      → bit q.rec.sr k
      ≡ ((bit p.rec.sr k && not (eqb code 0 && clears c k))
      || (eqb code 17 && ((is_in k (4 ∷ 5 ∷ 6 ∷ 7 ∷ []) && eqb value (2 ^ k)) || (eqb k 1 && bit q.rec.cr 25)))
      || (eqb code 0 && (covers c p.rec.op && (eqb k 0 && bit p.rec.cr 24))))
  pub op : is_busy q.rec.op
      ≡ ((is_busy p.rec.op && not (eqb code 0 && (is_reset c || covers c p.rec.op))) || (eqb code 0 && asks c p.rec))
  pub cells : Same p q
      ⊎ ((code ≡ 0) × (writes_sram c ≡ true) × (q ≡ with_sram p q.sram))
      ⊎ ((running : Running) × (p.rec.op ≡ Some running) × (code ≡ 0) × (covers c p.rec.op ≡ true) × Ends p running.target q)
      ⊎ ((running : Running) × (p.rec.op ≡ Some running) × (code ≡ 0) × (is_reset c ≡ true) × Cuts scrap p running.target running.left.0 q)

-- ---- a code other than 0 is that of an entry that applies

abbrev applying : ℕ → List Entry → Bool
applying n [] = false
applying n (e ∷ es) = (eqb e.answer.code n && e.applies) || applying n es

coded : (v n : ℕ) (es : List Entry) → eqb 0 n ≡ false → (first (told 0 v) es).code ≡ n → applying n es ≡ true
coded v n [] z e = absurd (true≢false (sym (eq-eqb 0 n e) ∙ z))
coded v n (x ∷ es) z e = at x.applies e (coded v n es z)
  where
    at : (b : Bool) → (cond b x.answer (first (told 0 v) es)).code ≡ n → ((first (told 0 v) es).code ≡ n → applying n es ≡ true)
        → ((eqb x.answer.code n && b) || applying n es) ≡ true
    at true e ih = rw (eq-eqb x.answer.code n e)
    at false e ih = rw (and-false (eqb x.answer.code n)) (ih e)

-- ---- the cases

-- no end by reset or time, so none by time
no_end : (d s t u : Bool) → (d && (s || t)) ≡ false → (d && (t && u)) ≡ false
no_end false s t u e = refl
no_end true s false u e = refl
no_end true s true u e = absurd (true≢false (sym (or-true s) ∙ e))

-- something runs after a start
busy_start : (t : Bool) (running : Running) (op : Option Running) → is_busy (cond t (Some running) op) ≡ (is_busy op || t)
busy_start true running op = sym (or-true (is_busy op))
busy_start false running op = sym (or-false (is_busy op))

-- one flag of the four is one bit
flag_bit : (value k : ℕ) → k < 32 → is_in value (0x80 ∷ 0x40 ∷ 0x20 ∷ 0x10 ∷ []) ≡ true
    → bit value k ≡ (is_in k (4 ∷ 5 ∷ 6 ∷ 7 ∷ []) && eqb value (2 ^ k))
flag_bit value k h =
    let test : ℕ → ℕ → Bool = λ v k. is_in k (4 ∷ 5 ∷ 6 ∷ 7 ∷ []) && eqb v (2 ^ k) in
    let one : (v : ℕ) → Masks v (test v) → bit v k ≡ test v k = λ v e. agree_below (bit v) (test v) 32 e k h in
    in_all (λ v. bit v k ≡ test v k) value (0x80 ∷ 0x40 ∷ 0x20 ∷ 0x10 ∷ []) (one 0x80 refl, (one 0x40 refl, (one 0x20 refl, (one 0x10 refl, tt))))

module _ (scrap : List ℕ) (p : Part) where
  same : (r : Record) → Same p (having p r)
  same r = record { main = refl; otp = refl; options = refl; sram = refl }

  -- SR stays; so does what runs, unless a write starts something
  quiet : (c : Call) (code value : ℕ) (q : Part) → eqb code 17 ≡ false → ((k : ℕ) → (eqb code 0 && clears c k) ≡ false)
      → (eqb code 0 && (is_reset c || covers c p.rec.op)) ≡ false
      → q.rec.sr ≡ p.rec.sr → is_busy q.rec.op ≡ (is_busy p.rec.op || (eqb code 0 && asks c p.rec)) → Same p q → Changed scrap p c code value q
  quiet c code value q e f g sr op cells =
      record {
        sr = λ k h. ap (λ (z : ℕ). bit z k) sr
            ∙ rw (e, f k, no_end (eqb code 0) (is_reset c) (covers c p.rec.op) (eqb k 0 && bit p.rec.cr 24) g) (simp (and-true, or-false));
        op = op ∙ rw g (simp and-true);
        cells = inl cells;
      }

  -- a code other than 0 and 17
  undone : (c : Call) (code value : ℕ) (q : Part) → eqb code 0 ≡ false → eqb code 17 ≡ false → q.rec.sr ≡ p.rec.sr
      → is_busy q.rec.op ≡ is_busy p.rec.op → Same p q → Changed scrap p c code value q
  undone c code value q z e sr op cells =
      quiet c code value q e (λ k. rw z) (rw z) sr (op ∙ rw z (sym (or-false (is_busy p.rec.op)))) cells

  -- a call that is neither a reset nor a write to SR, starts nothing and ends nothing
  stays : (c : Call) (value : ℕ) (q : Part) (r : Record) → q ≡ having p r → is_reset c ≡ false → ((k : ℕ) → clears c k ≡ false)
      → asks c p.rec ≡ false → covers c p.rec.op ≡ false → r.sr ≡ p.rec.sr → is_busy r.op ≡ is_busy p.rec.op → Changed scrap p c 0 value q
  stays c value q r e z f g h sr op =
      subst (Changed scrap p c 0 value) (sym e)
      (quiet c 0 value (having p r) refl f (rw z h) sr
      (op ∙ rw g (sym (or-false (is_busy p.rec.op)))) (same r))

  -- time passes
  elapses : (c : Call) (value t : ℕ) (q : Part) → is_reset c ≡ false → ((k : ℕ) → clears c k ≡ false) → asks c p.rec ≡ false
      → lets c (time_left p.rec.op).0 ≡ leb (time_left p.rec.op).0 t → AreBytes p.options → Passes p t q → Changed scrap p c 0 value q
  elapses c value t q z f g h bytes passes = at p.rec.op refl
    where
      at : (op : Option Running) → p.rec.op ≡ op → Changed scrap p c 0 value q
      at None e = stays c value q p.rec (passes.idle e) z f g (rw e (and-false (lets c 0))) refl refl
      at (Some running) e =
          by_order (Changed scrap p c 0 value q) running.left.0 t
          (λ l.
          let end = passes.over running e l bytes in
          let yes : covers c p.rec.op ≡ true = rw (h, e, le-leb running.left.0 t l) in
          record {
            sr = λ k h. end.sr k ∙ rw (f k, yes) (simp (and-true, or-false));
            op = ap (λ (z : Record). is_busy z.op) end.fields ∙ rw (z, yes, g) (simp (and-false, or-false));
            cells = inr (inr (inl (running, e, refl, yes, end)));
          })
          (λ l. stays c value q (nearer p running t).rec (passes.on running e l) z f g (rw (h, e, lt-leb running.left.0 t l)) refl (rw e))

-- ---- every call

-- an entry that never applies to a call gives no case
no : {A : Type 0} → false ≡ true → A
no e = absurd (false≢true e)

module _ (timings scrap : List ℕ) (p : Part) (bytes : AreBytes p.options) (scraps : AreBytes scrap) where
  abbrev code : Call → ℕ
  code c = code_of (step timings scrap c p).answer

  abbrev value : Call → ℕ
  value c = value_of (step timings scrap c p).answer

  abbrev out : Call → Part
  out c = (step timings scrap c p).part

  -- the entry whose code it is applies
  applies : (c : Call) (n : ℕ) → eqb 0 n ≡ false → code c ≡ n → applying n (entries timings scrap c p) ≡ true
  applies c n z e =
      coded (done_value c p) n (entries timings scrap c p) z (sym (ap (λ (t : Told). t.code) (answered timings scrap c p (bytes 8))) ∙ e)

  abbrev Applies : Call → ℕ → Type 0
  Applies c n = applying n (entries timings scrap c p) ≡ true

  -- done, or one of the three codes with which something changes, or nothing changes
  by_code : (c : Call) → (code c ≡ 0 → Changed scrap p c 0 (value c) (out c))
      → (code c ≡ 14 → Applies c 14 → Changed scrap p c 14 (value c) (out c))
      → (code c ≡ 17 → Applies c 17 → Changed scrap p c 17 (value c) (out c))
      → (code c ≡ 18 → Applies c 18 → Changed scrap p c 18 (value c) (out c)) → Changed scrap p c (code c) (value c) (out c)
  by_code c done key flag time =
      let G : ℕ → Type 0 = λ n. Changed scrap p c n (value c) (out c) in
      keep_by (λ (b : Bool). G (code c)) (is_in (code c) change_codes) true true
      (λ e. in_all (λ n. code c ≡ n → G n) (code c) change_codes
      (done, ((λ e. key e (applies c 14 refl e)), ((λ e. flag e (applies c 17 refl e)), ((λ e. time e (applies c 18 refl e)), tt)))) e refl)
      (λ e. subst (Changed scrap p c (code c) (value c)) (sym (other_refusal_keeps timings scrap c p e))
      (undone scrap p c (code c) (value c) p (or_left (eqb (code c) 0) _ e)
      (or_left (eqb (code c) 17) _ (or_right (eqb (code c) 14) _ (or_right (eqb (code c) 0) _ e))) refl refl (same scrap p p.rec)))

  module _ (a : Access) (v : ℕ) where
    abbrev c : Call
    c = Write a v

    -- a write that is not to the SRAM and done
    cells_same : (to_sram a && eqb (code c) 0) ≡ false → Same p (out c)
    cells_same e =
        let (main, otp, options, sram) = write_cells timings scrap a v p in
        record { main = main; otp = otp; options = options; sram = sram e }

    cells_refused : eqb (code c) 0 ≡ false → Same p (out c)
    cells_refused e = cells_same (ap (λ (b : Bool). to_sram a && b) e ∙ and-false (to_sram a))

    cells_below : a.address < 0x4002_4000 → Same p (out c)
    cells_below low = cells_same (ap (λ (b : Bool). b && eqb (code c) 0) (lt-leb 0x4002_4000 a.address low))

    -- a register that is not SR
    word_changed : (word : ℕ) → a.address / 4 * 4 ≡ word → 0x4002_3C00 ≤ word → word ≤ 0x4002_3C14 → eqb word 0x4002_3C0C ≡ false
        → (r : Record) → (out c).rec ≡ r → r.sr ≡ p.rec.sr
        → is_busy r.op
        ≡ (is_busy p.rec.op || ((eqb word 0x4002_3C10 && bit (word_after (cr_of p.rec) v a) 16)
        || (eqb word 0x4002_3C14 && bit (word_after (optcr_of p.rec) v a) 1)))
        → Changed scrap p c 0 (value c) (out c)
    word_changed word e l h n r f sr op =
        quiet scrap p c 0 (value c) (out c) refl (λ k. rw (e, n)) refl (ap (λ (z : Record). z.sr) f ∙ sr)
        (ap (λ (z : Record). is_busy z.op) f ∙ op ∙ rw (e, le-ltb a.address 0x4002_3C00 (omega arith))) (cells_below (omega arith))

    write_changed : code c ≡ 0 → Changed scrap p c 0 (value c) (out c)
    write_changed e =
        let ok : accepted (code c) ≡ true = rw e in
        let word = a.address / 4 * 4 in
        let idle : is_busy p.rec.op ≡ (is_busy p.rec.op || false) = sym (or-false (is_busy p.rec.op)) in
        by_or (to_flash a || is_in word words) (to_sram a) (by_or (to_flash a) (is_in word words)
        (λ here.
        let f = program_starts timings scrap a v p here e in
        let low = ltb-true a.address 0x4002_3C00 here in
        quiet scrap p c 0 (value c) (out c) refl (λ k. rw (ne_eqb word 0x4002_3C0C (λ q. omega arith))) refl (ap (λ (z : Record). z.sr) f)
        (ap (λ (z : Record). is_busy z.op) f ∙ rw here (sym (or-true (is_busy p.rec.op)))) (cells_below (omega arith)))
        (λ w. by_word (λ n. word ≡ n → Changed scrap p c 0 (value c) (out c)) word
        (λ q. word_changed 0x4002_3C00 q (lit≤ tt) (lit≤ tt) refl _ (acr_written timings scrap a v p (rw q) ok).0 refl idle)
        (λ q. word_changed 0x4002_3C04 q (lit≤ tt) (lit≤ tt) refl _ ((key_written timings scrap a v p).0 (rw q) ok).0 refl idle)
        (λ q. word_changed 0x4002_3C08 q (lit≤ tt) (lit≤ tt) refl _ ((key_written timings scrap a v p).1 (rw q) ok).0 refl idle)
        (λ q.
        let (f, bits) = sr_written timings scrap a v p (rw q) ok in
        record {
          sr = λ k h. bits k h ∙ rw q (simp or-false);
          op = ap (λ (z : Record). is_busy z.op) f ∙ rw (q, le-ltb a.address 0x4002_3C00 (omega arith)) (simp (and-true, or-false));
          cells = inl (cells_below (omega arith));
        })
        (λ q.
        let (sr, op) = (cr_written timings scrap a v p (rw q) ok).2 e in
        word_changed 0x4002_3C10 q (lit≤ tt) (lit≤ tt) refl (out c).rec refl sr
        (ap is_busy op ∙ busy_start (bit (word_after (cr_of p.rec) v a) 16) _ p.rec.op ∙ simp or-false))
        (λ q.
        let (sr, op) = (optcr_written timings scrap a v p (rw q) ok).2 e in
        word_changed 0x4002_3C14 q (lit≤ tt) (lit≤ tt) refl (out c).rec refl sr (ap is_busy op ∙ busy_start _ _ p.rec.op))
        w refl))
        (λ here.
        let (same, _) = sram_written timings scrap a v p here e in
        let high = leb-true 0x4002_4000 a.address here in
        let kept : (out c).rec ≡ p.rec = ap (λ (q : Part). q.rec) same in
        record {
          sr = λ k h. ap (λ (z : Record). bit z.sr k) kept ∙ rw (ne_eqb word 0x4002_3C0C (λ q. omega arith)) (simp (and-true, or-false));
          op = ap (λ (z : Record). is_busy z.op) kept
              ∙ rw (
                le-ltb a.address 0x4002_3C00 (omega arith),
                ne_eqb word 0x4002_3C10 (λ q. omega arith),
                ne_eqb word 0x4002_3C14 (λ q. omega arith),
              ) (simp (and-true, or-false));
          cells = inr (inl (refl, here, same));
        })
        (write_where timings scrap a v p ok)

    -- a wrong key closes a lock
    key_changed : eqb (code c) 0 ≡ false → (r : Record) → (out c).rec ≡ r → r.sr ≡ p.rec.sr → r.op ≡ p.rec.op → Changed scrap p c 14 (value c) (out c)
    key_changed is r e sr op =
        undone scrap p c 14 (value c) (out c) refl refl (ap (λ (z : Record). z.sr) e ∙ sr)
        (ap (λ (z : Record). is_busy z.op) e ∙ ap is_busy op) (cells_refused is)

  -- a reset cuts what runs
  reset_cells : (boot : ℕ) → (let q = out (Reset boot) in
      (p.rec.op ≡ None → Same p q)
      → ((running : Running) → p.rec.op ≡ Some running → Cuts scrap p running.target running.left.0 q) → (op : Option Running) → p.rec.op ≡ op
      → Same p q
      ⊎ ((◌≡◌ {A = ℕ} 0 0) × (writes_sram (Reset boot) ≡ true) × (q ≡ with_sram p q.sram))
      ⊎ ((running : Running) × (p.rec.op ≡ Some running) × (◌≡◌ {A = ℕ} 0 0) × (covers (Reset boot) p.rec.op ≡ true) × Ends p running.target q)
      ⊎ ((running : Running) × (p.rec.op ≡ Some running) × (◌≡◌ {A = ℕ} 0 0) × (is_reset (Reset boot) ≡ true)
      × Cuts scrap p running.target running.left.0 q))
  reset_cells boot idle cut None e = inl (idle e)
  reset_cells boot idle cut (Some running) e = inr (inr (inr (running, e, refl, refl, cut running e)))

  -- and so does every call
  pub changed : (c : Call) → Changed scrap p c (code c) (value c) (out c)
  changed (Reset boot) =
      by_code (Reset boot)
      (λ e.
      let reset = reset_effect timings scrap boot p bytes scraps e in
      record {
        sr = λ k h. ap (λ (z : Record). bit z.sr k) reset.fields ∙ rw (zero-div (2 ^ k)) (simp (and-false, or-false));
        op = ap (λ (z : Record). is_busy z.op) reset.fields ∙ simp (and-false, or-false);
        cells = reset_cells boot reset.idle reset.cut p.rec.op refl;
      })
      (λ _. no) (λ _. no) (λ _. no)
  changed (Debugger On) =
      by_code (Debugger On) (λ e. stays scrap p (Debugger On) _ _ _ (on_effect timings scrap p e) refl (λ k. refl) refl refl refl refl)
      (λ _. no) (λ _. no) (λ _. no)
  changed (Debugger Off) =
      by_code (Debugger Off) (λ e. stays scrap p (Debugger Off) _ _ _ (off_effect timings scrap p e) refl (λ k. refl) refl refl refl refl)
      (λ _. no) (λ _. no) (λ _. no)
  changed (Read a) =
      by_code (Read a) (λ e. stays scrap p (Read a) _ _ p.rec (read_keeps timings scrap a p) refl (λ k. refl) refl refl refl refl)
      (λ _. no) (λ _. no) (λ _. no)
  changed (Fetch address) =
      let c = Fetch address in
      by_code c (λ e. stays scrap p c _ _ p.rec (fetch_keeps timings scrap address p) refl (λ k. refl) refl refl refl refl) (λ _. no) (λ _. no) (λ _. no)
  changed (Write a v) =
      let c = Write a v in
      by_code c (write_changed a v)
      (λ e _.
      let is : eqb (code c) 0 ≡ false = ap (λ (n : ℕ). eqb n 0) e in
      ⊎_elim (λ k. key_changed a v is _ k.1 refl refl) (λ k. key_changed a v is _ k.1 refl refl) (wrong_key_lem timings scrap a v p e))
      (λ e _.
      let (listed, bits, op, _, _, _, _, _) = flag_raised timings scrap a v p e in
      record {
        sr = λ k h. bits k h ∙ rw (← flag_bit (value c) k h listed) (simp (and-true, or-false, or_assoc));
        op = ap is_busy op ∙ simp (and-true, or-false);
        cells = inl (cells_refused a v (ap (λ (n : ℕ). eqb n 0) e));
      })
      (λ _. no)
  changed (Time (Pass t)) =
      by_code (Time (Pass t)) (λ e. elapses scrap p (Time (Pass t)) _ t.0 _ refl (λ k. refl) refl refl bytes (pass_effect timings scrap p t.0 e))
      (λ _. no) (λ _. no) (λ _. no)
  changed (Time (Wait t)) =
      by_code (Time (Wait t))
      (λ e.
      let waited = wait_done timings scrap p t.0 e in
      let rest = (time_left p.rec.op).0 in
      elapses scrap p (Time (Wait t)) _ rest _ refl (λ k. refl) refl
      (le-leb rest (1000 * t.0) waited.within ∙ sym (le-leb rest rest (omega arith))) bytes waited.part)
      (λ _. no) (λ _. no)
      (λ e _.
      let ran = wait_expired timings scrap p t.0 e in
      subst (Changed scrap p (Time (Wait t)) 18 (value (Time (Wait t)))) (sym ran.part)
      (undone scrap p (Time (Wait t)) 18 _ (nearer p ran.running (1000 * t.0)) refl refl refl (rw ran.runs) (same scrap p _)))

-- ---- the laws: x is the outcome of the call, r the record before it

-- a reset, a pass and a wait start nothing
apart : (c : Call) (r : Record) → (is_reset c || covers c r.op) ≡ true → asks c r ≡ false
apart (Reset boot) r e = refl
apart (Debugger link) r e = refl
apart (Read a) r e = refl
apart (Write a v) r e = no e
apart (Time t) r e = refl
apart (Fetch address) r e = refl

idle_is : (op : Option Running) → is_busy op ≡ false → op ≡ None
idle_is None e = refl
idle_is (Some running) e = absurd (true≢false e)

-- the entries whose codes are not among the few apply to none, so the answer has one of the few
abbrev only : List ℕ → List Entry → Bool
only few [] = true
only few (e ∷ es) = (is_in e.answer.code few || not e.applies) && only few es

first_only : (few : List ℕ) (v : ℕ) (es : List Entry) → is_in 0 few ≡ true → only few es ≡ true → is_in (first (told 0 v) es).code few ≡ true
first_only few v [] z e = z
first_only few v (x ∷ es) z e =
    let here = is_in x.answer.code few || not x.applies in
    keep_by (λ (t : Told). is_in t.code few ≡ true) x.applies _ _
    (λ applies. simp (applies, or-false) at (both_left here (only few es) e)) (λ _. first_only few v es z (both_right here (only few es) e))

-- an access to the SRAM is none to flash cells nor to a word of the registers
abbrev sram_codes : List ℕ
sram_codes = 0 ∷ 1 ∷ 2 ∷ 5 ∷ 7 ∷ 10 ∷ 13 ∷ 15 ∷ []

sram_only : (timings scrap : List ℕ) (c : Call) (p : Part) → uses_sram c ≡ true → only sram_codes (entries timings scrap c p) ≡ true
sram_only timings scrap (Reset boot) p here = no here
sram_only timings scrap (Debugger link) p here = no here
sram_only timings scrap (Read a) p here =
    let high = leb-true 0x4002_4000 a.address here in
    rw (here, le-ltb a.address 0x4002_3C00 (omega arith), and-false (is_busy p.rec.op)) refl
sram_only timings scrap (Write a v) p here =
    let high = leb-true 0x4002_4000 a.address here in
    let none : (k : ℕ) → k < 0x4002_4000 → to_word a k ≡ false = λ k h. ne_eqb (a.address / 4 * 4) k (λ e. omega arith) in
    rw (
      here,
      le-ltb a.address 0x4002_3C00 (omega arith),
      none 0x4002_3C10 (lit< tt),
      none 0x4002_3C14 (lit< tt),
      none 0x4002_3C04 (lit< tt),
      none 0x4002_3C08 (lit< tt),
      and-false (is_busy p.rec.op),
    ) refl
sram_only timings scrap (Time t) p here = no here
sram_only timings scrap (Fetch address) p here = no here

-- scrap is wanted for what runs
wanted_runs : (op : Option Running) (n : ℕ) (p : Part) → ltb n (scrap_wanted op p) ≡ true → is_busy op ≡ true
wanted_runs None n p e = absurd (let l = ltb-true n 0 e in omega arith)
wanted_runs (Some running) n p e = refl

-- entries 11, 18 and 21 speak of what runs
runs_when : (scrap : List ℕ) (c : Call) (p : Part)
    → (applying 11 (entries_of scrap c p) || applying 18 (entries_of scrap c p) || applying 21 (entries_of scrap c p)) ≡ true → is_busy p.rec.op ≡ true
runs_when scrap (Reset boot) p e = wanted_runs p.rec.op (length scrap) p (simp or-false at e)
runs_when scrap (Debugger On) p e = no e
runs_when scrap (Debugger Off) p e = no e
runs_when scrap (Read a) p e = both_left (is_busy p.rec.op) (to_flash a) (simp or-false at e)
runs_when scrap (Write a v) p e = both_left (is_busy p.rec.op) (to_flash a || to_word a 0x4002_3C10 || to_word a 0x4002_3C14) (simp or-false at e)
runs_when scrap (Fetch address) p e = simp or-false at e
runs_when scrap (Time (Pass t)) p e = no e
runs_when scrap (Time (Wait t)) p e =
    ap is_busy (left_runs p.rec.op (1000 * t.0) (ltb-true (1000 * t.0) (time_left p.rec.op).0 (simp or-false at e))).1

module _ (timings scrap : List ℕ) (c : Call) (p : Part) (bytes : AreBytes p.options) (scraps : AreBytes scrap) where
  abbrev x : Outcome
  x = step timings scrap c p

  abbrev r : Record
  r = p.rec

  -- a test of the code and another
  code_and : (n : ℕ) (b : Bool) → (eqb (code_of x.answer) n && b) ≡ true → (code_of x.answer ≡ n) × (b ≡ true)
  code_and n b e =
      let here = eqb (code_of x.answer) n in
      (eqb-true (code_of x.answer) n (both_left here b e), both_right here b e)

  flag_rises : FlagRises timings scrap c p
  flag_rises k four =
      let (small, not_1, not_0) =
      in_all (λ k. (k < 32) × (eqb k 1 ≡ false) × (eqb k 0 ≡ false)) k (4 ∷ 5 ∷ 6 ∷ 7 ∷ [])
      ((lit< tt, refl, refl), ((lit< tt, refl, refl), ((lit< tt, refl, refl), ((lit< tt, refl, refl), tt)))) four in
      let after = (changed timings scrap p bytes scraps c).sr k small in (
        (λ low high.
            let (code, value) =
            code_and 17 (eqb (value_of x.answer) (2 ^ k)) (simp (or-false, and-false) at (rw (low, four, not_1, not_0) at (sym after ∙ high))) in
            (code, eqb-true (value_of x.answer) (2 ^ k) value)),
        (λ code value. after ∙ rw (four, eq-eqb (code_of x.answer) 17 code, eq-eqb (value_of x.answer) (2 ^ k) value) (simp or-true)),
      )

  operr_rises : OperrRises timings scrap c p
  operr_rises =
      let after = (changed timings scrap p bytes scraps c).sr 1 (lit< tt) in (
        (λ low high. code_and 17 (bit x.part.rec.cr 25) (simp (low, or-false, and-false) at (sym after ∙ high))),
        (λ code errie. after ∙ rw (eq-eqb (code_of x.answer) 17 code, errie) (simp or-true)),
      )

  ends_only : EndsOnly timings scrap c p
  ends_only =
      let after = (changed timings scrap p bytes scraps c).op in (
        (λ runs idle. code_and 0 (is_reset c || covers c r.op) (not-false _ (and_false_right (is_busy r.op) _ runs (or_left _ _ (sym after ∙ idle))))),
        (λ code end.
            idle_is x.part.rec.op (after ∙ rw (eq-eqb (code_of x.answer) 0 code, end, apart c r end) (simp (and-false, or-false)))),
      )

  eop_rises : EopRises timings scrap c p
  eop_rises =
      let after = (changed timings scrap p bytes scraps c).sr 0 (lit< tt) in (
        (λ low high.
            let (code, e) = code_and 0 (covers c r.op && bit r.cr 24) (simp (low, or-false, and-false) at (sym after ∙ high)) in
            let end = both_left (covers c r.op) (bit r.cr 24) e in
            (code, end, ends_only.1 code (rw end (or-true (is_reset c))), both_right (covers c r.op) (bit r.cr 24) e)),
        (λ code end eopie. after ∙ rw (eq-eqb (code_of x.answer) 0 code, end, eopie) (simp or-true)),
      )

  flag_falls : FlagFalls timings scrap c p
  flag_falls k small high low =
      code_and 0 (clears c k)
      (not-false _ (and_false_right (bit r.sr k) _ high (or_left _ _ (or_left _ _ (sym ((changed timings scrap p bytes scraps c).sr k small) ∙ low)))))

  starts : Starts timings scrap c p
  starts =
      let after = (changed timings scrap p bytes scraps c).op in (
        (λ idle runs. code_and 0 (asks c r) (rw idle at (sym after ∙ runs))),
        (λ code start. after ∙ rw (eq-eqb (code_of x.answer) 0 code, start) (simp or-true)),
      )

  cells_change : CellsChange timings scrap c p
  cells_change = (changed timings scrap p bytes scraps c).cells

  sram_apart : SramApart timings scrap c p
  sram_apart here =
      ap (λ (t : Told). is_in t.code sram_codes) (answered timings scrap c p (bytes 8))
      ∙ first_only sram_codes (done_value c p) (entries timings scrap c p) refl (sram_only timings scrap c p here)

  only_while_busy : OnlyWhileBusy timings scrap c p
  only_while_busy e =
      let result = code_of x.answer in
      let es = entries_of scrap c p in
      let at : (n : ℕ) → eqb 0 n ≡ false → eqb result n ≡ true → applying n (entries timings scrap c p) ≡ true =
      λ n z q. applies timings scrap p bytes scraps c n z (eqb-true result n q) in
      let runs : is_busy r.op ≡ true =
      by_or (eqb result 11) (is_in result (18 ∷ 21 ∷ [])) (λ q. runs_when scrap c p (rw (at 11 refl q) refl))
      (by_or (eqb result 18) (is_in result (21 ∷ [])) (λ q. runs_when scrap c p (rw (at 18 refl q, or-true (applying 11 es)) refl))
      (λ q. runs_when scrap c p (rw (at 21 refl (rw (or-false (eqb result 21)) at q)) (or-true (applying 11 es || applying 18 es))))) e in
      sr_bits 16 (lit< tt) r ∙ rw runs (simp or-true)

pub changes : Changes
changes timings scrap c p bytes scraps = (
  flag_rises timings scrap c p bytes scraps,
  operr_rises timings scrap c p bytes scraps,
  ends_only timings scrap c p bytes scraps,
  eop_rises timings scrap c p bytes scraps,
  flag_falls timings scrap c p bytes scraps,
  starts timings scrap c p bytes scraps,
  cells_change timings scrap c p bytes scraps,
  sram_apart timings scrap c p bytes scraps,
  only_while_busy timings scrap c p bytes scraps,
)
