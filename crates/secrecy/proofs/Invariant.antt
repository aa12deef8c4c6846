-- What the model's own bits have to do with the history of requests: the debugger bit is "connected", the mark of a powered part is
-- "not clean", and an option change that runs above level 0 does not bring level 0. Each request keeps this, whatever it answers.
use Rattle.std.specs.Prelude.{Option, Some, None}
use mathlib.Core.Bool.{Bool, true, false, not, cond, ◌&&◌, ◌||◌, true≢false, false≢true, not-not, and-false, and-true, not-and_self}
use mathlib.Core.List.{List, [], ◌∷◌}
use mathlib.Core.Path.{◌≡◌, refl, sym, ap, subst, ◌∙◌}
use Prim.Native.Nat.{ℕ}
use lib.Dec.{eqb, ltb}
use lib.ListN.{get_or, drop}
use Rattle.cascade.proofs.Picks.{keep}
use Rattle.registers.specs.Fields.{rdp}
use Rattle.time.specs.declared.{Micros.Micros}
use Rattle.part.specs.Operations.{cut, elapsed_over, ended, idled, reloaded}
use Rattle.part.specs.Options.{level_of, changed_options, cut_options}
use Rattle.part.specs.State.{Part, Outcome, having, kept, refuse, code_of, is_busy, with_debugger, fresh}
use Rattle.part.specs.declared.{Call.Call, Lapse.Lapse, Reason.Reason, Record.Record, Target.Target}
use Rattle.part.specs.declared.Running.{Running}
use Rattle.part.specs.declared.Call.TheVariants.{Debugger, Fetch, Read, Reset, Time, Write}
use Rattle.part.specs.declared.Link.TheVariants.{Off, On}
use Rattle.part.specs.declared.Target.TheVariants as target
use Rattle.part.proofs.Cut.{behind, third_each}
use Rattle.part.proofs.Stepped.{Plain, plain_undone, not_and}
use Rattle.part.proofs.View.{Stores, View, is_options, viewed}
use Rattle.cached.specs.Device.{Request, call, part_after, window}
use Rattle.secrecy.specs.Secrecy.{Event, event_of, connected, connected_by, brings_level2, clean, clean_by}

-- ---- an option change that runs above level 0 has no AA in RDP

abbrev pub changing : Option Running → Bool
changing None = false
changing (Some running) = is_options running.target

abbrev pub Sure : Option Running → ℕ → List ℕ → Type 0
Sure op optcr options = changing op ≡ true → eqb (level_of options) 0 ≡ false → eqb (rdp optcr) 0xAA ≡ false

-- what changes options is busy
busy_changing : (op : Option Running) → changing op ≡ true → is_busy op ≡ true
busy_changing None e = absurd (false≢true e)
busy_changing (Some running) e = refl

-- power, debugger and mark stay, and an option change that runs is sure
abbrev Follows : Record → List ℕ → Record → Type 0
Follows r options s = ((s.power ≡ r.power) × (s.debugger ≡ r.debugger) × (s.mark ≡ r.mark)) × Sure s.op s.optcr options

-- so after a write that stores fields: OPTCR's change only where nothing runs
stored_follows : (r s : Record) (options : List ℕ) → Sure r.op r.optcr options → Stores r s → Follows r options s
stored_follows r s options sure st = (
  (st.power, st.debugger, st.mark),
  λ c l.
      let runs : changing r.op ≡ true = sym (ap changing st.op) ∙ c in
      ap (λ (optcr : ℕ). eqb (rdp optcr) 0xAA) (st.optcr (busy_changing r.op runs)) ∙ sure runs l,
)

-- ---- the invariant

pub record Inv (h : List Event) (p : Part) : Type 0 where
  pub conn : p.rec.debugger ≡ connected h
  pub mark : p.rec.power ≡ true → p.rec.mark ≡ not (clean h)
  pub sure : Sure p.rec.op p.rec.optcr p.options
  pub off2 : eqb (level_of p.options) 2 ≡ true → p.rec.debugger ≡ false

-- it holds of a fresh record before any request
pub fresh_holds : (p : Part) → p.rec ≡ fresh → Inv [] p
fresh_holds p f =
    record {
      conn = ap (λ (r : Record). r.debugger) f;
      mark = λ e. absurd (true≢false (sym e ∙ ap (λ (r : Record). r.power) f));
      sure = λ c l. absurd (true≢false (sym c ∙ ap (λ (r : Record). changing r.op) f));
      off2 = λ e. ap (λ (r : Record). r.debugger) f;
    }

-- what is not done changes neither "connected" nor "clean"
undone : (x : Request) (con before : Bool) → (connected_by x false con ≡ con) × (clean_by x false con before ≡ before)
undone (call scrap (Reset boot)) con before = (refl, refl)
undone (call scrap (Debugger On)) con before = (refl, refl)
undone (call scrap (Debugger Off)) con before = (refl, refl)
undone (call scrap (Read a)) con before = (refl, refl)
undone (call scrap (Write a v)) con before = (refl, refl)
undone (call scrap (Time t)) con before = (refl, refl)
undone (call scrap (Fetch address)) con before = (refl, refl)
undone (window who sector) con before = (refl, refl)

-- a level is not 0 where RDP is not AA
above_zero : (b : Bool) → eqb (cond b 2 1) 0 ≡ false
above_zero true = refl
above_zero false = refl

-- after an option change RDP is what OPTCR held; with no room for it the level is 1
pub changed_level : (options : List ℕ) (optcr : ℕ) → eqb (rdp optcr) 0xAA ≡ false → eqb (level_of (changed_options options optcr)) 0 ≡ false
changed_level [] optcr e = refl
changed_level (a ∷ []) optcr e = refl
changed_level (a ∷ b ∷ os) optcr e = rw e (above_zero (eqb (rdp optcr) 0xCC))

-- so it is where the change is cut: what was above level 0, FF, or what it would have become
pub cut_level : (options new scrap : List ℕ) → eqb (level_of options) 0 ≡ false → eqb (level_of new) 0 ≡ false
    → eqb (level_of (cut_options options new scrap)) 0 ≡ false
cut_level [] new scrap e f = refl
cut_level (a ∷ []) new scrap e f = refl
cut_level (a ∷ b ∷ os) new scrap e f =
    third_each (λ (rdp : ℕ). eqb (cond (eqb rdp 0xAA) 0 (cond (eqb rdp 0xCC) 2 1)) 0 ≡ false) (get_or (drop 1 scrap) 0 0) b (get_or (drop 1 new) 0 0) e refl
    (rw (behind new 0) f)

-- a debugger leaves where the level becomes 2, and there is none at level 2
leaves : (a b d : Bool) → (a ≡ true → d ≡ false) → (d && not b) ≡ (not (not a && b) && d)
leaves true b true f = absurd (true≢false (f refl))
leaves true true false f = refl
leaves true false false f = refl
leaves false true true f = refl
leaves false true false f = refl
leaves false false d f = and-true d

module _ (h : List Event) (p : Part) (v : Inv h p) where
  abbrev r : Record
  r = p.rec

  -- the invariant after a request, done or not, that leaves q
  abbrev Next : Request → Bool → Part → Type 0
  Next x done q = Inv (record { request = x; done = done; before = level_of p.options; after = level_of q.options } ∷ h) q

  -- the option cells stay
  heeded : (x : Request) (done : Bool) (q : Part) → q.options ≡ p.options → q.rec.debugger ≡ connected_by x done (connected h)
      → (q.rec.power ≡ true → q.rec.mark ≡ not (clean_by x done (connected h) (clean h))) → Sure q.rec.op q.rec.optcr p.options
      → (eqb (level_of p.options) 2 ≡ true → q.rec.debugger ≡ false) → Next x done q
  heeded x done q same conn mark sure off2 =
      let l = eqb (level_of p.options) 2 in
      let l_same : eqb (level_of q.options) 2 ≡ l = ap (λ (o : List ℕ). eqb (level_of o) 2) same in
      record {
        conn = conn ∙ ap (λ (b : Bool). not b && connected_by x done (connected h)) (sym (ap (λ (b : Bool). not l && b) l_same ∙ not-and_self l));
        mark = mark;
        sure = subst (Sure q.rec.op q.rec.optcr) (sym same) sure;
        off2 = λ e. off2 (sym l_same ∙ e);
      }

  -- and so do power, debugger and mark, in a request that neither connects nor cleans
  lasting : (x : Request) (done : Bool) (q : Part) → q.options ≡ p.options
      → (connected_by x done (connected h) ≡ connected h) × (clean_by x done (connected h) (clean h) ≡ clean h)
      → Follows r p.options q.rec → Next x done q
  lasting x done q same (con, cl) ((power, debugger, mark), sure) =
      heeded x done q same (debugger ∙ v.conn ∙ sym con) (λ e. mark ∙ v.mark (sym power ∙ e) ∙ ap not (sym cl)) sure (λ e. debugger ∙ v.off2 e)

  refused : (x : Request) → Next x false p
  refused x = lasting x false p refl (undone x (connected h) (clean h)) ((refl, refl, refl), v.sure)

  -- the debugger that stays beside new option cells is the one that is connected after an event that neither connects nor disconnects
  left_by : (options : List ℕ)
      → (r.debugger && not (eqb (level_of options) 2)) ≡ (not (not (eqb (level_of p.options) 2) && eqb (level_of options) 2) && connected h)
  left_by options =
      leaves (eqb (level_of p.options) 2) (eqb (level_of options) 2) r.debugger v.off2
      ∙ ap (λ (b : Bool). not (not (eqb (level_of p.options) 2) && eqb (level_of options) 2) && b) v.conn

  -- ---- time

  module _ (scrap : List ℕ) (t : Lapse) where
    abbrev x : Request
    x = call scrap (Time t)

    -- the option cells change: a debugger leaves where the level is 2
    reload_lasts : (done : Bool) (q : Part) → q.rec ≡ reloaded (idled r) q.options → Next x done q
    reload_lasts done q e =
        record {
          conn = ap (λ (z : Record). z.debugger) e
              ∙ left_by q.options;
          mark = λ on. ap (λ (z : Record). z.mark) e ∙ v.mark (sym (ap (λ (z : Record). z.power) e) ∙ on);
          sure = λ c l. absurd (false≢true (sym (ap (λ (z : Record). changing z.op) e) ∙ c));
          off2 = λ two. ap (λ (z : Record). z.debugger) e ∙ rw two (and-false r.debugger);
        }

    -- nothing runs, and the option cells stay
    idle_lasts : (done : Bool) (q : Part) → q.options ≡ p.options → q.rec ≡ idled r → Next x done q
    idle_lasts done q same e =
        let idle : Follows r p.options (idled r) = ((refl, refl, refl), λ c l. absurd (false≢true c)) in
        lasting x done q same (refl, refl) (subst (Follows r p.options) (sym e) idle)

    ended_lasts : (done : Bool) (t : Target) → Next x done (ended p t)
    ended_lasts done (target.Bytes w) = idle_lasts done (ended p (target.Bytes w)) refl refl
    ended_lasts done (target.Sector k) = idle_lasts done (ended p (target.Sector k)) refl refl
    ended_lasts done (target.Main len) = idle_lasts done (ended p (target.Main len)) refl refl
    ended_lasts done target.Options = reload_lasts done (ended p target.Options) refl
    ended_lasts done (target.Regression len option) = reload_lasts done (ended p (target.Regression len option)) refl

    elapsed_lasts : (done : Bool) (op : Option Running) (u : Micros) → Sure op r.optcr p.options → Next x done (elapsed_over p op u)
    elapsed_lasts done None u sure = lasting x done p refl (refl, refl) ((refl, refl, refl), v.sure)
    elapsed_lasts done (Some running) u sure =
        keep (Next x done) (ltb u.0 running.left.0) _ _ (lasting x done _ refl (refl, refl) ((refl, refl, refl), sure))
        (ended_lasts done running.target)

  -- ---- every request

  abbrev After : List ℕ → Call → Outcome → Type 0
  After scrap c o = Next (call scrap c) (eqb (code_of o.answer) 0) o.part

  -- a refusal, and a call that neither connects nor cleans
  barred : (scrap : List ℕ) (c : Call) (why : Reason) → Plain why → After scrap c (kept p (refuse why r))
  barred scrap c why plain = rw (plain_undone why plain) (refused (call scrap c))

  view : (scrap : List ℕ) → View (After scrap) scrap p
  view scrap =
      record {
        refused = barred scrap;
        reset = λ boot _. record {
          conn = left_by (cut p r.op scrap).options;
          mark = λ e. ap (λ (b : Bool). not (eqb boot 0) || b) v.conn ∙ simp (not_and, not-not);
          sure = λ c l. absurd (false≢true c);
          off2 = λ two. rw two (and-false r.debugger);
        };
        on = λ below.
            heeded _ true (having p (with_debugger r true true)) refl refl (λ e. refl) v.sure (λ e. absurd (true≢false (sym e ∙ below)));
        off = heeded _ true (having p (with_debugger r false r.mark)) refl refl v.mark v.sure (λ e. refl);
        told = λ _ _. lasting _ _ p refl (refl, refl) ((refl, refl, refl), v.sure);
        fetched = λ _ _. lasting _ _ p refl (refl, refl) ((refl, refl, refl), v.sure);
        stored = λ _ _ _ s st. lasting _ _ _ refl (refl, refl) (stored_follows r s p.options v.sure st);
        started = λ _ _ s t left st b. lasting _ _ _ refl (refl, refl) ((st.power, st.debugger, st.mark), b.sure);
        laid = λ _ _ _. lasting _ _ _ refl (refl, refl) ((refl, refl, refl), v.sure);
        passed = λ t _ op e u. elapsed_lasts scrap t _ op u (subst (λ (op : Option Running). Sure op r.optcr p.options) e v.sure);
      }

  pub next_inv : (timings : List ℕ) (x : Request) → Inv (event_of timings x p ∷ h) (part_after timings x p)
  next_inv timings (call scrap c) = viewed (After scrap) timings scrap p (view scrap) c
  next_inv timings (window who sector) = lasting (window who sector) _ p refl (refl, refl) ((refl, refl, refl), v.sure)

-- connected and clean exclude each other
pub connected_unclean : (h : List Event) → connected h ≡ true → clean h ≡ false
connected_unclean [] e = refl
connected_unclean (x ∷ h) e = by x.request x.done (brings_level2 x) (connected h) (clean h) (connected_unclean h) e
  where
    by : (q : Request) (done brings con cl : Bool) → (con ≡ true → cl ≡ false) → (not brings && connected_by q done con) ≡ true
        → clean_by q done con cl ≡ false
    by q done true con cl f e = absurd (false≢true e)
    by q false false con cl f e = let (same, kept) = undone q con cl in kept ∙ f (sym same ∙ e)
    by (call scrap (Reset boot)) true false con cl f e = rw e (and-false (eqb boot 0))
    by (call scrap (Debugger On)) true false con cl f e = refl
    by (call scrap (Debugger Off)) true false con cl f e = absurd (false≢true e)
    by (call scrap (Read a)) true false con cl f e = f e
    by (call scrap (Write a w)) true false con cl f e = f e
    by (call scrap (Time t)) true false con cl f e = f e
    by (call scrap (Fetch address)) true false con cl f e = f e
    by (window who sector) true false con cl f e = f e
