-- Each law holds because it is its definition walked once: views over the requests, hidden by the kind of the request, opened over the
-- history; and connected and clean because a fresh record has the invariant and each request keeps it.
use mathlib.Core.Path.{◌≡◌, refl, sym, ap, subst, ◌∙◌}
use mathlib.Core.Bool.{Bool, true, false, cond, ◌&&◌, ◌||◌, false≢true, and-false, or-true}
use mathlib.Core.List.{List, [], ◌∷◌, ◌++◌}
use mathlib.Core.Logic.{◌⊎◌, ◌↔◌, inl, inr, ⊎_elim}
use Prim.Native.Nat.{ℕ, zero, suc, ◌+◌, ◌<◌}
use native.Mathlib.Nat.{le_of_suc-le-suc, not-suc-le-zero}
use native.Mathlib.Omega.{arith}
use lib.Dec.{eqb, leb, lit<}
use lib.ListN.{length, get_or, take}
use borrow.Author.Tests.{eqb-true, eq-eqb, ne_eqb, leb-true, le-leb, lt-leb}
use Rattle.cascade.proofs.Picks.{keep_by}
use Rattle.map.proofs.Forms.{both_left, both_right}
use Rattle.map.specs.Areas.{main_base, system_base, system_length, otp_base, otp_length, option_base, option_length, register_base, register_length, sram_base}
use Rattle.map.specs.Areas.{sram_length}
use Rattle.map.specs.Areas.{inside, area_of}
use Rattle.map.specs.declared.{Area.Area}
use Rattle.part.proofs.WriteEffects.{by_or}
use Rattle.part.specs.Options.{level_of}
use Rattle.part.specs.Calls.{step}
use Rattle.part.specs.State.{Part, part, fresh, code_of}
use Rattle.part.specs.declared.Access.{Access}
use Rattle.part.specs.declared.Call.TheVariants.{Debugger, Fetch, Read, Reset, Time, Write}
use Rattle.cached.proofs.Laws.{only_values}
use Rattle.cached.specs.Device.{Device, Request, call, device, device_after, part_after, said_to, said_uncached, window}
use Rattle.cached.specs.Lines.{no_lines}
use Rattle.caches.specs.Sides.{Side}
use Rattle.secrecy.specs.Claim.{history_after, parts_after, devices_after, ViewEach, ViewOf, SeenOf, SaidTo, PartFollows, ToldWhole, ToldBlank}
use Rattle.secrecy.specs.Claim.{DoneRead, SecretRead, HiddenExactly, OpenedExactly}
use Rattle.secrecy.specs.Claim.{OpenedAfter, BitsFollow, ConnectedAtReset, AnyPair, SeenAlike}
use Rattle.secrecy.specs.Secrecy.{Event, event_of, is_done_said, clean, opened, is_secret, reads_secret, hidden, blanked, tagged, Seen, seen, views}
use Rattle.secrecy.proofs.Invariant.{Inv, next_inv, fresh_holds}
use Rattle.secrecy.proofs.Lists.{secret}

-- ---- views

pub view_each : ViewEach
view_each timings h [] d = refl
view_each timings h (x ∷ xs) d = ap suc (view_each timings (event_of timings x d.part ∷ h) xs (device_after timings x d))

pub view_of : ViewOf
view_of timings h [] d i x s l = absurd (not-suc-le-zero l)
view_of timings h (y ∷ xs) d zero x s l = refl
view_of timings h (call scrap c ∷ xs) d (suc i) x s l =
    let y = call scrap c in
    view_of timings (event_of timings y d.part ∷ h) xs (device_after timings y d) i x s (le_of_suc-le-suc l)
view_of timings h (window who sector ∷ xs) d (suc i) x s l =
    view_of timings (event_of timings (window who sector) d.part ∷ h) xs d i x s (le_of_suc-le-suc l)

tags_shown : (b : Bool) (s : Side) → (cond b s (tagged s)).tags ≡ s.tags
tags_shown true s = refl
tags_shown false s = refl

pub seen_of_lem : SeenOf
seen_of_lem timings h x d =
    let after = device_after timings x d in
    let open0 = opened (event_of timings x d.part ∷ h) in (
      refl,
      refl,
      refl,
      tags_shown open0 after.lines.data_side,
      tags_shown open0 after.lines.code_side,
      λ e. rw e (refl, refl, refl, refl),
    )

-- ---- what is told

pub said_to_lem : SaidTo
said_to_lem timings scrap c who sector d = (refl, refl, refl, refl)

pub part_follows : PartFollows
part_follows timings [] d = refl
part_follows timings (call scrap c ∷ xs) d = part_follows timings xs (device_after timings (call scrap c) d)
part_follows timings (window who sector ∷ xs) d = part_follows timings xs d

-- blanked or whole, as hidden says
by_hidden : (timings : List ℕ) (h : List Event) (x : Request) (d : Device) (b : Bool) → hidden h x (length d.part.main) (said_to timings x d) ≡ b
    → (seen timings h x d).said ≡ cond b (blanked (said_to timings x d)) (said_to timings x d)
by_hidden timings h x d b e = ap (λ (b : Bool). cond b (blanked (said_to timings x d)) (said_to timings x d)) e

pub told_whole : ToldWhole
told_whole timings h x d e = by_hidden timings h x d false e

pub told_blank : ToldBlank
told_blank timings h x d e = (λ code value f. by_hidden timings h x d true e ∙ ap blanked f, λ bytes f. by_hidden timings h x d true e ∙ ap blanked f)

-- an access lies in main flash or SRAM exactly where all of its bytes lie in the one or all in the other
module _ (len a w : ℕ) where
  abbrev in_main : Bool
  in_main = inside a w main_base len

  abbrev in_sram : Bool
  in_sram = inside a w sram_base sram_length

  abbrev Is : Area → Type 0
  Is x = is_secret x ≡ (in_main || in_sram)

  -- what ends before the SRAM doesn't lie there
  before : (base n : ℕ) → base + n < sram_base → inside a w base n ≡ true → in_sram ≡ false
  before base n h e =
      let end = leb-true (a + w) (base + n) (both_right (leb base a) _ e) in
      ap (λ (b : Bool). b && leb (a + w) (sram_base + sram_length)) (lt-leb sram_base a (omega arith))

  secret_is : Is (area_of len a w)
  secret_is =
      keep_by Is in_main _ _ (λ e. rw e) (λ e. rw e
      (let Here : Area → Type 0 = λ x. is_secret x ≡ in_sram in
      keep_by Here (inside a w register_base register_length) _ _ (λ r. sym (before register_base register_length (lit< tt) r))
      (λ _. keep_by Here (inside a w system_base system_length) _ _ (λ r. sym (before system_base system_length (lit< tt) r))
      (λ _. keep_by Here (inside a w otp_base otp_length) _ _ (λ r. sym (before otp_base otp_length (lit< tt) r))
      (λ _. keep_by Here (inside a w system_base (system_length + otp_length)) _ _ (λ r. sym (before system_base (system_length + otp_length) (lit< tt) r))
      (λ _. keep_by Here (inside a w option_base option_length) _ _ (λ r. sym (before option_base option_length (lit< tt) r))
      (λ _. keep_by Here in_sram _ _ (λ r. sym r) (λ r. sym r))))))))

all_true : (a b c d : Bool) → a ≡ true → b ≡ true → c ≡ true → d ≡ true → (a && ((b && c) && d)) ≡ true
all_true a b c d e f g h = rw (e, f, g, h)

module _ (timings : List ℕ) (p : Part) where
  abbrev Hides : Request → Type 0
  Hides x = SecretRead timings x p ⊎ (sector : ℕ) × (x ≡ window 0 sector)

  -- a read among the n from a base
  done_read : (scrap : List ℕ) (a : Access) (base n : ℕ) → eqb a.who 0 ≡ true → is_done_said (said_uncached timings (call scrap (Read a)) p) ≡ true
      → inside a.address a.width base n ≡ true → DoneRead base n timings (call scrap (Read a)) p
  done_read scrap a base n cpu d within =
      record {
        scrap = scrap;
        access = a;
        is = refl;
        cpu = eqb-true a.who 0 cpu;
        low = leb-true base a.address (both_left (leb base a.address) _ within);
        high = leb-true (a.address + a.width) (base + n) (both_right (leb base a.address) _ within);
        done = eqb-true _ 0 d;
      }

  read_done : (h : List Event) (x : Request) (base n : ℕ) → clean h ≡ true → (r : DoneRead base n timings x p)
      → (inside r.access.address r.access.width base n ≡ true
      → (inside r.access.address r.access.width main_base (length p.main) || inside r.access.address r.access.width sram_base sram_length)
      ≡ true)
      → hidden h x (length p.main) (said_uncached timings x p) ≡ true
  read_done h x base n c r here =
      let a = r.access in
      subst (λ (x : Request). hidden h x (length p.main) (said_uncached timings x p) ≡ true) (sym r.is)
      (all_true (clean h) (eqb a.who 0) _ _ c (eq-eqb a.who 0 r.cpu)
      (secret_is (length p.main) a.address a.width
      ∙ here (rw (le-leb base a.address r.low, le-leb (a.address + a.width) (base + n) r.high) refl))
      (eq-eqb _ 0 r.done))

  -- of all requests only a read, a fetch and a window can be hidden
  hides : (x : Request) → reads_secret x (length p.main) ≡ true → is_done_said (said_uncached timings x p) ≡ true → Hides x
  hides (call scrap (Reset boot)) e d = absurd (false≢true e)
  hides (call scrap (Debugger link)) e d = absurd (false≢true e)
  hides (call scrap (Read a)) e d =
      let cpu = both_left (eqb a.who 0) _ e in
      let within = sym (secret_is (length p.main) a.address a.width) ∙ both_right (eqb a.who 0) _ e in
      inl (by_or (inside a.address a.width main_base (length p.main)) _
      (λ m. inl (done_read scrap a main_base (length p.main) cpu d m)) (λ s. inr (inl (done_read scrap a sram_base sram_length cpu d s))) within)
  hides (call scrap (Write a v)) e d = absurd (false≢true e)
  hides (call scrap (Time t)) e d = absurd (false≢true e)
  hides (call scrap (Fetch address)) e d = inl (inr (inr (record { scrap = scrap; address = address; is = refl; done = eqb-true _ 0 d })))
  hides (window who sector) e d = inr (sector, ap (λ (w : ℕ). window w sector) (eqb-true who 0 e))

  hidden_by : (h : List Event) (x : Request) → clean h ≡ true → Hides x → hidden h x (length p.main) (said_uncached timings x p) ≡ true
  hidden_by h x c (inl (inl m)) = read_done h x main_base (length p.main) c m (λ e. rw e)
  hidden_by h x c (inl (inr (inl s))) = read_done h x sram_base sram_length c s (λ e. rw e
      (or-true (inside s.access.address s.access.width main_base (length p.main))))
  hidden_by h x c (inl (inr (inr f))) =
      subst (λ (x : Request). hidden h x (length p.main) (said_uncached timings x p) ≡ true) (sym f.is) (rw (c, eq-eqb _ 0 f.done) refl)
  hidden_by h x c (inr (sector, e)) =
      subst (λ (x : Request). hidden h x (length p.main) (said_uncached timings x p) ≡ true) (sym e) (rw c refl)

-- lines change nothing in whether a request is done
done_same : (timings : List ℕ) (x : Request) (d : Device) → is_done_said (said_to timings x d) ≡ is_done_said (said_uncached timings x d.part)
done_same timings (call scrap c) d = ap (λ (n : ℕ). eqb n 0) (only_values timings scrap c d).0
done_same timings (window who sector) d = refl

-- hidden of the uncached part, and so of the part with its lines
pub hidden_uncached : (timings : List ℕ) (h : List Event) (x : Request) (p : Part)
    → (hidden h x (length p.main) (said_uncached timings x p) ≡ true)
    ↔ ((clean h ≡ true) × (SecretRead timings x p ⊎ ((sector : ℕ) × (x ≡ window 0 sector))))
hidden_uncached timings h x p = (
  λ e.
      let r = both_right (clean h) _ e in
      (both_left (clean h) _ e, hides timings p x (both_left _ _ r) (both_right (reads_secret x (length p.main)) _ r)),
  λ e. hidden_by timings p h x e.0 e.1,
)

pub hidden_exactly : HiddenExactly
hidden_exactly timings h x d =
    let p = d.part in
    let same : hidden h x (length p.main) (said_to timings x d) ≡ hidden h x (length p.main) (said_uncached timings x p) =
    ap (λ (b : Bool). clean h && (reads_secret x (length p.main) && b)) (done_same timings x d) in
    let (to, from) = hidden_uncached timings h x p in
    (λ e. to (sym same ∙ e), λ e. same ∙ from e)

-- ---- the history

-- opened by the latest event, or before it
latest : (e : Event) (h : List Event) → e.before ≡ 1 → e.after ≡ 0 → opened (e ∷ h) ≡ true
latest e h b a = rw (b, a)

earlier : (e : Event) (h : List Event) → opened h ≡ true → opened (e ∷ h) ≡ true
earlier e h o = rw o (or-true (eqb e.before 1 && eqb e.after 0))

either : (e : Event) (h : List Event) → opened (e ∷ h) ≡ true → ((e.before ≡ 1) × (e.after ≡ 0)) ⊎ (opened h ≡ true)
either e h = at (eqb e.before 1) refl (eqb e.after 0) refl
  where
    at : (s : Bool) → eqb e.before 1 ≡ s → (t : Bool) → eqb e.after 0 ≡ t → ((s && t) || opened h) ≡ true
        → ((e.before ≡ 1) × (e.after ≡ 0)) ⊎ (opened h ≡ true)
    at true f true g o = inl (eqb-true e.before 1 f, eqb-true e.after 0 g)
    at true f false g o = inr o
    at false f t g o = inr o

module _ (d : Event) where
  abbrev Opening : List Event → Type 0
  Opening h = (i : ℕ) × (i < length h) × ((get_or h i d).before ≡ 1) × ((get_or h i d).after ≡ 0)

  opening : (h : List Event) → opened h ≡ true → Opening h
  opening [] o = absurd (false≢true o)
  opening (e ∷ h) o =
      ⊎_elim (λ r. (0, omega arith, r.0, r.1)) (λ o. let r = opening h o in (suc r.0, omega (arith, r.1), r.2, r.3)) (either e h o)

  opened_by : (h : List Event) (i : ℕ) → i < length h → (get_or h i d).before ≡ 1 → (get_or h i d).after ≡ 0 → opened h ≡ true
  opened_by [] i l b a = absurd (not-suc-le-zero l)
  opened_by (e ∷ h) zero l b a = latest e h b a
  opened_by (e ∷ h) (suc i) l b a = earlier e h (opened_by h i (le_of_suc-le-suc l) b a)

pub opened_exactly : OpenedExactly
opened_exactly h d = (opening d h, λ (i, l, b, a). opened_by d h i l b a)

module _ (timings : List ℕ) where
  abbrev level_after : List Request → Part → ℕ
  level_after xs p = level_of (parts_after timings xs p).options

  abbrev Drop : List Request → Part → Type 0
  Drop xs p = (i : ℕ) × (i < length xs) × (level_after (take i xs) p ≡ 1) × (level_after (take (suc i) xs) p ≡ 0)

  dropping : (xs : List Request) (h : List Event) (p : Part) → opened (history_after timings h xs p) ≡ true → (opened h ≡ true) ⊎ Drop xs p
  dropping [] h p o = inl o
  dropping (x ∷ xs) h p o =
      ⊎_elim (λ o. ⊎_elim (λ r. inr (0, omega arith, r.0, r.1)) (λ o. inl o) (either (event_of timings x p) h o))
      (λ r. inr (suc r.0, omega (arith, r.1), r.2, r.3))
      (dropping xs (event_of timings x p ∷ h) (part_after timings x p) o)

  stays : (xs : List Request) (h : List Event) (p : Part) → opened h ≡ true → opened (history_after timings h xs p) ≡ true
  stays [] h p o = o
  stays (x ∷ xs) h p o = stays xs (event_of timings x p ∷ h) (part_after timings x p) (earlier (event_of timings x p) h o)

  opened_from : (xs : List Request) (h : List Event) (p : Part) (i : ℕ) → i < length xs → level_after (take i xs) p ≡ 1
      → level_after (take (suc i) xs) p ≡ 0 → opened (history_after timings h xs p) ≡ true
  opened_from [] h p i l b a = absurd (not-suc-le-zero l)
  opened_from (x ∷ xs) h p zero l b a = stays xs (event_of timings x p ∷ h) (part_after timings x p) (latest (event_of timings x p) h b a)
  opened_from (x ∷ xs) h p (suc i) l b a = opened_from xs (event_of timings x p ∷ h) (part_after timings x p) i (le_of_suc-le-suc l) b a

  pub inv_after : (xs : List Request) (h : List Event) (p : Part) → Inv h p → Inv (history_after timings h xs p) (parts_after timings xs p)
  inv_after [] h p v = v
  inv_after (x ∷ xs) h p v =
      inv_after xs (event_of timings x p ∷ h) (part_after timings x p) (next_inv h p v timings x)

pub opened_after : OpenedAfter
opened_after timings xs p = (
  λ e. ⊎_elim (λ f. absurd (false≢true f)) (λ f. f) (dropping timings xs [] p e),
  λ (i, l, b, a). opened_from timings xs [] p i l b a,
)

pub bits_follow : BitsFollow
bits_follow timings xs p f = let v = inv_after timings xs [] p (fresh_holds p f) in (v.conn, v.mark)

pub connected_at_reset : ConnectedAtReset
connected_at_reset timings scrap h boot p con done = (
  rw (eq-eqb (code_of (step timings scrap (Reset boot) p).answer) 0 done, con) (and-false (eqb boot 0)),
  λ other two.
      rw (
        ne_eqb (level_of p.options) 2 other,
        eq-eqb (level_of (step timings scrap (Reset boot) p).part.options) 2 two,
      ) refl,
)

-- ---- the parts

pub any_pair : AnyPair
any_pair main other otp options sram backup len back level =
    record { fresh_p = refl; fresh_q = refl; otp = refl; options = refl; len = len; sram = back; level = level }

-- the view of a request after others is what is seen of it
view_last : (timings : List ℕ) (xs : List Request) (x : Request) (s : Seen) (h : List Event) (d : Device)
    → get_or (views timings h (xs ++ x ∷ []) d) (length xs) s ≡ seen timings (history_after timings h xs d.part) x (devices_after timings xs d)
view_last timings [] x s h d = refl
view_last timings (call scrap c ∷ xs) x s h d =
    let y = call scrap c in
    view_last timings xs x s (event_of timings y d.part ∷ h) (device_after timings y d)
view_last timings (window who sector ∷ xs) x s h d = view_last timings xs x s (event_of timings (window who sector) d.part ∷ h) d

pub seen_alike : SeenAlike
seen_alike timings xs x main other otp options sram backup len back level =
    let p = part fresh main otp options sram in
    let q = part fresh other otp options backup in
    let s = seen timings [] x (device p no_lines) in
    sym (view_last timings xs x s [] (device q no_lines))
    ∙ ap (λ (vs : List Seen). get_or vs (length xs) s) (secret timings (xs ++ x ∷ []) p q (any_pair main other otp options sram backup len back level))
    ∙ view_last timings xs x s [] (device p no_lines)
