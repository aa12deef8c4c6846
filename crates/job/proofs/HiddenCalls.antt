-- What the words of the claim on secrecy come to: hidden calls, the history, what opens a part; and that the claim can't be made stronger.
use mathlib.Core.Bool.{Bool, true, false, true≢false}
use mathlib.Core.List.{List, [], ◌∷◌, map}
use mathlib.Core.Logic.{inl, ◌↔◌, ⊎_elim}
use mathlib.Core.Path.{◌≡◌, refl, sym, ap, ◌∙◌, subst}
use Prim.Native.Nat.{ℕ, zero, suc, ◌<◌}
use native.Mathlib.Nat.{not-suc-le-zero, le_of_suc-le-suc}
use native.Mathlib.Omega.{arith}
use lib.ListN.{length, get_or, take, replicate}
use Rattle.secrecy.proofs.Claim.{any_pair, hidden_uncached, opened_after}
use Rattle.part.specs.Calls.{step, after}
use Rattle.secrecy.specs.Claim.{SecretRead, parts_after}
use Rattle.part.specs.Options.{level_of}
use Rattle.cached.specs.Device.{Request, call, said_uncached, window}
use Rattle.secrecy.specs.Secrecy.{Event, event_of, clean, hidden}
use Rattle.part.specs.State.{Part}
use Rattle.part.specs.declared.Call.{Call}
use Rattle.job.specs.Example.{firmware_job}
use Rattle.job.specs.Rehearsal.{thousands}
use Rattle.job.specs.Secrecy.{AnswersEqual, HiddenCalls, HistoryGrows, OpenedCalls, LoweredAlike, first_byte, HiddenWorked}

-- ---- hidden calls

abbrev is_call : Request → Bool
is_call (call scrap c) = true
is_call (window who sector) = false

-- a call that is hidden is no window
exactly : (timings scrap : List ℕ) (h : List Event) (c : Call) (p : Part)
    → (hidden h (call scrap c) (length p.main) (said_uncached timings (call scrap c) p) ≡ true) ↔ ((clean h ≡ true) × SecretRead timings (call scrap c) p)
exactly timings scrap h c p =
    let f = hidden_uncached timings h (call scrap c) p in (
      (λ e. let k = f.0 e in (k.0, ⊎_elim (λ m. m) (λ w. absurd (true≢false (ap is_call w.1))) k.1)),
      (λ k. f.1 (k.0, inl k.1)),
    )

hidden_calls : HiddenCalls
hidden_calls timings scrap h [] p i d l = absurd (not-suc-le-zero l)
hidden_calls timings scrap h (c ∷ cs) p zero d l = exactly timings scrap h c p
hidden_calls timings scrap h (c ∷ cs) p (suc i) d l =
    hidden_calls timings scrap (event_of timings (call scrap c) p ∷ h) cs (step timings scrap c p).part i d (le_of_suc-le-suc l)

-- ---- the history

history_grows : HistoryGrows
history_grows timings scrap h [] c p = refl
history_grows timings scrap h (x ∷ cs) c p = history_grows timings scrap (event_of timings (call scrap x) p ∷ h) cs c (step timings scrap x p).part

-- calls are requests: as many, and with the same part after the first i
as_many : (scrap : List ℕ) (cs : List Call) → length (map (call scrap) cs) ≡ length cs
as_many scrap [] = refl
as_many scrap (c ∷ cs) = ap suc (as_many scrap cs)

as_requests : (timings scrap : List ℕ) (i : ℕ) (cs : List Call) (p : Part)
    → parts_after timings (take i (map (call scrap) cs)) p ≡ after timings scrap (take i cs) p
as_requests timings scrap zero cs p = refl
as_requests timings scrap (suc i) [] p = refl
as_requests timings scrap (suc i) (c ∷ cs) p = as_requests timings scrap i cs (step timings scrap c p).part

opened_calls : OpenedCalls
opened_calls timings scrap cs p =
    let requests = opened_after timings (map (call scrap) cs) p in
    let level : (i : ℕ) → level_of (parts_after timings (take i (map (call scrap) cs)) p).options ≡ level_of (after timings scrap (take i cs) p).options =
    λ i. ap (λ (q : Part). level_of q.options) (as_requests timings scrap i cs p) in (
      λ e.
          let (i, made, from, to) = requests.0 e in
          record { i = i; made = subst (λ (n : ℕ). i < n) (as_many scrap cs) made; from = sym (level i) ∙ from; to = sym (level (suc i)) ∙ to },
      λ l.
          requests.1 (l.i, subst (λ (n : ℕ). l.i < n) (sym (as_many scrap cs)) l.made, level l.i ∙ l.from, level (suc l.i) ∙ l.to),
    )

pub lowered_alike : LoweredAlike
lowered_alike timings scrap cs p x y alike l = let o = (opened_calls timings scrap cs p).1 l in (alike.main o, alike.sram o)

-- ---- the two parts

hidden_worked : HiddenWorked
hidden_worked = (refl, (refl, refl, refl, refl, refl, refl, refl), (refl, refl, refl, refl, refl, refl, refl))

-- the CPU's read shows the byte in which the two parts differ
answers_differ : AnswersEqual → ⊥
answers_differ equal =
    let one = first_byte 1 in
    let two = first_byte 2 in
    let pair = any_pair one.main two.main one.otp one.options one.sram two.sram refl refl (inl refl) in
    let e = equal one two (thousands 24) [] firmware_job (replicate 32 0x5A) pair in
    let z : ◌≡◌ {A = ℕ} 2 1 = ap (λ (s : List ℕ). get_or s 24 0) e in
    omega arith
