-- Demands 1 and 2, drawn from the law that every answer is the first entry that applies (Codes.antt).
use mathlib.Core.Bool.{Bool, true, false, not, cond, ◌&&◌, true≢false}
use mathlib.Core.List.{List, [], ◌∷◌}
use mathlib.Core.Path.{◌≡◌, refl, sym, ap, ◌∙◌}
use Prim.Native.Nat.{ℕ}
use lib.Dec.{eqb}
use borrow.Author.Tests.{eq-eqb, not-true}
use Rattle.part.specs.Calls.{step}
use Rattle.part.specs.Rules.{is_in, done_value, Told, told, Entry, first, entries, Coded, DoneExactly, none_of}
use Rattle.part.specs.State.{Part, code_of, value_of, number_of}
use Rattle.part.proofs.Codes.{answered}
use Rattle.map.proofs.Forms.{both_left, both_right}
use Rattle.part.proofs.Types.{Answer, Done, Flagged, Expired, Refused, Call, Debugger, Fetch, Read, Reset, Time, Write, Pass, Wait, Off, On, Reason, BadLength}
use Rattle.part.proofs.Types.{BadRegisterAccess, BadTiming, ClosedAccess, Locked, Malformed, NoPower, NoneLeft, NotConnected, OutsideMap, ShutByLevel2}
use Rattle.part.proofs.Types.{ShortScrap, Stalled, TooLong, WrongKey}

-- ---- demand 1

pub codes : Coded
codes timings scrap c p = at (step timings scrap c p).answer
  where
    number : (why : Reason)
        → (is_in (number_of why) (0 ∷ 1 ∷ 2 ∷ 5 ∷ 7 ∷ 8 ∷ 9 ∷ 10 ∷ 11 ∷ 12 ∷ 13 ∷ 14 ∷ 15 ∷ 16 ∷ 17 ∷ 18 ∷ 19 ∷ 21 ∷ []) ≡ true)
    number BadLength = refl
    number BadTiming = refl
    number Malformed = refl
    number OutsideMap = refl
    number TooLong = refl
    number BadRegisterAccess = refl
    number NoPower = refl
    number Stalled = refl
    number Locked = refl
    number ClosedAccess = refl
    number WrongKey = refl
    number NotConnected = refl
    number ShutByLevel2 = refl
    number NoneLeft = refl
    number ShortScrap = refl

    at : (a : Answer)
        → (is_in (code_of a) (0 ∷ 1 ∷ 2 ∷ 5 ∷ 7 ∷ 8 ∷ 9 ∷ 10 ∷ 11 ∷ 12 ∷ 13 ∷ 14 ∷ 15 ∷ 16 ∷ 17 ∷ 18 ∷ 19 ∷ 21 ∷ []) ≡ true)
        × (is_in (code_of a) (0 ∷ 17 ∷ 18 ∷ []) ≡ false → value_of a ≡ 0)
    at (Done v) = (refl, λ e. absurd (true≢false e))
    at (Refused why) = (number why, λ _. refl)
    at (Flagged f) = (refl, λ e. absurd (true≢false e))
    at (Expired t) = (refl, λ e. absurd (true≢false e))

-- ---- demand 2: the first entry that applies

-- every entry has a code of its own other than 0
abbrev all_coded : List Entry → Bool
all_coded [] = true
all_coded (e ∷ es) = not (eqb e.answer.code 0) && all_coded es

-- the first entry that applies has code 0 only where none applies, and then it is the value for done
first_none : (v : ℕ) (es : List Entry) → all_coded es ≡ true → (first (told 0 v) es).code ≡ 0 → none_of es ≡ true
first_none v [] k = λ e. refl
first_none v (x ∷ es) k = at x.applies (first_none v es (both_right (not (eqb x.answer.code 0)) (all_coded es) k))
  where
    at : (b : Bool) → ((first (told 0 v) es).code ≡ 0 → none_of es ≡ true) → (cond b x.answer (first (told 0 v) es)).code ≡ 0
        → (not b && none_of es) ≡ true
    at true ih e =
        let some = not-true (eqb x.answer.code 0) (both_left (not (eqb x.answer.code 0)) (all_coded es) k) in
        absurd (true≢false (sym (eq-eqb x.answer.code 0 e) ∙ some))
    at false ih e = ih e

first_done : (v : ℕ) (es : List Entry) → none_of es ≡ true → first (told 0 v) es ≡ told 0 v
first_done v [] n = refl
first_done v (x ∷ es) n =
    rw (not-true x.applies (both_left (not x.applies) (none_of es) n)) (first_done v es (both_right (not x.applies) (none_of es) n))

-- the entries of every call have codes
entries_coded : (timings scrap : List ℕ) (c : Call) (p : Part) → all_coded (entries timings scrap c p) ≡ true
entries_coded timings scrap (Reset boot) p = refl
entries_coded timings scrap (Debugger On) p = refl
entries_coded timings scrap (Debugger Off) p = refl
entries_coded timings scrap (Read a) p = refl
entries_coded timings scrap (Write a v) p = refl
entries_coded timings scrap (Time (Pass t)) p = refl
entries_coded timings scrap (Time (Wait t)) p = refl
entries_coded timings scrap (Fetch address) p = refl

pub done_exactly : DoneExactly
done_exactly timings scrap c p byte8 =
    let es = entries timings scrap c p in
    let told_ruled = answered timings scrap c p byte8 in
    let code_ruled = ap (λ (t : Told). t.code) told_ruled in
    let none = first_none (done_value c p) es (entries_coded timings scrap c p) in
    let done = first_done (done_value c p) es in (
      ((λ e. none (sym code_ruled ∙ e)), (λ n. code_ruled ∙ ap (λ (t : Told). t.code) (done n))),
      λ e. ap (λ (t : Told). t.value) (told_ruled ∙ done (none (sym code_ruled ∙ e))),
    )
