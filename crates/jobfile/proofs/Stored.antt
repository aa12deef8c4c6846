-- Values stored one after the other stand where they were stored, and nothing else changes.
use mathlib.Core.List.{List, [], ◌++◌, append-nil, ◌∷◌}
use mathlib.Core.Path.{◌≡◌, refl, ap, ◌∙◌}
use Prim.Native.Nat.{ℕ, suc, ◌+◌, ◌-◌, ◌*◌, ◌<◌}
use native.Mathlib.Numerals.{add-one}
use native.Mathlib.Omega.{arith}
use lib.ListN.{length, set, drop, drop_of_length-le, replicate}
use lib.Seq.{sets, sets-eq}
use Rattle.cells.specs.Bytes.{value_at, bytes_of}
use Rattle.job.specs.Job.{numbers_from, answer_bytes}
use Rattle.part.specs.State.{code_of, value_of, number_of}
use Rattle.part.specs.declared.Answer.{Answer}
use Rattle.part.specs.declared.Answer.TheVariants.{Done, Flagged, Expired, Refused}
use Rattle.part.specs.declared.Reason.{Reason}
use Rattle.part.specs.declared.Reason.TheVariants.{BadLength, BadRegisterAccess, BadTiming, ClosedAccess, Locked, Malformed, NoPower}
use Rattle.part.specs.declared.Reason.TheVariants.{NoneLeft, NotConnected, OutsideMap, ShortScrap, ShutByLevel2, Stalled, TooLong, WrongKey}

-- a list that is stored over from end to end
pub stored_whole : (t vs : List ℕ) → length t ≡ length vs → sets t 0 vs ≡ vs
stored_whole t vs e =
    let none : drop (0 + length vs) t ≡ [] = drop_of_length-le t {i = 0 + length vs} (omega arith) in
    sets-eq vs t 0 (omega arith) ∙ ap (λ (zs : List ℕ). vs ++ zs) none ∙ append-nil vs

-- ---- timings

pub timings_turn : (t bytes : List ℕ) (i : ℕ) → i < 24
    → sets t i (numbers_from bytes i (24 - i)) ≡ sets (set t i (value_at bytes (4 * i) 4)) (i + 1) (numbers_from bytes (i + 1) (24 - (i + 1)))
timings_turn t bytes i l = let e : 24 - i ≡ suc (24 - (i + 1)) = omega arith in rw (e, add-one)

-- ---- answers

-- a refusal's number is one byte
numbered : (why : Reason) → bytes_of 8 (number_of why) ≡ number_of why ∷ replicate 7 0
numbered BadLength = refl
numbered BadTiming = refl
numbered Malformed = refl
numbered OutsideMap = refl
numbered TooLong = refl
numbered BadRegisterAccess = refl
numbered NoPower = refl
numbered Stalled = refl
numbered Locked = refl
numbered ClosedAccess = refl
numbered WrongKey = refl
numbered NotConnected = refl
numbered ShutByLevel2 = refl
numbered NoneLeft = refl
numbered ShortScrap = refl

halves : (a : Answer) → bytes_of 8 (code_of a) ++ bytes_of 8 (value_of a) ≡ answer_bytes a
halves (Done v) = refl
halves (Refused why) = ap (λ (s : List ℕ). s ++ replicate 8 0) (numbered why)
halves (Flagged flag) = refl
halves (Expired t) = refl

pub answer_stored : (s : List ℕ) (a : Answer) → length s ≡ 16 → sets (sets s 0 (bytes_of 8 (code_of a))) 8 (bytes_of 8 (value_of a)) ≡ answer_bytes a
answer_stored s a e = stored_whole s (bytes_of 8 (code_of a) ++ bytes_of 8 (value_of a)) e ∙ halves a
