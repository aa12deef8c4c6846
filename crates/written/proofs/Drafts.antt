-- What begin and appends leave in a buffer: a head, the records of the calls taken, in their order, and behind them what was there before.
use mathlib.Core.Bool.{true, false, cond}
use mathlib.Core.List.{List, [], ◌∷◌, ◌++◌, append-nil}
use mathlib.Core.Path.{◌≡◌, refl, sym, ap, subst, ◌∙◌}
use Prim.Native.Nat.{ℕ, suc, ◌+◌, ◌*◌, ◌<◌, ◌≤◌}
use native.Mathlib.Nat.{mul-suc, mul-zero}
use native.Mathlib.Omega.{arith}
use lib.Dec.{eqb, leb}
use lib.ListN.{length, drop, length-append, length-drop}
use lib.Seq.{sets, sets-eq, append_snoc, take_at, drop_at, drop-drop}
use borrow.Author.Tests.{le-ltb, leb-false, ltb-false}
use Rattle.cascade.proofs.Picks.{keep_by}
use Rattle.job.specs.Job.{head_bytes, most_calls}
use Rattle.job.specs.Record.{fields_of, malformed_record, record_bytes}
use Rattle.part.proofs.Stepped.{or_left, or_right}
use Rattle.part.specs.declared.Call.{Call}
use Rattle.writer.specs.Writer.{Draft, draft, writer, Wrote, wrote, refused, begun, full, appended, closed}
use Rattle.written.specs.Lists.{appended_all, taken_of}

-- the records of these calls
abbrev pub records_of : List Call → List ℕ
records_of [] = []
records_of (c ∷ cs) = record_bytes (fields_of c) ++ records_of cs

pub records_length : (cs : List Call) → length (records_of cs) ≡ 16 * length cs
records_length [] = sym (mul-zero 16)
records_length (c ∷ cs) = length-append (record_bytes (fields_of c)) (records_of cs) ∙ rw (records_length cs, mul-suc 16 (length cs)) (omega arith)

records_append : (cs more : List Call) → records_of (cs ++ more) ≡ records_of cs ++ records_of more
records_append [] more = refl
records_append (c ∷ cs) more = ap (λ (s : List ℕ). record_bytes (fields_of c) ++ s) (records_append cs more)

-- each of these calls is held by a record
abbrev pub Held : List Call → Type 0
Held [] = Unit {0}
Held (c ∷ cs) = (malformed_record (fields_of c) ≡ false) × Held cs

held_snoc : (cs : List Call) (c : Call) → Held cs → malformed_record (fields_of c) ≡ false → Held (cs ++ (c ∷ []))
held_snoc [] c h e = (e, tt)
held_snoc (x ∷ cs) c h e = (h.0, held_snoc cs c h.1 e)

-- an append that is done
abbrev pub stored : Call → Draft → Wrote
stored c d = wrote 0 (writer (suc d.writer.count)) (sets d.bytes (7 + 16 * d.writer.count) (record_bytes (fields_of c)))

-- an append is refused, and leaves the draft, or it is done
pub by_answer {ℓ} : (c : Call) (d : Draft) (P : Wrote → Type ℓ) → (malformed_record (fields_of c) ≡ true → P (refused 5 d)) → P (refused 20 d)
    → (malformed_record (fields_of c) ≡ false → full d ≡ false → P (stored c d)) → P (appended c d)
by_answer c d P f g h = keep_by P (malformed_record (fields_of c)) _ _ f (λ m. keep_by P (full d) _ _ (λ _. g) (h m))

module _ (bytes : List ℕ) where
  -- a draft of these calls whose head says k
  abbrev pub built : ℕ → List Call → Draft
  built k ts = draft (writer (length ts)) (head_bytes k ++ (records_of ts ++ drop (7 + 16 * length ts) bytes))

  -- it lies in the buffer, and is not longer than a job
  pub record Inside (ts : List Call) : Type 0 where
    pub held : Held ts
    pub few : length ts ≤ most_calls
    pub room : 7 + 16 * length ts ≤ length bytes

  module _ (k : ℕ) (ts : List Call) (inside : Inside ts) where
    pub built_length : length (built k ts).bytes ≡ length bytes
    built_length =
        length-append (head_bytes k) (records_of ts ++ drop (7 + 16 * length ts) bytes)
        ∙ ap (λ (n : ℕ). 7 + n) (length-append (records_of ts) (drop (7 + 16 * length ts) bytes))
        ∙ rw (records_length ts, length-drop (7 + 16 * length ts) bytes) (omega (arith, inside.room))

    -- one call more
    module _ (c : Call) (held : malformed_record (fields_of c) ≡ false) (roomy : full (built k ts) ≡ false) where
      longer : length (ts ++ (c ∷ [])) ≡ suc (length ts)
      longer = length-append ts (c ∷ []) ∙ omega arith

      abbrev at : ℕ
      at = 7 + 16 * length ts

      count_below : length ts < most_calls
      count_below = leb-false most_calls (length ts) (or_left (leb most_calls (length ts)) _ roomy)

      room_left : at + 16 ≤ length bytes
      room_left =
          let l = ltb-false (length (built k ts).bytes) (7 + 16 * suc (length ts)) (or_right (leb most_calls (length ts)) _ roomy) in
          omega (arith, l, built_length, mul-suc 16 (length ts))

      pub inside_more : Inside (ts ++ (c ∷ []))
      inside_more =
          let room : 7 + 16 * length (ts ++ (c ∷ [])) ≤ length bytes = rw (longer, mul-suc 16 (length ts)) (omega (arith, room_left)) in
          record { held = held_snoc ts c inside.held held; few = rw longer count_below; room = room }

      grown : sets (built k ts).bytes at (record_bytes (fields_of c)) ≡ (built k (ts ++ (c ∷ []))).bytes
      grown =
          let r = record_bytes (fields_of c) in
          let front = head_bytes k ++ records_of ts in
          let rest = drop at bytes in
          let front_length : length front ≡ at = length-append (head_bytes k) (records_of ts) ∙ ap (λ (n : ℕ). 7 + n) (records_length ts) in
          let next : at + 16 ≡ 7 + 16 * length (ts ++ (c ∷ [])) = rw (longer, mul-suc 16 (length ts)) (omega arith) in
          let behind : drop (at + 16) (front ++ rest) ≡ drop (7 + 16 * length (ts ++ (c ∷ []))) bytes =
          sym (drop-drop 16 at (front ++ rest)) ∙ ap (drop 16) (drop_at front rest at front_length) ∙ drop-drop 16 at bytes
          ∙ ap (λ (n : ℕ). drop n bytes) next in
          sets-eq r (front ++ rest) at (omega (arith, room_left, built_length))
          ∙ (λ i. take_at front rest at front_length i ++ r ++ behind i)
          ∙ ap (λ (s : List ℕ). head_bytes k ++ (s ++ drop (7 + 16 * length (ts ++ (c ∷ []))) bytes)) (sym (records_append ts (c ∷ [])))

      one_more : stored c (built k ts) ≡ record { code = 0; draft = built k (ts ++ (c ∷ [])) }
      one_more = λ i. wrote 0 (writer (sym longer i)) (grown i)

      pub taken_on : appended c (built k ts) ≡ record { code = 0; draft = built k (ts ++ (c ∷ [])) }
      taken_on = rw (held, roomy) one_more

  -- all calls, one after the other: what is left in the end
  pub record Grown (k : ℕ) (ts taken : List Call) (d : Draft) : Type 0 where
    pub drafted : d ≡ built k (ts ++ taken)
    pub inside : Inside (ts ++ taken)

  pub grown_all : (k : ℕ) (cs ts : List Call) → Inside ts → Grown k ts (taken_of cs (built k ts)) (appended_all cs (built k ts))
  grown_all k [] ts inside =
      let same : ts ≡ ts ++ [] = sym (append-nil ts) in
      record { drafted = ap (built k) same; inside = subst Inside same inside }
  grown_all k (c ∷ cs) ts inside =
      let P : Wrote → Type 0 =
      λ w. Grown k ts (cond (eqb w.code 0) (c ∷ taken_of cs w.draft) (taken_of cs w.draft)) (appended_all cs w.draft) in
      let again = grown_all k cs ts inside in
      by_answer c (built k ts) P (λ _. again) again
      (λ held roomy.
      let more = ts ++ (c ∷ []) in
      let g = grown_all k cs more (inside_more k ts inside c held roomy) in
      let moved : more ++ taken_of cs (built k more) ≡ ts ++ (c ∷ taken_of cs (built k more)) = append_snoc ts c (taken_of cs (built k more)) in
      subst P (sym (one_more k ts inside c held roomy))
      (record { drafted = g.drafted ∙ ap (built k) moved; inside = subst Inside moved g.inside }))

  -- begun, there are no calls yet; closed, the head says how many there are
  pub begun_built : 7 ≤ length bytes → begun bytes ≡ record { code = 0; draft = built 0 [] }
  begun_built h = rw (le-ltb (length bytes) 7 h) (ap (wrote 0 (writer 0)) (sets-eq (head_bytes 0) bytes 0 h))

  pub closed_built : (k : ℕ) (ts : List Call) → Inside ts → closed (built k ts) ≡ record { code = 0; draft = built (length ts) ts }
  closed_built k ts inside =
      rw (le-ltb (length (built k ts).bytes) 7 (omega (arith, built_length k ts inside, inside.room)), le-ltb most_calls (length ts) inside.few) refl

  pub none_inside : 7 ≤ length bytes → Inside []
  none_inside h = record { held = tt; few = omega arith; room = h }
