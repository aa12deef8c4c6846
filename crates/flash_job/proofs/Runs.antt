-- The run, call by call: what is still to do, done from here, ends as the whole job does, and what is stored is the front of its answers.
use mathlib.Core.Bool.{Bool, false, true}
use mathlib.Core.List.{List, [], ◌∷◌, ◌++◌, append_assoc, append-nil}
use mathlib.Core.Path.{◌≡◌, refl, sym, ap, subst, ◌∙◌}
use Prim.Native.Nat.{ℕ, suc, ◌+◌, ◌-◌, ◌*◌, ◌<◌, ◌≤◌}
use native.Mathlib.Nat.{sub-zero}
use native.Mathlib.Numerals.{add-one}
use native.Mathlib.Omega.{arith}
use lib.ListN.{length, take, drop, take-append-drop}
use Rattle.std.specs.Prelude.{Option}
use Rattle.job.proofs.Laws.{First, first, read_count}
use Rattle.job.proofs.Records.{fields_kept, held_exactly}
use Rattle.job.specs.Job.{is_malformed, read_calls, record_at, calls_or, answer_bytes, answers_bytes, job_outcome, ran_job}
use Rattle.job.specs.Record.{malformed_record, fields_of, is_long, fields_in, malformed_in, call_in}
use Rattle.jobfile.proofs.Chunks.{before_next, from_next, rest_next}
use Rattle.part.proofs.Inside.{next_fits}
use Rattle.part.proofs.Stepped.{or_left}
use Rattle.cached.specs.Device.{Device, Served, after, answers, device, step_by, through_lines}
use Rattle.cached.specs.Lines.{no_lines}
use Rattle.part.specs.Calls.{performed, step}
use Rattle.part.specs.Refusals.{length_refused, malformed}
use Rattle.part.specs.declared.Call.{Call}
use Rattle.time.specs.Timings.{out_of_range}
use Rattle.flash_job.specs.Run.{call_at, answered}

-- ---- the call of a sound record is not malformed

sound_call : (s : List ℕ) → malformed_in s ≡ false → malformed (call_in s) ≡ false
sound_call s sound =
    let f = fields_in s in
    let kept : malformed_record (fields_of (call_in s)) ≡ false = ap malformed_record (fields_kept f sound) ∙ sound in
    or_left (malformed (call_in s)) (is_long (fields_of (call_in s))) (sym (held_exactly (call_in s)) ∙ kept)

-- the record that the code hands on is the definition's, so its call is too
pub call_told : (job : List ℕ) (i : ℕ) (c : Call) → c ≡ call_in (take (7 + 16 * i + 16 - (7 + 16 * i)) (drop (7 + 16 * i) job)) → c ≡ call_at job i
call_told job i c q =
    let e : 7 + 16 * i + 16 - (7 + 16 * i) ≡ 16 = omega arith in
    q ∙ ap (λ (k : ℕ). call_in (take k (drop (7 + 16 * i) job))) e

-- where none of the three refusals applies, what a call does is the step
pub runs_as_steps : (cached : Bool) (timings scrap : List ℕ) (d : Device) (c x : Call) (o : Served) → length_refused timings d.part ≡ false
    → out_of_range timings ≡ false → malformed x ≡ false → c ≡ x → o ≡ through_lines cached c d (performed timings scrap c d.part)
    → o ≡ step_by cached timings scrap x d
runs_as_steps cached timings scrap d c x o l t m e q =
    let steps : performed timings scrap x d.part ≡ step timings scrap x d.part = rw (l, t, m) refl in
    q ∙ ap (λ (y : Call). through_lines cached y d (performed timings scrap y d.part)) e ∙ ap (through_lines cached x d) steps

-- ---- after i of n calls

-- the calls from record i on
abbrev todo : List ℕ → ℕ → ℕ → Option (List Call)
todo job n i = read_calls job i (n - i)

abbrev whole : List ℕ → ℕ → List Call
whole job n = calls_or (read_calls job 0 n)

-- lines don't change the part
part_is : (cached : Bool) (timings scrap : List ℕ) (c : Call) (d : Device) → (step_by cached timings scrap c d).device.part ≡ (step timings scrap c d.part).part
part_is true timings scrap c d = refl
part_is false timings scrap c d = refl

pub record Sofar (cached : Bool) (timings scrap job room₀ : List ℕ) (n : ℕ) (d₀ : Device) (i : ℕ) (d : Device) (room : List ℕ) : Type 0 where
  pub sound : is_malformed (todo job n i) ≡ false
  pub fits : length_refused timings d.part ≡ false
  pub parts : after cached timings scrap (calls_or (todo job n i)) d ≡ after cached timings scrap (whole job n) d₀
  pub said : take (16 * i) room ++ answers_bytes (answers cached timings scrap (calls_or (todo job n i)) d) ≡ answers_bytes (answers cached timings scrap (whole job n) d₀)
  pub rest : drop (16 * i) room ≡ drop (16 * i) room₀

module _ {cached : Bool} {timings scrap job room₀ : List ℕ} {n : ℕ} {d₀ : Device} where
  pub start : {d : Device} → d ≡ d₀ → is_malformed (read_calls job 0 n) ≡ false → length_refused timings d₀.part ≡ false → Sofar cached timings scrap job room₀ n d₀ 0 d room₀
  start e s l =
      let z : n - 0 ≡ n = sub-zero n in
      record { sound = rw z s; fits = rw e l; parts = rw (z, e) refl; said = rw (z, e) refl; rest = refl }

  module _ {i : ℕ} {d : Device} {room : List ℕ} (more : i < n) (so : Sofar cached timings scrap job room₀ n d₀ i d room) where
    abbrev made : Served
    made = step_by cached timings scrap (call_at job i) d

    left : n - i ≡ suc (n - suc i)
    left = omega arith

    here : First (record_at job i) (todo job n (suc i))
    here = first (record_at job i) (todo job n (suc i)) (subst (λ (k : ℕ). is_malformed (read_calls job i k) ≡ false) left so.sound)

    pub call_good : malformed (call_at job i) ≡ false
    call_good = sound_call (record_at job i) here.good

    calls_here : calls_or (todo job n i) ≡ call_at job i ∷ calls_or (todo job n (suc i))
    calls_here = ap (λ (k : ℕ). calls_or (read_calls job i k)) left ∙ here.calls

    pub next : {d' : Device} {room' : List ℕ} → 16 * i + 16 ≤ length room → (d' ≡ made.device) × (room' ≡ answered room i made.answer)
        → Sofar cached timings scrap job room₀ n d₀ (i + 1) d' room'
    next fits e =
        let a = answer_bytes made.answer in
        let b = answers_bytes (answers cached timings scrap (calls_or (todo job n (suc i))) made.device) in
        rw (e.0, e.1, add-one) (record {
          sound = here.sound;
          fits = ap (length_refused timings) (part_is cached timings scrap (call_at job i) d) ∙ next_fits timings d.part so.fits scrap (call_at job i);
          parts = ap (λ (cs : List Call). after cached timings scrap cs d) (sym calls_here) ∙ so.parts;
          said = ap (λ (l : List ℕ). l ++ b) (before_next 16 room i fits a refl) ∙ append_assoc (take (16 * i) room) a b
              ∙ ap (λ (cs : List Call). take (16 * i) room ++ answers_bytes (answers cached timings scrap cs d)) (sym calls_here) ∙ so.said;
          rest = from_next 16 room i fits a refl ∙ rest_next 16 i room room₀ so.rest;
        })

  -- all calls are made
  pub ends : {d : Device} {room : List ℕ} {i : ℕ} → i ≡ n → is_malformed (read_calls job 0 n) ≡ false → d₀.lines ≡ no_lines
      → Sofar cached timings scrap job room₀ n d₀ i d room → job_outcome 0 d.part room ≡ ran_job cached d₀.part timings scrap (whole job n) room₀
  ends {d} {room} {i} e s none so =
      let z : n - i ≡ 0 = omega arith in
      let done : calls_or (todo job n i) ≡ [] = rw z refl in
      let q : d ≡ after cached timings scrap (whole job n) d₀ = ap (λ (cs : List Call). after cached timings scrap cs d) (sym done) ∙ so.parts in
      let b : take (16 * i) room ≡ answers_bytes (answers cached timings scrap (whole job n) d₀) =
      sym (append-nil (take (16 * i) room)) ∙ ap (λ (cs : List Call). take (16 * i) room ++ answers_bytes (answers cached timings scrap cs d)) (sym done) ∙ so.said in
      let l : length (whole job n) ≡ n = read_count job n 0 s in
      let r : room ≡ answers_bytes (answers cached timings scrap (whole job n) d₀) ++ drop (16 * length (whole job n)) room₀ =
      sym (take-append-drop (16 * i) room) ∙ (λ j. b j ++ so.rest j)
      ∙ ap (λ (k : ℕ). answers_bytes (answers cached timings scrap (whole job n) d₀) ++ drop (16 * k) room₀) (e ∙ sym l) in
      let from : device d₀.part no_lines ≡ d₀ = λ j. device d₀.part (sym none j) in
      (λ j. job_outcome 0 (q j).part (r j))
      ∙ sym (ap (λ (f : Device). job_outcome 0 (after cached timings scrap (whole job n) f).part
      (answers_bytes (answers cached timings scrap (whole job n) f) ++ drop (16 * length (whole job n)) room₀)) from)
