-- A job on two parts that a host cannot tell apart, with caches or without: each call answers alike but for a hidden value, and leaves them equal or
-- apart.
use mathlib.Core.Bool.{Bool, true, false, cond, ◌&&◌, false≢true}
use mathlib.Core.List.{List, [], ◌∷◌, ◌++◌}
use mathlib.Core.Logic.{◌⊎◌, inl, inr, ⊎_elim}
use mathlib.Core.Path.{◌≡◌, refl, sym, ap, subst, ◌∙◌}
use Prim.Native.Nat.{ℕ, zero, suc, ◌+◌, ◌*◌}
use lib.Dec.{eqb}
use lib.ListN.{length, take, drop}
use lib.Seq.{drop-drop}
use Rattle.cells.specs.Bytes.{bytes_of}
use Rattle.secrecy.proofs.Invariant.{Inv, next_inv}
use Rattle.secrecy.proofs.Lists.{ApartWith, devices_next, fresh_apart_with, said_same, said_by}
use Rattle.secrecy.proofs.Secret.{Apart, alike_apart, apart_next, fresh_inv, fresh_apart, told}
use Rattle.cached.proofs.Laws.{only_values}
use Rattle.cached.specs.Device.{Device, Request, Said, Served, after, answered, answers, call, device, said_uncached, shown, step_by}
use Rattle.cached.specs.Lines.{no_lines}
use Rattle.part.specs.Calls.{step}
use Rattle.secrecy.specs.Secrecy.{Event, event_of, clean, reads_secret, hidden, blanked, opened, FreshPair}
use Rattle.part.specs.State.{Part, fresh, having, code_of, value_of}
use Rattle.part.specs.declared.Answer.{Answer}
use Rattle.part.specs.declared.Call.{Call}
use Rattle.time.specs.Timings.{out_of_range}
use Rattle.job.specs.Job.{timings_of, job_calls, bad_buffers, job_refusal, file_refusal, answers_bytes}
use Rattle.job.specs.Job.{calls_or, JobOutcome, job_outcome, ran_job, run_by}
use Rattle.job.specs.Secrecy.{calls_made, history_after, hidden_call, JobsAlike, JobSecrecy, LoweredEqual}
use Rattle.job.proofs.HiddenCalls.{lowered_alike}
use Rattle.job.proofs.Laws.{next_bytes}

-- two devices that a host cannot tell apart: with caches, and without, where the lines stay
abbrev Apartly : Bool → List Event → Device → Device → Type 0
Apartly true h d e = ApartWith h d e
Apartly false h d e = Apart h d.part e.part × (e.lines ≡ d.lines)

parts : (cached : Bool) (h : List Event) (d e : Device) → Apartly cached h d e → Apart h d.part e.part
parts true h d e a = a.parts
parts false h d e a = a.0

-- equal, or apart under the history so far
abbrev Near : Bool → List Event → Device → Device → Type 0
Near cached h d e = (e ≡ d) ⊎ (Inv h d.part × Apartly cached h d e)

-- ---- one answer

abbrev code_said : Said → ℕ
code_said (answered code value) = code
code_said (shown bytes) = 0

abbrev value_said : Said → ℕ
value_said (answered code value) = value
value_said (shown bytes) = 0

-- what is left out of an answer leaves its code
code_told : (b : Bool) (code value : ℕ) → code_said (cond b (blanked (answered code value)) (answered code value)) ≡ code
code_told true code value = refl
code_told false code value = refl

module _ (timings scrap : List ℕ) (h : List Event) (c : Call) where
  abbrev x : Request
  x = call scrap c

  -- what a call tells of both, and the devices after it
  record Steps (cached : Bool) (d e : Device) : Type 0 where
    said : told h x (length e.part.main) (said_by (step_by cached timings scrap c e).answer)
        ≡ told h x (length d.part.main) (said_by (step_by cached timings scrap c d).answer)
    next : ((step_by cached timings scrap c e).device ≡ (step_by cached timings scrap c d).device)
        ⊎ Apartly cached (event_of timings x d.part ∷ h) (step_by cached timings scrap c d).device (step_by cached timings scrap c e).device

  steps : (cached : Bool) (d e : Device) → Inv h d.part → Apartly cached h d e → Steps cached d e
  steps true d e v a = record { said = said_same timings h d e v a x; next = devices_next timings h d e v a x }
  steps false d e v (a, l) =
      let k = alike_apart timings h x d.part e.part v a in
      record {
        said = k.said;
        next = ⊎_elim (λ same. inl (λ i. device (same i) (l i))) (λ b. inr (b, l)) (apart_next timings h x d.part e.part a k);
      }

  -- lines change neither the code nor the part
  code_is : (cached : Bool) (d : Device) → code_of (step_by cached timings scrap c d).answer ≡ code_of (step timings scrap c d.part).answer
  code_is true d = (only_values timings scrap c d).0
  code_is false d = refl

  module _ (cached : Bool) (d e : Device) (v : Inv h d.part) (a : Apartly cached h d e) where
    abbrev p : Part
    p = d.part

    abbrev said : Device → Answer
    said f = (step_by cached timings scrap c f).answer

    abbrev hid : Device → Bool
    hid f = hidden h x (length f.part.main) (said_by (said f))

    k : Steps cached d e
    k = steps cached d e v a

    code_same : code_of (said e) ≡ code_of (said d)
    code_same =
        sym (code_told (hid e) (code_of (said e)) (value_of (said e))) ∙ ap code_said k.said ∙ code_told (hid d) (code_of (said d)) (value_of (said d))

    hid_same : hid e ≡ hid d
    hid_same = λ i. clean h && (reads_secret x ((parts cached h d e a).len i) && eqb (code_same i) 0)

    value_same : hidden h x (length p.main) (said_uncached timings x p) ≡ false → value_of (said e) ≡ value_of (said d)
    value_same z =
        let shows : (b : Bool) (s : Said) → b ≡ false → s ≡ cond b (blanked s) s = λ b s z. ap (λ (x : Bool). cond x (blanked s) s) (sym z) in
        let is : hid d ≡ false = ap (λ (n : ℕ). clean h && (reads_secret x (length p.main) && eqb n 0)) (code_is cached d) ∙ z in
        ap value_said (shows (hid e) (said_by (said e)) (hid_same ∙ is)) ∙ ap value_said k.said ∙ sym (ap value_said (shows (hid d) (said_by (said d)) is))

-- ---- a list of calls

module _ (cached : Bool) (timings scrap : List ℕ) where
  abbrev called : Call → Device → Served
  called c d = step_by cached timings scrap c d

  next_values : (a : Answer) (xs : List Answer) (rest : List ℕ) (i : ℕ)
      → drop (16 * suc i + 8) (answers_bytes (a ∷ xs) ++ rest) ≡ drop (16 * i + 8) (answers_bytes xs ++ rest)
  next_values a xs rest i =
      sym (drop-drop 8 (16 * suc i) (answers_bytes (a ∷ xs) ++ rest)) ∙ ap (drop 8) (next_bytes a xs rest i) ∙ drop-drop 8 (16 * i) (answers_bytes xs ++ rest)

  part_is : (c : Call) (d : Device) → (called c d).device.part ≡ (step timings scrap c d.part).part
  part_is c d = at cached
    where
      at : (b : Bool) → (step_by b timings scrap c d).device.part ≡ (step timings scrap c d.part).part
      at true = refl
      at false = refl

  -- the devices after a call
  near_next : (h : List Event) (c : Call) (d e : Device) → Inv h d.part → Apartly cached h d e
      → Near cached (event_of timings (call scrap c) d.part ∷ h) (called c d).device (called c e).device
  near_next h c d e v a =
      ⊎_elim inl (λ b. inr (subst (Inv (event_of timings (call scrap c) d.part ∷ h)) (sym (part_is c d)) (next_inv h d.part v timings (call scrap c)), b))
      (steps timings scrap h c cached d e v a).next

  abbrev bytes : List Call → Device → List ℕ → List ℕ
  bytes cs d rest = answers_bytes (answers cached timings scrap cs d) ++ rest

  -- what is the same of devices apart is the same of near ones
  of_near : {A : Type 0} (f : Device → A) (h : List Event) (d e : Device) → Near cached h d e → (Inv h d.part → Apartly cached h d e → f e ≡ f d) → f e ≡ f d
  of_near f h d e (inl same) g = ap f same
  of_near f h d e (inr (v, a)) g = g v a

  codes_same : (cs : List Call) (i : ℕ) (h : List Event) (d e : Device) (rest : List ℕ) → Inv h d.part → Apartly cached h d e
      → take 8 (drop (16 * i) (bytes cs e rest)) ≡ take 8 (drop (16 * i) (bytes cs d rest))
  codes_same [] i h d e rest v a = refl
  codes_same (c ∷ cs) zero h d e rest v a =
      ap (λ (k : ℕ). k ∷ 0 ∷ 0 ∷ 0 ∷ 0 ∷ 0 ∷ 0 ∷ 0 ∷ []) (code_same timings scrap h c cached d e v a)
  codes_same (c ∷ cs) (suc i) h d e rest v a =
      ap (take 8) (next_bytes (called c e).answer (answers cached timings scrap cs (called c e).device) rest i)
      ∙ of_near (λ (z : Device). take 8 (drop (16 * i) (bytes cs z rest))) _ _ _ (near_next h c d e v a)
      (codes_same cs i (event_of timings (call scrap c) d.part ∷ h) (called c d).device (called c e).device rest)
      ∙ sym (ap (take 8) (next_bytes (called c d).answer (answers cached timings scrap cs (called c d).device) rest i))

  values_same : (cs : List Call) (i : ℕ) (h : List Event) (d e : Device) (rest : List ℕ) → Inv h d.part → Apartly cached h d e
      → hidden_call timings scrap h cs d.part i ≡ false → take 8 (drop (16 * i + 8) (bytes cs e rest)) ≡ take 8 (drop (16 * i + 8) (bytes cs d rest))
  values_same [] i h d e rest v a z = refl
  values_same (c ∷ cs) zero h d e rest v a z = ap (bytes_of 8) (value_same timings scrap h c cached d e v a z)
  values_same (c ∷ cs) (suc i) h d e rest v a z =
      let g = event_of timings (call scrap c) d.part ∷ h in
      ap (take 8) (next_values (called c e).answer (answers cached timings scrap cs (called c e).device) rest i)
      ∙ of_near (λ (f : Device). take 8 (drop (16 * i + 8) (bytes cs f rest))) _ _ _ (near_next h c d e v a)
      (λ w b. values_same cs i g (called c d).device (called c e).device rest w b (ap (λ (p : Part). hidden_call timings scrap g cs p i) (part_is c d) ∙ z))
      ∙ sym (ap (take 8) (next_values (called c d).answer (answers cached timings scrap cs (called c d).device) rest i))

  -- what is the same of devices apart whose history is as wanted is the same after the calls
  after_same : {A : Type 0} (f : Part → A) (wanted : List Event → Type 0) → ((h : List Event) (p q : Part) → Apart h p q → wanted h → f q ≡ f p)
      → (cs : List Call) (h : List Event) (d e : Device) → Inv h d.part → Apartly cached h d e → wanted (history_after timings scrap h cs d.part)
      → f (after cached timings scrap cs e).part ≡ f (after cached timings scrap cs d).part
  after_same f wanted g [] h d e v a w = g h d.part e.part (parts cached h d e a) w
  after_same f wanted g (c ∷ cs) h d e v a w =
      let m = event_of timings (call scrap c) d.part ∷ h in
      of_near (λ (z : Device). f (after cached timings scrap cs z).part) _ _ _ (near_next h c d e v a)
      (λ u b. after_same f wanted g cs m (called c d).device (called c e).device u b
      (subst (λ (p : Part). wanted (history_after timings scrap m cs p)) (sym (part_is c d)) w))

-- ---- the job

-- equal cells and lengths, whatever the records
module _ (cached : Bool) (p q : Part) (timings scrap job room : List ℕ) (f : FreshPair (having p fresh) (having q fresh)) where
  abbrev one : Part
  one = having p fresh

  abbrev other : Part
  other = having q fresh

  near : (b : Bool) → Apartly b [] (device one no_lines) (device other no_lines)
  near true = fresh_apart_with one other f
  near false = (fresh_apart one other f, refl)

  abbrev made : ℕ → Part → JobOutcome
  made refusal x = cond (eqb refusal 0) (ran_job cached (having x fresh) (timings_of timings) scrap (calls_or (job_calls job)) room) (job_outcome refusal x room)

  -- the refusal looks at lengths alone
  refusal_same : job_refusal q timings job (length room) ≡ job_refusal p timings job (length room)
  refusal_same = λ i.
      cond (bad_buffers (f.len i) (length (f.otp i)) (length (f.options i)) (f.sram i) (length timings)) 1
      (cond (out_of_range (timings_of timings)) 2 (file_refusal job (length room)))

  both : (refusal : ℕ) (b : Bool) → eqb refusal 0 ≡ b
      → JobsAlike (timings_of timings) scrap (cond b (calls_or (job_calls job)) []) one
      (cond b (ran_job cached one (timings_of timings) scrap (calls_or (job_calls job)) room) (job_outcome refusal p room))
      (cond b (ran_job cached other (timings_of timings) scrap (calls_or (job_calls job)) room) (job_outcome refusal q room))
  both refusal true z =
      let cs = calls_or (job_calls job) in
      let t = timings_of timings in
      let v = fresh_inv one other f in
      let a = near cached in
      let d = device one no_lines in
      let e = device other no_lines in
      record {
        result = refl;
        otp = after_same cached t scrap (λ x. x.otp) (λ h. Unit {0}) (λ h x y b w. b.otp) cs [] d e v a tt;
        options = after_same cached t scrap (λ x. x.options) (λ h. Unit {0}) (λ h x y b w. b.options) cs [] d e v a tt;
        codes = λ i. codes_same cached t scrap cs i [] d e (drop (16 * length cs) room) v a;
        values = λ i. values_same cached t scrap cs i [] d e (drop (16 * length cs) room) v a;
        main = after_same cached t scrap (λ x. x.main) (λ h. opened h ≡ true) (λ h x y b w. absurd (false≢true (sym b.shut ∙ w))) cs [] d e v a;
        sram = after_same cached t scrap (λ x. x.sram) (λ h. opened h ≡ true) (λ h x y b w. absurd (false≢true (sym b.shut ∙ w))) cs [] d e v a;
      }
  both refusal false z =
      record {
        result = refl;
        otp = f.otp;
        options = f.options;
        codes = λ i. refl;
        values = λ i z. refl;
        main = λ o. absurd (false≢true o);
        sram = λ o. absurd (false≢true o);
      }

  alike : JobsAlike (timings_of timings) scrap (calls_made p timings job (length room)) one (run_by cached p timings scrap job room) (run_by cached q timings scrap job room)
  alike =
      let r = job_refusal p timings job (length room) in
      subst (λ (k : ℕ). JobsAlike (timings_of timings) scrap (calls_made p timings job (length room)) one (run_by cached p timings scrap job room) (made k q))
      (sym refusal_same) (both r (eqb r 0) refl)

pub job_secret : JobSecrecy
job_secret cached p q timings scrap job room f =
    let fresh_p_lem : having p fresh ≡ p = ap (having p) (sym f.fresh_p) in
    let cs = calls_made p timings job (length room) in
    subst (λ (x : Part). JobsAlike (timings_of timings) scrap cs x (run_by cached p timings scrap job room) (run_by cached q timings scrap job room)) fresh_p_lem
    (alike cached p q timings scrap job room
    (record { fresh_p = refl; fresh_q = refl; otp = f.otp; options = f.options; len = f.len; sram = f.sram; level = f.level }))

lowered_equal : LoweredEqual
lowered_equal p q timings scrap job room f l =
    lowered_alike (timings_of timings) scrap (calls_made p timings job (length room)) p _ _ (job_secret true p q timings scrap job room f) l
