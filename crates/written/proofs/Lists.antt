-- Whole lists of calls, begun, appended and closed: read back, written again, closed again, and not closed.
use mathlib.Core.Bool.{false, cond}
use mathlib.Core.List.{List, [], ◌∷◌, ◌++◌, append-nil}
use mathlib.Core.Path.{◌≡◌, refl, sym, ap, subst, ◌∙◌}
use Prim.Native.Nat.{ℕ, zero, suc, ◌+◌, ◌*◌, ◌<◌, ◌≤◌}
use native.Mathlib.Omega.{arith}
use lib.Dec.{eqb, leb, ltb, lit<}
use lib.ListN.{length, get_or, take, drop, length-append, length-drop, take-append-drop, drop_of_length-le}
use lib.Seq.{take_at, drop_at, drop-drop, drop-cons, length-take-le, get_or-drop}
use borrow.Author.Tests.{le-ltb, lt-leb, eqb-true, not-false}
use Rattle.cells.specs.Bytes.{value_at, bytes_of}
use Rattle.job.proofs.Laws.{first, none_applies, size_fits, read_count}
use Rattle.job.proofs.Records.{held_exactly, fields_kept, record_written, bytes_back}
use Rattle.job.specs.Job.{bad_head, calls_or, count_of, file_refusal, head_bytes, is_malformed, job_calls, most_calls, read_calls, record_at}
use Rattle.job.specs.Record.{call_in, fields_in, fields_of, malformed_record, record_bytes}
use Rattle.map.proofs.Forms.{both_left, both_right}
use Rattle.part.proofs.Stepped.{or_left, or_right}
use Rattle.part.specs.declared.Call.{Call}
use Rattle.written.specs.Claims.{unheld, any_unheld, ReadBack, AllTaken, WrittenAgain, Unclosed}
use Rattle.writer.specs.Writer.{Draft, Wrote, begun, full, closed}
use Rattle.written.specs.Lists.{appended_all, taken_of, written, job_in}
use Rattle.written.proofs.Drafts.{Held, records_of, built, Inside, Grown, grown_all, taken_on}
use Rattle.written.proofs.Drafts.{inside_more, begun_built, closed_built, none_inside, built_length}
use Rattle.written.proofs.Reading.{job_of, job_length, miscounted, calls_read, job_taken}

-- the job in a draft of these calls
in_built : (bytes : List ℕ) (k : ℕ) (ts : List Call) → job_in (built bytes k ts) ≡ job_of k ts
in_built bytes k ts = take_at (job_of k ts) (drop (7 + 16 * length ts) bytes) (7 + 16 * length ts) (job_length k ts)

module _ (cs : List Call) (bytes : List ℕ) (h : 7 ≤ length bytes) where
  abbrev taken : List Call
  taken = taken_of cs (begun bytes).draft

  appended_all_lem : Grown bytes 0 [] taken (appended_all cs (begun bytes).draft)
  appended_all_lem =
      subst (λ (d : Draft). Grown bytes 0 [] (taken_of cs d) (appended_all cs d)) (ap (λ (w : Wrote). w.draft) (sym (begun_built bytes h)))
      (grown_all bytes 0 cs [] (none_inside bytes h))

  closed_all : written cs bytes ≡ built bytes (length taken) taken
  closed_all =
      ap (λ (d : Draft). (closed d).draft) appended_all_lem.drafted
      ∙ ap (λ (w : Wrote). w.draft) (closed_built bytes 0 taken appended_all_lem.inside)

pub read_back : ReadBack
read_back cs bytes h =
    let ts = taken cs bytes h in
    let n = length ts in
    let made = closed_all cs bytes h in
    let inside = (appended_all_lem cs bytes h).inside in
    let job : job_in (written cs bytes) ≡ job_of n ts = ap job_in made ∙ in_built bytes n ts in (
      ap job_calls job ∙ calls_read ts inside.few inside.held,
      (λ room roomy. ap (λ (s : List ℕ). file_refusal s room) job ∙ job_taken ts inside.few inside.held room roomy),
      ap (λ (d : Draft). d.writer.count) made,
      ap (λ (d : Draft). drop (7 + 16 * n) d.bytes) made ∙ drop_at (job_of n ts) (drop (7 + 16 * n) bytes) (7 + 16 * n) (job_length n ts),
    )

pub unclosed : Unclosed
unclosed cs more bytes room h =
    let ts = taken cs bytes h in
    let n = length ts in
    let a = appended_all_lem cs bytes h in
    let made = closed_all cs bytes h in
    let g = subst (λ (d : Draft). Grown bytes n ts (taken_of more d) (appended_all more d)) (sym made) (grown_all bytes n more ts a.inside) in
    let all = ts ++ taken_of more (written cs bytes) in (
      (λ some. ap (λ (d : Draft). file_refusal (job_in d) room) a.drafted ∙ ap (λ (s : List ℕ). file_refusal s room) (in_built bytes 0 ts)
          ∙ miscounted 0 ts (omega arith) (λ e. omega arith) room),
      (λ some. ap (λ (d : Draft). file_refusal (job_in d) room) g.drafted ∙ ap (λ (s : List ℕ). file_refusal s room) (in_built bytes n all)
          ∙ miscounted n all a.inside.few (λ e. omega (arith, length-append ts (taken_of more (written cs bytes)))) room),
    )

-- ---- with room for all

-- none is refused, from a draft of some calls on
takes_all : (bytes : List ℕ) (k : ℕ) (cs ts : List Call) → Inside bytes ts → Held cs → length ts + length cs ≤ most_calls
    → 7 + 16 * (length ts + length cs) ≤ length bytes → taken_of cs (built bytes k ts) ≡ cs
takes_all bytes k [] ts inside held few room = refl
takes_all bytes k (c ∷ cs) ts inside held few room =
    let count : leb most_calls (length ts) ≡ false = lt-leb most_calls (length ts) (omega arith) in
    let lies : ltb (length (built bytes k ts).bytes) (7 + 16 * suc (length ts)) ≡ false =
    le-ltb (length (built bytes k ts).bytes) (7 + 16 * suc (length ts)) (omega (arith, built_length bytes k ts inside)) in
    let roomy : full (built bytes k ts) ≡ false = rw (count, lies) refl in
    let more = ts ++ (c ∷ []) in
    let longer : length more ≡ suc (length ts) = length-append ts (c ∷ []) ∙ omega arith in
    let rest = takes_all bytes k cs more (inside_more bytes k ts inside c held.0 roomy) held.1 (rw longer (omega arith)) (rw longer (omega arith)) in
    ap (λ (w : Wrote). cond (eqb w.code 0) (c ∷ taken_of cs w.draft) (taken_of cs w.draft)) (taken_on bytes k ts inside c held.0 roomy)
    ∙ ap (λ (xs : List Call). c ∷ xs) rest

held_taken : (cs : List Call) (bytes : List ℕ) → Held cs → length cs ≤ most_calls → 7 + 16 * length cs ≤ length bytes
    → taken_of cs (begun bytes).draft ≡ cs
held_taken cs bytes held few room =
    let h : 7 ≤ length bytes = omega arith in
    ap (λ (w : Wrote). taken_of cs w.draft) (begun_built bytes h) ∙ takes_all bytes 0 cs [] (none_inside bytes h) held (omega arith) (omega arith)

held_all : (cs : List Call) → any_unheld cs ≡ false → Held cs
held_all [] e = tt
held_all (c ∷ cs) e = (held_exactly c ∙ or_left (unheld c) (any_unheld cs) e, held_all cs (or_right (unheld c) (any_unheld cs) e))

pub all_taken : AllTaken
all_taken cs bytes e few room = held_taken cs bytes (held_all cs e) few room

-- ---- a job written again

take_small : (n : ℕ) (l : List ℕ) → ((i : ℕ) → get_or l i 0 < 256) → (i : ℕ) → get_or (take n l) i 0 < 256
take_small zero l b i = lit< tt
take_small (suc n) [] b i = lit< tt
take_small (suc n) (x ∷ l) b zero = b 0
take_small (suc n) (x ∷ l) b (suc i) = take_small n l (λ j. b (suc j)) i

module _ (job : List ℕ) (small : (i : ℕ) → get_or job i 0 < 256) where
  -- from record i on: the records are those of the calls that they are read as
  record Records (i : ℕ) (cs : List Call) : Type 0 where
    held : Held cs
    bytes : drop (7 + 16 * i) job ≡ records_of cs

  records_again : (n i : ℕ) → length job ≡ 7 + 16 * (i + n) → is_malformed (read_calls job i n) ≡ false → Records i (calls_or (read_calls job i n))
  records_again zero i e sound = record { held = tt; bytes = drop_of_length-le job {i = 7 + 16 * i} (omega arith) }
  records_again (suc n) i e sound =
      let s = record_at job i in
      let f = first s (read_calls job (suc i) n) sound in
      let rest = records_again n (suc i) (omega arith) f.sound in
      let long : 16 ≤ length (drop (7 + 16 * i) job) = omega (arith, length-drop (7 + 16 * i) job) in
      let sixteen : length s ≡ 16 = length-take-le 16 (drop (7 + 16 * i) job) long in
      let low = take_small 16 (drop (7 + 16 * i) job) (λ j. rw (get_or-drop (7 + 16 * i) job j 0) (small (7 + 16 * i + j))) in
      let same : fields_of (call_in s) ≡ fields_in s = fields_kept (fields_in s) f.good in
      let again : s ≡ record_bytes (fields_of (call_in s)) = sym (ap record_bytes same ∙ record_written s sixteen low) in
      let after : 7 + 16 * i + 16 ≡ 7 + 16 * suc i = omega arith in
      let next = drop-drop 16 (7 + 16 * i) job ∙ ap (λ (k : ℕ). drop k job) after in
      let split : drop (7 + 16 * i) job ≡ record_bytes (fields_of (call_in s)) ++ records_of (calls_or (read_calls job (suc i) n)) =
      sym (take-append-drop 16 (drop (7 + 16 * i) job)) ∙ (λ j. again j ++ (next ∙ rest.bytes) j) in
      subst (Records i) (sym f.calls)
      (record { held = (ap malformed_record same ∙ f.good, rest.held); bytes = split })

  marked : bad_head job ≡ false → (get_or job 0 0 ≡ 0x46) × (get_or job 1 0 ≡ 0x4A) × (get_or job 2 0 ≡ 0x42) × (value_at job 3 2 ≡ 1)
  marked good = search (or_right, not-false, both_left, both_right, eqb-true)

  -- and so is the head, with the count that it is read as
  head_again : bad_head job ≡ false → 7 ≤ length job → job ≡ head_bytes (count_of job) ++ drop 7 job
  head_again good long =
      let m = marked good in
      let at : (i x : ℕ) → i < 7 → get_or job i 0 ≡ x → drop i job ≡ x ∷ drop (suc i) job =
      λ i x h e. drop-cons job i 0 (omega (arith, h, long)) ∙ ap (λ (y : ℕ). y ∷ drop (suc i) job) e in
      let b₀ = at 0 0x46 (lit< tt) m.0 in
      let b₁ = at 1 0x4A (lit< tt) m.1 in
      let b₂ = at 2 0x42 (lit< tt) m.2 in
      let version : take 2 (drop 3 job) ≡ bytes_of 2 1 =
      sym (bytes_back job 2 3 (omega (arith, long)) small) ∙ ap (bytes_of 2) m.3 in
      let count : take 2 (drop 5 job) ≡ bytes_of 2 (count_of job) = sym (bytes_back job 2 5 (omega (arith, long)) small) in
      let b₅ : drop 5 job ≡ bytes_of 2 (count_of job) ++ drop 7 job = sym (take-append-drop 2 (drop 5 job)) ∙ (λ j. count j ++ drop-drop 2 5 job j) in
      let b₃ : drop 3 job ≡ bytes_of 2 1 ++ drop 5 job = sym (take-append-drop 2 (drop 3 job)) ∙ (λ j. version j ++ drop-drop 2 3 job j) in
      b₀ ∙ ap (λ (xs : List ℕ). 0x46 ∷ xs) (b₁ ∙ ap (λ (xs : List ℕ). 0x4A ∷ xs) (b₂ ∙ ap (λ (xs : List ℕ). 0x42 ∷ xs)
      (b₃ ∙ ap (λ (xs : List ℕ). bytes_of 2 1 ++ xs) b₅)))

pub written_again : WrittenAgain
written_again job bytes room small e same =
    let t = none_applies job room e in
    let fits = size_fits job t.size in
    let ts = calls_or (job_calls job) in
    let counted : length ts ≡ count_of job = read_count job (count_of job) 0 t.sound in
    let r = records_again job small (count_of job) 0 (omega (arith, fits.1)) t.sound in
    let h : 7 ≤ length bytes = omega (arith, fits.1) in
    let all = held_taken ts bytes r.held (omega (arith, fits.0)) (omega (arith, fits.1)) in
    let none : drop (7 + 16 * length ts) bytes ≡ [] = drop_of_length-le bytes {i = 7 + 16 * length ts} (omega (arith, fits.1)) in
    ap (λ (d : Draft). d.bytes) (closed_all ts bytes h ∙ ap (λ (cs : List Call). built bytes (length cs) cs) all)
    ∙ ap (λ (xs : List ℕ). head_bytes (length ts) ++ (records_of ts ++ xs)) none ∙ ap (λ (xs : List ℕ). head_bytes (length ts) ++ xs) (append-nil (records_of ts))
    ∙ (λ i. head_bytes (counted i) ++ sym r.bytes i) ∙ sym (head_again job small t.head (omega (arith, fits.1)))
