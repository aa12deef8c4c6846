-- The job writer: a lent buffer is begun with a head of count 0, takes one call after the other, and is closed by writing the count.
use Rattle.std.specs.Prelude.{Bool, cond, ◌||◌, List, ℕ, suc, ◌+◌, ◌*◌, eqb, leb, ltb, length}
use Rattle.std.specs.Prelude.{Result, Ok, Err}
use Rattle.std.proofs.lemmas.List.Edits.{sets}
use Rattle.cells.specs.Bytes.{bytes_of}
use Rattle.job.specs.Job.{head_bytes, most_calls}
use Rattle.job.specs.Record.{fields_of, malformed_record, record_bytes}
use Rattle.job.specs.declared.Fields.{Fields}
use Rattle.part.specs.declared.Call.{Call}
use Rattle.writer.specs.declared.Writer.{Writer}
use Rattle.writer.specs.declared.Refused.{Refused}
use Rattle.writer.specs.declared.WriteRefusal.{WriteRefusal}
use Rattle.writer.specs.declared.WriteRefusal.TheVariants.{Malformed, NoRoom}

abbrev pub writer : ℕ → Writer
writer count = record { count = count }

-- a job that is being written: the writer, and every byte of its buffer
pub record Draft : Type 0 where
  pub writer : Writer
  pub bytes : List ℕ

abbrev pub draft : Writer → List ℕ → Draft
draft w bytes = record { writer = w; bytes = bytes }

-- 0 for done, 5 or 20, and the draft afterwards
pub record Wrote : Type 0 where
  pub code : ℕ
  pub draft : Draft

abbrev pub wrote : ℕ → Writer → List ℕ → Wrote
wrote code w bytes = record { code = code; draft = draft w bytes }

abbrev pub number_of : WriteRefusal → ℕ
number_of Malformed = 5
number_of NoRoom = 20

-- 0, or the number of the refusal
abbrev pub code_of : Result Writer Refused → ℕ
code_of (Ok w) = 0
code_of (Err refused) = number_of refused.why

abbrev pub writer_after : Result Writer Refused → Writer
writer_after (Ok w) = w
writer_after (Err refused) = refused.writer

-- what a function of the writer replies, with the bytes that it leaves
abbrev pub replied : Result Writer Refused → List ℕ → Wrote
replied r bytes = wrote (code_of r) (writer_after r) bytes

-- the writer of a host that counts for itself: one more for each append that is done
abbrev pub counting : ℕ → ℕ → Writer
counting code count = writer (cond (eqb code 0) (suc count) count)

-- a refusal leaves the draft as it was
abbrev pub refused : ℕ → Draft → Wrote
refused code d = record { code = code; draft = d }

-- the first 7 bytes become a head; before it there is no writer, so that this one has no calls even where there is no room
abbrev pub begun : List ℕ → Wrote
begun bytes = cond (ltb (length bytes) 7) (wrote 20 (writer 0) bytes) (wrote 0 (writer 0) (sets bytes 0 (head_bytes 0)))

-- no room for one record more, in the buffer or in a job
abbrev pub full : Draft → Bool
full d = leb most_calls d.writer.count || ltb (length d.bytes) (7 + 16 * suc d.writer.count)

-- the 16 bytes behind the records that are there become the record of these fields; the head stays
abbrev pub appended_fields : Fields → Draft → Wrote
appended_fields f d =
    let count = d.writer.count in
    cond (malformed_record f) (refused 5 d)
    (cond (full d) (refused 20 d)
    (wrote 0 (writer (suc count)) (sets d.bytes (7 + 16 * count) (record_bytes f))))

abbrev pub appended : Call → Draft → Wrote
appended c d = appended_fields (fields_of c) d

-- the two bytes of the head that hold the count become the writer's
abbrev pub closed : Draft → Wrote
closed d =
    cond (ltb (length d.bytes) 7 || ltb most_calls d.writer.count) (refused 20 d)
    (wrote 0 d.writer (sets d.bytes 5 (bytes_of 2 d.writer.count)))
