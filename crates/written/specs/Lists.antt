-- Whole lists of calls: what is appended one after the other, what of it is taken, and the job that it makes.
use Rattle.std.specs.Prelude.{cond, List, [], ◌∷◌, ℕ, ◌+◌, ◌*◌, eqb, take}
use Rattle.part.specs.declared.Call.{Call}
use Rattle.writer.specs.Writer.{Draft, begun, appended, closed}

-- all of them, one after the other, refused ones too
abbrev pub appended_all : List Call → Draft → Draft
appended_all [] d = d
appended_all (c ∷ cs) d = appended_all cs (appended c d).draft

-- those of them that are done
abbrev pub taken_of : List Call → Draft → List Call
taken_of [] d = []
taken_of (c ∷ cs) d =
    let rest = taken_of cs (appended c d).draft in
    cond (eqb (appended c d).code 0) (c ∷ rest) rest

-- begun, appended and closed
abbrev pub written : List Call → List ℕ → Draft
written cs bytes = (closed (appended_all cs (begun bytes).draft)).draft

-- the job in a draft: its head, and as many records as the writer has counted
abbrev pub job_in : Draft → List ℕ
job_in d = take (7 + 16 * d.writer.count) d.bytes
