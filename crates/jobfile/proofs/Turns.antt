-- The check of the records, one by one: what is left to check decides as the whole does.
use mathlib.Core.Bool.{Bool, not, ◌||◌, not-not}
use mathlib.Core.List.{List}
use mathlib.Core.Path.{◌≡◌, sym, ap, ◌∙◌}
use Prim.Native.Nat.{ℕ, suc, ◌-◌, ◌<◌}
use native.Mathlib.Omega.{arith}
use Rattle.std.specs.Prelude.{Option, is_some, is_none}
use Rattle.job.proofs.Laws.{then_wrong}
use Rattle.job.specs.Job.{is_malformed, read_calls, record_at}
use Rattle.job.specs.Record.{record_call}
use Rattle.part.specs.declared.Call.{Call}

-- the record that the code hands on is the definition's, so its verdict v is too
pub turn : (job : List ℕ) (n i : ℕ) {c : Option Call} {b v : Bool} → i < n → c ≡ record_call (record_at job i)
    → is_some c ≡ not b → b ≡ v → is_malformed (read_calls job i (n - i)) ≡ (v || is_malformed (read_calls job (suc i) (n - suc i)))
turn job n i {v = v} l p q r =
    let left : n - i ≡ suc (n - suc i) = omega arith in
    let told : is_none (record_call (record_at job i)) ≡ v =
    ap is_none (sym p) ∙ ap not q ∙ not-not _ ∙ r in
    let rest = read_calls job (suc i) (n - suc i) in
    rw left (then_wrong (record_call (record_at job i)) rest ∙ ap (λ (x : Bool). x || is_malformed rest) told)
