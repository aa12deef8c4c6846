-- The writer after an append is the one that a host counts for itself.
use mathlib.Core.List.{List}
use mathlib.Core.Path.{◌≡◌, refl, sym, ap, ◌∙◌}
use Prim.Native.Nat.{ℕ}
use Rattle.cascade.proofs.Picks.{keep}
use Rattle.job.specs.Record.{malformed_record}
use Rattle.job.specs.declared.Fields.{Fields}
use Rattle.std.specs.Prelude.{Result}
use Rattle.writer.specs.Writer.{Draft, Wrote, wrote, code_of, replied, writer_after, counting, full, appended_fields}
use Rattle.writer.specs.declared.Writer.{Writer}
use Rattle.writer.specs.declared.Refused.{Refused}

append_counts : (f : Fields) (d : Draft) → (appended_fields f d).draft.writer ≡ counting (appended_fields f d).code d.writer.count
append_counts f d =
    let P : Wrote → Type 0 = λ w. w.draft.writer ≡ counting w.code d.writer.count in
    keep P (malformed_record f) _ _ refl (keep P (full d) _ _ refl refl)

-- what is replied, with the host's own writer
pub host_appended : (r : Result Writer Refused) (bytes : List ℕ) (f : Fields) (d : Draft) → replied r bytes ≡ appended_fields f d
    → wrote (code_of r) (counting (code_of r) d.writer.count) bytes ≡ appended_fields f d
host_appended r bytes f d e =
    let counted : writer_after r ≡ counting (code_of r) d.writer.count =
    ap (λ (w : Wrote). w.draft.writer) e ∙ append_counts f d ∙ ap (λ (w : Wrote). counting w.code d.writer.count) (sym e) in
    ap (λ (w : Writer). wrote (code_of r) w bytes) (sym counted) ∙ e
