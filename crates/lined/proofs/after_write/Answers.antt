-- The definition's two tests; the lanes written are those of the low word.
use Rattle.std.proofs.Common.{◌≡◌}
use Rattle.cached.specs.Lines.{takes}
use Rattle.part.proofs.Stepped.{or_left, or_right}
use Rattle.registers.specs.Fields.{DCEN, DCRST}
use Rattle.lined.proofs.Words.{low_placed}
use Rattle.lined.proofs.after_write.Goals as goal

pub returns-then-not-reset_reads-reset_fetches-clause-lined : goal.returns-then-not-reset_reads-reset_fetches-clause-lined
returns-then-not-reset_reads-reset_fetches-clause-lined c =
    let a = c.args in
    let reads = c.is_set-reset_reads in
    let fetches = c.is_set-reset_fetches in
    let neither = c.if-not-reset_reads-reset_fetches.true in
    rw (
      ← c.is_done.ensures,
      c.if-not-is_done.false,
      ← c.within.ensures,
      c.if-not-within.false,
      ← c.offset-offset.ensures,
      ← low_placed a.value a.a.width c.offset-offset.result,
      ← c.placed-written.ensures,
      ← reads.ensures,
      ← fetches.ensures,
      or_left reads.result fetches.result neither,
      or_right reads.result fetches.result neither,
    )

pub returns-clause-lined : goal.returns-clause-lined
returns-clause-lined c =
    let a = c.args in
    let taken : c.takes-reads.result ≡ takes a.acr c.placed-written.result DCEN DCRST = c.takes-reads.ensures in
    rw (
      ← c.is_done.ensures,
      c.if-not-is_done.false,
      ← c.within.ensures,
      c.if-not-within.false,
      ← c.offset-offset.ensures,
      ← low_placed a.value a.a.width c.offset-offset.result,
      ← c.placed-written.ensures,
      ← taken,
      ← c.takes-fetches.ensures,
    ) c.empty_each.ensures.lined
