-- The data lines are the front of both slices, and their tags stay.
use Rattle.std.proofs.Common.{false, refl, rules, ap, take, ◌≡◌, ◌∙◌, arith}
use Rattle.cached.specs.Lines.{lines, lines_of}
use Rattle.caches.specs.Sides.{Side}
use Rattle.lined.proofs.Parts.{front}
use Rattle.lined.proofs.on_program.Goals as goal

pub returns-then-not-w-clause-lined : goal.returns-then-not-w-clause-lined
returns-then-not-w-clause-lined c =
    let l = c.args.lines.now in
    let x = c.refresh in
    let main : c.args.w.otp ≡ false = search rules in
    rw (c.if-cached.true, main)
    (front l.tags.now l.bytes.now (omega arith, omega arith) (take 8 l.tags.now) x.new.bytes refl x.auto.bytes
    ∙ ap (λ (s : Side). lines s (lines_of l.tags.now l.bytes.now).code_side) x.ensures)
