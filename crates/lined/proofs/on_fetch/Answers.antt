-- The instruction lines are the back of both slices.
use Rattle.std.proofs.Common.{refl, ap, ◌∙◌, arith, ◌&&◌, ◌-◌, length}
use Rattle.cached.specs.Lines.{is_done, lines_of, with_code}
use Rattle.map.specs.Areas.{inside, main_base}
use Rattle.part.specs.declared.Answer.TheVariants.{Done}
use Rattle.registers.specs.Fields.{ICEN}
use Rattle.registers.specs.Words.{is_set}
use Rattle.lined.proofs.Parts.{back_looked, hits, one_test, seen}
use Rattle.lined.proofs.on_fetch.Goals as goal

pub returns-clause-lined : goal.returns-clause-lined
returns-clause-lined c =
    let a = c.args in
    let x = c.value_of-value in
    let l = lines_of a.lines.now.tags.now a.lines.now.bytes.now in
    let here = is_done a.answer && inside a.address 4 main_base (length a.main.now) in
    let looks = hits a.main.now (a.address - main_base) 4 in
    back_looked a.lines.now.tags.now a.lines.now.bytes.now (omega arith, omega arith) looks (Done x.result) x.new.tags x.new.bytes (ap seen x.ensures)
    ∙ rw c.if-not-from_lines.false at
    (one_test (with_code l) l.code_side a.answer l refl a.cached (is_set a.acr ICEN) here c.from_lines.result (looks l.code_side)
    (rw c.is_set-on.ensures at c.from_lines.ensures))
