-- The data lines are the front of both slices.
use Rattle.std.proofs.Common.{refl, ap, ◌∙◌, arith, ◌&&◌, ◌-◌, length}
use Rattle.cached.specs.Lines.{is_done, lines_of, with_data}
use Rattle.map.specs.Areas.{inside, main_base}
use Rattle.part.specs.declared.Answer.TheVariants.{Done}
use Rattle.registers.specs.Fields.{DCEN}
use Rattle.registers.specs.Words.{is_set}
use Rattle.lined.proofs.Parts.{front_looked, hits, one_test, seen}
use Rattle.lined.proofs.on_read.Goals as goal

pub returns-clause-lined : goal.returns-clause-lined
returns-clause-lined c =
    let a = c.args in
    let x = c.value_of-value in
    let l = lines_of a.lines.now.tags.now a.lines.now.bytes.now in
    let here = is_done a.answer && inside a.a.address a.a.width main_base (length a.main.now) in
    let looks = hits a.main.now (a.a.address - main_base) a.a.width in
    front_looked a.lines.now.tags.now a.lines.now.bytes.now (omega arith, omega arith) looks (Done x.result) x.new.tags x.new.bytes x.auto.tags x.auto.bytes (ap seen x.ensures)
    ∙ rw c.if-not-from_lines.false at
    (one_test (with_data l) l.data_side a.answer l refl a.cached (is_set a.acr DCEN) here c.from_lines.result (looks l.data_side)
    (rw c.is_set-on.ensures at c.from_lines.ensures))
