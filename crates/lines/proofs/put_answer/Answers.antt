-- Code and value are the record's, and the line goes where 20 bytes are left for it.
use Rattle.std.proofs.Common.{get_or, ◌+◌, ◌*◌}
use Rattle.cells.specs.Bytes.{value_at}
use Rattle.jobfile.proofs.Chunks.{place_put}
use Rattle.lines.specs.Lines.{line_of}
use Rattle.lines.proofs.put_answer.Goals as goal

pub returns : goal.returns
returns c =
    let a = c.args in
    let line = line_of (get_or a.answers.now (16 * a.i) 0) (value_at a.answers.now (16 * a.i + 8) 8) in
    place_put 20 a.s.now a.i c.requires.1 (line_of c.byte-code.result c.value_at-value.result) line c.put_line.new.s
    (λ j. line_of (c.byte-code.ensures j) (c.value_at-value.ensures j)) c.put_line.ensures
