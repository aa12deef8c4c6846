-- The writer's answer, with the host's own count.
use Rattle.job.specs.Record.{fields}
use Rattle.writer.specs.Writer.{draft, writer}
use Rattle.job_writer.proofs.Counts.{host_appended}
use Rattle.job_writer.proofs.flash_job_append.Goals as goal

pub returns : goal.returns
returns c =
    let a = c.args in
    rw c.code_of.ensures
    (host_appended c.append_fields.result c.append_fields.new.buffer
    (fields a.kind a.who a.width 0 a.number a.value) (draft (writer a.count) a.buffer.now) c.append_fields.ensures)
