-- A record that is taken is stored in a part of the buffer that is lent for it.
use Rattle.std.proofs.Common.{◌<◌, arith}
use Rattle.job.specs.Job.{most_calls}
use Rattle.job_writer.proofs.Places.{record_stored}
use Rattle.job_writer.proofs.drafts.append_fields.Goals as goal

pub returns : goal.returns
returns c =
    let a = c.args in
    let few : a.w.count < most_calls = omega arith in
    record_stored a.f a.w a.buffer.now c.malformed_fields.ensures c.if-malformed_fields.false few
    c.put_record.new.s c.if-buffer-to.false c.put_record.ensures
