-- The two halves of the definition, stored one after the other, are the whole.
use Rattle.std.proofs.Common.{eq-eqb}
use Rattle.jobfile.proofs.Stored.{answer_stored}
use Rattle.jobfile.proofs.answers.put_answer.Goals as goal

pub returns-then-s-eq16 : goal.returns-then-s-eq16
returns-then-s-eq16 c =
    let t = c.if-s-eq16.true in
    rw (eq-eqb _ 16 t, c.store-then-s-eq16.ensures, c.store.ensures, c.value_of-value.ensures, c.code_of-code.ensures)
    (answer_stored c.args.s.now c.args.answer t)
