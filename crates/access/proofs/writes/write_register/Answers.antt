-- What passes the test is an access to a register of four bytes at most, whose value has 32 bits, which the cast does not cut.
use Rattle.std.proofs.Common.{◌<◌, ◌^◌, sym, ◌∙◌}
use native.Mathlib.Nat.{mod-eq_of_lt}
use Rattle.access.proofs.Accepted.{register_value}
use Rattle.access.proofs.writes.write_register.Goals as goal

pub returns : goal.returns
returns c =
    let a = c.args in
    let aligned = sym c.misaligned.ensures ∙ c.if-misaligned.false in
    let low : a.store.value < 2 ^ 32 = register_value a.offset a.store.access.width a.store.value c.args.store.taken c.args.store.fits aligned in
    rw (c.register_write.ensures, aligned, mod-eq_of_lt low)
