-- The cells before i are rewritten, and the others as they were.
use Rattle.std.proofs.Common.{List, ℕ, length, get_or, ◌≡◌, ◌<◌}
use Rattle.options.proofs.Cells.{rewritten}
use Rattle.options.proofs.rewrite.Given as goal

abbrev pub invariant-loop-i : goal.invariant-loop-i
invariant-loop-i g l =
    (t : List ℕ) → length t ≡ length l.fn.options
    → ((i r : ℕ) → i < length l.fn.options → goal.F-post g l.new i (get_or l.fn.options i 0) r → r ≡ get_or t i 0)
    → l.options ≡ rewritten t l.fn.options l.i
