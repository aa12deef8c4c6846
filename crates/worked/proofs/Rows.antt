-- The rows hold because they are closed: both sides evaluate to the same numbers.
use mathlib.Core.Bool.{true}
use mathlib.Core.Path.{◌≡◌, refl}
use Rattle.worked.specs.Backup.{backup}
use Rattle.worked.specs.Bench.{passes}
use Rattle.worked.specs.Cuts.{cuts}
use Rattle.worked.specs.Rows.{windows, lengths, rules}

pub window_rows : passes windows ≡ true
window_rows = refl

pub length_rows : passes lengths ≡ true
length_rows = refl

pub rule_rows : passes rules ≡ true
rule_rows = refl

pub backup_rows : passes backup ≡ true
backup_rows = refl

pub cut_rows : passes cuts ≡ true
cut_rows = refl
