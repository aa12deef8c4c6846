-- Units: a duration is in microseconds, a waiting limit in milliseconds; one becomes the other only by a product with 1,000.
use Rattle.std.specs.Prelude.{ℕ, ◌*◌}
use Rattle.time.specs.declared.Micros.{Micros}
use Rattle.time.specs.declared.Millis.{Millis}

abbrev pub micros : ℕ → Micros
micros n = record { 0 = n }

abbrev pub millis : ℕ → Millis
millis n = record { 0 = n }

abbrev pub to_micros : Millis → Micros
to_micros t = micros (t.0 * 1000)

-- the most that a pass and a wait take: 120 s, in their units
abbrev pub longest_pass : ℕ
longest_pass = 120_000_000

abbrev pub longest_wait : ℕ
longest_wait = 120_000
