-- Two key words in their order open a lock. A wrong word, or any word once it is open, closes it until reset.
use Rattle.std.specs.Prelude.{Bool, true, false, cond, Result, Ok, Err, ℕ, eqb}
use Rattle.lock.specs.declared.Keys.{Keys}
use Rattle.lock.specs.declared.Lock.{Lock}
use Rattle.lock.specs.declared.LockState.{LockState}
use Rattle.lock.specs.declared.LockState.TheVariants.{Open, Closed, HalfOpen, Dead}
use Rattle.lock.specs.declared.WrongWord.{WrongWord}

abbrev pub lock_at : LockState → Lock
lock_at s = record { state = s }

-- the words of KEYR and of OPTKEYR
abbrev pub keyr_keys : Keys
keyr_keys = record { first = 0x4567_0123; second = 0xCDEF_89AB }

abbrev pub optkeyr_keys : Keys
optkeyr_keys = record { first = 0x0819_2A3B; second = 0x4C5D_6E7F }

-- a wrong word leaves a lock that no key opens before a reset
abbrev pub killed : Result Lock WrongWord
killed = Err (record { lock = lock_at Dead })

abbrev pub keyed_from : LockState → ℕ → Keys → Result Lock WrongWord
keyed_from Open word k = killed
keyed_from Closed word k = cond (eqb word k.first) (Ok (lock_at HalfOpen)) killed
keyed_from HalfOpen word k = cond (eqb word k.second) (Ok (lock_at Open)) killed
keyed_from Dead word k = killed

-- a key word goes in, the lock and its verdict come back
abbrev pub keyed : Lock → ℕ → Keys → Result Lock WrongWord
keyed l word k = keyed_from l.state word k

-- the lock, whatever the verdict
abbrev pub after_key : Result Lock WrongWord → Lock
after_key (Ok l) = l
after_key (Err w) = w.lock

abbrev pub state_open : LockState → Bool
state_open Open = true
state_open Closed = false
state_open HalfOpen = false
state_open Dead = false

abbrev pub is_open : Lock → Bool
is_open l = state_open l.state
