-- The part that `rehearse` starts from: n = 4, main flash and OTP FF, options FF but RDP AA, the backup SRAM 0, 1,000 microseconds for everything;
-- and its scrap, 65,536 bytes FF.
use Rattle.std.specs.Prelude.{List, [], ◌∷◌, ℕ, zero, suc, replicate, set}
use Rattle.part.specs.State.{part, fresh}
use Rattle.job.specs.Job.{JobOutcome, run_job}

-- n timings of 1,000, as bytes
abbrev pub thousands : ℕ → List ℕ
thousands zero = []
thousands (suc n) = 0xE8 ∷ 0x03 ∷ 0x00 ∷ 0x00 ∷ thousands n

-- a job on that part, with room for its answers
unfoldable pub rehearsed : List ℕ → List ℕ → JobOutcome
rehearsed job room =
    run_job (part fresh (replicate 65_536 0xFF) (replicate 528 0xFF) (set (replicate 16 0xFF) 1 0xAA) (replicate 4096 0)) (thousands 24)
    (replicate 65_536 0xFF) job room
