-- What note 4 of document 02 promises of one part at any level: a call that takes RDP from another value to AA, which opens what read protection
-- guards, leaves main flash all FF (proofs/Erased.antt).
use Rattle.std.specs.Prelude.{List, [], ◌∷◌, ◌++◌, map, ◌↔◌, ◌≡◌, ℕ, ◌<◌, length, get_or, replicate}
use Rattle.worked.specs.Bench.{bench, pass, regressing, reset, timings}
use Rattle.part.specs.State.{Part, fresh}
use Rattle.secrecy.specs.Claim.{parts_after}
use Rattle.cached.specs.Device.{Request, call, part_after}

abbrev pub rdp_in : Part → ℕ
rdp_in p = get_or p.options 1 0

-- every byte of main flash is FF
abbrev pub MainErased : Part → Type 0
MainErased p = (j : ℕ) → j < length p.main → get_or p.main j 0 ≡ 0xFF

-- after any list of requests on a part with a fresh record, each reset among them with scrap of its own, so for every request of every list
abbrev pub ErasedFirst : Type 0
ErasedFirst =
    (timings : List ℕ) (xs : List Request) (x : Request) (p : Part) → p.rec ≡ fresh
    → (let q = parts_after timings xs p in
    (rdp_in q ≡ 0xAA → ⊥) → rdp_in (part_after timings x q) ≡ 0xAA → MainErased (part_after timings x q))

-- ---- the terms, worked

-- main flash is erased exactly where it is FF throughout
abbrev pub ErasedExactly : Type 0
ErasedExactly = (p : Part) → MainErased p ↔ (p.main ≡ replicate (length p.main) 0xFF)

-- what a request that takes RDP 00 to AA leaves, on a level 1 part whose first byte of main flash is F0: a pass that ends a regression, and a reset
-- with scrap of 02 that cuts it when 1,000 of its 2,000 microseconds are left
abbrev before : ℕ → Part
before t = parts_after timings (map (call []) (regressing ++ pass t ∷ [])) (bench 0xF0 0x00)

abbrev pub TakesTo0 : ℕ → Request → Type 0
TakesTo0 t x =
    (rdp_in (before t) ≡ 0x00) × (get_or (before t).main 0 0 ≡ 0xF0) × (rdp_in (part_after timings x (before t)) ≡ 0xAA)
    × MainErased (part_after timings x (before t))

abbrev pub ByEnd : Type 0
ByEnd = TakesTo0 1999 (call [] (pass 1))

abbrev pub ByCut : Type 0
ByCut = TakesTo0 1000 (call (replicate 16 2) (reset 0))
