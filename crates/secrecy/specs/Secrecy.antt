-- Demand 3: what a host is told in a list of requests, with what may differ left out. Two parts that differ in main flash and in the backup
-- SRAM alone tell every host the same (proofs/Lists.antt).
use Rattle.std.specs.Prelude.{Bool, true, false, cond, not, ◌&&◌, ◌||◌, List, [], ◌∷◌, ◌⊎◌, ◌≡◌, ℕ, eqb, length, replicate}
use Rattle.map.specs.Areas.{area_of}
use Rattle.map.specs.declared.Area.{Area}
use Rattle.map.specs.declared.Area.TheVariants.{Flash, Registers, Sram, Outside}
use Rattle.map.specs.declared.Place.{Place}
use Rattle.map.specs.declared.Place.TheVariants.{Main, System, Otp, SystemAndOtp, OptionCells}
use Rattle.part.specs.Options.{level_of}
use Rattle.part.specs.State.{Part, fresh}
use Rattle.part.specs.declared.Call.TheVariants.{Reset, Debugger, Read, Write, Time, Fetch}
use Rattle.part.specs.declared.Link.TheVariants.{On, Off}
use Rattle.part.specs.declared.Record.{Record}
use Rattle.cached.specs.Device.{Device, device, Request, call, window, Said, answered, shown, said_to, device_after, said_uncached, part_after}
use Rattle.cached.specs.Lines.{no_lines}
use Rattle.caches.specs.Sides.{Side, side}

-- ---- the history of requests, the latest first: each with whether it was done, and the level before and after it; lines change neither, so it
-- is that of the uncached part

pub record Event : Type 0 where
  pub request : Request
  pub done : Bool
  pub before : ℕ
  pub after : ℕ

abbrev pub is_done_said : Said → Bool
is_done_said (answered code value) = eqb code 0
is_done_said (shown bytes) = true

abbrev pub event_of : List ℕ → Request → Part → Event
event_of timings x p =
    record { request = x; done = is_done_said (said_uncached timings x p); before = level_of p.options; after = level_of (part_after timings x p).options }

-- document 01's "connected": since an on that was done there was no off that was done, and no call that ended with a new level 2
abbrev pub connected_by : Request → Bool → Bool → Bool
connected_by (call scrap (Reset boot)) done con = con
connected_by (call scrap (Debugger On)) done con = cond done true con
connected_by (call scrap (Debugger Off)) done con = cond done false con
connected_by (call scrap (Read a)) done con = con
connected_by (call scrap (Write a v)) done con = con
connected_by (call scrap (Time t)) done con = con
connected_by (call scrap (Fetch address)) done con = con
connected_by (window who sector) done con = con

abbrev pub brings_level2 : Event → Bool
brings_level2 e = not (eqb e.before 2) && eqb e.after 2

abbrev pub connected : List Event → Bool
connected [] = false
connected (e ∷ h) = not (brings_level2 e) && connected_by e.request e.done (connected h)

-- document 01's "clean": the latest reset that was done booted from flash with no debugger connected, and no on was done after it
abbrev pub clean_by : Request → Bool → Bool → Bool → Bool
clean_by (call scrap (Reset boot)) done con before = cond done (eqb boot 0 && not con) before
clean_by (call scrap (Debugger On)) done con before = cond done false before
clean_by (call scrap (Debugger Off)) done con before = before
clean_by (call scrap (Read a)) done con before = before
clean_by (call scrap (Write a v)) done con before = before
clean_by (call scrap (Time t)) done con before = before
clean_by (call scrap (Fetch address)) done con before = before
clean_by (window who sector) done con before = before

abbrev pub clean : List Event → Bool
clean [] = false
clean (e ∷ h) = clean_by e.request e.done (connected h) (clean h)

-- some call changed level 1 to level 0
abbrev pub opened : List Event → Bool
opened [] = false
opened (e ∷ h) = (eqb e.before 1 && eqb e.after 0) || opened h

-- ---- what is left out: the value of a clean CPU read of main flash or of the backup SRAM, or of a clean fetch, that is done, or the bytes of a
-- clean window by the CPU, not their number

abbrev pub main_place : Place → Bool
main_place (Main o) = true
main_place (System o) = false
main_place (Otp o) = false
main_place (SystemAndOtp o) = false
main_place (OptionCells o) = false

-- the areas in which the two parts may differ
abbrev pub is_secret : Area → Bool
is_secret (Flash place) = main_place place
is_secret (Registers o) = false
is_secret (Sram o) = true
is_secret Outside = false

abbrev pub reads_secret : Request → ℕ → Bool
reads_secret (call scrap (Reset boot)) len = false
reads_secret (call scrap (Debugger link)) len = false
reads_secret (call scrap (Read a)) len = eqb a.who 0 && is_secret (area_of len a.address a.width)
reads_secret (call scrap (Write a v)) len = false
reads_secret (call scrap (Time t)) len = false
reads_secret (call scrap (Fetch address)) len = true
reads_secret (window who sector) len = eqb who 0

abbrev pub hidden : List Event → Request → ℕ → Said → Bool
hidden h x len s = clean h && (reads_secret x len && is_done_said s)

abbrev pub blanked : Said → Said
blanked (answered code value) = answered code 0
blanked (shown bytes) = shown (replicate (length bytes) 0)

-- ---- what a host may see of a list of requests: of each what it is told, and the part after it, main flash and SRAM once level 1 became 0; of
-- the lines which are held, in what order, and their bytes from then on

-- the tags of a side, and no byte
abbrev pub tagged : Side → Side
tagged s = side s.tags []

pub record Seen : Type 0 where
  pub said : Said
  pub rec : Record
  pub otp : List ℕ
  pub options : List ℕ
  pub main : List ℕ
  pub sram : List ℕ
  pub data_side : Side
  pub code_side : Side

abbrev pub seen : List ℕ → List Event → Request → Device → Seen
seen timings h x d =
    let s = said_to timings x d in
    let after = device_after timings x d in
    let open0 = opened (event_of timings x d.part ∷ h) in
    record {
      said = cond (hidden h x (length d.part.main) s) (blanked s) s;
      rec = after.part.rec;
      otp = after.part.otp;
      options = after.part.options;
      main = cond open0 after.part.main [];
      sram = cond open0 after.part.sram [];
      data_side = cond open0 after.lines.data_side (tagged after.lines.data_side);
      code_side = cond open0 after.lines.code_side (tagged after.lines.code_side);
    }

abbrev pub views : List ℕ → List Event → List Request → Device → List Seen
views timings h [] d = []
views timings h (x ∷ xs) d = seen timings h x d ∷ views timings (event_of timings x d.part ∷ h) xs (device_after timings x d)

-- ---- the claim

-- two parts with fresh records, at level 1 or 2, with equal option cells, OTP and lengths of main flash and SRAM
pub record FreshPair (p q : Part) : Type 0 where
  pub fresh_p : p.rec ≡ fresh
  pub fresh_q : q.rec ≡ fresh
  pub otp : q.otp ≡ p.otp
  pub options : q.options ≡ p.options
  pub len : length q.main ≡ length p.main
  pub sram : length q.sram ≡ length p.sram
  pub level : (level_of p.options ≡ 1) ⊎ (level_of p.options ≡ 2)

-- whatever the timings and the list of requests, a host sees the same of both; a fresh record has no lines
abbrev pub Secrecy : Type 0
Secrecy =
    (timings : List ℕ) (requests : List Request) (p q : Part) → FreshPair p q
    → views timings [] requests (device q no_lines) ≡ views timings [] requests (device p no_lines)
