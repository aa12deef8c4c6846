-- Laws that hold the claim of Secrecy.antt to what it says: one that compares less, leaves more out, or speaks of fewer parts breaks one of
-- them (proofs/Claim.antt). Below them stronger claims, which are false: what is left out has to be (proofs/Stronger.antt).
use Rattle.std.specs.Prelude.{◌≡◌, Bool, true, false, cond, not, List, [], ◌∷◌, ◌⊎◌, ◌↔◌, ℕ, suc, ◌+◌, ◌≤◌, ◌<◌, length, get_or, take, replicate}
use Rattle.part.specs.Calls.{step}
use Rattle.part.specs.Effects.{uses_sram}
use Rattle.part.specs.Options.{level_of}
use Rattle.part.specs.Reads.{window_of}
use Rattle.part.specs.State.{Part, part, fresh, code_of, value_of}
use Rattle.part.specs.declared.Access.{Access}
use Rattle.part.specs.declared.Call.{Call}
use Rattle.part.specs.declared.Call.TheVariants.{Debugger, Fetch, Read, Reset, Time, Write}
use Rattle.part.specs.declared.Lapse.TheVariants.{Wait}
use Rattle.cached.specs.Device.{Device, device, cached_step, Request, call, window, Said, answered, shown, said_to, device_after, part_after}
use Rattle.cached.specs.Lines.{no_lines}
use Rattle.secrecy.specs.Secrecy.{Event, event_of, connected, clean, opened, hidden, Seen, seen, views, FreshPair}

-- the history and the part after a list of requests
abbrev pub history_after : List ℕ → List Event → List Request → Part → List Event
history_after timings h [] p = h
history_after timings h (x ∷ xs) p = history_after timings (event_of timings x p ∷ h) xs (part_after timings x p)

abbrev pub parts_after : List ℕ → List Request → Part → Part
parts_after timings [] p = p
parts_after timings (x ∷ xs) p = parts_after timings xs (part_after timings x p)

abbrev pub devices_after : List ℕ → List Request → Device → Device
devices_after timings [] d = d
devices_after timings (x ∷ xs) d = devices_after timings xs (device_after timings x d)

-- ---- views

-- there are as many views as requests
abbrev pub ViewEach : Type 0
ViewEach = (timings : List ℕ) (h : List Event) (xs : List Request) (d : Device) → length (views timings h xs d) ≡ length xs

-- view i is what is seen of request i, on the part and with the history that the requests before it left
abbrev pub ViewOf : Type 0
ViewOf =
    (timings : List ℕ) (h : List Event) (xs : List Request) (d : Device) (i : ℕ) (x : Request) (s : Seen) → i < length xs
    → get_or (views timings h xs d) i s ≡ seen timings (history_after timings h (take i xs) d.part) (get_or xs i x) (devices_after timings (take i xs) d)

-- the record, OTP, option cells and the tags of both sides after a request are seen as they are, and main flash, SRAM and all of the lines are once
-- the history was opened
abbrev pub SeenOf : Type 0
SeenOf =
    (timings : List ℕ) (h : List Event) (x : Request) (d : Device)
    → (let v = seen timings h x d in
    let after = device_after timings x d in
    (v.rec ≡ after.part.rec) × (v.otp ≡ after.part.otp) × (v.options ≡ after.part.options)
    × (v.data_side.tags ≡ after.lines.data_side.tags) × (v.code_side.tags ≡ after.lines.code_side.tags)
    × (opened (event_of timings x d.part ∷ h) ≡ true
    → (v.main ≡ after.part.main) × (v.sram ≡ after.part.sram) × (v.data_side ≡ after.lines.data_side) × (v.code_side ≡ after.lines.code_side)))

-- ---- what is told

-- a call tells its code and value, and leaves its device; a window tells its bytes, and leaves all as it was
abbrev pub SaidTo : Type 0
SaidTo =
    (timings scrap : List ℕ) (c : Call) (who sector : ℕ) (d : Device)
    → (said_to timings (call scrap c) d ≡ answered (code_of (cached_step timings scrap c d).answer) (value_of (cached_step timings scrap c d).answer))
    × (said_to timings (window who sector) d ≡ shown (window_of timings d.part who sector))
    × (device_after timings (call scrap c) d ≡ (cached_step timings scrap c d).device)
    × (device_after timings (window who sector) d ≡ d)

-- the part of a device goes its way as the uncached one
abbrev pub PartFollows : Type 0
PartFollows = (timings : List ℕ) (xs : List Request) (d : Device) → (devices_after timings xs d).part ≡ parts_after timings xs d.part

-- what is not hidden is told whole
abbrev pub ToldWhole : Type 0
ToldWhole =
    (timings : List ℕ) (h : List Event) (x : Request) (d : Device) → hidden h x (length d.part.main) (said_to timings x d) ≡ false
    → (seen timings h x d).said ≡ said_to timings x d

-- of what is hidden, an answer's code is told, and a window's length
abbrev pub ToldBlank : Type 0
ToldBlank =
    (timings : List ℕ) (h : List Event) (x : Request) (d : Device) → hidden h x (length d.part.main) (said_to timings x d) ≡ true
    → ((code value : ℕ) → said_to timings x d ≡ answered code value → (seen timings h x d).said ≡ answered code 0)
    × ((bytes : List ℕ) → said_to timings x d ≡ shown bytes → (seen timings h x d).said ≡ shown (replicate (length bytes) 0))

-- a CPU read that is done, all of its bytes among the n from a base
pub record DoneRead (base n : ℕ) (timings : List ℕ) (x : Request) (p : Part) : Type 0 where
  pub scrap : List ℕ
  pub access : Access
  pub is : x ≡ call scrap (Read access)
  pub cpu : access.who ≡ 0
  pub low : base ≤ access.address
  pub high : access.address + access.width ≤ base + n
  pub done : code_of (step timings scrap (Read access) p).answer ≡ 0

-- a fetch that is done
pub record DoneFetch (timings : List ℕ) (x : Request) (p : Part) : Type 0 where
  pub scrap : List ℕ
  pub address : ℕ
  pub is : x ≡ call scrap (Fetch address)
  pub done : code_of (step timings scrap (Fetch address) p).answer ≡ 0

-- a read with all of its bytes in main flash, or all in the backup SRAM, or a fetch
abbrev pub SecretRead : List ℕ → Request → Part → Type 0
SecretRead timings x p = DoneRead 0x0800_0000 (length p.main) timings x p ⊎ DoneRead 0x4002_4000 4096 timings x p ⊎ DoneFetch timings x p

-- hidden is exactly such a read or fetch, or a window by the CPU, while clean
abbrev pub HiddenExactly : Type 0
HiddenExactly =
    (timings : List ℕ) (h : List Event) (x : Request) (d : Device)
    → (hidden h x (length d.part.main) (said_to timings x d) ≡ true)
    ↔ ((clean h ≡ true) × (SecretRead timings x d.part ⊎ ((sector : ℕ) × (x ≡ window 0 sector))))

-- ---- the history

-- opened is exactly a history with an event that went from level 1 to level 0
abbrev pub OpenedExactly : Type 0
OpenedExactly =
    (h : List Event) (d : Event)
    → (opened h ≡ true) ↔ (i : ℕ) × (i < length h) × ((get_or h i d).before ≡ 1) × ((get_or h i d).after ≡ 0)

-- and after a list of requests, exactly one where some request found the part at level 1 and left it at level 0
abbrev pub OpenedAfter : Type 0
OpenedAfter =
    (timings : List ℕ) (xs : List Request) (p : Part)
    → (opened (history_after timings [] xs p) ≡ true)
    ↔ (i : ℕ) × (i < length xs) × (level_of (parts_after timings (take i xs) p).options ≡ 1)
    × (level_of (parts_after timings (take (suc i) xs) p).options ≡ 0)

-- from a fresh record on, at any level, connected is the part's debugger bit, and clean, while there is power, that its mark does not stand
abbrev pub BitsFollow : Type 0
BitsFollow =
    (timings : List ℕ) (xs : List Request) (p : Part) → p.rec ≡ fresh
    → ((parts_after timings xs p).rec.debugger ≡ connected (history_after timings [] xs p))
    × ((parts_after timings xs p).rec.power ≡ true → (parts_after timings xs p).rec.mark ≡ not (clean (history_after timings [] xs p)))

-- a debugger that is connected when a reset comes is so until that call has ended, also where its cut brings level 2: it has left then, and what
-- follows is not clean
abbrev pub ConnectedAtReset : Type 0
ConnectedAtReset =
    (timings scrap : List ℕ) (h : List Event) (boot : ℕ) (p : Part) → connected h ≡ true → code_of (step timings scrap (Reset boot) p).answer ≡ 0
    → (let e = event_of timings (call scrap (Reset boot)) p in
    (clean (e ∷ h) ≡ false)
    × ((level_of p.options ≡ 2 → ⊥) → level_of (step timings scrap (Reset boot) p).part.options ≡ 2 → connected (e ∷ h) ≡ false))

-- ---- the parts that the claim is about

-- any two main flashes of one length and any two SRAMs of one length, at level 1 or 2, with the rest equal
abbrev pub AnyPair : Type 0
AnyPair =
    (main other otp options sram backup : List ℕ) → length other ≡ length main → length backup ≡ length sram
    → (level_of options ≡ 1) ⊎ (level_of options ≡ 2) → FreshPair (part fresh main otp options sram) (part fresh other otp options backup)

-- the claim with nothing of its own but what is seen: after any requests, of any other the same is seen on both
abbrev pub SeenAlike : Type 0
SeenAlike =
    (timings : List ℕ) (xs : List Request) (x : Request) (main other otp options sram backup : List ℕ) → length other ≡ length main
    → length backup ≡ length sram → (level_of options ≡ 1) ⊎ (level_of options ≡ 2)
    → (let p = part fresh main otp options sram in
    let q = part fresh other otp options backup in
    seen timings (history_after timings [] xs q) x (devices_after timings xs (device q no_lines))
    ≡ seen timings (history_after timings [] xs p) x (devices_after timings xs (device p no_lines)))

-- ---- stronger claims, all false

-- one thing that might be seen of a request, after any others, is the same on both parts of a pair
abbrev pub Alike : {A : Type 0} → (List ℕ → Request → Device → A) → Type 0
Alike see =
    (timings : List ℕ) (xs : List Request) (x : Request) (p q : Part) → FreshPair p q
    → see timings x (devices_after timings xs (device q no_lines)) ≡ see timings x (devices_after timings xs (device p no_lines))

abbrev pub value_said : Said → ℕ
value_said (answered code value) = value
value_said (shown bytes) = 0

-- a window asks for no call, and stands for a wait of 0
abbrev call_of : Request → Call
call_of (call scrap c) = c
call_of (window who sector) = Time (Wait (record { 0 = 0 }))

abbrev is_fetch : Call → Bool
is_fetch (Reset boot) = false
is_fetch (Debugger link) = false
is_fetch (Read a) = false
is_fetch (Write a v) = false
is_fetch (Time t) = false
is_fetch (Fetch address) = true

abbrev pub bytes_said : Said → List ℕ
bytes_said (answered code value) = []
bytes_said (shown bytes) = bytes

-- no value is blanked; none of the SRAM is; no window is; main flash is seen from the start; the SRAM is
abbrev pub ValuesWhole : Type 0
ValuesWhole = Alike (λ timings x d. value_said (said_to timings x d))

abbrev pub SramWhole : Type 0
SramWhole = Alike (λ timings x d. cond (uses_sram (call_of x)) (value_said (said_to timings x d)) 0)

abbrev pub WindowsWhole : Type 0
WindowsWhole = Alike (λ timings x d. bytes_said (said_to timings x d))

abbrev pub MainSeen : Type 0
MainSeen = Alike (λ timings x d. (device_after timings x d).part.main)

abbrev pub SramSeen : Type 0
SramSeen = Alike (λ timings x d. (device_after timings x d).part.sram)

-- fetches are told whole; the bytes of the lines are seen from the start
abbrev pub FetchesWhole : Type 0
FetchesWhole = Alike (λ timings x d. cond (is_fetch (call_of x)) (value_said (said_to timings x d)) 0)

abbrev pub DataSeen : Type 0
DataSeen = Alike (λ timings x d. (device_after timings x d).lines.data_side.bytes)

abbrev pub CodeSeen : Type 0
CodeSeen = Alike (λ timings x d. (device_after timings x d).lines.code_side.bytes)

-- the claim at level 0 too
abbrev pub AnyLevel : Type 0
AnyLevel =
    (timings : List ℕ) (xs : List Request) (main other otp options sram : List ℕ) → length other ≡ length main
    → views timings [] xs (device (part fresh other otp options sram) no_lines) ≡ views timings [] xs (device (part fresh main otp options sram) no_lines)
