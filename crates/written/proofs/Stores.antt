-- A run of stores: what it leaves beside itself, and that two runs at different places may change places.
use mathlib.Core.List.{List, [], ◌∷◌, ◌++◌, append_assoc}
use mathlib.Core.Path.{◌≡◌, refl, ap, ◌∙◌}
use Prim.Native.Nat.{ℕ, suc, ◌+◌, ◌<◌, ◌≤◌}
use native.Mathlib.Omega.{arith}
use lib.ListN.{length, get_or, set, take, drop}
use lib.Seq.{sets, sets-eq, set_comm, get_or-set_other, take_at, drop_at, length-take-le}

pub sets_other : (vs l : List ℕ) (i j : ℕ) → (i ≤ j → j < i + length vs → ⊥) → get_or (sets l i vs) j 0 ≡ get_or l j 0
sets_other [] l i j out = refl
sets_other (v ∷ vs) l i j out =
    sets_other vs (set l i v) (suc i) j (λ p q. out (omega arith) (omega arith))
    ∙ get_or-set_other l i j v 0 (λ e. out (omega arith) (omega arith))

pub sets_here : (vs l : List ℕ) (i : ℕ) → i + length vs ≤ length l → take (length vs) (drop i (sets l i vs)) ≡ vs
sets_here vs l i h =
    let rest = drop (i + length vs) l in
    let told : sets l i vs ≡ take i l ++ (vs ++ rest) = sets-eq vs l i h ∙ append_assoc (take i l) vs rest in
    ap (λ (s : List ℕ). take (length vs) (drop i s)) told
    ∙ ap (take (length vs)) (drop_at (take i l) (vs ++ rest) i (length-take-le i l (omega arith))) ∙ take_at vs rest (length vs) refl

-- a store before a run of stores, and behind it
pub set_sets : (vs l : List ℕ) (i k a : ℕ) → k < i → sets (set l k a) i vs ≡ set (sets l i vs) k a
set_sets [] l i k a h = refl
set_sets (v ∷ vs) l i k a h =
    ap (λ (s : List ℕ). sets s (suc i) vs) (set_comm l k i a v (λ e. omega arith)) ∙ set_sets vs (set l i v) (suc i) k a (omega arith)
