-- What key words do to a lock, by cases on its four states: Closed and HalfOpen take one word each, and every other word ends in Dead, which no word leaves.
use mathlib.Core.Bool.{Bool, true, false, cond, ◌&&◌, false≢true}
use mathlib.Core.List.{List, [], ◌∷◌, foldl}
use mathlib.Core.Logic.{◌⊎◌, inl, inr, ◌↔◌}
use Rattle.std.specs.Prelude.{Result, Ok, is_ok}
use mathlib.Core.Path.{◌≡◌, refl, sym, ap, ap₂, ◌∙◌}
use Prim.Native.Nat.{ℕ}
use lib.Dec.{eqb}
use borrow.Author.Tests.{eqb-true, eq-eqb}
use Rattle.cascade.proofs.Picks.{keep}
use Rattle.lock.specs.Keys.{lock_at, killed, keyed, after_key, is_open}
use Rattle.lock.specs.declared.Keys.{Keys}
use Rattle.lock.specs.declared.Lock.{Lock}
use Rattle.lock.specs.declared.LockState.{LockState}
use Rattle.lock.specs.declared.LockState.TheVariants.{Open, Closed, HalfOpen, Dead}
use Rattle.lock.specs.declared.WrongWord.{WrongWord}

-- where one word is right, and `t` says that it was given
right_is : (t : Bool) (l : Lock) → is_ok (cond t (Ok l) killed) ≡ t
right_is true l = refl
right_is false l = refl

dead_if_wrong : (t : Bool) (l : Lock) → is_ok (cond t (Ok l) killed) ≡ false → after_key (cond t (Ok l) killed) ≡ lock_at Dead
dead_if_wrong true l e = absurd (false≢true (sym e))
dead_if_wrong false l e = refl

module _ (k : Keys) where
  -- "any word once open closes that lock until reset"
  pub word_once_open : (word : ℕ) → (keyed (lock_at Open) word k ≡ killed) × (after_key (keyed (lock_at Open) word k) ≡ lock_at Dead)
  word_once_open word = (refl, refl)

  -- "each later word is wrong", and the lock stays as it is
  pub word_once_dead : (word : ℕ) → (keyed (lock_at Dead) word k ≡ killed) × (after_key (keyed (lock_at Dead) word k) ≡ lock_at Dead)
  word_once_dead word = (refl, refl)

  -- "a wrong word closes that lock until reset"
  pub wrong_word : (l : Lock) (word : ℕ) → is_ok (keyed l word k) ≡ false → after_key (keyed l word k) ≡ lock_at Dead
  wrong_word l word = from_state l.state
    where
      from_state : (s : LockState) → is_ok (keyed (lock_at s) word k) ≡ false → after_key (keyed (lock_at s) word k) ≡ lock_at Dead
      from_state Open e = refl
      from_state Closed e = dead_if_wrong (eqb word k.first) (lock_at HalfOpen) e
      from_state HalfOpen e = dead_if_wrong (eqb word k.second) (lock_at Open) e
      from_state Dead e = refl

  abbrev Good : LockState → ℕ → Type 0
  Good s word = ((s ≡ Closed) × (word ≡ k.first)) ⊎ ((s ≡ HalfOpen) × (word ≡ k.second))

  -- a word is right exactly where it is the first key on a closed lock, or the second key after the first
  pub right_word_lem : (l : Lock) (word : ℕ) → (is_ok (keyed l word k) ≡ true)
      ↔ (((l.state ≡ Closed) × (word ≡ k.first)) ⊎ ((l.state ≡ HalfOpen) × (word ≡ k.second)))
  right_word_lem l word = (to l.state, from l.state)
    where
      to : (s : LockState) → is_ok (keyed (lock_at s) word k) ≡ true → Good s word
      to Open e = absurd (false≢true e)
      to Closed e = inl (refl, eqb-true word k.first (sym (right_is (eqb word k.first) (lock_at HalfOpen)) ∙ e))
      to HalfOpen e = inr (refl, eqb-true word k.second (sym (right_is (eqb word k.second) (lock_at Open)) ∙ e))
      to Dead e = absurd (false≢true e)

      from : (s : LockState) → Good s word → is_ok (keyed (lock_at s) word k) ≡ true
      from s (inl (e, w)) = rw (e, eq-eqb word k.first w)
      from s (inr (e, w)) = rw (e, eq-eqb word k.second w)

  -- two words open a closed lock exactly when they are the keys in their order; any other two close it until reset
  pub two_words : (a b : ℕ) → after_key (keyed (after_key (keyed (lock_at Closed) a k)) b k) ≡ lock_at (cond (eqb a k.first && eqb b k.second) Open Dead)
  two_words a b = go (eqb a k.first) (eqb b k.second) refl refl
    where
      go : (s t : Bool) → eqb a k.first ≡ s → eqb b k.second ≡ t
          → after_key (keyed (after_key (keyed (lock_at Closed) a k)) b k) ≡ lock_at (cond (s && t) Open Dead)
      go true true d e = rw (d, e)
      go true false d e = rw (d, e)
      go false t d e = rw d

  -- no number of words changes a dead lock
  pub dead_for_good : (words : List ℕ) → foldl (λ l word. after_key (keyed l word k)) (lock_at Dead) words ≡ lock_at Dead
  dead_for_good [] = refl
  dead_for_good (w ∷ words) = dead_for_good words

  -- of all lists of words, the two keys alone leave a closed lock open
  pub opens : (words : List ℕ) → (is_open (foldl (λ l word. after_key (keyed l word k)) (lock_at Closed) words) ≡ true) ↔ (words ≡ k.first ∷ k.second ∷ [])
  opens words = (only words, λ e. rw (e, two_words k.first k.second, eq-eqb k.first k.first refl, eq-eqb k.second k.second refl))
    where
      not_yet : (a : ℕ) → is_open (after_key (keyed (lock_at Closed) a k)) ≡ false
      not_yet a = keep (λ (o : Result Lock WrongWord). is_open (after_key o) ≡ false) (eqb a k.first) (Ok (lock_at HalfOpen)) killed refl refl

      both : (s t : Bool) → is_open (lock_at (cond (s && t) Open Dead)) ≡ true → (s ≡ true) × (t ≡ true)
      both true true e = (refl, refl)
      both true false e = absurd (false≢true e)
      both false t e = absurd (false≢true e)

      third : (a b c : ℕ) → after_key (keyed (after_key (keyed (after_key (keyed (lock_at Closed) a k)) b k)) c k) ≡ lock_at Dead
      third a b c =
          ap (λ (l : Lock). after_key (keyed l c k)) (two_words a b)
          ∙ keep (λ (s : LockState). after_key (keyed (lock_at s) c k) ≡ lock_at Dead) (eqb a k.first && eqb b k.second) Open Dead refl refl

      only : (words : List ℕ) → is_open (foldl (λ l word. after_key (keyed l word k)) (lock_at Closed) words) ≡ true → words ≡ k.first ∷ k.second ∷ []
      only [] e = absurd (false≢true e)
      only (a ∷ []) e = absurd (false≢true (sym (not_yet a) ∙ e))
      only (a ∷ b ∷ []) e =
          let h = both (eqb a k.first) (eqb b k.second) (sym (ap is_open (two_words a b)) ∙ e) in
          ap₂ (λ (x y : ℕ). x ∷ y ∷ []) (eqb-true a k.first h.0) (eqb-true b k.second h.1)
      only (a ∷ b ∷ c ∷ words) e =
          absurd (false≢true (sym (ap (λ (l : Lock). is_open (foldl (λ l word. after_key (keyed l word k)) l words)) (third a b c)
          ∙ ap is_open (dead_for_good words)) ∙ e))
