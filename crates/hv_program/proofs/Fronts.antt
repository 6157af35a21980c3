-- Reading a source up to a limit.
use Rattle.std.proofs.Common.{◌≡◌, ℕ, ◌+◌, ◌-◌, ◌<◌, ◌≤◌, List, ◌++◌, length, take, drop, min, Option, sym, ap, ◌∙◌, subst, arith, length-append, length-drop}
use Rattle.std.proofs.lemmas.List.{length-take, append-nil}
use Rattle.hv_base.specs.Source.{GivesAll, GivesFront}
use Rattle.hv_base.specs.Told.{Moves, StaysTold}
use Rattle.hv_base.proofs.ToldLemmas.{Moves-weaken, stays_by}
use Rattle.hv_program.specs.Reading.{TakesUpTo}

-- how long the part of the buffer is that a read is given
pub length-asked : (out chunk : List ℕ) (most room : ℕ) → length out ≡ length (take most chunk) → most ≡ min room 65536 →
    length chunk ≡ 65536 → length out ≡ min room 65536
length-asked out chunk most room asked is whole = omega (arith, length-take most chunk)

-- the buffer keeps its length
pub length-chunk : (out chunk : List ℕ) (most room : ℕ) → length out ≡ length (take most chunk) → most ≡ min room 65536 →
    length chunk ≡ 65536 → length (out ++ drop most chunk) ≡ 65536
length-chunk out chunk most room asked is whole =
    omega (arith, length-asked out chunk most room asked is whole, length-append out (drop most chunk), length-drop most chunk)

-- a read isn't asked for nothing
pub asked-some : (held len len' most room asked : ℕ) → len ≡ held → len' ≡ held → len < most → room ≡ most - len' → asked ≡ min room 65536 → 0 < asked
asked-some held len len' most room asked a b below is asks = omega arith

pub held-within : (held held' len count most room asked : ℕ) → held' ≡ held + count → len ≡ held → held ≤ most → room ≡ most - len →
    asked ≡ min room 65536 → count ≤ asked → held' ≤ most
held-within held held' len count most room asked more a within is asks fits = omega arith

pub TakesUpTo-all : (most : ℕ) (bytes : List ℕ) (a b : Option (List ℕ)) → Moves (GivesAll bytes) a b → Moves (TakesUpTo most bytes) a b
TakesUpTo-all most bytes = Moves-weaken (GivesAll bytes) (TakesUpTo most bytes)
    (λ x y h. record { taken = h.given ∙ sym (ap (λ t. bytes ++ t) h.ended ∙ append-nil bytes); ended = λ _. h.ended })

pub TakesUpTo-most : (most : ℕ) (bytes : List ℕ) (a b : Option (List ℕ)) → most ≤ length bytes → Moves (GivesFront bytes) a b → Moves (TakesUpTo most bytes) a b
TakesUpTo-most most bytes a b reached = Moves-weaken (GivesFront bytes) (TakesUpTo most bytes)
    (λ x y p. record { taken = p; ended = λ less. absurd (omega arith) }) a b

pub StaysTold-failed : (P : List ℕ → List ℕ → Type 0) (a b c : Option (List ℕ)) → Moves P a b → c ≡ b → StaysTold a c
StaysTold-failed P a b c given same = subst (λ w. StaysTold a w) (sym same) (stays_by P a b given)
