-- The first fault, by sequence: what comes behind a fault isn't looked at.
use Rattle.std.specs.Prelude.{◌≡◌, List, [], ◌∷◌, Result, Ok, Err}
use Rattle.hv_base.specs.declared.refusal.Refusal.{Refusal}
use Rattle.hv_typing.specs.declared.fault.TypeFault.{TypeFault}
use Rattle.hv_typing.specs.declared.fault.TypeFault.TheVariants as fault

abbrev pub and_then : {A B : Type 0} → Result A Refusal → (A → Result B Refusal) → Result B Refusal
and_then (Ok a) next = next a
and_then (Err refusal) next = Err refusal

-- each in order, from the left
abbrev pub in_front : {A : Type 0} → A → Result (List A) Refusal → Result (List A) Refusal
in_front a (Ok rest) = Ok (a ∷ rest)
in_front a (Err refusal) = Err refusal

abbrev pub each_in_order : {A B : Type 0} → (A → Result B Refusal) → List A → Result (List B) Refusal
each_in_order part [] = Ok []
each_in_order part (a ∷ rest) = and_then (part a) (λ b. in_front b (each_in_order part rest))

-- ---- what a call answers, beside what is defined: memory may run out at any time

abbrev pub Refuses : {A : Type 0} → TypeFault → Result A Refusal → Type 0
Refuses (fault.Refused refusal) defined = defined ≡ Err refusal
Refuses fault.NoMemory defined = Unit {0}

abbrev pub Types : {A : Type 0} → Result A TypeFault → Result A Refusal → Type 0
Types (Ok a) defined = defined ≡ Ok a
Types (Err fault) defined = Refuses fault defined
