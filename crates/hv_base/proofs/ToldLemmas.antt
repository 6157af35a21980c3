use Rattle.std.proofs.Common.{◌≡◌, Option, Some, None}
use Rattle.hv_base.specs.Told.{Moves, StaysTold}

-- two steps make a third one, told or not
pub Moves-then : {A : Type 0} (P Q R : A → A → Type 0) → ((x y z : A) → P x y → Q y z → R x z) →
    (a b c : Option A) → Moves P a b → Moves Q b c → Moves R a c
Moves-then P Q R then None None None p q = tt
Moves-then P Q R then None None (Some z) p q = absurd q
Moves-then P Q R then None (Some y) c p q = absurd p
Moves-then P Q R then (Some x) None c p q = absurd p
Moves-then P Q R then (Some x) (Some y) None p q = absurd q
Moves-then P Q R then (Some x) (Some y) (Some z) p q = then x y z p q

-- a step that is another one too
pub Moves-weaken : {A : Type 0} (P R : A → A → Type 0) → ((x y : A) → P x y → R x y) → (a b : Option A) → Moves P a b → Moves R a b
Moves-weaken P R also None None p = tt
Moves-weaken P R also None (Some y) p = absurd p
Moves-weaken P R also (Some x) None p = absurd p
Moves-weaken P R also (Some x) (Some y) p = also x y p

-- nothing happened
pub Moves-same : {A : Type 0} (P : A → A → Type 0) → ((x : A) → P x x) → (a : Option A) → Moves P a a
Moves-same P same None = tt
Moves-same P same (Some x) = same x

-- no step changes whether the content is told
pub stays_by : {A : Type 0} (step : A → A → Type 0) (a b : Option A) → Moves step a b → StaysTold a b
stays_by step a b = Moves-weaken step (λ _ _. Unit {0}) (λ x y p. tt) a b

pub stays_same : {A : Type 0} (a : Option A) → StaysTold a a
stays_same a = Moves-same (λ _ _. Unit {0}) (λ x. tt) a

pub stays_stays : {A : Type 0} (a b c : Option A) → StaysTold a b → StaysTold b c → StaysTold a c
stays_stays a b c =
    Moves-then (λ _ _. Unit {0}) (λ _ _. Unit {0}) (λ _ _. Unit {0}) (λ x y z p q. tt) a b c
