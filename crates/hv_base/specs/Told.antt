-- What an object of the outside holds is told by the objects in memory alone. A fact on a told
-- content says nothing of one that isn't told, and no call changes whether an object tells.
-- Source: this project's profile.

use Rattle.std.specs.Prelude.{Option, Some, None}

-- The fact holds of the content, where it is told.
abbrev pub Tells : {A : Type 0} → Option A → (A → Type 0) → Type 0
Tells None P = Unit {0}
Tells (Some content) P = P content

-- The content made this step, where it is told; and it is told afterwards where it was before.
abbrev pub Moves : {A : Type 0} → (A → A → Type 0) → Option A → Option A → Type 0
Moves step None None = Unit {0}
Moves step None (Some now) = ⊥
Moves step (Some before) None = ⊥
Moves step (Some before) (Some now) = step before now

-- it is told afterwards where it was before, and nowhere else
abbrev pub StaysTold : {A : Type 0} → Option A → Option A → Type 0
StaysTold before now = Moves (λ _ _. Unit {0}) before now
