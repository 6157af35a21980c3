-- How a run ends that does not come to the command. Source: this project's profile.

use Rattle.std.specs.Prelude.{◌≡◌, ℕ, ◌⊎◌, List, [], ◌∷◌, ◌++◌, codes, Option}
use Rattle.hv_base.specs.Sink.{Gains, GainsPart}
use Rattle.hv_base.specs.Told.{Moves}
use Rattle.hive.specs.declared.refusal.Refusal.{Refusal}
use Rattle.hive.specs.declared.refusal.Refusal.TheVariants.{BadWords, Version, Store, NoMemory}

abbrev pub bad_words : List ℕ
bad_words = codes "hive: bad words" ++ 10 ∷ []

-- Bad words, of which the question for the version is one, are said on the sink, with status 2, or with 4 where it took a front of the line alone. For
-- the others nothing is written there, and the status is 5 or 7.
abbrev pub Ends : Refusal → Option (List ℕ) → Option (List ℕ) → ℕ → Type 0
Ends BadWords before now status =
    ((status ≡ 2) × Moves (Gains bad_words) before now)
    ⊎ ((status ≡ 4) × Moves (GainsPart bad_words) before now)
Ends Version before now status =
    ((status ≡ 2) × Moves (Gains bad_words) before now)
    ⊎ ((status ≡ 4) × Moves (GainsPart bad_words) before now)
Ends (Store cause) before now status = (status ≡ 5) × (now ≡ before)
Ends NoMemory before now status = (status ≡ 7) × (now ≡ before)
