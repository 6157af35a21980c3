-- What one seat knows, and how a step changes it.
use Rattle.std.specs.Prelude.{◌≡◌, ℕ, ◌+◌, ◌-◌, ◌<◌, ◌≤◌, nat_le, if◌then◌else◌, List, [], ◌∷◌, ◌++◌, length, Option, Some, None}
use mathlib.Core.List.{IsPrefix}
use Rattle.hv_turn.specs.declared.view.Stage.{Stage}
use Rattle.hv_turn.specs.declared.view.Stage.TheVariants.{Idle, Waits, Has}
use Rattle.hv_turn.specs.declared.view.View.{View}
use Rattle.hv_turn.specs.Counts.{rising}

-- the ticket, if there is one
abbrev pub tickets_of : Stage → List ℕ
tickets_of Idle = []
tickets_of (Waits n) = n ∷ []
tickets_of (Has n) = n ∷ []

-- 1 where the stage has the turn
abbrev pub turns_of : Stage → ℕ
turns_of Idle = 0
turns_of (Waits n) = 0
turns_of (Has n) = 1

module _ {I : Type 0} where
  abbrev pub longer : List I → List I → List I
  longer xs ys = if nat_le (length xs) (length ys) then ys else xs

  -- the places of the items of a history behind an earlier one
  abbrev pub places_behind : List I → List I → List ℕ
  places_behind before now = rising (length before) (length now - length before)

  abbrev pub shorter : List I → List I → List I
  shorter xs ys = if nat_le (length xs) (length ys) then xs else ys

  -- the turn goes by the number served, and the history is the one that stood
  abbrev pub HasTurnAt : List I → ℕ → List I → Stage → Type 0
  HasTurnAt log serving stood Idle = Unit {0}
  HasTurnAt log serving stood (Waits n) = Unit {0}
  HasTurnAt log serving stood (Has n) = (n ≡ serving) × (stood ≡ log)

-- which of two has the greater age
abbrev pub of_later : {A : Type 0} → ℕ → ℕ → A → A → A
of_later m n a b = if nat_le m n then b else a

module _ {S : Type 0} where
  -- both were seen, and the second goes on from the first
  abbrev pub Before : (S → S → Type 0) → Option S → Option S → Type 0
  Before later a b = (x : S) × (y : S) × (a ≡ Some x) × (b ≡ Some y) × later x y

  -- a value was seen, and this is its list
  abbrev pub IsSeen : {I : Type 0} → (S → List I) → Option S → List I → Type 0
  IsSeen items saw seen = (x : S) × (saw ≡ Some x) × (items x ≡ seen)

  -- a free seat keeps an earlier value beside the one that it has seen
  abbrev pub IsSettled : (S → S → Type 0) → Option S → Option S → Stage → Type 0
  IsSettled later took saw Idle = Before later took saw
  IsSettled later took saw (Waits n) = Unit {0}
  IsSettled later took saw (Has n) = Unit {0}

  -- a value was seen, from which this one goes on
  abbrev pub GoesOn : (S → S → Type 0) → Option S → S → Type 0
  GoesOn later saw now = (x : S) × (saw ≡ Some x) × later x now

  -- the turn came with this value
  abbrev pub HasTaken : S → Option S → Stage → Type 0
  HasTaken now took Idle = Unit {0}
  HasTaken now took (Waits n) = Unit {0}
  HasTaken now took (Has n) = took ≡ Some now

module _ {S I Q : Type 0} where
  abbrev pub spent : View S I Q
  spent = record { seen = []; stood = []; saw = None; age = 0; took = None; own = []; parts = 0; root = None; start = 0; stage = Idle }

  abbrev pub waits : View S I Q → ℕ → View S I Q
  waits v n = record v { stage = Waits n }

  -- the turn came, and this was the history
  abbrev pub takes : View S I Q → ℕ → List I → S → View S I Q
  takes v n log x = record v { stood = log; took = Some x; stage = Has n }

  -- the history became this one
  abbrev pub counts : View S I Q → List I → S → ℕ → View S I Q
  counts v log x n = record v { seen = log; stood = log; saw = Some x; age = n; took = Some x; own = v.own ++ places_behind v.stood log }

  abbrev pub passes : View S I Q → View S I Q
  passes v = record v { stage = Idle }

  abbrev pub gives_part : View S I Q → View S I Q
  gives_part v = record v { parts = v.parts - 1 }

  abbrev pub one_part : View S I Q → View S I Q
  one_part v = record v { own = []; parts = 1; stage = Idle }

  -- the shorter list is kept beside the longer, until a look shows that it begins the longer
  abbrev pub joined : View S I Q → View S I Q → View S I Q
  joined v w = record v { seen = longer v.seen w.seen; stood = shorter v.seen w.seen; saw = of_later v.age w.age v.saw w.saw; age = of_later v.age w.age v.age w.age; took = of_later v.age w.age w.saw v.saw; own = v.own ++ w.own; parts = v.parts + w.parts }

  -- what the rule says of one view
  pub record Fits (later : S → S → Type 0) (log : List I) (serving : ℕ) (root : Q) (start : ℕ) (newest : S) (round : ℕ) (v : View S I Q) : Type 0 where
    pub seen : IsPrefix v.seen log
    pub stood : IsPrefix v.stood log
    pub turn : HasTurnAt log serving v.stood v.stage
    pub live : 0 < v.parts → (v.root ≡ Some root) × (v.start ≡ start)
    pub saw : 0 < v.parts → GoesOn later v.saw newest
    pub age : v.age ≤ round
    pub last : 0 < v.parts → v.age ≡ round → v.saw ≡ Some newest
    pub settled : 0 < v.parts → IsSettled later v.took v.saw v.stage
    pub took : HasTaken newest v.took v.stage
    pub spent : v.parts ≡ 0 → (v.own ≡ []) × (v.stage ≡ Idle)
