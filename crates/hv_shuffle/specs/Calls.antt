-- What calls of a mapper and of a reducer may answer.
use Rattle.std.specs.Prelude.{◌≡◌, List, Ok, Result}
use Rattle.std.specs.Global.{Vec}
use Rattle.std.specs.List.{AllZip, flat_map}
use Rattle.std.specs.List.Sorted.{IsStableBy}
use Rattle.std.specs.declared.cmp.Ordering.{Ordering}
use Rattle.std.specs.Borrow.{Bor}
use Rattle.std.specs.Fn.{Shared, FnReturns}
use Rattle.hv_base.specs.declared.failure.NoMemory.{NoMemory}
use Rattle.hv_shuffle.specs.Shuffled.{before}

-- what is said of x is said of one value
abbrev pub IsFixed : {X Y : Type 0} → (X → Y → Type 0) → Type 0
IsFixed {X} {Y} gives = (x : X) (y z : Y) → gives x y → gives x z → y ≡ z

-- a function may be called at a reference to x
abbrev pub TakesAt : {M T R : Type 0} → Shared M (Bor T × Unit {0}) R → M → T → Type 0
TakesAt {M} {T} g f x = (shown : Bor T) → shown.now ≡ x → g.pre f (shown, tt)

-- a call with the job may give this answer
abbrev pub JobGives : {F J X : Type 0} → Shared F (J × Unit {0}) X → F → J → X → Type 0
JobGives {F} {J} {X} g f job answer = FnReturns g f (job, tt) answer

-- a call of the mapper at the input may find these pairs
pub record MapsTo {M T P : Type 0} (g : Shared M (Bor T × Unit {0}) (Result (Vec P) NoMemory)) (f : M) (input : T) (pairs : List P) : Type 0 where
  pub shown : Bor T
  pub shows : shown.now ≡ input
  pub found : Vec P
  pub finds : found.items ≡ pairs
  pub call : g.post f (shown, tt) (Ok found)

-- a call of the reducer at the key and its values may give this answer
pub record ReducesTo {F K V O : Type 0} (g : Shared F (Bor K × (Bor (List V) × Unit {0})) (Result O NoMemory)) (f : F) (group : K × List V) (answer : O) : Type 0 where
  pub key : Bor K
  pub values : Bor (List V)
  pub key_is : key.now ≡ group.0
  pub values_are : values.now ≡ group.1
  pub call : g.post f (key, (values, tt)) (Ok answer)

-- an answer is what was made
abbrev pub IsMade : {X : Type 0} → Result X NoMemory → X → Type 0
IsMade answer made = answer ≡ Ok made

-- each answer is a list, and the whole is these lists, one behind the other
pub record JoinsTo {X : Type 0} (answers : List (Result (Vec X) NoMemory)) (whole : List X) : Type 0 where
  pub lists : List (Vec X)
  pub each : AllZip (λ answer list. answer ≡ Ok list) answers lists
  pub joined : flat_map (λ list. list.items) lists ≡ whole

-- the pairs are what was found at the inputs, and pairs of one key stand in the order in which they were found
pub record StandsSorted {T K V : Type 0} (maps : T → List (K × V) → Type 0) (cmp : K → K → Ordering) (inputs : List T) (pairs : List (K × V)) : Type 0 where
  pub found : List (List (K × V))
  pub mapped : AllZip maps inputs found
  pub stable : IsStableBy (before cmp) (flat_map (λ list. list) found) pairs

-- the pairs are what was found at the inputs, one after the other
pub record AreFound {T P : Type 0} (maps : T → List P → Type 0) (inputs : List T) (pairs : List P) : Type 0 where
  pub found : List (List P)
  pub mapped : AllZip maps inputs found
  pub flat : flat_map (λ list. list) found ≡ pairs
