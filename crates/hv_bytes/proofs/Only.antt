-- From what reading gives to what is spelled.
use lib.Dec.{eqb-suc-zero}
use Rattle.std.proofs.Common.{◌≡◌, ◌==◌, ℕ, Bool, true, List, [], ◌∷◌, length, Option, Some, Result, Ok, Err, refl, sym, ap, ◌∙◌}
use Rattle.std.specs.Prelude.{MatchResult}
use Rattle.hv_bytes.specs.declared.fault.FieldFault.{FieldFault}
use Rattle.hv_bytes.specs.declared.fault.FieldFault.TheVariants as fault
use Rattle.hv_bytes.specs.Reading.{Gives}

abbrev some_of : {A : Type 0} → A → Option A
some_of x = Some x

same_some : {A : Type 0} (x y : A) → some_of x ≡ some_of y → x ≡ y
same_some x y h = cc

-- what is read in two ways is one value, with the same bytes behind it
pub read_one : {A : Type 0} (e d : A) (x y : List ℕ) → some_of {A = A × List ℕ} (e, x) ≡ some_of {A = A × List ℕ} (d, y) → (e ≡ d) × (x ≡ y)
read_one {A} e d x y h =
    let same = same_some {A = A × List ℕ} (e, x) (d, y) h in
    (ap (λ (p : A × List ℕ). p.0) same, ap (λ (p : A × List ℕ). p.1) same)

-- where reading gives a value, nothing else is answered but want of memory
pub gives_only : {X Y : Type 0} (view : X → Y) (r : Result X FieldFault) (read : Option Y) (y : Y) → Gives view r read → read ≡ Some y → MatchResult r (λ x. view x ≡ y) (λ e. e ≡ fault.NoMemory)
gives_only view (Ok x) read y given is = same_some (view x) y (sym given ∙ is)
gives_only view (Err fault.NoMemory) read y given is = refl
gives_only view (Err fault.Damaged) read y given is = absurd cc

pub gives_undamaged : {X Y : Type 0} (view : X → Y) (r : Result X FieldFault) (read : Option Y) (y : Y) → Gives view r read → read ≡ Some y → r ≡ Err fault.Damaged → ⊥
gives_undamaged view (Ok x) read y given is bad = cc
gives_undamaged view (Err fault.NoMemory) read y given is bad = cc
gives_undamaged view (Err fault.Damaged) read y given is bad = cc

pub empty_of : (xs : List ℕ) (b : Bool) → b ≡ (length xs == 0) → b ≡ true → xs ≡ []
empty_of [] b e t = refl
empty_of (x ∷ xs) b e t = absurd (let no = eqb-suc-zero (length xs) in cc)
