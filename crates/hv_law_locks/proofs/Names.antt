-- Which live tables stand under a name: what each entry leaves of it.
use Rattle.std.proofs.Common.{◌≡◌, ℕ, zero, suc, ◌&&◌, ◌||◌, Bool, true, false, Option, Some, None, List, [], ◌∷◌, ◌++◌, refl, sym, ap, ◌∙◌, subst}
use Rattle.std.specs.Prelude.{IsTrue, IsFalse, slice_get}
use Rattle.std.specs.List.{list_any}
use Rattle.std.specs.Str.{bytes_eq}
use Rattle.hv_history.specs.declared.state.Written.{Written}
use Rattle.hv_history.specs.declared.state.Table.{Table}
use Rattle.hv_history.specs.State.{numbered, changed, changed_at, written_to, tables_behind, dropped}
use Rattle.hv_history.specs.Legal.{is_named, is_named_there}
use Rattle.hv_law_locks.specs.Locked.{StaysNamed}
use Rattle.hv_law_locks.proofs.Texts.{neither, both, second-false, same-name}

pub named-same : (tables : List Table) (name : List ℕ) → StaysNamed tables tables name
named-same tables name n = refl

pub named-then : (a b c : List Table) (name : List ℕ) → StaysNamed a b name → StaysNamed b c name → StaysNamed a c name
named-then a b c name h k n = k n ∙ h n

-- ---- one table is changed

changed-slice : (f : Table → Table) (name : List ℕ) (xs : List Table) (k : ℕ) → ((x : Table) → slice_get xs k ≡ Some x → is_named name (f x) ≡ is_named name x)
    → (n : ℕ) → is_named_there name (slice_get (changed_at f xs k) n) ≡ is_named_there name (slice_get xs n)
changed-slice f name [] k same n = refl
changed-slice f name (x ∷ xs) zero same zero = same x refl
changed-slice f name (x ∷ xs) zero same (suc n) = refl
changed-slice f name (x ∷ xs) (suc k) same zero = refl
changed-slice f name (x ∷ xs) (suc k) same (suc n) = changed-slice f name xs k same n

pub named-changed : (f : Table → Table) (name : List ℕ) (xs : List Table) (k : ℕ) → ((x : Table) → numbered xs k ≡ Some x → is_named name (f x) ≡ is_named name x)
    → StaysNamed xs (changed f xs k) name
named-changed f name xs zero same n = refl
named-changed f name xs (suc k) same zero = refl
named-changed f name xs (suc k) same (suc n) = changed-slice f name xs k same n

-- by writes, one after another
pub named-written : (name : List ℕ) (writes : List (ℕ × Written)) (tables : List Table) → StaysNamed tables (tables_behind writes tables) name
named-written name [] tables = named-same tables name
named-written name (w ∷ writes) tables =
    let next = changed (written_to w.1) tables w.0 in
    named-then tables next (tables_behind writes next) name (named-changed (written_to w.1) name tables w.0 (λ x e. refl)) (named-written name writes next)

-- ---- one more, of another name

more-slice : (name : List ℕ) (new : Table) → is_named name new ≡ false → (xs : List Table) (n : ℕ)
    → is_named_there name (slice_get (xs ++ new ∷ []) n) ≡ is_named_there name (slice_get xs n)
more-slice name new other [] zero = other
more-slice name new other [] (suc n) = refl
more-slice name new other (x ∷ xs) zero = refl
more-slice name new other (x ∷ xs) (suc n) = more-slice name new other xs n

pub named-more : (name : List ℕ) (new : Table) (xs : List Table) → is_named name new ≡ false → StaysNamed xs (xs ++ new ∷ []) name
named-more name new xs other zero = refl
named-more name new xs other (suc n) = more-slice name new other xs n

-- ---- one is dropped, of another name

dropped-other : (name own : List ℕ) (x : Table) → is_named own x ≡ true → bytes_eq own name ≡ false → is_named name x ≡ false
dropped-other name own x e other =
    let parts = both x.is_live (bytes_eq x.info.shape.name own) e in
    let same : x.info.shape.name ≡ own = same-name x.info.shape.name own parts.1 in
    second-false x.is_live (bytes_eq x.info.shape.name name) (ap (λ (text : List ℕ). bytes_eq text name) same ∙ other)

there-named : (own : List ℕ) (o : Option Table) (x : Table) → o ≡ Some x → is_named_there own o ≡ true → is_named own x ≡ true
there-named own o x is e = sym (ap (is_named_there own) is) ∙ e

pub named-dropped : (name own : List ℕ) (xs : List Table) (k : ℕ) → is_named_there own (numbered xs k) ≡ true → bytes_eq own name ≡ false
    → StaysNamed xs (changed dropped xs k) name
named-dropped name own xs k here other =
    named-changed dropped name xs k (λ x e. sym (dropped-other name own x (there-named own (numbered xs k) x e here) other))

-- ---- no table of a name is there

pub none-there : (name : List ℕ) (xs : List Table) → list_any (is_named name) xs ≡ false → (n : ℕ) → is_named_there name (slice_get xs n) ≡ false
none-there name [] e n = refl
none-there name (x ∷ xs) e zero = (neither (is_named name x) (list_any (is_named name) xs) e).0
none-there name (x ∷ xs) e (suc n) = none-there name xs (neither (is_named name x) (list_any (is_named name) xs) e).1 n

pub nowhere : (name : List ℕ) (xs : List Table) → ((n : ℕ) → is_named_there name (slice_get xs n) ≡ false) → list_any (is_named name) xs ≡ false
nowhere name [] h = refl
nowhere name (x ∷ xs) h = ap (λ (b : Bool). b || list_any (is_named name) xs) (h zero) ∙ nowhere name xs (λ n. h (suc n))

-- it is live
pub live-there : (name : List ℕ) (x : Table) → is_named name x ≡ true → x.is_live ≡ true
live-there name x e = (both x.is_live (bytes_eq x.info.shape.name name) e).0
