-- Results, and the counts of several calls on files.
use Rattle.std.proofs.Common.{◌≡◌, ℕ, ◌≤◌, Option, Some, None, Result, Ok, Err, IsErrOf, sym, ap, ◌∙◌, arith}
use Rattle.std.specs.Prelude.{IfOk, OnOk}
use Rattle.hv_base.specs.Told.{Tells}
use Rattle.hv_base.specs.Faults.{Rose}
use Rattle.hv_shelf.specs.declared.fault.ShelfFault.{ShelfFault}
use Rattle.hv_shelf.specs.declared.fault.ShelfFault.TheVariants as shelf
use Rattle.hv_shelf.specs.Causes.{SoftCause}
use Rattle.hv_finals.specs.Finals.{CallsCause}

-- ---- results

pub if-ok : {T E : Type 0} (r : Result T E) (P Q : T → Type 0) → IfOk r P → ((x : T) → P x → Q x) → IfOk r Q
if-ok (Ok x) P Q p f = f x p
if-ok (Err e) P Q p f = tt

pub on-ok : {T E : Type 0} (r : Result T E) (P Q : Type 0) → OnOk r P → (P → Q) → OnOk r Q
on-ok (Ok x) P Q p f = f p
on-ok (Err e) P Q p f = tt

-- one that is Ok hasn't failed
pub fine : {T : Type 0} (x : T) → IsErrOf {E = ShelfFault} (Ok x) shelf.Failed → ⊥
fine x is = cc

-- nor has one that lacks memory
pub lacking : {T : Type 0} → IsErrOf {T = T} (Err shelf.NoMemory) shelf.Failed → ⊥
lacking is = cc

-- an error that is passed on
pub passed : {S T : Type 0} (r : Result S ShelfFault) (fault : ShelfFault) → r ≡ Err fault → IsErrOf {T = T} (Err fault) shelf.Failed
    → IsErrOf r shelf.Failed
passed r fault at is = let same : fault ≡ shelf.Failed = cc in at ∙ ap (λ (f : ShelfFault). Err f) same

-- and the one that `?` passes on, which it calls by another name
raised : {S T : Type 0} (answer : Result T ShelfFault) (fault left : ShelfFault) → answer ≡ Err left → left ≡ fault → IsErrOf answer shelf.Failed
    → IsErrOf {T = S} (Err fault) shelf.Failed
raised answer fault left is same failed =
    let this : left ≡ shelf.Failed = cc in
    ap (λ (f : ShelfFault). Err f) (sym same ∙ this)

pub also-told : {A : Type 0} (o : Option A) (P Q : A → Type 0) → ((x : A) → P x → Q x) → Tells o P → Tells o Q
also-told None P Q f p = tt
also-told (Some x) P Q f p = f x p

pub both-told : {A : Type 0} (o : Option A) (P Q R : A → Type 0) → ((x : A) → P x → Q x → R x) → Tells o P → Tells o Q → Tells o R
both-told None P Q R f p q = tt
both-told (Some x) P Q R f p q = f x p q

pub all-told : {A : Type 0} (o : Option A) (P : A → Type 0) → ((x : A) → P x) → Tells o P
all-told None P f = tt
all-told (Some x) P f = f x

-- ---- counts

-- of none
pub calls-none : (F : Type 0) (faults hard : ℕ) → (F → ⊥) → CallsCause F faults faults hard hard
calls-none F faults hard none = record {
  later = omega arith;
  hard_later = omega arith;
  failed = λ f. absurd (none f);
  failed_last = λ f. absurd (none f);
}

-- of one
pub calls-one : (F G : Type 0) (faults faults' hard hard' : ℕ) → (G → F) → SoftCause F faults faults' hard hard' → CallsCause G faults faults' hard hard'
calls-one F G faults faults' hard hard' also cause = record {
  later = cause.later;
  hard_later = cause.hard_later;
  failed = λ g. cause.failed (also g);
  failed_last = λ g last. cause.failed_last (also g) last;
}

-- of one behind which the answer is another one
pub calls-fine : {S T : Type 0} (r : Result S ShelfFault) (x : T) (faults faults' hard hard' : ℕ) → SoftCause (IsErrOf r shelf.Failed) faults faults' hard hard'
    → CallsCause (IsErrOf {E = ShelfFault} (Ok x) shelf.Failed) faults faults' hard hard'
calls-fine r x faults faults' hard hard' cause =
    calls-one (IsErrOf r shelf.Failed) (IsErrOf {E = ShelfFault} (Ok x) shelf.Failed) faults faults' hard hard' (λ is. absurd (fine x is)) cause

-- and of one whose error is passed on
pub calls-passed : {S T : Type 0} (r : Result S ShelfFault) (fault : ShelfFault) (faults faults' hard hard' : ℕ) → r ≡ Err fault
    → SoftCause (IsErrOf r shelf.Failed) faults faults' hard hard' → CallsCause (IsErrOf {T = T} (Err fault) shelf.Failed) faults faults' hard hard'
calls-passed {T = T} r fault faults faults' hard hard' at cause =
    calls-one (IsErrOf r shelf.Failed) (IsErrOf {T = T} (Err fault) shelf.Failed) faults faults' hard hard' (λ is. passed r fault at is) cause

pub calls-as : (F G : Type 0) (faults faults' hard hard' : ℕ) → (G → F) → CallsCause F faults faults' hard hard' → CallsCause G faults faults' hard hard'
calls-as F G faults faults' hard hard' also cause = record {
  later = cause.later;
  hard_later = cause.hard_later;
  failed = λ g. cause.failed (also g);
  failed_last = λ g last. cause.failed_last (also g) last;
}

-- of some that didn't fail, and then others
pub calls-more : (N F G : Type 0) (faults middle faults' hard between hard' : ℕ) → (G → F) → CallsCause N faults middle hard between → CallsCause F middle faults' between hard'
    → CallsCause G faults faults' hard hard'
calls-more N F G faults middle faults' hard between hard' also first next = record {
  later = (let low = first.later in let high = next.later in omega (arith, low, high));
  hard_later = (let low = first.hard_later in let high = next.hard_later in omega (arith, low, high));
  failed = λ g.
      let low = first.later in
      let risen : Rose middle faults' = next.failed (also g) in
      omega (arith, low, risen);
  failed_last = λ g last.
      let low = first.hard_later in
      let risen : Rose between hard' = next.failed_last (also g) last in
      omega (arith, low, risen);
}

-- of some whose error is passed on
pub calls-up : {S T : Type 0} (r : Result S ShelfFault) (fault : ShelfFault) (faults faults' hard hard' : ℕ) → r ≡ Err fault
    → CallsCause (IsErrOf r shelf.Failed) faults faults' hard hard' → CallsCause (IsErrOf {T = T} (Err fault) shelf.Failed) faults faults' hard hard'
calls-up {T = T} r fault faults faults' hard hard' at cause =
    calls-as (IsErrOf r shelf.Failed) (IsErrOf {T = T} (Err fault) shelf.Failed) faults faults' hard hard' (λ is. passed r fault at is) cause

-- of some, where memory lacked for what is told of them
pub calls-lacking : {T : Type 0} (faults hard : ℕ) → CallsCause (IsErrOf {T = T} (Err shelf.NoMemory) shelf.Failed) faults faults hard hard
calls-lacking {T = T} faults hard = calls-none (IsErrOf {T = T} (Err shelf.NoMemory) shelf.Failed) faults hard (λ is. lacking is)

-- of some that didn't fail
pub calls-kept : {T : Type 0} (x : T) (faults faults' hard hard' : ℕ) → CallsCause ⊥ faults faults' hard hard'
    → CallsCause (IsErrOf {E = ShelfFault} (Ok x) shelf.Failed) faults faults' hard hard'
calls-kept x faults faults' hard hard' cause =
    calls-as ⊥ (IsErrOf {E = ShelfFault} (Ok x) shelf.Failed) faults faults' hard hard' (λ is. fine x is) cause

pub calls-still : {T : Type 0} (x : T) (faults hard : ℕ) → CallsCause (IsErrOf {E = ShelfFault} (Ok x) shelf.Failed) faults faults hard hard
calls-still x faults hard = calls-none (IsErrOf {E = ShelfFault} (Ok x) shelf.Failed) faults hard (λ is. fine x is)

-- of those, and one whose error `?` passes on
pub calls-raised : {S T : Type 0} (answer : Result T ShelfFault) (fault left : ShelfFault) (faults middle faults' hard between hard' : ℕ) → answer ≡ Err left
    → left ≡ fault → CallsCause ⊥ faults middle hard between → CallsCause (IsErrOf {T = S} (Err fault) shelf.Failed) middle faults' between hard'
    → CallsCause (IsErrOf answer shelf.Failed) faults faults' hard hard'
calls-raised {S = S} answer fault left faults middle faults' hard between hard' is same first next =
    calls-more ⊥ (IsErrOf {T = S} (Err fault) shelf.Failed) (IsErrOf answer shelf.Failed) faults middle faults' hard between hard'
    (λ failed. raised answer fault left is same failed) first next
