-- Totals over the write ids of a table, where ids come and go over.
use Rattle.std.proofs.Common.{◌≡◌, ℕ, zero, suc, ◌+◌, ◌<◌, ◌≤◌, Bool, true, false, Option, Some, None, List, [], ◌∷◌, ◌++◌, length, filter, refl, sym, ap, ◌∙◌, subst, arith}
use Rattle.std.specs.Prelude.{◌==◌, ◌&&◌, not, is_some, nat_le, if◌then◌else◌}
use Rattle.std.specs.Option.{option_map}
use Rattle.std.specs.List.{slice_get, AllByRecursion}
use Rattle.std.proofs.lemmas.Bool.{eqb-true}
use Rattle.std.proofs.lemmas.Option.{slice_get_within}
use Rattle.hv_history.specs.declared.state.Table.{Table}
use Rattle.hv_history.specs.State.{numbered, changed, changed_at}
use Rattle.hv_ids.specs.declared.notes.IdNote.{IdNote}
use Rattle.hv_ids.specs.declared.notes.PlacedId.{PlacedId}
use Rattle.hv_ids.specs.Ids.{is_of_other, put_next, put_id}
use Rattle.hv_book.specs.Notes.{add_if}
use Rattle.hv_book.specs.Briefs.{brief_table}
use Rattle.hv_book.specs.Past.{ended_if, ended_of, id_given, without_if, over_if, owners_in, total, total_from, only_if, weight_in, ended_weight}

-- ---- all

pub all-more : {A : Type 0} (P Q : A → Type 0) → ((x : A) → P x → Q x) → (xs : List A) → AllByRecursion P xs → AllByRecursion Q xs
all-more P Q step [] h = tt
all-more P Q step (x ∷ xs) h = (step x h.0, all-more P Q step xs h.1)

pub all-append : {A : Type 0} (P : A → Type 0) (xs ys : List A) → AllByRecursion P xs → AllByRecursion P ys → AllByRecursion P (xs ++ ys)
all-append P [] ys h k = k
all-append P (x ∷ xs) ys h k = (h.0, all-append P xs ys h.1 k)

pub all-filtered : {A : Type 0} (P : A → Type 0) (p : A → Bool) (xs : List A) → AllByRecursion P xs → AllByRecursion P (filter p xs)
all-filtered P p [] h = tt
all-filtered P p (x ∷ xs) h = by (p x) (all-filtered P p xs h.1)
  where
    by : (b : Bool) → AllByRecursion P (filter p xs) → AllByRecursion P (if b then x ∷ filter p xs else filter p xs)
    by true rest = (h.0, rest)
    by false rest = rest

-- what stands at a number is there
pub number-there : {A : Type 0} (xs : List A) (n : ℕ) (x : A) → numbered xs n ≡ Some x → (0 < n) × (n ≤ length xs)
number-there xs zero x is = cc
number-there xs (suc n) x is = (omega arith, (let lt = slice_get_within xs n x is in omega (arith, lt)))

pub all-get : {A : Type 0} (P : A → Type 0) (xs : List A) (n : ℕ) (x : A) → AllByRecursion P xs → slice_get xs n ≡ Some x → P x
all-get P [] n x h is = cc
all-get P (y ∷ xs) zero x h is = let same : y ≡ x = cc in subst P same h.0
all-get P (y ∷ xs) (suc n) x h is = all-get P xs n x h.1 is

pub all-numbered : {A : Type 0} (P : A → Type 0) (xs : List A) (n : ℕ) (x : A) → AllByRecursion P xs → numbered xs n ≡ Some x → P x
all-numbered P xs zero x h is = cc
all-numbered P xs (suc n) x h is = all-get P xs n x h is

-- ---- totals

pub total-append : {A : Type 0} (weight : A → ℕ) (xs ys : List A) → total weight (xs ++ ys) ≡ total weight xs + total weight ys
total-append weight [] ys = omega arith
total-append weight (x ∷ xs) ys = omega (arith, total-append weight xs ys)

pub total-put : (weight : IdNote → ℕ) (id : IdNote) (ids : List IdNote) → total weight (put_id id ids) ≡ total weight ids + weight id
total-put weight id [] = omega arith
total-put weight id (x ∷ ids) = by (nat_le x.table id.table) (total-put weight id ids)
  where
    by : (b : Bool) → total weight (put_id id ids) ≡ total weight ids + weight id → total weight (put_next b id x ids (put_id id ids)) ≡ total weight (x ∷ ids) + weight id
    by true rest = omega (arith, rest)
    by false rest = omega arith

pub put-length : (id : IdNote) (ids : List IdNote) → length (put_id id ids) ≡ length ids + 1
put-length id [] = omega arith
put-length id (x ∷ ids) = by (nat_le x.table id.table) (put-length id ids)
  where
    by : (b : Bool) → length (put_id id ids) ≡ length ids + 1 → length (put_next b id x ids (put_id id ids)) ≡ suc (length ids) + 1
    by true rest = omega (arith, rest)
    by false rest = omega arith

pub put-all : (P : IdNote → Type 0) (id : IdNote) (ids : List IdNote) → P id → AllByRecursion P ids → AllByRecursion P (put_id id ids)
put-all P id [] is h = (is, tt)
put-all P id (x ∷ ids) is h = by (nat_le x.table id.table) (put-all P id ids is h.1)
  where
    by : (b : Bool) → AllByRecursion P (put_id id ids) → AllByRecursion P (put_next b id x ids (put_id id ids))
    by true rest = (h.0, rest)
    by false rest = (is, h)

pub from-snoc : (weight : ℕ → ℕ → ℕ) (write : ℕ) (owners : List ℕ) (txn : ℕ)
    → total_from weight write (owners ++ txn ∷ []) ≡ total_from weight write owners + weight (write + length owners) txn
from-snoc weight write [] txn =
    let at : write ≡ write + 0 = omega arith in
    let same : weight write txn ≡ weight (write + 0) txn = ap (λ k. weight k txn) at in
    omega (arith, same)
from-snoc weight write (x ∷ owners) txn =
    let at : write + 1 + length owners ≡ write + suc (length owners) = omega arith in
    let same : weight (write + 1 + length owners) txn ≡ weight (write + suc (length owners)) txn = ap (λ k. weight k txn) at in
    omega (arith, same, from-snoc weight (write + 1) owners txn)

pub over-length : (txn place : ℕ) (ids : List IdNote) → length (ended_of txn place ids) + length (filter (is_of_other txn) ids) ≡ length ids
over-length txn place [] = omega arith
over-length txn place (id ∷ ids) = by (over-length txn place ids) (id.txn == txn)
  where
    by : length (ended_of txn place ids) + length (filter (is_of_other txn) ids) ≡ length ids → (b : Bool)
        → length (ended_if b place id (ended_of txn place ids)) + length (if (not b) then id ∷ filter (is_of_other txn) ids else filter (is_of_other txn) ids) ≡ suc (length ids)
    by rest true = omega (arith, rest)
    by rest false = omega (arith, rest)

module _ (table : ℕ) (weight : ℕ → ℕ → ℕ) where
  pub total-split : (txn place : ℕ) (ids : List IdNote)
      → total (weight_in table weight) (filter (is_of_other txn) ids) + total (ended_weight table weight) (ended_of txn place ids) ≡ total (weight_in table weight) ids
  total-split txn place [] = omega arith
  total-split txn place (id ∷ ids) = by (total-split txn place ids) (id.txn == txn)
    where
      by : total (weight_in table weight) (filter (is_of_other txn) ids) + total (ended_weight table weight) (ended_of txn place ids) ≡ total (weight_in table weight) ids
          → (b : Bool)
          → total (weight_in table weight) (if (not b) then id ∷ filter (is_of_other txn) ids else filter (is_of_other txn) ids)
          + total (ended_weight table weight) (ended_if b place id (ended_of txn place ids))
          ≡ total (weight_in table weight) (id ∷ ids)
      by rest true = omega (arith, rest)
      by rest false = omega (arith, rest)

  pub over-keeps : (b : Bool) (txn place : ℕ) (ids : List IdNote) (those : List PlacedId)
      → total (weight_in table weight) (without_if b txn ids) + total (ended_weight table weight) (over_if b txn place ids those)
      ≡ total (weight_in table weight) ids + total (ended_weight table weight) those
  over-keeps true txn place ids those =
      omega (arith, total-append (ended_weight table weight) those (ended_of txn place ids), total-split txn place ids)
  over-keeps false txn place ids those = refl

  -- what a Given adds, where its table is this one
  unfoldable pub given_weight : Bool → ℕ → Option Table → ℕ
  given_weight b txn None = 0
  given_weight b txn (Some t) = only_if b (weight (length t.owners + 1) txn)

  pub given-total : (txn other : ℕ) (o : Option Table) (ids : List IdNote)
      → total (weight_in table weight) (id_given txn other (option_map brief_table o) ids) ≡ total (weight_in table weight) ids + given_weight (other == table) txn o
  unfolding given_weight
  given-total txn other None ids = omega arith
  given-total txn other (Some t) ids =
      omega (arith, total-put (weight_in table weight) (record { table = other; write = length t.owners + 1; txn = txn }) ids)

  pub owners-total : (txn other : ℕ) (ts : List Table)
      → total_from weight 1 (add_if ((other == table) && is_some (numbered ts table)) txn (owners_in (numbered ts table)))
      ≡ total_from weight 1 (owners_in (numbered ts table)) + given_weight (other == table) txn (numbered ts other)
  unfolding given_weight
  owners-total txn other ts = by (other == table) refl
    where
      here : (o : Option Table) → total_from weight 1 (add_if (is_some o) txn (owners_in o)) ≡ total_from weight 1 (owners_in o) + given_weight true txn o
      here None = omega arith
      here (Some t) =
          let at : 1 + length t.owners ≡ length t.owners + 1 = omega arith in
          let same : weight (1 + length t.owners) txn ≡ weight (length t.owners + 1) txn = ap (λ k. weight k txn) at in
          omega (arith, same, from-snoc weight 1 t.owners txn)

      other_one : (o : Option Table) → 0 ≡ given_weight false txn o
      other_one None = refl
      other_one (Some t) = refl

      by : (b : Bool) → (other == table) ≡ b
          → total_from weight 1 (add_if (b && is_some (numbered ts table)) txn (owners_in (numbered ts table)))
          ≡ total_from weight 1 (owners_in (numbered ts table)) + given_weight b txn (numbered ts other)
      by true is = here (numbered ts table) ∙ ap (λ k. total_from weight 1 (owners_in (numbered ts table)) + given_weight true txn (numbered ts k)) (sym (eqb-true other table is))
      by false is = omega (arith, other_one (numbered ts other))

-- ---- how many there are

length-changed_at : {A : Type 0} (f : A → A) (xs : List A) (n : ℕ) → length (changed_at f xs n) ≡ length xs
length-changed_at f [] n = refl
length-changed_at f (x ∷ xs) zero = refl
length-changed_at f (x ∷ xs) (suc n) = ap suc (length-changed_at f xs n)

pub length-changed : {A : Type 0} (f : A → A) (xs : List A) (n : ℕ) → length (changed f xs n) ≡ length xs
length-changed f xs zero = refl
length-changed f xs (suc n) = length-changed_at f xs n
