-- The exceptions that the notes give are those of the list, each once: every weight adds up to the same over both.
use Rattle.std.proofs.Common.{◌≡◌, ℕ, suc, ◌+◌, ◌<◌, ◌≤◌, Bool, true, false, Option, Some, None, List, [], ◌∷◌, ◌++◌, length, map, filter, take, refl, sym, ap, ◌∙◌, arith}
use Rattle.std.specs.Prelude.{if◌then◌else◌, ◌==◌, ◌&&◌, ◌||◌, nat_le}
use Rattle.std.specs.Option.{option_map}
use Rattle.std.specs.List.{slice_get, list_any, flat_map, AllByRecursion}
use Rattle.std.proofs.lemmas.Bool.{lt-ltb, le-leb, lt-leb, leb-false, ne_eqb}
use Rattle.std.proofs.lemmas.List.Concat.{flat_map-cons}
use Rattle.hv_meta.specs.hv_book.specs.hv_history.specs.declared.entry.Entry.{Entry}
use Rattle.hv_meta.specs.hv_book.specs.hv_history.specs.State.{numbered, state_of}
use Rattle.hv_meta.specs.hv_book.specs.declared.notes.TransactionNote.{TransactionNote}
use Rattle.hv_ids.specs.declared.notes.IdNote.{IdNote}
use Rattle.hv_ids.specs.declared.notes.PlacedId.{PlacedId}
use Rattle.hv_ids.specs.Ids.{table_of, is_in}
use Rattle.hv_meta.specs.hv_book.specs.declared.past.ForgotNote.{ForgotNote}
use Rattle.hv_meta.specs.hv_book.specs.Briefs.{brief, end_of}
use Rattle.hv_meta.specs.hv_book.specs.Past.{Past, IsPast, IsSettled, PlacesRise, owners_in, forgotten_in, total, total_from, only_if, weight_in, ended_weight, forgot_then, forgot_id}
use Rattle.hv_meta.specs.hv_book.proofs.IdLaws.{total-append}
use Rattle.hv_meta.specs.hv_book.proofs.TextLaws.{numbered-map}
use Rattle.hv_wids.specs.declared.list.Exception.{Exception}
use Rattle.hv_earlier.specs.declared.fates.Fate.{Fate}
use Rattle.hv_earlier.specs.declared.fates.Fate.TheVariants as fate
use Rattle.hv_earlier.specs.declared.exceptions.Spot.{Spot}
use Rattle.hv_earlier.specs.Fates.{fate_of}
use Rattle.hv_earlier.specs.Lists.{unless_forgotten, exception_by, exceptions_from, list_at}
use Rattle.hv_earlier.specs.Places.{fate_when, fate_then, fate_if, fate_in, is_forgot, exception_then, only_those, exceptions_of, ended_exceptions, weight_from, IsSpot}
use Rattle.hv_links.specs.Links.{last_of, before_of}
use Rattle.hv_earlier.proofs.PlaceLaws.{fate-at, owners-go-on}
use Rattle.hv_earlier.proofs.WalkLaws.{total-same, walk-start, walk-step, none-from}

-- ---- totals

total-flat : {A B : Type 0} (weight : B → ℕ) (f : A → List B) (g : A → ℕ) → ((x : A) → total weight (f x) ≡ g x) → (xs : List A) → total weight (flat_map f xs) ≡ total g xs
total-flat weight f g same [] = refl
total-flat weight f g same (x ∷ xs) =
    ap (total weight) (flat_map-cons f x xs) ∙ total-append weight (f x) (flat_map f xs) ∙ (λ i. same x i + total-flat weight f g same xs i)

-- ---- ids up to the highest one

pub upto : ℕ → (ℕ → ℕ → ℕ) → ℕ → ℕ → ℕ
upto high weight write txn = only_if (nat_le write high) (weight write txn)

pub upto-none : (high : ℕ) (weight : ℕ → ℕ → ℕ) (write : ℕ) (owners : List ℕ) → high < write → total_from (upto high weight) write owners ≡ 0
unfolding upto
upto-none high weight write [] above = refl
upto-none high weight write (txn ∷ owners) above =
    let first : only_if (nat_le write high) (weight write txn) ≡ 0 = ap (λ b. only_if b (weight write txn)) (lt-leb write high above) in
    omega (arith, first, upto-none high weight (write + 1) owners (omega (arith, above)))

pub upto-front : (high : ℕ) (weight : ℕ → ℕ → ℕ) (write : ℕ) (owners more : List ℕ) → write + length owners ≡ high + 1
    → total_from (upto high weight) write (owners ++ more) ≡ total_from weight write owners
unfolding upto
upto-front high weight write [] more long = upto-none high weight write more (omega (arith, long))
upto-front high weight write (txn ∷ owners) more long =
    let first : only_if (nat_le write high) (weight write txn) ≡ weight write txn = ap (λ b. only_if b (weight write txn)) (le-leb write high (omega (arith, long))) in
    omega (arith, first, upto-front high weight (write + 1) owners more (omega (arith, long)))

-- ---- the list's own exceptions

weight_of : (Exception → ℕ) → List Fate → List ℕ → ℕ → ℕ → ℕ
weight_of weight fates forgotten write txn = total weight (exception_by forgotten write (numbered fates txn))

exceptions-total : (weight : Exception → ℕ) (fates : List Fate) (forgotten : List ℕ) (write : ℕ) (owners : List ℕ)
    → total weight (exceptions_from fates forgotten write owners) ≡ total_from (weight_of weight fates forgotten) write owners
unfolding weight_of
exceptions-total weight fates forgotten write [] = refl
exceptions-total weight fates forgotten write (txn ∷ owners) =
    total-append weight (exception_by forgotten write (numbered fates txn)) (exceptions_from fates forgotten (write + 1) owners)
    ∙ (λ i. total weight (exception_by forgotten write (numbered fates txn)) + exceptions-total weight fates forgotten (write + 1) owners i)

-- ---- one id, by the notes

any-mapped : {A B : Type 0} (q : B → Bool) (f : A → B) (p r : A → Bool) → ((x : A) → r x ≡ (p x && q (f x))) → (xs : List A)
    → list_any r xs ≡ list_any q (map f (filter p xs))
any-mapped q f p r same [] = refl
any-mapped q f p r same (x ∷ xs) = ap (λ b. b || list_any r xs) (same x) ∙ by (any-mapped q f p r same xs) (p x)
  where
    by : list_any r xs ≡ list_any q (map f (filter p xs)) → (b : Bool)
        → ((b && q (f x)) || list_any r xs) ≡ list_any q (map f (if b then x ∷ filter p xs else filter p xs))
    by rest true = ap (λ c. q (f x) || c) rest
    by rest false = rest

same-exception : (forgotten : List ForgotNote) (ids : List ℕ) (spot : Spot) → map forgot_id (filter (forgot_then spot.position spot.table) forgotten) ≡ ids
    → (write : ℕ) (of : Option Fate) → exception_then forgotten spot write of ≡ exception_by ids write of
same-exception forgotten ids spot are write None = refl
same-exception forgotten ids spot are write (Some fate.Open) = refl
same-exception forgotten ids spot are write (Some fate.Committed) = refl
same-exception forgotten ids spot are write (Some fate.Aborted) =
    ap (λ b. unless_forgotten b write)
    (any-mapped (λ other. other == write) forgot_id (forgot_then spot.position spot.table) (is_forgot spot write) (λ x. refl) forgotten ∙ ap (list_any (λ other. other == write)) are)

module _ (entries : List Entry) (spot : Spot) (is : IsSpot entries spot) where
  fates : List Fate
  fates = map fate_of (state_of (take spot.position entries)).transactions

  ids : List ℕ
  ids = forgotten_in (numbered (state_of (take spot.position entries)).tables spot.table)

  weighs : (Exception → ℕ) → ℕ → ℕ → ℕ
  weighs weight = upto spot.high (weight_of weight fates ids)

  module _ (notes : List TransactionNote) (as_noted : notes ≡ map brief (state_of entries).transactions) where
    known-fate : (txn : ℕ) → fate_in spot.position spot.transactions txn (numbered notes txn) ≡ numbered fates txn
    unfolding fates
    known-fate txn =
        (λ i. fate_in spot.position (is.transactions i) txn (numbered (as_noted i) txn)) ∙ fate-at entries spot.position txn

    id-total : (forgotten : List ForgotNote) → map forgot_id (filter (forgot_then spot.position spot.table) forgotten) ≡ ids
        → (weight : Exception → ℕ) (id : IdNote) → total weight (exceptions_of notes forgotten spot id) ≡ weight_in spot.table (weighs weight) id
    unfolding exceptions_of weighs upto weight_of
    id-total forgotten are weight id = by (id.table == spot.table) (nat_le id.write spot.high)
      where
        same : exception_then forgotten spot id.write (fate_in spot.position spot.transactions id.txn (numbered notes id.txn)) ≡ exception_by ids id.write (numbered fates id.txn)
        same = same-exception forgotten ids spot are id.write (fate_in spot.position spot.transactions id.txn (numbered notes id.txn)) ∙ ap (exception_by ids id.write) (known-fate id.txn)

        by : (b c : Bool) → total weight (only_those (b && c) (exception_then forgotten spot id.write (fate_in spot.position spot.transactions id.txn (numbered notes id.txn))))
            ≡ only_if b (only_if c (total weight (exception_by ids id.write (numbered fates id.txn))))
        by true true = ap (total weight) same
        by true false = refl
        by false c = refl

    ended-total : (forgotten : List ForgotNote) → map forgot_id (filter (forgot_then spot.position spot.table) forgotten) ≡ ids
        → (weight : Exception → ℕ) (ended : PlacedId) → total weight (ended_exceptions notes forgotten spot ended) ≡ ended_weight spot.table (weighs weight) ended
    unfolding ended_exceptions
    ended-total forgotten are weight ended = id-total forgotten are weight ended.id

  -- one that had committed before that place is no exception there
  settled-nothing : (weight : Exception → ℕ) (ended : PlacedId) → IsSettled (state_of entries) ended → ended.at < spot.position
      → ended_weight spot.table (weighs weight) ended ≡ 0
  unfolding weighs upto weight_of fates
  settled-nothing weight ended h before =
      by (ended.id.table == spot.table) (nat_le ended.id.write spot.high)
    where
      end_before : (end_of h.ending).at < spot.position
      end_before = let no_later : (end_of h.ending).at ≤ ended.at = h.before in omega (arith, no_later, before)

      noted : numbered (map brief (state_of entries).transactions) ended.id.txn ≡ Some (brief h.transaction)
      noted = numbered-map brief (state_of entries).transactions ended.id.txn ∙ ap (option_map brief) h.is

      then_committed : fate_then spot.position (option_map end_of h.transaction.ending) ≡ fate.Committed
      then_committed =
          ap (λ o. fate_then spot.position (option_map end_of o)) h.ended
          ∙ ap (λ b. fate_when b (end_of h.ending).committed) (lt-ltb (end_of h.ending).at spot.position end_before)
          ∙ ap (fate_when true) h.committed

      so : numbered (map fate_of (state_of (take spot.position entries)).transactions) ended.id.txn
          ≡ fate_if (nat_le ended.id.txn (length (state_of (take spot.position entries)).transactions)) fate.Committed
      so =
          sym (fate-at entries spot.position ended.id.txn)
          ∙ ap (fate_in spot.position (length (state_of (take spot.position entries)).transactions) ended.id.txn) noted
          ∙ ap (fate_if (nat_le ended.id.txn (length (state_of (take spot.position entries)).transactions))) then_committed

      nothing : (b : Bool) → total weight (exception_by ids ended.id.write (fate_if b fate.Committed)) ≡ 0
      nothing true = refl
      nothing false = refl

      none : total weight (exception_by ids ended.id.write (numbered (map fate_of (state_of (take spot.position entries)).transactions) ended.id.txn)) ≡ 0
      none = ap (λ o. total weight (exception_by ids ended.id.write o)) so ∙ nothing (nat_le ended.id.txn (length (state_of (take spot.position entries)).transactions))

      by : (b c : Bool) → only_if b (only_if c (total weight (exception_by ids ended.id.write (numbered (map fate_of (state_of (take spot.position entries)).transactions) ended.id.txn)))) ≡ 0
      by true true = none
      by true false = refl
      by false c = refl

  -- those that committed from that place on weigh as all
  settled-from : (notes : List TransactionNote) → notes ≡ map brief (state_of entries).transactions → (forgotten : List ForgotNote)
      → map forgot_id (filter (forgot_then spot.position spot.table) forgotten) ≡ ids → (weight : Exception → ℕ) (xs : List PlacedId)
      → AllByRecursion (IsSettled (state_of entries)) xs
      → total (weight_from notes forgotten spot spot.position weight) xs ≡ total (ended_weight spot.table (weighs weight)) xs
  settled-from notes as_noted forgotten are weight [] h = refl
  settled-from notes as_noted forgotten are weight (x ∷ xs) h =
      let first = by (nat_le spot.position x.at) refl (ended-total notes as_noted forgotten are weight x) (settled-nothing weight x h.0) in
      omega (arith, first, settled-from notes as_noted forgotten are weight xs h.1)
    where
      by : (b : Bool) → nat_le spot.position x.at ≡ b → total weight (ended_exceptions notes forgotten spot x) ≡ ended_weight spot.table (weighs weight) x
          → (x.at < spot.position → ended_weight spot.table (weighs weight) x ≡ 0)
          → only_if b (total weight (ended_exceptions notes forgotten spot x)) ≡ ended_weight spot.table (weighs weight) x
      by true is same none = same
      by false is same none = sym (none (leb-false spot.position x.at is))

  aborted-all : (notes : List TransactionNote) → notes ≡ map brief (state_of entries).transactions → (forgotten : List ForgotNote)
      → map forgot_id (filter (forgot_then spot.position spot.table) forgotten) ≡ ids → (weight : Exception → ℕ) (xs : List PlacedId)
      → total (weight_from notes forgotten spot 0 weight) xs ≡ total (ended_weight spot.table (weighs weight)) xs
  aborted-all notes as_noted forgotten are weight xs =
      total-same (weight_from notes forgotten spot 0 weight) (ended_weight spot.table (weighs weight))
      (λ x. ap (λ b. only_if b (total weight (ended_exceptions notes forgotten spot x))) (le-leb 0 x.at (omega arith)) ∙ ended-total notes as_noted forgotten are weight x) xs

  -- those of the table alone
  pending-some : (notes : List TransactionNote) → notes ≡ map brief (state_of entries).transactions → (forgotten : List ForgotNote)
      → map forgot_id (filter (forgot_then spot.position spot.table) forgotten) ≡ ids → (weight : Exception → ℕ) (xs : List IdNote)
      → total weight (flat_map (exceptions_of notes forgotten spot) (filter (is_in spot.table) xs)) ≡ total (weight_in spot.table (weighs weight)) xs
  pending-some notes as_noted forgotten are weight [] = refl
  pending-some notes as_noted forgotten are weight (x ∷ xs) =
      by (x.table == spot.table) refl (id-total notes as_noted forgotten are weight x) (pending-some notes as_noted forgotten are weight xs)
    where
      some : List IdNote
      some = filter (is_in spot.table) xs

      by : (b : Bool) → (x.table == spot.table) ≡ b → total weight (exceptions_of notes forgotten spot x) ≡ weight_in spot.table (weighs weight) x
          → total weight (flat_map (exceptions_of notes forgotten spot) (filter (is_in spot.table) xs)) ≡ total (weight_in spot.table (weighs weight)) xs
          → total weight (flat_map (exceptions_of notes forgotten spot) (if b then x ∷ filter (is_in spot.table) xs else filter (is_in spot.table) xs))
          ≡ weight_in spot.table (weighs weight) x + total (weight_in spot.table (weighs weight)) xs
      by true is first rest =
          let split = total-append weight (exceptions_of notes forgotten spot x) (flat_map (exceptions_of notes forgotten spot) (filter (is_in spot.table) xs)) in
          ap (total weight) (flat_map-cons (exceptions_of notes forgotten spot) x (filter (is_in spot.table) xs)) ∙ omega (arith, split, first, rest)
      by false is first rest =
          let nothing : weight_in spot.table (weighs weight) x ≡ 0 = ap (λ b. only_if b (weighs weight x.write x.txn)) is in
          omega (arith, nothing, rest)

  -- of the whole list
  list-total : (weight : Exception → ℕ)
      → total_from (weighs weight) 1 (owners_in (numbered (state_of entries).tables spot.table)) ≡ total weight (list_at entries spot.position spot.table).exceptions
  unfolding weighs fates ids
  list-total weight =
      let before = owners_in (numbered (state_of (take spot.position entries)).tables spot.table) in
      let goes = owners-go-on entries spot.position spot.table in
      let high : 1 + length before ≡ spot.high + 1 = (let given = is.high in omega (arith, given)) in
      ap (total_from (weighs weight) 1) goes.is
      ∙ upto-front spot.high (weight_of weight fates ids) 1 before goes.more high
      ∙ sym (exceptions-total weight fates ids 1 before)

  pub all-exceptions : (past : Past) → IsPast entries past → (notes : List TransactionNote) → notes ≡ map brief (state_of entries).transactions
      → (weight : Exception → ℕ)
      → total weight (flat_map (exceptions_of notes past.forgotten spot) (filter (is_in spot.table) past.pending))
      + total (weight_from notes past.forgotten spot 0 weight) past.aborted + total (weight_from notes past.forgotten spot spot.position weight) past.committed
      ≡ total weight (list_at entries spot.position spot.table).exceptions
  unfolding ids
  all-exceptions past kept notes as_noted weight =
      let forgot = kept.forgotten spot.position spot.table in
      let first = pending-some notes as_noted past.forgotten forgot weight past.pending in
      let second = aborted-all notes as_noted past.forgotten forgot weight past.aborted in
      let third = settled-from notes as_noted past.forgotten forgot weight past.committed kept.settled in
      let whole = kept.ids spot.table (weighs weight) in
      let list = list-total weight in
      omega (arith, first, second, third, whole, list)

-- ---- going back over the ids of the table

ended-other : (notes : List TransactionNote) (forgotten : List ForgotNote) (spot : Spot) (from : ℕ) (weight : Exception → ℕ) (x : PlacedId)
    → (x.id.table ≡ spot.table → ⊥) → weight_from notes forgotten spot from weight x ≡ 0
unfolding ended_exceptions exceptions_of
ended-other notes forgotten spot from weight x other = by (nat_le from x.at) (x.id.table == spot.table) (ne_eqb x.id.table spot.table other) (nat_le x.id.write spot.high)
  where
    by : (b c : Bool) → c ≡ false → (d : Bool)
        → only_if b (total weight (only_those (c && d) (exception_then forgotten spot x.id.write (fate_in spot.position spot.transactions x.id.txn (numbered notes x.id.txn))))) ≡ 0
    by true true e d = cc
    by true false e d = refl
    by false c e d = refl

module _ (notes : List TransactionNote) (forgotten : List ForgotNote) (spot : Spot) (from : ℕ) (weight : Exception → ℕ) where
  pub ended-start : (ids : List PlacedId)
      → total (weight_from notes forgotten spot from weight) (take (last_of spot.table (map table_of ids)) ids) ≡ total (weight_from notes forgotten spot from weight) ids
  ended-start ids = walk-start (weight_from notes forgotten spot from weight) spot.table (ended-other notes forgotten spot from weight) ids

  pub ended-step : (ids : List PlacedId) (at : ℕ) (x : PlacedId) → slice_get ids at ≡ Some x → x.id.table ≡ spot.table → from ≤ x.at
      → total (weight_from notes forgotten spot from weight) (take (suc at) ids)
      ≡ total (weight_from notes forgotten spot from weight) (take (before_of (suc at) (map table_of ids)) ids) + total weight (ended_exceptions notes forgotten spot x)
  ended-step ids at x got is le =
      let step = walk-step (weight_from notes forgotten spot from weight) spot.table (ended-other notes forgotten spot from weight) ids at x got is in
      let one = ap (λ b. only_if b (total weight (ended_exceptions notes forgotten spot x))) (le-leb from x.at le) in
      omega (arith, step, one)

  pub ended-none : (ids : List PlacedId) (at : ℕ) (x : PlacedId) → PlacesRise ids → slice_get ids at ≡ Some x → x.at < from
      → total (weight_from notes forgotten spot from weight) (take (suc at) ids) ≡ 0
  ended-none ids at x rise got before =
      none-from (weight_from notes forgotten spot from weight) from
      (λ y lt. ap (λ b. only_if b (total weight (ended_exceptions notes forgotten spot y))) (lt-leb from y.at lt)) ids at x rise got before
