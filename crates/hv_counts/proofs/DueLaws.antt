-- What the notes say of the commits of a table at an earlier place is what these say there, each as often.
use Rattle.std.proofs.Common.{◌≡◌, ℕ, suc, ◌+◌, ◌<◌, Bool, true, false, Option, Some, None, List, [], ◌∷◌, ◌++◌, length, map, filter, take, drop, refl, sym, ap, ◌∙◌, subst, arith}
use Rattle.std.specs.Prelude.{◌==◌, ◌&&◌, nat_le, if◌then◌else◌, IsSomeAnd}
use Rattle.std.specs.Option.{option_map}
use Rattle.std.specs.List.{slice_get, flat_map}
use Rattle.std.proofs.lemmas.Bool.{lt-leb, le-leb, ne_eqb}
use Rattle.std.proofs.lemmas.List.Concat.{flat_map-cons}
use Rattle.hv_base.specs.declared.ids.Touch.{Touch}
use Rattle.hv_history.specs.declared.entry.Entry.{Entry}
use Rattle.hv_history.specs.declared.state.Transaction.{Transaction}
use Rattle.hv_history.specs.declared.state.Ending.{Ending}
use Rattle.hv_history.specs.declared.state.Ending.TheVariants.{Committed, Aborted, Made, Dropped}
use Rattle.hv_history.specs.State.{State, numbered, state_of}
use Rattle.hv_history.specs.Lasting.{Later}
use Rattle.hv_history.proofs.LastingLaws.{goes-on-all}
use Rattle.hv_ids.specs.declared.notes.IdNote.{IdNote}
use Rattle.hv_ids.specs.declared.notes.PlacedId.{PlacedId}
use Rattle.hv_ids.specs.Ids.{table_of, is_in}
use Rattle.hv_links.specs.Links.{last_of, before_of}
use Rattle.hv_book.specs.Commits.{wrote_by, wrote_in}
use Rattle.hv_book.specs.Past.{Past, IsPast, owners_in, total, total_from, only_if, weight_in, ended_weight}
use Rattle.hv_book.proofs.IdLaws.{total-append}
use Rattle.hv_book.proofs.TextLaws.{numbered-map}
use Rattle.hv_earlier.specs.Fates.{fate_by, fate_of}
use Rattle.hv_earlier.specs.Places.{only_those}
use Rattle.hv_earlier.proofs.PlaceLaws.{go-on, owners-go-on}
use Rattle.hv_earlier.proofs.WalkLaws.{total-same, walk-start, walk-step}
use Rattle.hv_counts.specs.declared.due.Due.{Due}
use Rattle.hv_counts.specs.declared.spot.Spot.{Spot}
use Rattle.hv_counts.specs.Counts.{dues_of, dues_from, dues_in}
use Rattle.hv_counts.specs.Places.{IsSpot, is_done, dues_then, dues_weight}

-- ---- what a transaction had written at a place

module _ (entries : List Entry) (position txn : ℕ) where
  abbrev now_there : Option Transaction
  now_there = numbered (state_of entries).transactions txn

  abbrev then_there : Option Transaction
  then_there = numbered (state_of (take position entries)).transactions txn

  abbrev pub wrote_if : Bool → Option (List Touch) → Option (List Touch)
  wrote_if true wrote = wrote
  wrote_if false wrote = None

  -- one that had ended is the same now
  ended-now : (t : Transaction) (e : Ending) → then_there ≡ Some t → t.ending ≡ Some e → wrote_in now_there ≡ wrote_by t.ending
  ended-now t e here is =
      by now_there
      (subst (λ (state : State). IsSomeAnd (numbered state.transactions txn) (Later t)) (sym (go-on entries position))
      ((goes-on-all (drop position entries) (state_of (take position entries))).transactions txn t here))
    where
      by : (o : Option Transaction) → IsSomeAnd o (Later t) → wrote_in o ≡ wrote_by t.ending
      by None later = absurd later
      by (Some u) later = ap (λ (v : Transaction). wrote_by v.ending) (later.ending e is)

  pub wrote-then : wrote_in then_there ≡ wrote_if (is_done (numbered (map fate_of (state_of (take position entries)).transactions) txn)) (wrote_in now_there)
  wrote-then = by then_there refl ∙ ap (λ o. wrote_if (is_done o) (wrote_in now_there)) (sym (numbered-map fate_of (state_of (take position entries)).transactions txn))
    where
      of : (t : Transaction) → then_there ≡ Some t → (e : Option Ending) → t.ending ≡ e → wrote_by e ≡ wrote_if (is_done (Some (fate_by e))) (wrote_in now_there)
      of t here None is = refl
      of t here (Some (Committed place wrote)) is = sym (ended-now t (Committed place wrote) here is ∙ ap wrote_by is)
      of t here (Some (Aborted place cause)) is = refl
      of t here (Some (Made place table)) is = sym (ended-now t (Made place table) here is ∙ ap wrote_by is)
      of t here (Some (Dropped place table)) is = sym (ended-now t (Dropped place table) here is ∙ ap wrote_by is)

      by : (o : Option Transaction) → then_there ≡ o → wrote_in o ≡ wrote_if (is_done (option_map fate_of o)) (wrote_in now_there)
      by None here = refl
      by (Some t) here = of t here t.ending refl

-- ---- ids up to the highest one

upto : ℕ → (ℕ → ℕ → ℕ) → ℕ → ℕ → ℕ
upto high weight write txn = only_if (nat_le write high) (weight write txn)

upto-none : (high : ℕ) (weight : ℕ → ℕ → ℕ) (write : ℕ) (owners : List ℕ) → high < write → total_from (upto high weight) write owners ≡ 0
unfolding upto
upto-none high weight write [] above = refl
upto-none high weight write (txn ∷ owners) above =
    let first : only_if (nat_le write high) (weight write txn) ≡ 0 = ap (λ b. only_if b (weight write txn)) (lt-leb write high above) in
    omega (arith, first, upto-none high weight (write + 1) owners (omega (arith, above)))

upto-front : (high : ℕ) (weight : ℕ → ℕ → ℕ) (write : ℕ) (owners more : List ℕ) → write + length owners ≡ high + 1
    → total_from (upto high weight) write (owners ++ more) ≡ total_from weight write owners
unfolding upto
upto-front high weight write [] more long = upto-none high weight write more (omega (arith, long))
upto-front high weight write (txn ∷ owners) more long =
    let first : only_if (nat_le write high) (weight write txn) ≡ weight write txn = ap (λ b. only_if b (weight write txn)) (le-leb write high (omega (arith, long))) in
    omega (arith, first, upto-front high weight (write + 1) owners more (omega (arith, long)))

-- ---- all ids of a table

module _ (entries : List Entry) (spot : Spot) (is : IsSpot entries spot) (weight : Due → ℕ) where
  abbrev before : List Transaction
  before = (state_of (take spot.position entries)).transactions

  weigh : ℕ → ℕ → ℕ
  weigh write txn = total weight (dues_of spot.table write (wrote_in (numbered before txn)))

  from-total : (write : ℕ) (owners : List ℕ) → total weight (dues_from before spot.table write owners) ≡ total_from weigh write owners
  unfolding weigh
  from-total write [] = refl
  from-total write (txn ∷ owners) =
      total-append weight (dues_of spot.table write (wrote_in (numbered before txn))) (dues_from before spot.table (write + 1) owners)
      ∙ ap (λ n. total weight (dues_of spot.table write (wrote_in (numbered before txn))) + n) (from-total (write + 1) owners)

  weighs : ℕ → ℕ → ℕ
  weighs = upto spot.high weigh

  id-total : (id : IdNote) → total weight (dues_then entries spot id) ≡ weight_in spot.table weighs id
  unfolding dues_then weighs weigh upto
  id-total id = by (id.table == spot.table) (nat_le id.write spot.high)
    where
      by : (b c : Bool) → total weight (only_those (b && c) (dues_of spot.table id.write (wrote_in (numbered before id.txn))))
          ≡ only_if b (only_if c (total weight (dues_of spot.table id.write (wrote_in (numbered before id.txn)))))
      by true true = refl
      by true false = refl
      by false c = refl

  ended-total : (xs : List PlacedId) → total (dues_weight entries spot weight) xs ≡ total (ended_weight spot.table weighs) xs
  ended-total xs = total-same (dues_weight entries spot weight) (ended_weight spot.table weighs) (λ x. id-total x.id) xs

  -- those of the table alone
  pending-total : (xs : List IdNote) → total weight (flat_map (dues_then entries spot) (filter (is_in spot.table) xs)) ≡ total (weight_in spot.table weighs) xs
  pending-total [] = refl
  pending-total (x ∷ xs) = by (x.table == spot.table) refl (id-total x) (pending-total xs)
    where
      by : (b : Bool) → (x.table == spot.table) ≡ b → total weight (dues_then entries spot x) ≡ weight_in spot.table weighs x
          → total weight (flat_map (dues_then entries spot) (filter (is_in spot.table) xs)) ≡ total (weight_in spot.table weighs) xs
          → total weight (flat_map (dues_then entries spot) (if b then x ∷ filter (is_in spot.table) xs else filter (is_in spot.table) xs))
          ≡ weight_in spot.table weighs x + total (weight_in spot.table weighs) xs
      by true same first rest =
          let split = total-append weight (dues_then entries spot x) (flat_map (dues_then entries spot) (filter (is_in spot.table) xs)) in
          ap (total weight) (flat_map-cons (dues_then entries spot) x (filter (is_in spot.table) xs)) ∙ omega (arith, split, first, rest)
      by false same first rest =
          let nothing : weight_in spot.table weighs x ≡ 0 = ap (λ b. only_if b (weighs x.write x.txn)) same in
          omega (arith, nothing, rest)

  in-total : total_from weighs 1 (owners_in (numbered (state_of entries).tables spot.table)) ≡ total weight (dues_in (state_of (take spot.position entries)) spot.table)
  unfolding weighs
  in-total =
      let owners = owners_in (numbered (state_of (take spot.position entries)).tables spot.table) in
      let goes = owners-go-on entries spot.position spot.table in
      let high : 1 + length owners ≡ spot.high + 1 = (let given = is.high in omega (arith, given)) in
      ap (total_from (upto spot.high weigh) 1) goes.is
      ∙ upto-front spot.high weigh 1 owners goes.more high
      ∙ sym (from-total 1 owners)

  pub all-dues : (past : Past) → IsPast entries past
      → total weight (flat_map (dues_then entries spot) (filter (is_in spot.table) past.pending))
      + total (dues_weight entries spot weight) past.aborted + total (dues_weight entries spot weight) past.committed
      ≡ total weight (dues_in (state_of (take spot.position entries)) spot.table)
  all-dues past kept =
      let first = pending-total past.pending in
      let second = ended-total past.aborted in
      let third = ended-total past.committed in
      let whole = kept.ids spot.table weighs in
      omega (arith, first, second, third, whole, in-total)

-- ---- going back over the ids of the table

module _ (entries : List Entry) (spot : Spot) (weight : Due → ℕ) where
  other : (x : PlacedId) → (x.id.table ≡ spot.table → ⊥) → dues_weight entries spot weight x ≡ 0
  unfolding dues_then
  other x apart = by (x.id.table == spot.table) (ne_eqb x.id.table spot.table apart) (nat_le x.id.write spot.high)
    where
      by : (b : Bool) → b ≡ false → (c : Bool)
          → total weight (only_those (b && c) (dues_of spot.table x.id.write (wrote_in (numbered (state_of (take spot.position entries)).transactions x.id.txn)))) ≡ 0
      by true e c = cc
      by false e c = refl

  pub back-start : (ids : List PlacedId)
      → total (dues_weight entries spot weight) (take (last_of spot.table (map table_of ids)) ids) ≡ total (dues_weight entries spot weight) ids
  back-start ids = walk-start (dues_weight entries spot weight) spot.table other ids

  pub back-step : (ids : List PlacedId) (at : ℕ) (x : PlacedId) → slice_get ids at ≡ Some x → x.id.table ≡ spot.table
      → total (dues_weight entries spot weight) (take (suc at) ids)
      ≡ total (dues_weight entries spot weight) (take (before_of (suc at) (map table_of ids)) ids) + total weight (dues_then entries spot x.id)
  back-step ids at x got same = walk-step (dues_weight entries spot weight) spot.table other ids at x got same
