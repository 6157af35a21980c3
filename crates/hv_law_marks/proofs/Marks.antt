-- Marks and faults of a trail with more items behind it.
use Rattle.std.proofs.Common.{◌≡◌, ℕ, ◌⊎◌, inl, inr, Bool, true, false, if◌then◌else◌, Option, Some, None, List, [], ◌∷◌, ◌++◌, map, refl, sym, ap, ◌∙◌, eq-eqb}
use Rattle.std.specs.List.{AllByRecursion}
use Rattle.std.proofs.lemmas.List.Elements.{All-contains, All-from_recursion, Contains-push_cases}
use Rattle.hv_base.specs.declared.ids.TxnId.{TxnId}
use Rattle.hv_shelf.specs.declared.place.Place.{Place}
use Rattle.hv_history.specs.declared.entry.Entry.{Entry}
use Rattle.hv_history.specs.State.{first_known}
use Rattle.hv_stands.proofs.Numbers.{none_is}
use Rattle.hv_trail.specs.declared.trail.Reader.{Reader}
use Rattle.hv_trail.specs.declared.trail.Reader.TheVariants.{Txn}
use Rattle.hv_trail.specs.declared.trail.Mark.TheVariants.{Wrote, Went, Broke}
use Rattle.hv_trail.specs.declared.trail.TrailItem.{TrailItem}
use Rattle.hv_trail.specs.declared.trail.TrailItem.TheVariants.{Noted, Marked}
use Rattle.hv_trail.specs.Trail.{is_reader, HasWritten, broken}
use Rattle.hv_law_marks.specs.Marked.{by_txn}
use Rattle.hv_law_marks.specs.Laws.{IsNoFaultOf, UnbrokenStays}

-- ---- marks

-- a mark behind one more item was there, or is that item
pub written-cases : (trail : List TrailItem) (item : TrailItem) (reader : Reader) (place : Place) → HasWritten (trail ++ item ∷ []) reader place
    → HasWritten trail reader place ⊎ (item ≡ Marked (Wrote reader place))
written-cases trail item reader place has = Contains-push_cases trail item (Marked (Wrote reader place)) has

pub written-before : (trail : List TrailItem) (item : TrailItem) (reader : Reader) (place : Place) → (item ≡ Marked (Wrote reader place) → ⊥)
    → HasWritten (trail ++ item ∷ []) reader place → HasWritten trail reader place
written-before trail item reader place other has = by (written-cases trail item reader place has)
  where
    by : HasWritten trail reader place ⊎ (item ≡ Marked (Wrote reader place)) → HasWritten trail reader place
    by (inl h) = h
    by (inr same) = absurd (other same)

pub entry-unwritten : (event : Entry) (reader : Reader) (place : Place) → Noted event ≡ Marked (Wrote reader place) → ⊥
entry-unwritten event reader place e = cc

pub fault-unwritten : (who : Option Reader) (put : Bool) (count : ℕ) (reader : Reader) (place : Place) → Marked (Broke who put count) ≡ Marked (Wrote reader place) → ⊥
fault-unwritten who put count reader place e = cc

pub same-written : (maker reader : Reader) (place other : Place) → Marked (Wrote maker place) ≡ Marked (Wrote reader other) → (maker ≡ reader) × (place ≡ other)
same-written maker reader place other e =
    let first : maker ≡ reader = cc in
    let second : place ≡ other = cc in
    (first, second)

same-id : (a b : TxnId) → Txn a ≡ Txn b → a ≡ b
same-id a b e = cc

pub same-txn : (n m : ℕ) → by_txn n ≡ by_txn m → n ≡ m
same-txn n m e = ap (λ (id : TxnId). id.0) (same-id (record { 0 = n }) (record { 0 = m }) e)

-- a trail of entries alone has none
abbrev IsEntry : TrailItem → Type 0
IsEntry (Noted event) = Unit {0}
IsEntry (Marked mark) = ⊥

all-entries : (book : List Entry) → AllByRecursion IsEntry (map Noted book)
all-entries [] = tt
all-entries (event ∷ book) = (tt, all-entries book)

pub entries-unwritten : (book : List Entry) (reader : Reader) (place : Place) → HasWritten (map Noted book) reader place → ⊥
entries-unwritten book reader place has =
    All-contains IsEntry (map Noted book) (Marked (Wrote reader place)) (All-from_recursion IsEntry (map Noted book) (all-entries book)) has

-- ---- faults

-- the first fault of both is that of the first one, or else of the second one
broken-joined : (is : Bool) (why : Bool × ℕ) (rest more : Option (Bool × ℕ))
    → (if is then Some why else first_known rest more) ≡ first_known (if is then Some why else rest) more
broken-joined true why rest more = refl
broken-joined false why rest more = refl

broken-append : (trail more : List TrailItem) (reader : Reader) → broken reader (trail ++ more) ≡ first_known (broken reader trail) (broken reader more)
broken-append [] more reader = refl
broken-append (Noted event ∷ trail) more reader = broken-append trail more reader
broken-append (Marked (Wrote by place) ∷ trail) more reader = broken-append trail more reader
broken-append (Marked (Went dir) ∷ trail) more reader = broken-append trail more reader
broken-append (Marked (Broke who put count) ∷ trail) more reader =
    ap (λ rest. if is_reader reader who then Some (put, count) else rest) (broken-append trail more reader)
    ∙ broken-joined (is_reader reader who) (put, count) (broken reader trail) (broken reader more)

both-none : (o p : Option (Bool × ℕ)) → first_known o p ≡ None → (o ≡ None) × (p ≡ None)
both-none None p e = (refl, e)
both-none (Some why) p e = cc

unbroken-both : (trail more : List TrailItem) (reader : Reader) → broken reader (trail ++ more) ≡ None → (broken reader trail ≡ None) × (broken reader more ≡ None)
unbroken-both trail more reader none = both-none (broken reader trail) (broken reader more) (sym (broken-append trail more reader) ∙ none)

pub unbroken-was : (trail more : List TrailItem) (reader : Reader) → broken reader (trail ++ more) ≡ None → broken reader trail ≡ None
unbroken-was trail more reader none = let both = unbroken-both trail more reader none in both.0

no-faults : (more : List TrailItem) (reader : Reader) → AllByRecursion (IsNoFaultOf reader) more → broken reader more ≡ None
no-faults [] reader each = refl
no-faults (Noted event ∷ more) reader each = no-faults more reader each.1
no-faults (Marked (Wrote by place) ∷ more) reader each = no-faults more reader each.1
no-faults (Marked (Went dir) ∷ more) reader each = no-faults more reader each.1
no-faults (Marked (Broke who put count) ∷ more) reader each =
    ap (λ (b : Bool). if b then Some (put, count) else broken reader more) each.0 ∙ no-faults more reader each.1

pub unbroken-stays : UnbrokenStays
unbroken-stays trail more reader each none =
    broken-append trail more reader ∙ ap (λ o. first_known o (broken reader more)) none ∙ no-faults more reader each

-- a transaction for which a call failed is broken
pub broke-it : (trail : List TrailItem) (txn : ℕ) (put : Bool) (count : ℕ) → broken (by_txn txn) (trail ++ Marked (Broke (Some (by_txn txn)) put count) ∷ []) ≡ None → ⊥
broke-it trail txn put count none =
    let mark : TrailItem = Marked (Broke (Some (by_txn txn)) put count) in
    let both = unbroken-both trail (mark ∷ []) (by_txn txn) none in
    none_is (broken (by_txn txn) (mark ∷ [])) (put, count) both.1 (ap (λ (b : Bool). if b then Some (put, count) else None) (eq-eqb txn txn refl))
