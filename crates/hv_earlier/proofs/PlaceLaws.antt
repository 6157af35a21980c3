-- An earlier place, by what the whole book says: how transactions stood there, and which ids of a table had been given.
use Rattle.std.proofs.Common.{◌≡◌, ℕ, zero, suc, ◌<◌, ◌≤◌, Bool, true, false, Option, Some, None, List, [], ◌∷◌, ◌++◌, length, map, take, drop, fold, refl, sym, ap, ◌∙◌, subst, arith}
use Rattle.std.specs.Prelude.{is_some, nat_le, IsSomeAnd}
use Rattle.std.specs.Option.{option_map}
use Rattle.std.specs.List.{slice_get, AllByRecursion}
use Rattle.std.proofs.lemmas.Bool.{lt-ltb, le-ltb, leb-true, leb-false}
use Rattle.std.proofs.lemmas.List.{map-append, length-map, length-take, length-drop, append-nil, append_assoc}
use Rattle.hv_meta.specs.hv_book.specs.hv_history.specs.declared.entry.Entry.{Entry}
use Rattle.hv_meta.specs.hv_book.specs.hv_history.specs.declared.entry.Entry.TheVariants as entry
use Rattle.hv_meta.specs.hv_book.specs.hv_history.specs.declared.state.Transaction.{Transaction}
use Rattle.hv_meta.specs.hv_book.specs.hv_history.specs.declared.state.Table.{Table}
use Rattle.hv_meta.specs.hv_book.specs.hv_history.specs.declared.state.Ending.{Ending}
use Rattle.hv_meta.specs.hv_book.specs.hv_history.specs.declared.state.Ending.TheVariants.{Committed, Aborted, Made, Dropped}
use Rattle.hv_meta.specs.hv_book.specs.hv_history.specs.State.{State, numbered, while_open, unless_ended, started, given_id, committed, ended, opened, acted, after, nothing_yet, state_of}
use Rattle.hv_meta.specs.hv_book.specs.hv_history.specs.Lasting.{TableLater}
use Rattle.hv_meta.specs.hv_book.specs.hv_history.proofs.LastingLaws.{goes-on-all}
use Rattle.hv_meta.specs.hv_book.specs.declared.notes.TableNote.{TableNote}
use Rattle.hv_meta.specs.hv_book.specs.Briefs.{brief, brief_table, end_of}
use Rattle.hv_meta.specs.hv_book.specs.Past.{owners_in}
use Rattle.hv_meta.specs.hv_book.proofs.NoteLaws.{map-same}
use Rattle.hv_meta.specs.hv_book.proofs.TextLaws.{get-front, numbered-map}
use Rattle.hv_meta.specs.hv_book.proofs.CommitLaws.{IsTold, EndIsTold}
use Rattle.hv_meta.specs.hv_book.proofs.BookLaws.{follows}
use Rattle.hv_earlier.specs.declared.fates.Fate.{Fate}
use Rattle.hv_earlier.specs.declared.fates.Fate.TheVariants as fate
use Rattle.hv_earlier.specs.Fates.{fate_by, fate_of}
use Rattle.hv_earlier.specs.Places.{fate_when, fate_then, fate_if, fate_in}

-- ---- the state behind a book goes on from that at an earlier place

go : (xs : List Entry) (position : ℕ) (state : State) → fold after state xs ≡ fold after (fold after state (take position xs)) (drop position xs)
go xs zero state = refl
go [] (suc position) state = refl
go (x ∷ xs) (suc position) state = go xs position (after state x)

pub go-on : (entries : List Entry) (position : ℕ) → state_of entries ≡ fold after (state_of (take position entries)) (drop position entries)
go-on entries position = go entries position nothing_yet

-- ---- how transactions stood

pub then_of : ℕ → Transaction → Fate
then_of position t = fate_then position (option_map end_of t.ending)

-- each Opened makes one that is open
pub opens : Entry → List Fate
opens (entry.Opened txn session number text) = fate.Open ∷ []
opens _ = []

pub opens_all : List Entry → List Fate
opens_all [] = []
opens_all (event ∷ more) = opens event ++ opens_all more

-- an end at that place or behind it changes nothing of how a transaction stood
module _ (position : ℕ) where
  ends-late : (ending : Ending) (f : Transaction → Transaction) → ((t : Transaction) → (f t).ending ≡ Some ending) → position ≤ (end_of ending).at
      → (t : Transaction) → then_of position (while_open f t) ≡ then_of position t
  unfolding then_of
  ends-late ending f ends late t = by t.ending refl
    where
      by : (o : Option Ending) → t.ending ≡ o → fate_then position (option_map end_of (unless_ended o t (f t)).ending) ≡ fate_then position (option_map end_of t.ending)
      by None is =
          ap (λ (o : Option Ending). fate_then position (option_map end_of o)) (ends t)
          ∙ ap (λ b. fate_when b (end_of ending).committed) (le-ltb (end_of ending).at position late)
          ∙ ap (λ (o : Option Ending). fate_then position (option_map end_of o)) (sym is)
      by (Some e) is = refl

  stays-so : (f : Transaction → Transaction) → ((t : Transaction) → (f t).ending ≡ t.ending) → (t : Transaction) → then_of position (while_open f t) ≡ then_of position t
  unfolding then_of
  stays-so f same t = by t.ending
    where
      by : (o : Option Ending) → fate_then position (option_map end_of (unless_ended o t (f t)).ending) ≡ fate_then position (option_map end_of t.ending)
      by None = ap (λ (o : Option Ending). fate_then position (option_map end_of o)) (same t)
      by (Some e) = refl

  nothing-opened : (ts us : List Transaction) → map (then_of position) us ≡ map (then_of position) ts → map (then_of position) us ≡ map (then_of position) ts ++ []
  nothing-opened ts us same = same ∙ sym (append-nil (map (then_of position) ts))

  then-next : (state : State) (event : Entry) → position ≤ state.entries
      → map (then_of position) (after state event).transactions ≡ map (then_of position) state.transactions ++ opens event
  unfolding acted opens then_of
  then-next state (entry.Opened txn session number text) late = map-append (then_of position) state.transactions (opened session number text ∷ [])
  then-next state (entry.Start txn statement) late =
      nothing-opened state.transactions _ (map-same (then_of position) (while_open (started state statement)) (stays-so (started state statement) (λ t. refl)) state.transactions txn.0)
  then-next state (entry.Given txn table write) late =
      nothing-opened state.transactions _ (map-same (then_of position) (while_open (given_id table.0 write.0)) (stays-so (given_id table.0 write.0) (λ t. refl)) state.transactions txn.0)
  then-next state (entry.Commit txn wrote) late =
      nothing-opened state.transactions _
      (map-same (then_of position) (while_open (committed state.entries wrote)) (ends-late (Committed state.entries wrote) (committed state.entries wrote) (λ t. refl) late) state.transactions txn.0)
  then-next state (entry.Abort txn cause) late =
      nothing-opened state.transactions _
      (map-same (then_of position) (while_open (ended (Aborted state.entries cause))) (ends-late (Aborted state.entries cause) (ended (Aborted state.entries cause)) (λ t. refl) late) state.transactions txn.0)
  then-next state (entry.Create txn table) late =
      nothing-opened state.transactions _
      (map-same (then_of position) (while_open (ended (Made state.entries table.0))) (ends-late (Made state.entries table.0) (ended (Made state.entries table.0)) (λ t. refl) late) state.transactions txn.0)
  then-next state (entry.Drop txn table) late =
      nothing-opened state.transactions _
      (map-same (then_of position) (while_open (ended (Dropped state.entries table.0))) (ends-late (Dropped state.entries table.0) (ended (Dropped state.entries table.0)) (λ t. refl) late) state.transactions txn.0)
  then-next state (entry.Boot run) late = nothing-opened state.transactions state.transactions refl
  then-next state (entry.Asked job table partition kind by) late = nothing-opened state.transactions state.transactions refl
  then-next state (entry.Picked job watermark) late = nothing-opened state.transactions state.transactions refl
  then-next state (entry.Published job low high mark) late = nothing-opened state.transactions state.transactions refl
  then-next state (entry.Empty job) late = nothing-opened state.transactions state.transactions refl
  then-next state (entry.Cleaned job) late = nothing-opened state.transactions state.transactions refl
  then-next state (entry.Next txn statement number text) late = nothing-opened state.transactions state.transactions refl
  then-next state (entry.Did txn statement wrote) late = nothing-opened state.transactions state.transactions refl
  then-next state (entry.Alter txn table) late = nothing-opened state.transactions state.transactions refl
  then-next state (entry.Failed job cause) late = nothing-opened state.transactions state.transactions refl
  then-next state (entry.Forgot table write) late = nothing-opened state.transactions state.transactions refl

  then-all : (more : List Entry) (state : State) → (0 < length more → position ≤ state.entries)
      → map (then_of position) (fold after state more).transactions ≡ map (then_of position) state.transactions ++ opens_all more
  unfolding opens_all
  then-all [] state late = sym (append-nil (map (then_of position) state.transactions))
  then-all (event ∷ more) state late =
      let here : position ≤ state.entries = late (omega arith) in
      then-all more (after state event) (λ some. omega (arith, here))
      ∙ ap (λ (fs : List Fate). fs ++ opens_all more) (then-next state event here)
      ∙ append_assoc (map (then_of position) state.transactions) (opens event) (opens_all more)

  -- all that ended before that place ended so there
  told-then : (done : List Entry) (t : Transaction) → length done ≤ position → EndIsTold done t → then_of position t ≡ fate_of t
  unfolding then_of
  told-then done t within told = by t.ending told
    where
      so : (e : Ending) → fate_when true (end_of e).committed ≡ fate_by (Some e)
      so (Committed place wrote) = refl
      so (Aborted place cause) = refl
      so (Made place table) = refl
      so (Dropped place table) = refl

      by : (o : Option Ending) → IsTold done o → fate_then position (option_map end_of o) ≡ fate_by o
      by None h = refl
      by (Some e) h = let below : (end_of e).at < length done = h.0 in ap (λ b. fate_when b (end_of e).committed) (lt-ltb (end_of e).at position (omega (arith, below, within))) ∙ so e

  told-all : (done : List Entry) (ts : List Transaction) → length done ≤ position → AllByRecursion (EndIsTold done) ts → map (then_of position) ts ≡ map fate_of ts
  told-all done [] within told = refl
  told-all done (t ∷ ts) within told = λ i. told-then done t within told.0 i ∷ told-all done ts within told.1 i

-- of the whole book's transactions those that were opened before that place, as they stood there
pub fates-then : (entries : List Entry) (position : ℕ)
    → map (then_of position) (state_of entries).transactions
    ≡ map fate_of (state_of (take position entries)).transactions ++ opens_all (drop position entries)
fates-then entries position =
    let front = take position entries in
    let more = drop position entries in
    let short = length-take position entries in
    let rest = length-drop position entries in
    let here = (follows front).entries in
    ap (λ (s : State). map (then_of position) s.transactions) (go-on entries position)
    ∙ then-all position more (state_of front) (λ some. omega (arith, some, short, rest, here))
    ∙ ap (λ (fs : List Fate). fs ++ opens_all more) (told-all position front (state_of front).transactions (omega (arith, short)) (follows front).commits.told)

-- ---- the one of a number in the front of a list

keep_if : {A : Type 0} → Bool → Option A → Option A
keep_if true o = o
keep_if false o = None

keep-none : {A : Type 0} (b : Bool) → keep_if {A = A} b None ≡ None
unfolding keep_if
keep-none true = refl
keep-none false = refl

past_end : {A : Type 0} (xs : List A) (n : ℕ) → length xs ≤ n → None ≡ slice_get xs n
past_end [] n le = refl
past_end (x ∷ xs) zero le = absurd (omega (arith, le))
past_end (x ∷ xs) (suc n) le = past_end xs n (omega (arith, le))

numbered-front : {A : Type 0} (xs ys : List A) (n : ℕ) → keep_if (nat_le n (length xs)) (numbered (xs ++ ys) n) ≡ numbered xs n
unfolding keep_if
numbered-front xs ys zero = keep-none (nat_le 0 (length xs))
numbered-front xs ys (suc n) = by (nat_le (suc n) (length xs)) refl
  where
    by : (b : Bool) → nat_le (suc n) (length xs) ≡ b → keep_if b (slice_get (xs ++ ys) n) ≡ slice_get xs n
    by true is = let le : suc n ≤ length xs = leb-true (suc n) (length xs) is in get-front xs ys n (omega (arith, le))
    by false is = let gt : length xs < suc n = leb-false (suc n) (length xs) is in past_end xs n (omega (arith, gt))

noted-fate : (position count k : ℕ) (o : Option Transaction) → fate_in position count k (option_map brief o) ≡ keep_if (nat_le k count) (option_map (then_of position) o)
unfolding keep_if then_of
noted-fate position count k None = sym (keep-none (nat_le k count))
noted-fate position count k (Some t) = by (nat_le k count)
  where
    by : (b : Bool) → fate_if b (fate_then position (option_map end_of t.ending)) ≡ keep_if b (Some (fate_then position (option_map end_of t.ending)))
    by true = refl
    by false = refl

-- how the transaction of a number stood at an earlier place
pub fate-at : (entries : List Entry) (position k : ℕ)
    → fate_in position (length (state_of (take position entries)).transactions) k (numbered (map brief (state_of entries).transactions) k)
    ≡ numbered (map fate_of (state_of (take position entries)).transactions) k
fate-at entries position k =
    let before = map fate_of (state_of (take position entries)).transactions in
    let count = length (state_of (take position entries)).transactions in
    let long : length before ≡ count = length-map (state_of (take position entries)).transactions fate_of in
    ap (fate_in position count k) (numbered-map brief (state_of entries).transactions k)
    ∙ noted-fate position count k (numbered (state_of entries).transactions k)
    ∙ ap (keep_if (nat_le k count)) (sym (numbered-map (then_of position) (state_of entries).transactions k) ∙ ap (λ (fs : List Fate). numbered fs k) (fates-then entries position))
    ∙ ap (λ n. keep_if (nat_le k n) (numbered (before ++ opens_all (drop position entries)) k)) (sym long)
    ∙ numbered-front before (opens_all (drop position entries)) k

-- ---- the ids of a table

-- those that were given before that place come first
pub record OwnersGoOn (before now : List ℕ) : Type 0 where
  pub more : List ℕ
  pub is : now ≡ before ++ more

pub owners-go-on : (entries : List Entry) (position table : ℕ)
    → OwnersGoOn (owners_in (numbered (state_of (take position entries)).tables table)) (owners_in (numbered (state_of entries).tables table))
owners-go-on entries position table =
    subst (λ (s : State). OwnersGoOn (owners_in (numbered (state_of (take position entries)).tables table)) (owners_in (numbered s.tables table)))
    (sym (go-on entries position)) (by (numbered (state_of (take position entries)).tables table) refl)
  where
    so : (o : Option Table) (t : Table) → IsSomeAnd o (TableLater t) → OwnersGoOn t.owners (owners_in o)
    so None t is = absurd is
    so (Some u) t is = record { more = is.owners.more; is = is.owners.is }

    by : (o : Option Table) → numbered (state_of (take position entries)).tables table ≡ o
        → OwnersGoOn (owners_in o) (owners_in (numbered (fold after (state_of (take position entries)) (drop position entries)).tables table))
    by None here = record { more = owners_in (numbered (fold after (state_of (take position entries)) (drop position entries)).tables table); is = refl }
    by (Some t) here =
        so (numbered (fold after (state_of (take position entries)) (drop position entries)).tables table) t
        ((goes-on-all (drop position entries) (state_of (take position entries))).tables table t here)

-- ---- tables that were there

pub high-of : (note : TableNote) (o : Option Table) → Some note ≡ option_map brief_table o → note.high ≡ length (owners_in o)
high-of note None is = cc
high-of note (Some t) is = let same : note ≡ brief_table t = cc in ap (λ (n : TableNote). n.high) same

pub no-owners : (o : Option Table) → None ≡ option_map brief_table o → length (owners_in o) ≡ 0
no-owners None is = refl
no-owners (Some t) is = cc

-- a table that was there is there
pub missing-table : {X : Type 0} (entries : List Entry) (position n : ℕ) → None ≡ option_map brief_table (numbered (state_of entries).tables n)
    → is_some (numbered (state_of (take position entries)).tables n) ≡ true → X
missing-table {X = X} entries position n none there = by (numbered (state_of (take position entries)).tables n) refl there
  where
    so : (t : Table) (now : Option Table) → None ≡ option_map brief_table now → IsSomeAnd now (TableLater t) → X
    so t None e later = absurd later
    so t (Some u) e later = cc

    by : (o : Option Table) → numbered (state_of (take position entries)).tables n ≡ o → is_some o ≡ true → X
    by None is lives = cc
    by (Some t) is lives =
        so t (numbered (state_of entries).tables n) none
        (subst (λ (state : State). IsSomeAnd (numbered state.tables n) (TableLater t)) (sym (go-on entries position))
        ((goes-on-all (drop position entries) (state_of (take position entries))).tables n t is))
