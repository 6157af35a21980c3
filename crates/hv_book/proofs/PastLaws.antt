-- What is kept for the earlier places of a book goes with its entries.
use Rattle.std.proofs.Common.{◌≡◌, ℕ, zero, suc, ◌+◌, ◌<◌, ◌≤◌, Bool, true, false, Option, Some, None, List, [], ◌∷◌, ◌++◌, length, map, filter, take, refl, sym, ap, ◌∙◌, subst, arith, inl, inr}
use Rattle.std.specs.Prelude.{if◌then◌else◌, ◌==◌, ◌&&◌, ◌⊎◌, not, is_none, is_some, nat_lt, IsSomeAnd}
use Rattle.std.specs.Option.{option_map}
use Rattle.std.specs.List.{slice_get, AllByRecursion}
use Rattle.std.proofs.lemmas.Bool.{eqb-true, lt-ltb, ltb-true, le-ltb, ltb-false}
use Rattle.std.proofs.lemmas.List.{length-append, take-append-le, take_all}
use Rattle.hv_history.specs.declared.entry.Entry.{Entry}
use Rattle.hv_history.specs.declared.entry.Entry.TheVariants as entry
use Rattle.hv_history.specs.declared.state.Table.{Table}
use Rattle.hv_history.specs.declared.state.Transaction.{Transaction}
use Rattle.hv_history.specs.declared.state.Written.{Written}
use Rattle.hv_history.specs.declared.state.Ending.{Ending}
use Rattle.hv_history.specs.declared.state.Ending.TheVariants.{Committed, Made, Dropped}
use Rattle.hv_history.specs.State.{State, numbered, changed, while_open, unless_ended, committed, ended, owned, dropped, forgot, written_to, tables_behind, commits, made_by, first_of, acted, after, state_of}
use Rattle.hv_history.specs.Lasting.{Later}
use Rattle.hv_history.proofs.LastingLaws.{goes-on}
use Rattle.hv_ids.specs.declared.notes.IdNote.{IdNote}
use Rattle.hv_ids.specs.declared.notes.PlacedId.{PlacedId}
use Rattle.hv_book.specs.declared.past.ForgotNote.{ForgotNote}
use Rattle.hv_book.specs.declared.past.SpanNote.{SpanNote}
use Rattle.hv_book.specs.Notes.{Notes, notes_of, add_if, is_open_note, is_open_in}
use Rattle.hv_book.specs.Briefs.{brief, brief_table, end_of}
use Rattle.hv_book.specs.Past.{Past, no_past, ended_id, ended_if, ended_of, id_given, given_then, over_if, drop_span, new_span, forgot_note, past_behind, owners_in, forgotten_in, total, total_from, weight_in, ended_weight, HasCommitted, IsSettled, IsBehind, PlacesRise, IsBelowLimit, IsDroppedBelow, is_before, live_if, live_then, table_live, forgot_then, forgot_id, IsPast}
use Rattle.hv_book.proofs.TextLaws.{numbered-map, length-snoc, all-snoc}
use Rattle.hv_book.proofs.CommitLaws.{all-changed}
use Rattle.hv_book.proofs.HeldLaws.{same_or_not, numbered-here, numbered-other}
use Rattle.hv_book.proofs.TableLaws.{kept-changed, has-more, behind-keeps, owners-next, forgotten-next}
use Rattle.hv_book.proofs.BookLaws.{follows, state_of-snoc}
use Rattle.hv_book.proofs.IdLaws.{all-more, all-append, all-numbered, over-keeps, given-total, owners-total, length-changed}
use Rattle.hv_book.proofs.GivenLaws.{given-early, given-late, given-below, given-rising}

abbrev IdsAre : State → Past → Type 0
IdsAre state past = (table : ℕ) (weight : ℕ → ℕ → ℕ) → total_from weight 1 (owners_in (numbered state.tables table))
    ≡ total (weight_in table weight) past.pending + total (ended_weight table weight) past.aborted + total (ended_weight table weight) past.committed

ids-next : (place : ℕ) (state : State) (notes : Notes) (event : Entry) (past : Past) → notes.tables ≡ map brief_table state.tables
    → IdsAre state past → IdsAre (after state event) (past_behind place notes event past)
ids-next place state notes (entry.Given txn other write) past same h table weight =
    let noted : numbered notes.tables other.0 ≡ option_map brief_table (numbered state.tables other.0) =
    ap (λ ts. numbered ts other.0) same ∙ numbered-map brief_table state.tables other.0
    in
    let more =
    ap (λ o. total (weight_in table weight) (id_given txn.0 other.0 o past.pending)) noted
    ∙ given-total table weight txn.0 other.0 (numbered state.tables other.0) past.pending
    in
    let owners =
    ap (total_from weight 1) (sym (owners-next table state (entry.Given txn other write))) ∙ owners-total table weight txn.0 other.0 state.tables
    in
    omega (arith, more, owners, h table weight)
ids-next place state notes (entry.Commit txn wrote) past same h table weight =
    let owners = ap (total_from weight 1) (owners-next table state (entry.Commit txn wrote)) in
    omega (arith, owners, over-keeps table weight (is_open_in notes txn.0) txn.0 place past.pending past.committed, h table weight)
ids-next place state notes (entry.Abort txn cause) past same h table weight =
    let owners = ap (total_from weight 1) (owners-next table state (entry.Abort txn cause)) in
    omega (arith, owners, over-keeps table weight (is_open_in notes txn.0) txn.0 place past.pending past.aborted, h table weight)
ids-next place state notes (entry.Create txn other) past same h table weight =
    let owners = ap (total_from weight 1) (owners-next table state (entry.Create txn other)) in
    omega (arith, owners, over-keeps table weight (is_open_in notes txn.0) txn.0 place past.pending past.committed, h table weight)
ids-next place state notes (entry.Drop txn other) past same h table weight =
    let owners = ap (total_from weight 1) (owners-next table state (entry.Drop txn other)) in
    omega (arith, owners, over-keeps table weight (is_open_in notes txn.0) txn.0 place past.pending past.committed, h table weight)
ids-next place state notes (entry.Boot run) past same h table weight = sym (ap (total_from weight 1) (owners-next table state (entry.Boot run))) ∙ h table weight
ids-next place state notes (entry.Opened txn session number text) past same h table weight =
    sym (ap (total_from weight 1) (owners-next table state (entry.Opened txn session number text))) ∙ h table weight
ids-next place state notes (entry.Start txn statement) past same h table weight = sym (ap (total_from weight 1) (owners-next table state (entry.Start txn statement))) ∙ h table weight
ids-next place state notes (entry.Asked job other partition kind by) past same h table weight =
    sym (ap (total_from weight 1) (owners-next table state (entry.Asked job other partition kind by))) ∙ h table weight
ids-next place state notes (entry.Picked job watermark) past same h table weight = sym (ap (total_from weight 1) (owners-next table state (entry.Picked job watermark))) ∙ h table weight
ids-next place state notes (entry.Published job low high mark) past same h table weight =
    sym (ap (total_from weight 1) (owners-next table state (entry.Published job low high mark))) ∙ h table weight
ids-next place state notes (entry.Empty job) past same h table weight = sym (ap (total_from weight 1) (owners-next table state (entry.Empty job))) ∙ h table weight
ids-next place state notes (entry.Cleaned job) past same h table weight = sym (ap (total_from weight 1) (owners-next table state (entry.Cleaned job))) ∙ h table weight
ids-next place state notes (entry.Next txn statement number text) past same h table weight = sym (ap (total_from weight 1) (owners-next table state (entry.Next txn statement number text))) ∙ h table weight
ids-next place state notes (entry.Did txn statement wrote) past same h table weight = sym (ap (total_from weight 1) (owners-next table state (entry.Did txn statement wrote))) ∙ h table weight
ids-next place state notes (entry.Alter txn its_table) past same h table weight = sym (ap (total_from weight 1) (owners-next table state (entry.Alter txn its_table))) ∙ h table weight
ids-next place state notes (entry.Failed job cause) past same h table weight = sym (ap (total_from weight 1) (owners-next table state (entry.Failed job cause))) ∙ h table weight
ids-next place state notes (entry.Forgot other write) past same h table weight = sym (ap (total_from weight 1) (owners-next table state (entry.Forgot other write))) ∙ h table weight

-- ---- those that were settled

committed-later : (state : State) (event : Entry) (txn at : ℕ) → HasCommitted state txn at → HasCommitted (after state event) txn at
committed-later state event txn at h = by (numbered (after state event).transactions txn) refl ((goes-on state event).transactions txn h.transaction h.is)
  where
    by : (o : Option Transaction) → numbered (after state event).transactions txn ≡ o → IsSomeAnd o (Later h.transaction) → HasCommitted (after state event) txn at
    by None is later = absurd later
    by (Some now) is later =
        let same : now ≡ h.transaction = later.ending h.ending h.ended in
        record {
          transaction = now;
          is = is;
          ending = h.ending;
          ended = ap (λ (t : Transaction). t.ending) same ∙ h.ended;
          committed = h.committed;
          before = h.before;
        }

-- of a transaction that was open
ends-committed : (state : State) (ts : List Transaction) (f : Transaction → Transaction) (ending : Ending) (txn at : ℕ) (b : Bool)
    → state.transactions ≡ changed (while_open f) ts txn → ((t : Transaction) → (f t).ending ≡ Some ending)
    → (end_of ending).committed ≡ true → (end_of ending).at ≤ at → is_open_note (option_map brief (numbered ts txn)) ≡ b → b ≡ true → HasCommitted state txn at
ends-committed state ts f ending txn at b next ends is_committed before was is_open = by (numbered ts txn) refl (was ∙ is_open)
  where
    ended_so : (t : Transaction) (o : Option Ending) → t.ending ≡ o → is_none (option_map end_of o) ≡ true → (unless_ended o t (f t)).ending ≡ Some ending
    ended_so t None is unended = ends t
    ended_so t (Some e) is unended = cc

    by : (o : Option Transaction) → numbered ts txn ≡ o → is_open_note (option_map brief o) ≡ true → HasCommitted state txn at
    by None is opens = cc
    by (Some t) is opens = record {
      transaction = while_open f t;
      is = ap (λ (xs : List Transaction). numbered xs txn) next ∙ numbered-here (while_open f) ts txn ∙ ap (option_map (while_open f)) is;
      ending = ending;
      ended = ended_so t t.ending refl opens;
      committed = is_committed;
      before = before;
    }

-- what holds of each id that goes over
ended-all : (P : PlacedId → Type 0) (txn place : ℕ) → ((id : IdNote) → id.txn ≡ txn → P (ended_id place id)) → (ids : List IdNote) → AllByRecursion P (ended_of txn place ids)
ended-all P txn place step [] = tt
ended-all P txn place step (id ∷ ids) = by (ended-all P txn place step ids) (id.txn == txn) refl
  where
    by : AllByRecursion P (ended_of txn place ids) → (b : Bool) → (id.txn == txn) ≡ b → AllByRecursion P (ended_if b place id (ended_of txn place ids))
    by rest true is = (step id (eqb-true id.txn txn is), rest)
    by rest false is = rest

over-all : (P : PlacedId → Type 0) (b : Bool) (txn place : ℕ) (ids : List IdNote) (those : List PlacedId)
    → (b ≡ true → (id : IdNote) → id.txn ≡ txn → P (ended_id place id)) → AllByRecursion P those → AllByRecursion P (over_if b txn place ids those)
over-all P true txn place ids those step h = all-append P those (ended_of txn place ids) h (ended-all P txn place (step refl) ids)
over-all P false txn place ids those step h = h

over-settled : (state : State) (b : Bool) (txn place : ℕ) (ids : List IdNote) (those : List PlacedId)
    → (b ≡ true → HasCommitted state txn place) → AllByRecursion (IsSettled state) those → AllByRecursion (IsSettled state) (over_if b txn place ids those)
over-settled state b txn place ids those ends h =
    over-all (IsSettled state) b txn place ids those (λ opened id same. subst (λ k. HasCommitted state k place) (sym same) (ends opened)) h

settled-next : (place : ℕ) (state : State) (notes : Notes) (event : Entry) (past : Past) → state.entries ≡ place → notes.transactions ≡ map brief state.transactions
    → AllByRecursion (IsSettled state) past.committed → AllByRecursion (IsSettled (after state event)) (past_behind place notes event past).committed
unfolding acted
settled-next place state notes event past at same h = by event (all-more (IsSettled state) (IsSettled (after state event)) (λ e. committed-later state event e.id.txn e.at) past.committed h)
  where
    was : (txn : ℕ) → is_open_note (option_map brief (numbered state.transactions txn)) ≡ is_open_in notes txn
    was txn = ap is_open_note (sym (ap (λ ts. numbered ts txn) same ∙ numbered-map brief state.transactions txn))

    here : state.entries ≤ place
    here = omega (arith, at)

    by : (event : Entry) → AllByRecursion (IsSettled (after state event)) past.committed → AllByRecursion (IsSettled (after state event)) (past_behind place notes event past).committed
    by (entry.Commit txn wrote) k =
        over-settled (after state (entry.Commit txn wrote)) (is_open_in notes txn.0) txn.0 place past.pending past.committed
        (ends-committed (after state (entry.Commit txn wrote)) state.transactions (committed state.entries wrote) (Committed state.entries wrote) txn.0 place (is_open_in notes txn.0)
        refl (λ t. refl) refl here (was txn.0)) k
    by (entry.Create txn table) k =
        over-settled (after state (entry.Create txn table)) (is_open_in notes txn.0) txn.0 place past.pending past.committed
        (ends-committed (after state (entry.Create txn table)) state.transactions (ended (Made state.entries table.0)) (Made state.entries table.0) txn.0 place (is_open_in notes txn.0)
        refl (λ t. refl) refl here (was txn.0)) k
    by (entry.Drop txn table) k =
        over-settled (after state (entry.Drop txn table)) (is_open_in notes txn.0) txn.0 place past.pending past.committed
        (ends-committed (after state (entry.Drop txn table)) state.transactions (ended (Dropped state.entries table.0)) (Dropped state.entries table.0) txn.0 place (is_open_in notes txn.0)
        refl (λ t. refl) refl here (was txn.0)) k
    by (entry.Boot run) k = k
    by (entry.Opened txn session number text) k = k
    by (entry.Start txn statement) k = k
    by (entry.Given txn table write) k = k
    by (entry.Abort txn cause) k = k
    by (entry.Asked job table partition kind asker) k = k
    by (entry.Picked job watermark) k = k
    by (entry.Published job low high mark) k = k
    by (entry.Empty job) k = k
    by (entry.Cleaned job) k = k
    by (entry.Next txn statement number text) k = k
    by (entry.Did txn statement wrote) k = k
    by (entry.Alter txn table) k = k
    by (entry.Failed job cause) k = k
    by (entry.Forgot table write) k = k

-- ---- their places

over-below : (b : Bool) (txn place : ℕ) (ids : List IdNote) (those : List PlacedId) → AllByRecursion (IsBehind place) those
    → AllByRecursion (IsBehind (place + 1)) (over_if b txn place ids those)
over-below b txn place ids those h =
    over-all (IsBehind (place + 1)) b txn place ids those (λ opened id same. omega arith)
    (all-more (IsBehind place) (IsBehind (place + 1)) (λ e le. omega (arith, le)) those h)

below-next : (place : ℕ) (notes : Notes) (event : Entry) (past : Past) → AllByRecursion (IsBehind place) past.committed
    → AllByRecursion (IsBehind (place + 1)) (past_behind place notes event past).committed
below-next place notes event past h = by event (all-more (IsBehind place) (IsBehind (place + 1)) (λ e le. omega (arith, le)) past.committed h)
  where
    by : (event : Entry) → AllByRecursion (IsBehind (place + 1)) past.committed → AllByRecursion (IsBehind (place + 1)) (past_behind place notes event past).committed
    by (entry.Commit txn wrote) k = over-below (is_open_in notes txn.0) txn.0 place past.pending past.committed h
    by (entry.Create txn table) k = over-below (is_open_in notes txn.0) txn.0 place past.pending past.committed h
    by (entry.Drop txn table) k = over-below (is_open_in notes txn.0) txn.0 place past.pending past.committed h
    by (entry.Boot run) k = k
    by (entry.Opened txn session number text) k = k
    by (entry.Start txn statement) k = k
    by (entry.Given txn table write) k = k
    by (entry.Abort txn cause) k = k
    by (entry.Asked job table partition kind asker) k = k
    by (entry.Picked job watermark) k = k
    by (entry.Published job low high mark) k = k
    by (entry.Empty job) k = k
    by (entry.Cleaned job) k = k
    by (entry.Next txn statement number text) k = k
    by (entry.Did txn statement wrote) k = k
    by (entry.Alter txn table) k = k
    by (entry.Failed job cause) k = k
    by (entry.Forgot table write) k = k

ended-rise : (txn place : ℕ) (ids : List IdNote) → PlacesRise (ended_of txn place ids)
ended-rise txn place [] = tt
ended-rise txn place (id ∷ ids) = by (ended-rise txn place ids) (id.txn == txn)
  where
    by : PlacesRise (ended_of txn place ids) → (b : Bool) → PlacesRise (ended_if b place id (ended_of txn place ids))
    by rest true = (ended-all (λ (other : PlacedId). place ≤ other.at) txn place (λ other same. omega arith) ids, rest)
    by rest false = rest

rise-append : (txn place : ℕ) (ids : List IdNote) (those : List PlacedId) → AllByRecursion (IsBehind place) those → PlacesRise those → PlacesRise (those ++ ended_of txn place ids)
rise-append txn place ids [] below h = ended-rise txn place ids
rise-append txn place ids (e ∷ those) below h =
    let first : e.at < place = below.0 in (
      all-append (λ (other : PlacedId). e.at ≤ other.at) those (ended_of txn place ids) h.0
          (ended-all (λ (other : PlacedId). e.at ≤ other.at) txn place (λ other same. omega (arith, first)) ids),
      rise-append txn place ids those below.1 h.1,
    )

over-rise : (b : Bool) (txn place : ℕ) (ids : List IdNote) (those : List PlacedId) → AllByRecursion (IsBehind place) those → PlacesRise those
    → PlacesRise (over_if b txn place ids those)
over-rise true txn place ids those below h = rise-append txn place ids those below h
over-rise false txn place ids those below h = h

rising-next : (place : ℕ) (notes : Notes) (event : Entry) (past : Past) → AllByRecursion (IsBehind place) past.committed → PlacesRise past.committed
    → PlacesRise (past_behind place notes event past).committed
rising-next place notes (entry.Commit txn wrote) past below h = over-rise (is_open_in notes txn.0) txn.0 place past.pending past.committed below h
rising-next place notes (entry.Create txn table) past below h = over-rise (is_open_in notes txn.0) txn.0 place past.pending past.committed below h
rising-next place notes (entry.Drop txn table) past below h = over-rise (is_open_in notes txn.0) txn.0 place past.pending past.committed below h
rising-next place notes (entry.Boot run) past below h = h
rising-next place notes (entry.Opened txn session number text) past below h = h
rising-next place notes (entry.Start txn statement) past below h = h
rising-next place notes (entry.Given txn table write) past below h = h
rising-next place notes (entry.Abort txn cause) past below h = h
rising-next place notes (entry.Asked job table partition kind by) past below h = h
rising-next place notes (entry.Picked job watermark) past below h = h
rising-next place notes (entry.Published job low high mark) past below h = h
rising-next place notes (entry.Empty job) past below h = h
rising-next place notes (entry.Cleaned job) past below h = h
rising-next place notes (entry.Next txn statement number text) past below h = h
rising-next place notes (entry.Did txn statement wrote) past below h = h
rising-next place notes (entry.Alter txn table) past below h = h
rising-next place notes (entry.Failed job cause) past below h = h
rising-next place notes (entry.Forgot table write) past below h = h

-- ---- tables

length-behind : (ws : List (ℕ × Written)) (ts : List Table) → length (tables_behind ws ts) ≡ length ts
length-behind [] ts = refl
length-behind (w ∷ ws) ts = length-behind ws (changed (written_to w.1) ts w.0) ∙ length-changed (written_to w.1) ts w.0

count-next : (place : ℕ) (state : State) (notes : Notes) (event : Entry) (past : Past) → length past.spans ≡ length state.tables
    → length (past_behind place notes event past).spans ≡ length (after state event).tables
unfolding acted
count-next place state notes (entry.Create txn table) past h =
    length-append past.spans (new_span place ∷ []) ∙ ap (λ n. n + 1) h ∙ sym (length-append state.tables (made_by table.0 (numbered state.transactions txn.0) ∷ []))
count-next place state notes (entry.Drop txn table) past h =
    length-changed (drop_span place) past.spans table.0 ∙ h ∙ sym (length-changed dropped state.tables table.0)
count-next place state notes (entry.Given txn table write) past h = h ∙ sym (length-changed (owned txn.0) state.tables table.0)
count-next place state notes (entry.Commit txn wrote) past h = h ∙ sym (length-behind (commits (numbered state.transactions txn.0)) state.tables)
count-next place state notes (entry.Forgot table write) past h = h ∙ sym (length-changed (forgot write.0) state.tables table.0)
count-next place state notes (entry.Boot run) past h = h
count-next place state notes (entry.Opened txn session number text) past h = h
count-next place state notes (entry.Start txn statement) past h = h
count-next place state notes (entry.Abort txn cause) past h = h
count-next place state notes (entry.Asked job table partition kind by) past h = h
count-next place state notes (entry.Picked job watermark) past h = h
count-next place state notes (entry.Published job low high mark) past h = h
count-next place state notes (entry.Empty job) past h = h
count-next place state notes (entry.Cleaned job) past h = h
count-next place state notes (entry.Next txn statement number text) past h = h
count-next place state notes (entry.Did txn statement wrote) past h = h
count-next place state notes (entry.Alter txn table) past h = h
count-next place state notes (entry.Failed job cause) past h = h

limit-more : (place : ℕ) (o : Option ℕ) → IsBelowLimit place o → IsBelowLimit (place + 1) o
limit-more place None h = tt
limit-more place (Some at) h = omega (arith, h)

limit-first : (place : ℕ) (o : Option ℕ) → IsBelowLimit place o → IsBelowLimit (place + 1) (first_of o place)
limit-first place None h = omega arith
limit-first place (Some at) h = omega (arith, h)

span-more : (place : ℕ) (s : SpanNote) → IsDroppedBelow place s → IsDroppedBelow (place + 1) s
span-more place s = limit-more place s.dropped

span-dropped : (place : ℕ) (s : SpanNote) → IsDroppedBelow place s → IsDroppedBelow (place + 1) (drop_span place s)
unfolding drop_span
span-dropped place s = limit-first place s.dropped

dropped-next : (place : ℕ) (notes : Notes) (event : Entry) (past : Past) → AllByRecursion (IsDroppedBelow place) past.spans
    → AllByRecursion (IsDroppedBelow (place + 1)) (past_behind place notes event past).spans
dropped-next place notes event past h = by event (all-more (IsDroppedBelow place) (IsDroppedBelow (place + 1)) (span-more place) past.spans h)
  where
    by : (event : Entry) → AllByRecursion (IsDroppedBelow (place + 1)) past.spans → AllByRecursion (IsDroppedBelow (place + 1)) (past_behind place notes event past).spans
    by (entry.Create txn table) k = all-snoc (IsDroppedBelow (place + 1)) past.spans (new_span place) k tt
    by (entry.Drop txn table) k =
        all-changed (IsDroppedBelow place) (IsDroppedBelow (place + 1)) (drop_span place) (span-more place) (span-dropped place) past.spans table.0 h
    by (entry.Commit txn wrote) k = k
    by (entry.Boot run) k = k
    by (entry.Opened txn session number text) k = k
    by (entry.Start txn statement) k = k
    by (entry.Given txn table write) k = k
    by (entry.Abort txn cause) k = k
    by (entry.Asked job table partition kind asker) k = k
    by (entry.Picked job watermark) k = k
    by (entry.Published job low high mark) k = k
    by (entry.Empty job) k = k
    by (entry.Cleaned job) k = k
    by (entry.Next txn statement number text) k = k
    by (entry.Did txn statement wrote) k = k
    by (entry.Alter txn table) k = k
    by (entry.Failed job cause) k = k
    by (entry.Forgot table write) k = k

-- an entry changes nothing at the places before it
span-early : (position place : ℕ) → position ≤ place → (s : SpanNote) → live_then position (Some (drop_span place s)) ≡ live_then position (Some s)
unfolding drop_span
span-early position place early s = by s.dropped
  where
    by : (o : Option ℕ) → live_if (nat_lt s.made position) (not (is_before position (first_of o place))) ≡ live_if (nat_lt s.made position) (not (is_before position o))
    by None = ap (λ b. live_if (nat_lt s.made position) (not b)) (le-ltb place position early)
    by (Some at) = refl

live-early : (position place : ℕ) → position ≤ place → (notes : Notes) (event : Entry) (past : Past) (n : ℕ)
    → live_then position (numbered (past_behind place notes event past).spans n) ≡ live_then position (numbered past.spans n)
live-early position place early notes (entry.Create txn table) past n =
    has-more (live_then position) past.spans (new_span place) n (ap (λ b. live_if b true) (le-ltb place position early))
live-early position place early notes (entry.Drop txn table) past n =
    kept-changed (live_then position) (drop_span place) (span-early position place early) past.spans table.0 n
live-early position place early notes (entry.Commit txn wrote) past n = refl
live-early position place early notes (entry.Boot run) past n = refl
live-early position place early notes (entry.Opened txn session number text) past n = refl
live-early position place early notes (entry.Start txn statement) past n = refl
live-early position place early notes (entry.Given txn table write) past n = refl
live-early position place early notes (entry.Abort txn cause) past n = refl
live-early position place early notes (entry.Asked job table partition kind by) past n = refl
live-early position place early notes (entry.Picked job watermark) past n = refl
live-early position place early notes (entry.Published job low high mark) past n = refl
live-early position place early notes (entry.Empty job) past n = refl
live-early position place early notes (entry.Cleaned job) past n = refl
live-early position place early notes (entry.Next txn statement number text) past n = refl
live-early position place early notes (entry.Did txn statement wrote) past n = refl
live-early position place early notes (entry.Alter txn table) past n = refl
live-early position place early notes (entry.Failed job cause) past n = refl
live-early position place early notes (entry.Forgot table write) past n = refl

-- one more on both sides
both_at : {A B C : Type 0} (h : Option A → C) (k : Option B → C) (x : A) (y : B) → h (Some x) ≡ k (Some y) → h None ≡ k None
    → (xs : List A) (ys : List B) → length xs ≡ length ys → ((n : ℕ) → h (slice_get xs n) ≡ k (slice_get ys n))
    → (n : ℕ) → h (slice_get (xs ++ x ∷ []) n) ≡ k (slice_get (ys ++ y ∷ []) n)
both_at h k x y last none [] [] e same zero = last
both_at h k x y last none [] [] e same (suc n) = none
both_at h k x y last none [] (b ∷ ys) e same n = absurd (omega (arith, e))
both_at h k x y last none (a ∷ xs) [] e same n = absurd (omega (arith, e))
both_at h k x y last none (a ∷ xs) (b ∷ ys) e same zero = same zero
both_at h k x y last none (a ∷ xs) (b ∷ ys) e same (suc n) = both_at h k x y last none xs ys (omega (arith, e)) (λ m. same (suc m)) n

both-more : {A B C : Type 0} (h : Option A → C) (k : Option B → C) (x : A) (y : B) → h (Some x) ≡ k (Some y)
    → (xs : List A) (ys : List B) → length xs ≡ length ys → ((n : ℕ) → h (numbered xs n) ≡ k (numbered ys n))
    → (n : ℕ) → h (numbered (xs ++ x ∷ []) n) ≡ k (numbered (ys ++ y ∷ []) n)
both-more h k x y last xs ys e same zero = same zero
both-more h k x y last xs ys e same (suc n) = both_at h k x y last (same zero) xs ys e (λ m. same (suc m)) n

-- a table that is dropped, behind the places where it was dropped before
dropped-late : (position place : ℕ) → place < position → (span : Option SpanNote) (table : Option Table)
    → ((s : SpanNote) → span ≡ Some s → IsDroppedBelow place s) → live_then position span ≡ option_map table_live table
    → live_then position (option_map (drop_span place) span) ≡ option_map table_live (option_map dropped table)
unfolding drop_span
dropped-late position place late None None below same = refl
dropped-late position place late None (Some t) below same = cc
dropped-late position place late (Some s) None below same = by (nat_lt s.made position) same
  where
    by : (b : Bool) → live_if b (not (is_before position s.dropped)) ≡ None → live_if b (not (is_before position (first_of s.dropped place))) ≡ None
    by true e = cc
    by false e = refl
dropped-late position place late (Some s) (Some t) below same = by (nat_lt s.made position) same
  where
    was : (o : Option ℕ) → IsBelowLimit place o → is_before position (first_of o place) ≡ true
    was None h = lt-ltb place position late
    was (Some at) h = lt-ltb at position (omega (arith, h, late))

    by : (b : Bool) → live_if b (not (is_before position s.dropped)) ≡ Some t.is_live → live_if b (not (is_before position (first_of s.dropped place))) ≡ Some false
    by true e = ap (λ c. Some (not c)) (was s.dropped (below s refl))
    by false e = cc

live-late : (position place : ℕ) → place < position → (state : State) (notes : Notes) (event : Entry) (past : Past)
    → length past.spans ≡ length state.tables → AllByRecursion (IsDroppedBelow place) past.spans
    → ((n : ℕ) → live_then position (numbered past.spans n) ≡ option_map table_live (numbered state.tables n))
    → (n : ℕ) → live_then position (numbered (past_behind place notes event past).spans n) ≡ option_map table_live (numbered (after state event).tables n)
unfolding acted
live-late position place late state notes (entry.Create txn table) past count below same n =
    both-more (live_then position) (option_map table_live) (new_span place) (made_by table.0 (numbered state.transactions txn.0))
    (ap (λ b. live_if b true) (lt-ltb place position late)) past.spans state.tables count same n
live-late position place late state notes (entry.Drop txn table) past count below same n = by (same_or_not n table.0)
  where
    by : (n ≡ table.0) ⊎ (n ≡ table.0 → ⊥)
        → live_then position (numbered (changed (drop_span place) past.spans table.0) n) ≡ option_map table_live (numbered (changed dropped state.tables table.0) n)
    by (inl e) =
        ap (λ k. live_then position (numbered (changed (drop_span place) past.spans k) n)) (sym e)
        ∙ ap (live_then position) (numbered-here (drop_span place) past.spans n)
        ∙ dropped-late position place late (numbered past.spans n) (numbered state.tables n) (λ s is. all-numbered (IsDroppedBelow place) past.spans n s below is) (same n)
        ∙ ap (option_map table_live) (sym (numbered-here dropped state.tables n))
        ∙ ap (λ k. option_map table_live (numbered (changed dropped state.tables k) n)) e
    by (inr apart) =
        ap (live_then position) (numbered-other (drop_span place) past.spans table.0 n apart) ∙ same n
        ∙ ap (option_map table_live) (sym (numbered-other dropped state.tables table.0 n apart))
live-late position place late state notes (entry.Given txn table write) past count below same n =
    same n ∙ sym (kept-changed (option_map table_live) (owned txn.0) (λ t. refl) state.tables table.0 n)
live-late position place late state notes (entry.Commit txn wrote) past count below same n =
    same n ∙ sym (behind-keeps (option_map table_live) (λ w t. refl) (commits (numbered state.transactions txn.0)) state.tables n)
live-late position place late state notes (entry.Forgot table write) past count below same n =
    same n ∙ sym (kept-changed (option_map table_live) (forgot write.0) (λ t. refl) state.tables table.0 n)
live-late position place late state notes (entry.Boot run) past count below same n = same n
live-late position place late state notes (entry.Opened txn session number text) past count below same n = same n
live-late position place late state notes (entry.Start txn statement) past count below same n = same n
live-late position place late state notes (entry.Abort txn cause) past count below same n = same n
live-late position place late state notes (entry.Asked job table partition kind by) past count below same n = same n
live-late position place late state notes (entry.Picked job watermark) past count below same n = same n
live-late position place late state notes (entry.Published job low high mark) past count below same n = same n
live-late position place late state notes (entry.Empty job) past count below same n = same n
live-late position place late state notes (entry.Cleaned job) past count below same n = same n
live-late position place late state notes (entry.Next txn statement number text) past count below same n = same n
live-late position place late state notes (entry.Did txn statement wrote) past count below same n = same n
live-late position place late state notes (entry.Alter txn table) past count below same n = same n
live-late position place late state notes (entry.Failed job cause) past count below same n = same n

-- ---- ids that were forgotten

ids-snoc : (p : ForgotNote → Bool) (xs : List ForgotNote) (x : ForgotNote) → map forgot_id (filter p (xs ++ x ∷ [])) ≡ add_if (p x) x.write (map forgot_id (filter p xs))
ids-snoc p [] x = by (p x)
  where
    by : (b : Bool) → map forgot_id (if b then x ∷ [] else []) ≡ add_if b x.write []
    by true = refl
    by false = refl
ids-snoc p (y ∷ xs) x = by (ids-snoc p xs x) (p y) (p x)
  where
    more : (c : Bool) (n m : ℕ) (ns : List ℕ) → m ∷ add_if c n ns ≡ add_if c n (m ∷ ns)
    more true n m ns = refl
    more false n m ns = refl

    by : map forgot_id (filter p (xs ++ x ∷ [])) ≡ add_if (p x) x.write (map forgot_id (filter p xs)) → (b c : Bool)
        → map forgot_id (if b then y ∷ filter p (xs ++ x ∷ []) else filter p (xs ++ x ∷ []))
        ≡ add_if (p x) x.write (map forgot_id (if b then y ∷ filter p xs else filter p xs))
    by rest true c = ap (λ ns. y.write ∷ ns) rest ∙ more (p x) x.write y.write (map forgot_id (filter p xs))
    by rest false c = rest

forgotten-early : (position table place : ℕ) → position ≤ place → (notes : Notes) (event : Entry) (past : Past)
    → map forgot_id (filter (forgot_then position table) (past_behind place notes event past).forgotten) ≡ map forgot_id (filter (forgot_then position table) past.forgotten)
forgotten-early position table place early notes (entry.Forgot other write) past = by (is_some (numbered notes.tables other.0))
  where
    never : (b c : Bool) → c ≡ false → (b && c) ≡ false
    never true c e = e
    never false c e = refl

    by : (b : Bool) → map forgot_id (filter (forgot_then position table) (add_if b (forgot_note other.0 write.0 place) past.forgotten))
        ≡ map forgot_id (filter (forgot_then position table) past.forgotten)
    by true =
        ids-snoc (forgot_then position table) past.forgotten (forgot_note other.0 write.0 place)
        ∙ ap (λ b. add_if b write.0 (map forgot_id (filter (forgot_then position table) past.forgotten)))
        (never (other.0 == table) (nat_lt place position) (le-ltb place position early))
    by false = refl
forgotten-early position table place early notes (entry.Commit txn wrote) past = refl
forgotten-early position table place early notes (entry.Create txn other) past = refl
forgotten-early position table place early notes (entry.Drop txn other) past = refl
forgotten-early position table place early notes (entry.Boot run) past = refl
forgotten-early position table place early notes (entry.Opened txn session number text) past = refl
forgotten-early position table place early notes (entry.Start txn statement) past = refl
forgotten-early position table place early notes (entry.Given txn other write) past = refl
forgotten-early position table place early notes (entry.Abort txn cause) past = refl
forgotten-early position table place early notes (entry.Asked job other partition kind by) past = refl
forgotten-early position table place early notes (entry.Picked job watermark) past = refl
forgotten-early position table place early notes (entry.Published job low high mark) past = refl
forgotten-early position table place early notes (entry.Empty job) past = refl
forgotten-early position table place early notes (entry.Cleaned job) past = refl
forgotten-early position table place early notes (entry.Next txn statement number text) past = refl
forgotten-early position table place early notes (entry.Did txn statement wrote) past = refl
forgotten-early position table place early notes (entry.Alter txn its_table) past = refl
forgotten-early position table place early notes (entry.Failed job cause) past = refl

some-mapped : {A B : Type 0} (f : A → B) (o : Option A) → is_some (option_map f o) ≡ is_some o
some-mapped f None = refl
some-mapped f (Some x) = refl

forgotten-late : (position table place : ℕ) → place < position → (state : State) (notes : Notes) (event : Entry) (past : Past)
    → notes.tables ≡ map brief_table state.tables
    → map forgot_id (filter (forgot_then position table) past.forgotten) ≡ forgotten_in (numbered state.tables table)
    → map forgot_id (filter (forgot_then position table) (past_behind place notes event past).forgotten) ≡ forgotten_in (numbered (after state event).tables table)
forgotten-late position table place late state notes (entry.Forgot other write) past follow same =
    ap (λ b. map forgot_id (filter (forgot_then position table) (add_if b (forgot_note other.0 write.0 place) past.forgotten))) there
    ∙ by (is_some (numbered state.tables other.0)) refl (other.0 == table) refl
    ∙ forgotten-next table state (entry.Forgot other write)
  where
    there : is_some (numbered notes.tables other.0) ≡ is_some (numbered state.tables other.0)
    there = ap is_some (ap (λ ts. numbered ts other.0) follow ∙ numbered-map brief_table state.tables other.0) ∙ some-mapped brief_table (numbered state.tables other.0)

    ids : List ℕ
    ids = map forgot_id (filter (forgot_then position table) past.forgotten)

    here : other.0 ≡ table → (b : Bool) → is_some (numbered state.tables other.0) ≡ b → is_some (numbered state.tables table) ≡ b
    here e b is = ap (λ k. is_some (numbered state.tables k)) (sym e) ∙ is

    by : (b : Bool) → is_some (numbered state.tables other.0) ≡ b → (c : Bool) → (other.0 == table) ≡ c
        → map forgot_id (filter (forgot_then position table) (add_if b (forgot_note other.0 write.0 place) past.forgotten))
        ≡ add_if ((other.0 == table) && is_some (numbered state.tables table)) write.0 (forgotten_in (numbered state.tables table))
    by true is true equal =
        ids-snoc (forgot_then position table) past.forgotten (forgot_note other.0 write.0 place)
        ∙ ap (λ c. add_if (c && nat_lt place position) write.0 (map forgot_id (filter (forgot_then position table) past.forgotten))) equal
        ∙ ap (λ c. add_if c write.0 (map forgot_id (filter (forgot_then position table) past.forgotten))) (lt-ltb place position late)
        ∙ ap (λ ns. ns ++ write.0 ∷ []) same
        ∙ ap (λ c. add_if c write.0 (forgotten_in (numbered state.tables table))) (sym (here (eqb-true other.0 table equal) true is))
        ∙ ap (λ c. add_if (c && is_some (numbered state.tables table)) write.0 (forgotten_in (numbered state.tables table))) (sym equal)
    by true is false equal =
        ids-snoc (forgot_then position table) past.forgotten (forgot_note other.0 write.0 place)
        ∙ ap (λ c. add_if (c && nat_lt place position) write.0 (map forgot_id (filter (forgot_then position table) past.forgotten))) equal
        ∙ same
        ∙ ap (λ c. add_if (c && is_some (numbered state.tables table)) write.0 (forgotten_in (numbered state.tables table))) (sym equal)
    by false is true equal =
        same
        ∙ ap (λ c. add_if c write.0 (forgotten_in (numbered state.tables table))) (sym (here (eqb-true other.0 table equal) false is))
        ∙ ap (λ c. add_if (c && is_some (numbered state.tables table)) write.0 (forgotten_in (numbered state.tables table))) (sym equal)
    by false is false equal =
        same ∙ ap (λ c. add_if (c && is_some (numbered state.tables table)) write.0 (forgotten_in (numbered state.tables table))) (sym equal)
forgotten-late position table place late state notes (entry.Commit txn wrote) past follow same = same ∙ forgotten-next table state (entry.Commit txn wrote)
forgotten-late position table place late state notes (entry.Create txn other) past follow same = same ∙ forgotten-next table state (entry.Create txn other)
forgotten-late position table place late state notes (entry.Drop txn other) past follow same = same ∙ forgotten-next table state (entry.Drop txn other)
forgotten-late position table place late state notes (entry.Boot run) past follow same = same ∙ forgotten-next table state (entry.Boot run)
forgotten-late position table place late state notes (entry.Opened txn session number text) past follow same =
    same ∙ forgotten-next table state (entry.Opened txn session number text)
forgotten-late position table place late state notes (entry.Start txn statement) past follow same = same ∙ forgotten-next table state (entry.Start txn statement)
forgotten-late position table place late state notes (entry.Given txn other write) past follow same = same ∙ forgotten-next table state (entry.Given txn other write)
forgotten-late position table place late state notes (entry.Abort txn cause) past follow same = same ∙ forgotten-next table state (entry.Abort txn cause)
forgotten-late position table place late state notes (entry.Asked job other partition kind by) past follow same =
    same ∙ forgotten-next table state (entry.Asked job other partition kind by)
forgotten-late position table place late state notes (entry.Picked job watermark) past follow same = same ∙ forgotten-next table state (entry.Picked job watermark)
forgotten-late position table place late state notes (entry.Published job low high mark) past follow same =
    same ∙ forgotten-next table state (entry.Published job low high mark)
forgotten-late position table place late state notes (entry.Empty job) past follow same = same ∙ forgotten-next table state (entry.Empty job)
forgotten-late position table place late state notes (entry.Cleaned job) past follow same = same ∙ forgotten-next table state (entry.Cleaned job)
forgotten-late position table place late state notes (entry.Next txn statement number text) past follow same = same ∙ forgotten-next table state (entry.Next txn statement number text)
forgotten-late position table place late state notes (entry.Did txn statement wrote) past follow same = same ∙ forgotten-next table state (entry.Did txn statement wrote)
forgotten-late position table place late state notes (entry.Alter txn its_table) past follow same = same ∙ forgotten-next table state (entry.Alter txn its_table)
forgotten-late position table place late state notes (entry.Failed job cause) past follow same = same ∙ forgotten-next table state (entry.Failed job cause)

-- ---- one entry more

abbrev AtPlace : List Entry → Past → ℕ → ℕ → Type 0
AtPlace entries past position table =
    (live_then position (numbered past.spans table) ≡ option_map table_live (numbered (state_of (take position entries)).tables table))
    × (map forgot_id (filter (forgot_then position table) past.forgotten) ≡ forgotten_in (numbered (state_of (take position entries)).tables table))
    × (total (given_then position table) past.given ≡ length (owners_in (numbered (state_of (take position entries)).tables table)))

place-next : (done : List Entry) (event : Entry) (past : Past) → IsPast done past → (position table : ℕ)
    → AtPlace (done ++ event ∷ []) (past_behind (length done) (notes_of done) event past) position table
place-next done event past h position table = by (nat_lt (length done) position) refl
  where
    early : position ≤ length done → AtPlace (done ++ event ∷ []) (past_behind (length done) (notes_of done) event past) position table
    early le =
        let front : take position done ≡ take position (done ++ event ∷ []) = sym (take-append-le position done (event ∷ []) le) in (
          live-early position (length done) le (notes_of done) event past table ∙ h.live position table
              ∙ ap (λ (xs : List Entry). option_map table_live (numbered (state_of xs).tables table)) front,
          forgotten-early position table (length done) le (notes_of done) event past ∙ h.forgotten position table
              ∙ ap (λ (xs : List Entry). forgotten_in (numbered (state_of xs).tables table)) front,
          given-early position table (length done) le (notes_of done) event past ∙ h.given position table
              ∙ ap (λ (xs : List Entry). length (owners_in (numbered (state_of xs).tables table))) front,
        )

    late : length done < position → AtPlace (done ++ event ∷ []) (past_behind (length done) (notes_of done) event past) position table
    late lt =
        let whole : take position done ≡ done = take_all position done (omega (arith, lt)) in
        let long = length-snoc done event in
        let more : after (state_of done) event ≡ state_of (take position (done ++ event ∷ [])) =
        sym (state_of-snoc done event) ∙ ap state_of (sym (take_all position (done ++ event ∷ []) (omega (arith, lt, long))))
        in (
          live-late position (length done) lt (state_of done) (notes_of done) event past h.count h.dropped
              (λ n. h.live position n ∙ ap (λ (xs : List Entry). option_map table_live (numbered (state_of xs).tables n)) whole) table
              ∙ ap (λ (s : State). option_map table_live (numbered s.tables table)) more,
          forgotten-late position table (length done) lt (state_of done) (notes_of done) event past (follows done).tables
              (h.forgotten position table ∙ ap (λ (xs : List Entry). forgotten_in (numbered (state_of xs).tables table)) whole)
              ∙ ap (λ (s : State). forgotten_in (numbered s.tables table)) more,
          given-late position table (length done) lt (state_of done) (notes_of done) event past (follows done).tables
              (h.given position table ∙ ap (λ (xs : List Entry). length (owners_in (numbered (state_of xs).tables table))) whole)
              ∙ ap (λ (s : State). length (owners_in (numbered s.tables table))) more,
        )

    by : (b : Bool) → nat_lt (length done) position ≡ b → AtPlace (done ++ event ∷ []) (past_behind (length done) (notes_of done) event past) position table
    by true is = late (ltb-true (length done) position is)
    by false is = early (ltb-false (length done) position is)

pub past-next : (done : List Entry) (event : Entry) (past : Past) → IsPast done past → IsPast (done ++ event ∷ []) (past_behind (length done) (notes_of done) event past)
past-next done event past h =
    let next : after (state_of done) event ≡ state_of (done ++ event ∷ []) = sym (state_of-snoc done event) in
    let long : length done + 1 ≡ length (done ++ event ∷ []) = (let more = length-snoc done event in omega (arith, more)) in
    record {
      ids = λ table weight.
          ap (λ (s : State). total_from weight 1 (owners_in (numbered s.tables table))) (sym next)
          ∙ ids-next (length done) (state_of done) (notes_of done) event past (follows done).tables h.ids table weight;
      settled =
          subst (λ (s : State). AllByRecursion (IsSettled s) (past_behind (length done) (notes_of done) event past).committed) next
          (settled-next (length done) (state_of done) (notes_of done) event past (follows done).entries (follows done).transactions h.settled);
      below = subst (λ n. AllByRecursion (IsBehind n) (past_behind (length done) (notes_of done) event past).committed) long (below-next (length done) (notes_of done) event past h.below);
      rising = rising-next (length done) (notes_of done) event past h.below h.rising;
      count = count-next (length done) (state_of done) (notes_of done) event past h.count ∙ ap (λ (s : State). length s.tables) next;
      dropped = subst (λ n. AllByRecursion (IsDroppedBelow n) (past_behind (length done) (notes_of done) event past).spans) long (dropped-next (length done) (notes_of done) event past h.dropped);
      live = λ position table. (place-next done event past h position table).0;
      forgotten = λ position table. (place-next done event past h position table).1;
      given = λ position table. (place-next done event past h position table).2;
      given_below = subst (λ n. AllByRecursion (IsBehind n) (past_behind (length done) (notes_of done) event past).given) long (given-below (length done) (notes_of done) event past h.given_below);
      given_rising = given-rising (length done) (notes_of done) event past h.given_below h.given_rising;
    }

pub nothing-numbered : {A : Type 0} (n : ℕ) → numbered {A = A} [] n ≡ None
nothing-numbered zero = refl
nothing-numbered (suc n) = refl

nothing-taken : (position : ℕ) → take {A = Entry} position [] ≡ []
nothing-taken zero = refl
nothing-taken (suc n) = refl

pub past-none : IsPast [] no_past
past-none = record {
  ids = λ table weight. ap (λ (o : Option Table). total_from weight 1 (owners_in o)) (nothing-numbered table);
  settled = tt;
  below = tt;
  rising = tt;
  given = λ position table.
      ap (λ (o : Option Table). length (owners_in o)) (sym (nothing-numbered table))
      ∙ ap (λ (xs : List Entry). length (owners_in (numbered (state_of xs).tables table))) (sym (nothing-taken position));
  given_below = tt;
  given_rising = tt;
  count = refl;
  dropped = tt;
  live = λ position table.
      ap (live_then position) (nothing-numbered table) ∙ ap (option_map table_live) (sym (nothing-numbered table))
      ∙ ap (λ (xs : List Entry). option_map table_live (numbered (state_of xs).tables table)) (sym (nothing-taken position));
  forgotten = λ position table.
      ap forgotten_in (sym (nothing-numbered table)) ∙ ap (λ (xs : List Entry). forgotten_in (numbered (state_of xs).tables table)) (sym (nothing-taken position));
}
