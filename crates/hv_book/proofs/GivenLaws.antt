-- The ids that were given before a place of a book.
use Rattle.std.proofs.Common.{◌≡◌, ℕ, ◌+◌, ◌<◌, ◌≤◌, Bool, true, false, Option, Some, None, List, [], ◌∷◌, ◌++◌, length, map, refl, sym, ap, ◌∙◌, arith}
use Rattle.std.specs.Prelude.{◌==◌, ◌&&◌}
use Rattle.std.specs.Option.{option_map}
use Rattle.std.specs.List.{AllByRecursion}
use Rattle.std.proofs.lemmas.Bool.{lt-ltb, le-ltb}
use Rattle.hv_history.specs.declared.entry.Entry.{Entry}
use Rattle.hv_history.specs.declared.entry.Entry.TheVariants as entry
use Rattle.hv_history.specs.declared.state.Table.{Table}
use Rattle.hv_history.specs.State.{State, numbered, after}
use Rattle.hv_ids.specs.declared.notes.IdNote.{IdNote}
use Rattle.hv_ids.specs.declared.notes.PlacedId.{PlacedId}
use Rattle.hv_book.specs.Notes.{Notes}
use Rattle.hv_book.specs.Briefs.{brief_table}
use Rattle.hv_book.specs.Past.{Past, given_more, given_then, past_behind, owners_in, total, total_from, only_if, IsBehind, PlacesRise}
use Rattle.hv_book.proofs.TextLaws.{numbered-map, all-snoc}
use Rattle.hv_book.specs.declared.notes.TableNote.{TableNote}
use Rattle.hv_book.proofs.TableLaws.{owners_after, there_in, owners-next}
use Rattle.hv_book.proofs.IdLaws.{all-more, total-append, given_weight, owners-total}

-- ---- ids that were given before a place

ones : (write : ℕ) (owners : List ℕ) → total_from (λ w t. 1) write owners ≡ length owners
ones write [] = refl
ones write (txn ∷ owners) = omega (arith, ones (write + 1) owners)

more-early : (position table place txn other : ℕ) → position ≤ place → (o : Option TableNote) (given : List PlacedId)
    → total (given_then position table) (given_more place txn other o given) ≡ total (given_then position table) given
more-early position table place txn other early None given = refl
more-early position table place txn other early (Some note) given =
    let id : IdNote = record { table = other; write = note.high + 1; txn = txn } in
    let more = total-append (given_then position table) given (record { id = id; at = place } ∷ []) in
    let nothing : given_then position table (record { id = id; at = place }) ≡ 0 =
    ap (λ b. only_if ((other == table) && b) 1) (le-ltb place position early) ∙ never (other == table)
    in
    omega (arith, more, nothing)
  where
    never : (b : Bool) → only_if (b && false) 1 ≡ 0
    never true = refl
    never false = refl

pub given-early : (position table place : ℕ) → position ≤ place → (notes : Notes) (event : Entry) (past : Past)
    → total (given_then position table) (past_behind place notes event past).given ≡ total (given_then position table) past.given
given-early position table place early notes (entry.Given txn other write) past = more-early position table place txn.0 other.0 early (numbered notes.tables other.0) past.given
given-early position table place early notes (entry.Forgot other write) past = refl
given-early position table place early notes (entry.Commit txn wrote) past = refl
given-early position table place early notes (entry.Create txn other) past = refl
given-early position table place early notes (entry.Drop txn other) past = refl
given-early position table place early notes (entry.Boot run) past = refl
given-early position table place early notes (entry.Opened txn session number text) past = refl
given-early position table place early notes (entry.Start txn statement) past = refl
given-early position table place early notes (entry.Abort txn cause) past = refl
given-early position table place early notes (entry.Asked job other partition kind by) past = refl
given-early position table place early notes (entry.Picked job watermark) past = refl
given-early position table place early notes (entry.Published job low high mark) past = refl
given-early position table place early notes (entry.Empty job) past = refl
given-early position table place early notes (entry.Cleaned job) past = refl
given-early position table place early notes (entry.Next txn statement number text) past = refl
given-early position table place early notes (entry.Did txn statement wrote) past = refl
given-early position table place early notes (entry.Alter txn its_table) past = refl
given-early position table place early notes (entry.Failed job cause) past = refl

more-late : (position table place txn other : ℕ) → place < position → (o : Option Table) (given : List PlacedId)
    → total (given_then position table) (given_more place txn other (option_map brief_table o) given)
    ≡ total (given_then position table) given + given_weight table (λ w t. 1) (other == table) txn o
unfolding given_weight
more-late position table place txn other late None given = omega arith
more-late position table place txn other late (Some t) given =
    let id : IdNote = record { table = other; write = length t.owners + 1; txn = txn } in
    let more = total-append (given_then position table) given (record { id = id; at = place } ∷ []) in
    let one : given_then position table (record { id = id; at = place }) ≡ only_if (other == table) 1 =
    ap (λ b. only_if ((other == table) && b) 1) (lt-ltb place position late) ∙ always (other == table)
    in
    omega (arith, more, one)
  where
    always : (b : Bool) → only_if (b && true) 1 ≡ only_if b 1
    always true = refl
    always false = refl

pub given-late : (position table place : ℕ) → place < position → (state : State) (notes : Notes) (event : Entry) (past : Past)
    → notes.tables ≡ map brief_table state.tables
    → total (given_then position table) past.given ≡ length (owners_in (numbered state.tables table))
    → total (given_then position table) (past_behind place notes event past).given ≡ length (owners_in (numbered (after state event).tables table))
given-late position table place late state notes (entry.Given txn other write) past follow same =
    let noted : numbered notes.tables other.0 ≡ option_map brief_table (numbered state.tables other.0) =
    ap (λ ts. numbered ts other.0) follow ∙ numbered-map brief_table state.tables other.0
    in
    let more =
    ap (λ o. total (given_then position table) (given_more place txn.0 other.0 o past.given)) noted
    ∙ more-late position table place txn.0 other.0 late (numbered state.tables other.0) past.given
    in
    let owners =
    ap length (sym (owners-next table state (entry.Given txn other write)))
    ∙ sym (ones 1 (owners_after table (there_in state table) (owners_in (numbered state.tables table)) (entry.Given txn other write)))
    ∙ owners-total table (λ w t. 1) txn.0 other.0 state.tables
    in
    let before = ones 1 (owners_in (numbered state.tables table)) in
    omega (arith, more, owners, before, same)
given-late position table place late state notes (entry.Forgot other write) past follow same = same ∙ ap length (owners-next table state (entry.Forgot other write))
given-late position table place late state notes (entry.Commit txn wrote) past follow same = same ∙ ap length (owners-next table state (entry.Commit txn wrote))
given-late position table place late state notes (entry.Create txn other) past follow same = same ∙ ap length (owners-next table state (entry.Create txn other))
given-late position table place late state notes (entry.Drop txn other) past follow same = same ∙ ap length (owners-next table state (entry.Drop txn other))
given-late position table place late state notes (entry.Boot run) past follow same = same ∙ ap length (owners-next table state (entry.Boot run))
given-late position table place late state notes (entry.Opened txn session number text) past follow same =
    same ∙ ap length (owners-next table state (entry.Opened txn session number text))
given-late position table place late state notes (entry.Start txn statement) past follow same = same ∙ ap length (owners-next table state (entry.Start txn statement))
given-late position table place late state notes (entry.Abort txn cause) past follow same = same ∙ ap length (owners-next table state (entry.Abort txn cause))
given-late position table place late state notes (entry.Asked job other partition kind by) past follow same =
    same ∙ ap length (owners-next table state (entry.Asked job other partition kind by))
given-late position table place late state notes (entry.Picked job watermark) past follow same = same ∙ ap length (owners-next table state (entry.Picked job watermark))
given-late position table place late state notes (entry.Published job low high mark) past follow same =
    same ∙ ap length (owners-next table state (entry.Published job low high mark))
given-late position table place late state notes (entry.Empty job) past follow same = same ∙ ap length (owners-next table state (entry.Empty job))
given-late position table place late state notes (entry.Cleaned job) past follow same = same ∙ ap length (owners-next table state (entry.Cleaned job))
given-late position table place late state notes (entry.Next txn statement number text) past follow same = same ∙ ap length (owners-next table state (entry.Next txn statement number text))
given-late position table place late state notes (entry.Did txn statement wrote) past follow same = same ∙ ap length (owners-next table state (entry.Did txn statement wrote))
given-late position table place late state notes (entry.Alter txn its_table) past follow same = same ∙ ap length (owners-next table state (entry.Alter txn its_table))
given-late position table place late state notes (entry.Failed job cause) past follow same = same ∙ ap length (owners-next table state (entry.Failed job cause))

more-below : (place txn table : ℕ) (o : Option TableNote) (given : List PlacedId) → AllByRecursion (IsBehind place) given
    → AllByRecursion (IsBehind (place + 1)) (given_more place txn table o given)
more-below place txn table None given h = all-more (IsBehind place) (IsBehind (place + 1)) (λ e le. omega (arith, le)) given h
more-below place txn table (Some note) given h =
    all-snoc (IsBehind (place + 1)) given (record { id = record { table = table; write = note.high + 1; txn = txn }; at = place })
    (all-more (IsBehind place) (IsBehind (place + 1)) (λ e le. omega (arith, le)) given h) (omega arith)

pub given-below : (place : ℕ) (notes : Notes) (event : Entry) (past : Past) → AllByRecursion (IsBehind place) past.given
    → AllByRecursion (IsBehind (place + 1)) (past_behind place notes event past).given
given-below place notes event past h = by event (all-more (IsBehind place) (IsBehind (place + 1)) (λ e le. omega (arith, le)) past.given h)
  where
    by : (event : Entry) → AllByRecursion (IsBehind (place + 1)) past.given → AllByRecursion (IsBehind (place + 1)) (past_behind place notes event past).given
    by (entry.Given txn table write) k = more-below place txn.0 table.0 (numbered notes.tables table.0) past.given h
    by (entry.Commit txn wrote) k = k
    by (entry.Create txn table) k = k
    by (entry.Drop txn table) k = k
    by (entry.Boot run) k = k
    by (entry.Opened txn session number text) k = k
    by (entry.Start txn statement) k = k
    by (entry.Abort txn cause) k = k
    by (entry.Asked job table partition kind asker) k = k
    by (entry.Picked job watermark) k = k
    by (entry.Published job low high mark) k = k
    by (entry.Empty job) k = k
    by (entry.Cleaned job) k = k
    by (entry.Next txn statement number text) k = k
    by (entry.Did txn statement wrote) k = k
    by (entry.Alter txn table) k = k
    by (entry.Failed job cause) k = k
    by (entry.Forgot table write) k = k

rise-snoc : (given : List PlacedId) (one : PlacedId) → AllByRecursion (IsBehind one.at) given → PlacesRise given → PlacesRise (given ++ one ∷ [])
rise-snoc [] one below h = (tt, tt)
rise-snoc (e ∷ given) one below h =
    let first : e.at < one.at = below.0 in
    (all-snoc (λ (other : PlacedId). e.at ≤ other.at) given one h.0 (omega (arith, first)), rise-snoc given one below.1 h.1)

pub given-rising : (place : ℕ) (notes : Notes) (event : Entry) (past : Past) → AllByRecursion (IsBehind place) past.given → PlacesRise past.given
    → PlacesRise (past_behind place notes event past).given
given-rising place notes (entry.Given txn table write) past below h = by (numbered notes.tables table.0)
  where
    by : (o : Option TableNote) → PlacesRise (given_more place txn.0 table.0 o past.given)
    by None = h
    by (Some note) = rise-snoc past.given (record { id = record { table = table.0; write = note.high + 1; txn = txn.0 }; at = place }) below h
given-rising place notes (entry.Commit txn wrote) past below h = h
given-rising place notes (entry.Create txn table) past below h = h
given-rising place notes (entry.Drop txn table) past below h = h
given-rising place notes (entry.Boot run) past below h = h
given-rising place notes (entry.Opened txn session number text) past below h = h
given-rising place notes (entry.Start txn statement) past below h = h
given-rising place notes (entry.Abort txn cause) past below h = h
given-rising place notes (entry.Asked job table partition kind by) past below h = h
given-rising place notes (entry.Picked job watermark) past below h = h
given-rising place notes (entry.Published job low high mark) past below h = h
given-rising place notes (entry.Empty job) past below h = h
given-rising place notes (entry.Cleaned job) past below h = h
given-rising place notes (entry.Next txn statement number text) past below h = h
given-rising place notes (entry.Did txn statement wrote) past below h = h
given-rising place notes (entry.Alter txn table) past below h = h
given-rising place notes (entry.Failed job cause) past below h = h
given-rising place notes (entry.Forgot table write) past below h = h
