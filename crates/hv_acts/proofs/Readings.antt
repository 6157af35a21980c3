-- A place of the book is one of every longer one, and a table that was found was there. Who reads a table does so of every longer trail, and
-- finds it live while its transaction is open.
use Rattle.std.proofs.Common.{◌≡◌, ℕ, ◌+◌, ◌≤◌, Bool, true, false, cond, is_none, Option, Some, None, List, [], ◌∷◌, ◌++◌, length, take, option_map, refl, sym, ap, ◌∙◌, subst, append-nil, arith}
use Rattle.std.proofs.lemmas.List.{length-append, take-append-le}
use Rattle.std.proofs.lemmas.List.Concat.{flat_map-cons}
use Rattle.std.proofs.Math.Seq.{take-length}
use Rattle.std.specs.Prelude.{IsSomeAnd, IsTrue, slice_get}
use Rattle.std.specs.List.{flat_map}
use Rattle.hv_base.specs.declared.ids.TxnId.{TxnId}
use Rattle.hv_shelf.specs.Disk.{Tree}
use Rattle.hv_ast.specs.declared.statement.Stmt.{Stmt}
use Rattle.hv_grammar.specs.Texts.{tree_of}
use Rattle.hv_locks.specs.declared.table.Lock.{Lock}
use Rattle.hv_logic.specs.Names.{names_in}
use Rattle.hv_logic.specs.declared.catalog.TableInfo.{TableInfo}
use Rattle.hv_history.specs.declared.state.Ending.{Ending}
use Rattle.hv_history.specs.declared.state.Statement.{Statement}
use Rattle.hv_history.specs.declared.state.Table.{Table}
use Rattle.hv_history.specs.declared.state.Transaction.{Transaction}
use Rattle.hv_history.specs.State.{State, state_of, numbered}
use Rattle.hv_history.specs.Jobs.{is_live_one}
use Rattle.hv_history.specs.Lasting.{IsFront, AllLater, Later}
use Rattle.hv_history.specs.Legal.{profile, is_open, is_started, locks_of_tree, is_named, is_named_there}
use Rattle.hv_meta.specs.States.{state_by, transaction_state, state_in}
use Rattle.hv_stands.specs.Sound.{IsSound}
use Rattle.hv_stands.specs.Reading.{table_of_name}
use Rattle.hv_stands.specs.Running.{Asking, snapshot_at, IsUnderWay}
use Rattle.hv_stands.specs.Statements.{AllFitting}
use Rattle.hv_stands.proofs.Fitting.{fitting-sound, fronts-fit}
use Rattle.hv_stands.proofs.Numbers.{found}
use Rattle.hv_stands.proofs.Tables.{named-numbered}
use Rattle.hv_law_locks.proofs.Holding.{given-live}
use Rattle.hv_telling.specs.hv_house.specs.hv_finals.specs.hv_law_made.specs.Standing.{Standing}
use Rattle.hv_telling.specs.hv_house.specs.hv_law_read.specs.Reading.{ReadsAt}
use Rattle.hv_trail.specs.declared.trail.TrailItem.{TrailItem}
use Rattle.hv_trail.specs.Trail.{book_of, state_at}
use Rattle.hv_trail.specs.Lasting.{Has, GoesOn}
use Rattle.hv_trail.proofs.LastingLaws.{book-append, goes-on-front, lasts, ended-same}
use Rattle.hv_telling.specs.hv_house.specs.Listing.{info_in}
use Rattle.hv_acts.specs.Answers.{HasNotEnded}
use Rattle.hv_acts.specs.Reading.{HasPlace, state_then, HasFittingBook, IsReader, HasReader, ReadsTable, IsUnended, info_then, IsThere}

-- ---- a place of the book

module _ (before now : List TrailItem) (front : IsFront before now) where
  pub book-more : book_of now ≡ book_of before ++ book_of front.more
  book-more = ap book_of front.is ∙ book-append before front.more

  pub place-lasts : (place : ℕ) → HasPlace before place → HasPlace now place
  place-lasts place has =
      let count : length (book_of now) ≡ length (book_of before) + length (book_of front.more) =
      ap length book-more ∙ length-append (book_of before) (book_of front.more) in
      omega (arith, count, has)

  pub front-same : (place : ℕ) → HasPlace before place → take place (book_of now) ≡ take place (book_of before)
  front-same place has = ap (take place) book-more ∙ take-append-le place (book_of before) (book_of front.more) has

  pub then-same : (place : ℕ) → HasPlace before place → state_then now place ≡ state_then before place
  then-same place has = ap state_of (front-same place has)

  all-before : take (length (book_of before)) (book_of now) ≡ book_of before
  all-before = front-same (length (book_of before)) (omega arith) ∙ take-length (book_of before)

  -- what all of a book has a front of it has
  pub front-book : HasFittingBook now → HasFittingBook before
  front-book book =
      let count : length (book_of before) ≤ length (book_of now) = place-lasts (length (book_of before)) (omega arith) in record {
        fit = subst AllFitting all-before (fronts-fit (book_of now) (length (book_of before)) book.fit);
        few = (let few = book.few in omega (arith, count, few));
      }

-- ---- a table that was found

pub found-there : (trail : List TrailItem) (place : ℕ) (name : List ℕ) (info : TableInfo) → HasFittingBook trail → Some info ≡ info_then trail place name
    → IsThere trail place info
found-there trail place name info book is = by (table_of_name name tables) refl is
  where
    tables : List Table
    tables = (state_then trail place).tables

    sound : IsSound (state_then trail place)
    sound = fitting-sound (take place (book_of trail)) (fronts-fit (book_of trail) place book.fit)

    by : (o : Option Table) → table_of_name name tables ≡ o → Some info ≡ option_map info_in o → IsThere trail place info
    by None at is = cc
    by (Some table) at is = record {
      table = table;
      here = named-numbered name tables table sound.tables.in_order at;
      info_is = let same : info ≡ table.info = cc in sym same;
    }

-- ---- who reads, of every longer trail

abbrev locks_in : Statement → List Lock
locks_in statement = locks_of_tree (tree_of statement.text)

locks-later : (xs ys : List Statement) → AllLater xs ys → flat_map locks_in ys ≡ flat_map locks_in xs
locks-later [] [] later = refl
locks-later [] (y ∷ ys) later = absurd later
locks-later (x ∷ xs) [] later = absurd later
locks-later (x ∷ xs) (y ∷ ys) later =
    let text : y.text ≡ x.text = later.0.text in
    flat_map-cons locks_in y ys ∙ (λ i. locks_of_tree (tree_of (text i)) ++ locks-later xs ys later.1 i) ∙ sym (flat_map-cons locks_in x xs)

reader-keeps : (place : ℕ) (tables : List Table) (name : List ℕ) (t u : Transaction) → Later t u → IsReader place tables name t → IsReader place tables name u
reader-keeps place tables name t u later is = record {
  snapshot = is.snapshot;
  taken = later.snapshot is.snapshot is.taken;
  place_is = is.place_is;
  tables_are = is.tables_are;
  lock = is.lock;
  index = is.index;
  held = ap (λ (locks : List Lock). slice_get locks is.index) (locks-later t.statements u.statements later.statements) ∙ is.held;
  name_is = is.name_is;
}

module _ (before now : List TrailItem) (front : IsFront before now) (by : TxnId) (place : ℕ) where
  pub reader-lasts : (name : List ℕ) → HasReader before by place name → HasReader now by place name
  reader-lasts name reader = record {
    has = place-lasts before now front place reader.has;
    reads = subst (λ (s : State). Has now by.0 (IsReader place s.tables name)) (sym (then-same before now front place reader.has))
        (lasts (IsReader place (state_then before place).tables name) (reader-keeps place (state_then before place).tables name) before now by.0
        (goes-on-front before now front) reader.reads);
  }

  pub table-lasts : (table : ℕ) → ReadsTable before by place table → ReadsTable now by place table
  table-lasts table reads = record {
    name = reads.name;
    reader = reader-lasts reads.name reads.reader;
    named = subst (λ (s : State). IsTrue (is_named_there reads.name (numbered s.tables table))) (sym (then-same before now front place reads.reader.has))
        reads.named;
  }

-- ---- how it is known

-- a statement under way reads under the names that it locks
pub reader-under-way : (trail : List TrailItem) (asking : Asking) (by : TxnId) (place : ℕ) (said : Stmt) (given : List (ℕ × ℕ)) (index : ℕ) (lock : Lock)
    → IsUnderWay (book_of trail) asking by.0 place said given → slice_get (names_in said) index ≡ Some lock → HasReader trail by place lock.name
reader-under-way trail asking by place said given index lock way held =
    let early = way.early in
    let own : locks_of_tree (tree_of asking.text) ++ [] ≡ names_in said = append-nil (locks_of_tree (tree_of asking.text)) ∙ ap locks_of_tree way.runs.read in record {
      has = omega (arith, early);
      reads = subst (λ (o : Option Transaction). IsSomeAnd o (IsReader place (state_then trail place).tables lock.name)) (sym way.here) (record {
        snapshot = snapshot_at (book_of trail) place;
        taken = refl;
        place_is = refl;
        tables_are = refl;
        lock = lock;
        index = index;
        held = ap (λ (locks : List Lock). slice_get locks index) own ∙ held;
        name_is = refl;
      });
    }

named-by : (name : List ℕ) (first table : Table) (rest : Option Table) → (rest ≡ Some table → is_named name table ≡ true)
    → (b : Bool) → is_named name first ≡ b → cond b (Some first) rest ≡ Some table → is_named name table ≡ true
named-by name first table rest later true is e = let same : first ≡ table = cc in subst (λ (t : Table). is_named name t ≡ true) same is
named-by name first table rest later false is e = later e

named-so : (name : List ℕ) (tables : List Table) (table : Table) → table_of_name name tables ≡ Some table → is_named name table ≡ true
named-so name [] table e = cc
named-so name (first ∷ tables) table e = named-by name first table (table_of_name name tables) (named-so name tables table) (is_named name first) refl e

-- and what has the name is the table that it reads
pub table-read : (trail : List TrailItem) (by : TxnId) (place : ℕ) (name : List ℕ) (info : TableInfo) → HasFittingBook trail → HasReader trail by place name
    → Some info ≡ info_then trail place name → ReadsTable trail by place info.table.0
table-read trail by place name info book reader is = of (table_of_name name tables) refl is
  where
    tables : List Table
    tables = (state_then trail place).tables

    sound : IsSound (state_then trail place)
    sound = fitting-sound (take place (book_of trail)) (fronts-fit (book_of trail) place book.fit)

    of : (o : Option Table) → table_of_name name tables ≡ o → Some info ≡ option_map info_in o → ReadsTable trail by place info.table.0
    of None at is = cc
    of (Some table) at is =
        let same : info ≡ table.info = cc in
        let here : numbered tables info.table.0 ≡ Some table =
        ap (λ (i : TableInfo). numbered tables i.table.0) same ∙ named-numbered name tables table sound.tables.in_order at in record {
          name = name;
          reader = reader;
          named = ap (is_named_there name) here ∙ named-so name tables table at;
        }

-- ---- it is open, and its table is live

-- what has not ended later had not ended before
pub unended-before : (before now : List TrailItem) (txn : ℕ) → GoesOn before now → HasNotEnded (state_in (state_at now) txn) → HasNotEnded (state_in (state_at before) txn)
unended-before before now txn goes unended = of (numbered (state_at before).transactions txn) refl
  where
    ends : (t : Transaction) (ending : Option Ending) → numbered (state_at before).transactions txn ≡ Some t → t.ending ≡ ending
        → HasNotEnded (state_by ending (is_started t))
    ends t None here is = tt
    ends t (Some ending) here is =
        let same : numbered (state_at now).transactions txn ≡ Some t = ended-same before now txn t ending goes here is in
        let ended : HasNotEnded (state_by t.ending (is_started t)) = subst (λ (o : Option Transaction). HasNotEnded (transaction_state o)) same unended in
        subst (λ (e : Option Ending). HasNotEnded (state_by e (is_started t))) is ended

    of : (o : Option Transaction) → numbered (state_at before).transactions txn ≡ o → HasNotEnded (transaction_state o)
    of None here = tt
    of (Some t) here = ends t t.ending here refl

pub record IsOpenReader (trail : List TrailItem) (by : TxnId) (place : ℕ) (name : List ℕ) : Type 0 where
  pub transaction : Transaction
  pub here : numbered (state_at trail).transactions by.0 ≡ Some transaction
  pub unended : is_open transaction ≡ true
  pub is : IsReader place (state_then trail place).tables name transaction

open-by : (ending : Option Ending) (started : Bool) → HasNotEnded (state_by ending started) → is_none ending ≡ true
open-by None started unended = refl
open-by (Some ending) started unended = absurd unended

open-at : (o : Option Transaction) (t : Transaction) → o ≡ Some t → HasNotEnded (transaction_state o) → is_open t ≡ true
open-at None t e unended = cc
open-at (Some u) t e unended =
    let same : u ≡ t = cc in subst (λ (x : Transaction). is_open x ≡ true) same (open-by u.ending (is_started u) unended)

pub reader-opens : (trail : List TrailItem) (by : TxnId) (place : ℕ) (name : List ℕ) → HasReader trail by place name → IsUnended trail by
    → IsOpenReader trail by place name
reader-opens trail by place name reader unended =
    let at = found (IsReader place (state_then trail place).tables name) (numbered (state_at trail).transactions by.0) reader.reads in record {
      transaction = at.0;
      here = at.1;
      unended = open-at (numbered (state_at trail).transactions by.0) at.0 at.1 unended;
      is = at.2;
    }

live-one : (o : Option Table) → IsSomeAnd o (λ (table : Table). IsTrue table.is_live) → is_live_one o ≡ true
live-one None live = absurd live
live-one (Some table) live = live

module _ (trail : List TrailItem) (by : TxnId) (place : ℕ) (book : HasFittingBook trail) (unended : IsUnended trail by) where
  table-live : (table : ℕ) → ReadsTable trail by place table → is_live_one (numbered (state_at trail).tables table) ≡ true
  table-live table reads =
      let at = reader-opens trail by place reads.name reads.reader unended in
      live-one (numbered (state_at trail).tables table)
      (given-live profile (book_of trail) by.0 at.transaction at.is.snapshot at.is.lock table book.fit
      (record { here = at.here; unended = at.unended; snapshot = at.is.taken; place = at.is.index; held = at.is.held })
      ((λ i. is_named_there (at.is.name_is i) (numbered (at.is.tables_are i) table)) ∙ reads.named))

  -- so it reads the table as it stood at the place
  pub reads-at : (table : Table) (files : Tree) → ReadsTable trail by place table.info.table.0
      → numbered (state_then trail place).tables table.info.table.0 ≡ Some table → Standing (state_at trail) files → ReadsAt (book_of trail) by.0 place table files
  reads-at table files reads stood standing =
      let at = reader-opens trail by place reads.name reads.reader unended in
      let few = book.few in record {
        fit = book.fit;
        few = omega (arith, few);
        stands = standing;
        transaction = at.transaction;
        here = at.here;
        unended = at.unended;
        snapshot = at.is.snapshot;
        taken = at.is.taken;
        place_is = at.is.place_is;
        stood = stood;
        live = table-live table.info.table.0 reads;
      }
