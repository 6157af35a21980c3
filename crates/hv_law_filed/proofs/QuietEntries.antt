-- Entries that ask nothing of the files, and those of a statement without a write id, keep all standing.
use Rattle.std.proofs.Common.{refl, ◌≡◌, inl, ℕ, zero, suc, ◌+◌, ◌<◌, Option, Some, None, List, [], ◌∷◌, ◌++◌, length, take, sym, ap, ◌∙◌, subst, arith}
use Rattle.std.proofs.lemmas.List.{append-nil}
use Rattle.std.specs.List.{AllByRecursion}
use Rattle.hv_base.specs.declared.ids.Touch.{Touch}
use Rattle.hv_shelf.specs.Disk.{Tree}
use Rattle.hv_ast.specs.declared.statement.Stmt.{Stmt}
use Rattle.hv_logic.specs.declared.meaning.Meaning.{Meaning}
use Rattle.hv_logic.specs.declared.meaning.Meaning.TheVariants.{Refused, Listing, Change, Make, Unmake, Ask, Plain, Twice, RowLimit, PartitionLimit}
use Rattle.hv_history.specs.declared.entry.Entry.{Entry}
use Rattle.hv_history.specs.declared.entry.Entry.TheVariants as entry
use Rattle.hv_history.specs.declared.state.Written.{Written}
use Rattle.hv_history.specs.declared.state.Table.{Table}
use Rattle.hv_history.specs.declared.state.Transaction.{Transaction}
use Rattle.hv_history.specs.State.{State, numbered, changed_at, dropped, writes_of, commits, tables_behind, made_by, acted, after, state_of}
use Rattle.hv_history.specs.Legal.{Fits, profile}
use Rattle.hv_dirs.specs.Names.{write_end}
use Rattle.hv_stands.specs.Files.{AreEncoded}
use Rattle.hv_stands.specs.Sound.{IsSound}
use Rattle.hv_stands.specs.Running.{Asking, meant}
use Rattle.hv_stands.specs.Statements.{AllFitting}
use Rattle.hv_stands.proofs.Soundness.{all-more}
use Rattle.hv_stands.proofs.Behind.{one-behind, entries-are}
use Rattle.hv_stands.proofs.Fitting.{room-within}
use Rattle.hv_stands.proofs.OwnFiles.{unowned}
use Rattle.hv_law_made.specs.Standing.{Standing}
use Rattle.hv_law_made.specs.Laws.{IsFiledFor}
use Rattle.hv_law_made.proofs.BookLemmas.{books-are-sound}
use Rattle.hv_law_made.proofs.EntryStands.{standing-goes-on}
use Rattle.hv_law_filed.specs.Filed.{WritesNothing, QuietEntriesStand, CommitsNothing, OtherEntriesStand}
use Rattle.hv_law_filed.proofs.OwnChanges.{way_of}

-- an entry behind the book
pub stands-behind : (book : List Entry) (event : Entry) (files : Tree) → AllFitting book → Fits profile (state_of book) event
    → IsFiledFor event (state_of book) files → Standing (state_of book) files → Standing (state_of (book ++ event ∷ [])) files
stands-behind book event files fit fits filed standing =
    let room : length book < 131072 = room-within profile book event fit fits in
    let few : (state_of book).entries + 1 < write_end = omega (arith, room, entries-are book) in
    subst (λ (s : State). Standing s files) (sym (one-behind book event))
    (standing-goes-on profile (state_of book) event files files fits few (books-are-sound profile book fit) (λ place. inl refl) filed standing)

-- ---- without a write id nothing is written

writes-none : (m : Option Meaning) → writes_of m 0 [] ≡ []
writes-none None = refl
writes-none (Some (Refused why)) = refl
writes-none (Some (Listing names rows)) = refl
writes-none (Some (Change info effect)) = refl
writes-none (Some (Make shape)) = refl
writes-none (Some (Unmake table)) = refl
writes-none (Some (Ask table region kind)) = refl
writes-none (Some Plain) = refl
writes-none (Some (Twice region row)) = refl
writes-none (Some RowLimit) = refl
writes-none (Some PartitionLimit) = refl

-- the tables behind a commit of a transaction
pub tables-committed : (s : State) (txn : ℕ) (wrote : List Touch) (t : Transaction) → numbered s.transactions txn ≡ Some t
    → (after s (entry.Commit (record { 0 = txn }) wrote)).tables ≡ tables_behind (commits (Some t)) s.tables
unfolding acted
tables-committed s txn wrote t at = ap (λ (o : Option Transaction). tables_behind (commits o) s.tables) at

encoded-created : (s : State) (txn table : ℕ) → AllByRecursion AreEncoded s.tables
    → AllByRecursion AreEncoded (after s (entry.Create (record { 0 = txn }) (record { 0 = table }))).tables
unfolding acted
encoded-created s txn table encoded = all-more AreEncoded s.tables (made_by table (numbered s.transactions txn)) encoded tt

dropped-encoded_at : (tables : List Table) (k : ℕ) → AllByRecursion AreEncoded tables → AllByRecursion AreEncoded (changed_at dropped tables k)
dropped-encoded_at [] k h = tt
dropped-encoded_at (t ∷ tables) zero h = h
dropped-encoded_at (t ∷ tables) (suc k) h = (h.0, dropped-encoded_at tables k h.1)

encoded-dropped : (s : State) (txn table : ℕ) → AllByRecursion AreEncoded s.tables
    → AllByRecursion AreEncoded (after s (entry.Drop (record { 0 = txn }) (record { 0 = table }))).tables
unfolding acted
encoded-dropped s txn zero encoded = encoded
encoded-dropped s txn (suc k) encoded = dropped-encoded_at s.tables k encoded

-- ---- what is asked

module _ (s : State) (files : Tree) (sound : IsSound s) (standing : Standing s files) where
  quiet-filed : (asking : Asking) (txn place : ℕ) (book : List Entry) (said : Stmt) (given : List (ℕ × ℕ)) (event : Entry)
      → numbered s.transactions txn ≡ Some (way_of book asking place said given) → WritesNothing txn given event → IsFiledFor event s files
  quiet-filed asking txn place book said given (entry.Commit other wrote) at nothing =
      let t : Transaction = way_of book asking place said given in
      let here : numbered s.transactions other.0 ≡ Some t = ap (numbered s.transactions) nothing.0 ∙ at in
      let none : commits (Some t) ≡ [] =
      append-nil (writes_of (meant (take place book) said) 0 given)
      ∙ ap (writes_of (meant (take place book) said) 0) nothing.1 ∙ writes-none (meant (take place book) said) in
      let same : (after s (entry.Commit other wrote)).tables ≡ s.tables =
      tables-committed s other.0 wrote t here ∙ ap (λ (ws : List (ℕ × Written)). tables_behind ws s.tables) none in
      record {
        at = λ where_ own. absurd (unowned s other.0 t sound here nothing.1 where_ own);
        encoded = subst (λ (ts : List Table). AllByRecursion AreEncoded ts) (sym same) standing.encoded;
      }
  quiet-filed asking txn place book said given (entry.Create other table) at nothing =
      let t : Transaction = way_of book asking place said given in
      record {
        at = λ where_ own. absurd (unowned s other.0 t sound (ap (numbered s.transactions) nothing.0 ∙ at) nothing.1 where_ own);
        encoded = encoded-created s other.0 table.0 standing.encoded;
      }
  quiet-filed asking txn place book said given (entry.Drop other table) at nothing =
      let t : Transaction = way_of book asking place said given in
      record {
        at = λ where_ own. absurd (unowned s other.0 t sound (ap (numbered s.transactions) nothing.0 ∙ at) nothing.1 where_ own);
        encoded = encoded-dropped s other.0 table.0 standing.encoded;
      }
  quiet-filed asking txn place book said given (entry.Published job low high mark) at nothing = absurd nothing
  quiet-filed asking txn place book said given (entry.Cleaned job) at nothing = absurd nothing
  quiet-filed asking txn place book said given (entry.Forgot table write) at nothing = absurd nothing
  quiet-filed asking txn place book said given event at nothing = record { at = λ where_ asks. absurd asks; encoded = tt }

other-filed : (s : State) (files : Tree) (event : Entry) → CommitsNothing event → IsFiledFor event s files
other-filed s files (entry.Commit txn wrote) nothing = absurd nothing
other-filed s files (entry.Create txn table) nothing = absurd nothing
other-filed s files (entry.Drop txn table) nothing = absurd nothing
other-filed s files (entry.Published job low high mark) nothing = absurd nothing
other-filed s files (entry.Cleaned job) nothing = absurd nothing
other-filed s files (entry.Forgot table write) nothing = absurd nothing
other-filed s files event nothing = record { at = λ where_ asks. absurd asks; encoded = tt }

pub quiet-entries-stand : QuietEntriesStand
quiet-entries-stand book asking txn place said given event files fit fits way nothing standing =
    stands-behind book event files fit fits
    (quiet-filed (state_of book) files (books-are-sound profile book fit).base standing asking txn place book said given event way.here nothing) standing

pub other-entries-stand : OtherEntriesStand
other-entries-stand book event files fit fits nothing standing =
    stands-behind book event files fit fits (other-filed (state_of book) files event nothing) standing
