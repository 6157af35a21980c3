-- What is true of every longer trail, whatever its further items are.
use Rattle.std.specs.Prelude.{◌≡◌, ℕ, Bool, Some, None, IsSomeAnd, List}
use Rattle.hv_logic.specs.declared.meaning.Meaning.{Meaning}
use Rattle.hv_book.specs.hv_history.specs.declared.state.Transaction.{Transaction}
use Rattle.hv_book.specs.hv_history.specs.declared.state.Snapshot.{Snapshot}
use Rattle.hv_book.specs.hv_history.specs.declared.state.Ending.{Ending}
use Rattle.hv_book.specs.hv_history.specs.State.{numbered, given_in, meaning, statement_of}
use Rattle.hv_book.specs.hv_history.specs.Lasting as kept
use Rattle.hv_trail.specs.declared.trail.Reader.{Reader}
use Rattle.hv_trail.specs.declared.trail.TrailItem.{TrailItem}
use Rattle.hv_trail.specs.Trail.{book_of, state_at, marks_of, broken}

-- the transaction of this number is so
abbrev pub Has : List TrailItem → ℕ → (Transaction → Type 0) → Type 0
Has trail txn P = IsSomeAnd (numbered (state_at trail).transactions txn) P

-- ---- what is said of a transaction

-- a statement of this session and number, with this text, opened it
pub record IsOpened (session : List ℕ) (number : ℕ) (text : List ℕ) (t : Transaction) : Type 0 where
  pub session_is : t.session ≡ session
  pub opens : IsSomeAnd (statement_of t 0) (λ s. (s.number ≡ number) × (s.text ≡ text))

-- it started with this snapshot, and its statement means this
pub record IsStarted (snapshot : Snapshot) (means : Meaning) (t : Transaction) : Type 0 where
  pub snapshot_is : t.snapshot ≡ Some snapshot
  pub means_it : meaning t ≡ Some means

-- it was given this write id in this table
abbrev pub IsGiven : (table write : ℕ) → Transaction → Type 0
IsGiven table write t = given_in table t.given ≡ Some write

abbrev pub IsOpen : Transaction → Type 0
IsOpen t = t.ending ≡ None

abbrev pub IsEnded : Ending → Transaction → Type 0
IsEnded ending t = t.ending ≡ Some ending

-- ---- what lasts

-- Each transaction and each table is there later, as hv_history says of them; the book and the marks go on.
pub record GoesOn (before now : List TrailItem) : Type 0 where
  pub history : kept.GoesOn (state_at before) (state_at now)
  pub book : kept.IsFront (book_of before) (book_of now)
  pub marks : kept.IsFront (marks_of before) (marks_of now)
  pub fault : (reader : Reader) (why : Bool × ℕ) → broken reader before ≡ Some why → broken reader now ≡ Some why
