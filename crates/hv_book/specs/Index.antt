-- The notes that an index holds, and its room.
use Rattle.std.specs.Prelude.{◌≡◌, ℕ, ◌+◌, ◌≤◌, Option, map, vec_len, vec_capacity}
use Rattle.std.specs.Global.{Vec}
use Rattle.hv_ast.specs.declared.statement.Stmt.{Stmt}
use Rattle.hv_history.specs.declared.entry.Entry.{Entry}
use Rattle.hv_book.specs.declared.index.Index.{Index}
use Rattle.hv_book.specs.declared.openings.OpeningNotes.{OpeningNotes}
use Rattle.hv_book.specs.declared.past.PastNotes.{PastNotes}
use Rattle.hv_book.specs.Past.{PastSpares, AreTabled, IsPast, past_in}
use Rattle.hv_book.specs.Names.{IsNamed}
use Rattle.hv_book.specs.Opened.{AreOpened}
use Rattle.hv_book.specs.Notes.{Notes, notes_of}
use Rattle.hv_book.specs.Said.{said_of_entry}
use Rattle.hv_history.specs.State.{Openings, state_of}

abbrev pub notes_in : Index → Notes
notes_in index = record {
  opened = index.opened.items;
  transactions = index.transactions.items;
  ongoing = index.ongoing.items;
  texts = index.texts.items;
  tables = index.tables.items;
  held = index.held.items;
  commits = index.commits.items;
  jobs = index.jobs.notes;
}

-- each part has room for so many items more
pub record Spares (room : ℕ) (index : Index) : Type 0 where
  pub opened : vec_len index.opened + room ≤ vec_capacity index.opened
  pub transactions : vec_len index.transactions + room ≤ vec_capacity index.transactions
  pub ongoing : vec_len index.ongoing + room ≤ vec_capacity index.ongoing
  pub texts : vec_len index.texts + room ≤ vec_capacity index.texts
  pub tables : vec_len index.tables + room ≤ vec_capacity index.tables
  pub held : vec_len index.held + room ≤ vec_capacity index.held
  pub commits : vec_len index.commits + room ≤ vec_capacity index.commits
  pub jobs : room ≤ index.jobs.room

abbrev pub openings_in : OpeningNotes → Openings
openings_in notes = record { count = notes.count; last = notes.last; only_lost = notes.only_lost; kept = notes.kept.items }

-- what is kept beside the entries is theirs, and there is room beside them for as many as the index has room for
pub record IsIndexed (entries : Vec Entry) (trees : Vec (Option Stmt)) (index : Index) (openings : OpeningNotes) (kept : PastNotes) (names : Vec ℕ) : Type 0 where
  pub tree : trees.items ≡ map said_of_entry entries.items
  pub notes : notes_in index ≡ notes_of entries.items
  pub opening : openings_in openings ≡ (state_of entries.items).openings
  pub opened : AreOpened entries.items index.opened.items
  pub spares : Spares index.room index
  pub entry_room : vec_len entries + index.room ≤ vec_capacity entries
  pub tree_room : vec_len trees + index.room ≤ vec_capacity trees
  pub kept_room : vec_len openings.kept + index.room ≤ vec_capacity openings.kept
  pub past : IsPast entries.items (past_in kept)
  pub past_room : PastSpares index.room kept
  pub tabled : AreTabled kept
  pub named : IsNamed (state_of entries.items).tables names.items
  pub name_room : vec_len names + index.room ≤ vec_capacity names
