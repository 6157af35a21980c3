-- Whatever is put, broken or taken away in own directories of a write id of an open transaction, the files that the book makes stand.
use Rattle.std.proofs.Common.{refl, ◌≡◌, ◌⊎◌, inl, inr, ℕ, Some, None, List, [], ◌∷◌, take, sym, ap, ◌∙◌, subst, arith}
use Rattle.std.specs.FinMap as tree
use Rattle.hv_shelf.specs.declared.place.Place.{Place}
use Rattle.hv_shelf.specs.Disk.{Tree}
use Rattle.hv_ast.specs.declared.statement.Stmt.{Stmt}
use Rattle.hv_history.specs.declared.entry.Entry.{Entry}
use Rattle.hv_history.specs.declared.state.Transaction.{Transaction}
use Rattle.hv_history.specs.State.{State, numbered, state_of}
use Rattle.hv_history.specs.Legal.{profile}
use Rattle.hv_stands.specs.Files.{IsOwn, IsUndone, IsLoose}
use Rattle.hv_stands.specs.Running.{Asking, meant, snapshot_at, running, IsOfId}
use Rattle.hv_stands.proofs.Behind.{entries-are}
use Rattle.hv_stands.proofs.OwnPlaces.{of-id-decided}
use Rattle.hv_stands.proofs.OwnFiles.{IsIdOf, is-id-of}
use Rattle.hv_law_made.specs.Named.{AllHaveNames}
use Rattle.hv_law_made.specs.Standing.{Standing}
use Rattle.hv_law_made.specs.Laws.{MayTurn, IsUnended}
use Rattle.hv_law_made.specs.Entries.{IsSoundBook}
use Rattle.hv_law_made.proofs.FrameLemmas.{changes-stand}
use Rattle.hv_law_made.proofs.NameBounds.{all-named}
use Rattle.hv_law_made.proofs.BookLemmas.{books-are-sound}
use Rattle.hv_law_made.proofs.EntryStands.{turns, unended-as, kept-id}
use Rattle.hv_law_filed.specs.Filed.{PutsStand}

-- a statement that is under way
abbrev pub way_of : List Entry → Asking → ℕ → Stmt → List (ℕ × ℕ) → Transaction
way_of book asking place said given = running asking (meant (take place book) said) (snapshot_at book place) given

module _ (s : State) (sound : IsSoundBook s) (txn k w : ℕ) (t : Transaction) (at : numbered s.transactions txn ≡ Some t) (unended : t.ending ≡ None)
    (id : IsIdOf s txn k w) where
  pub ending-none : IsUnended s (record { 0 = txn })
  ending-none = unended-as s (record { 0 = txn }) t at unended

  -- its places are the transaction's own: no id of an open one is forgotten
  pub of-id-own : (place : Place) → IsOfId k w place → IsOwn s.tables txn place
  of-id-own place of = record {
    table = id.table;
    is = ap (numbered s.tables) of.table_is ∙ id.here;
    deletes = of.deletes;
    write = w;
    statement = of.statement;
    dir = of.dir;
    owner = id.owner;
    kept = kept-id s (record { 0 = txn }) sound ending-none k id.table w id.here id.owner;
  }

  pub of-id-loose : (place : Place) → IsOfId k w place → IsLoose s place
  of-id-loose place of = record { txn = txn; own = of-id-own place of; undone = subst IsUndone (sym ending-none) tt }

  pub puts-there : AllHaveNames s → (before now : Tree) → ((other : Place) → (IsOfId k w other → ⊥) → tree.get now other ≡ tree.get before other)
      → Standing s before → Standing s now
  puts-there names before now others standing = changes-stand s before now names (λ place. each place (of-id-decided k w place)) standing
    where
      each : (place : Place) → IsOfId k w place ⊎ (IsOfId k w place → ⊥)
          → (tree.get now place ≡ tree.get before place) ⊎ MayTurn s place (tree.get now place)
      each place (inl of) = inr (turns s place names (inl (of-id-loose place of)) (tree.get now place))
      each place (inr apart) = inl (others place apart)

pub puts-stand : PutsStand
puts-stand book asking txn place said table write before now fit room way others standing =
    let s : State = state_of book in
    let t : Transaction = way_of book asking place said ((table, write) ∷ []) in
    let sound = books-are-sound profile book fit in
    let names = all-named s (omega (arith, room, entries-are book)) sound in
    puts-there s sound txn table write t way.here refl (is-id-of s txn table write t sound.base way.here refl) names before now others standing
