-- The files of a statement stay while those of write ids that were given stay.
use Rattle.std.proofs.Common.{refl, ◌≡◌, ℕ, ◌+◌, ◌≤◌, List, [], ◌∷◌, length, take, sym, ap, ◌∙◌, subst, length-append, arith}
use Rattle.hv_ast.specs.declared.statement.Stmt.{Stmt}
use Rattle.hv_history.specs.declared.entry.Entry.{Entry}
use Rattle.hv_history.specs.declared.state.Table.{Table}
use Rattle.hv_history.specs.declared.state.Transaction.{Transaction}
use Rattle.hv_history.specs.State.{State, numbered, state_of}
use Rattle.hv_stands.specs.Sound.{HasFewOwners}
use Rattle.hv_stands.specs.Running.{Asking, meant, snapshot_at, running, IsOfId}
use Rattle.hv_stands.specs.Statements.{PutFilesStay, NewIdsAreOthers, EarlierIdsAreKept}
use Rattle.hv_stands.proofs.Numbers.{same_one, numbered-within}
use Rattle.hv_stands.proofs.Soundness.{all-numbered}
use Rattle.hv_stands.proofs.MadeFiles.{own_dir-same}
use Rattle.hv_stands.proofs.Behind.{entries-are}
use Rattle.hv_stands.proofs.Fitting.{fitting-sound}
use Rattle.hv_stands.proofs.SeeingEnough.{table-stays}
use Rattle.hv_stands.proofs.OwnFiles.{is-id-of}

-- a statement that is under way
abbrev way_of : List Entry → Asking → ℕ → Stmt → List (ℕ × ℕ) → Transaction
way_of book asking place said given = running asking (meant (take place book) said) (snapshot_at book place) given

-- ---- its files stay

pub put-files-stay : PutFilesStay
put-files-stay book asking txn place said info effect write before now fit way keeps put =
    let s : State = state_of book in
    let t : Transaction = way_of book asking place said ((info.table.0, write) ∷ []) in
    let id = is-id-of s txn info.table.0 write t (fitting-sound book fit) way.here refl in
    let within = numbered-within id.table.owners write txn id.owner in
    record {
      own = λ where_ of.
          keeps where_ (record {
            table = id.table;
            named = ap (numbered s.tables) of.table_is ∙ id.here;
            write = write;
            first = within.0;
            last = within.1;
            own = record { table_is = refl; deletes = of.deletes; statement = of.statement; dir = of.dir };
          })
          ∙ put.own where_ of;
      encoded = put.encoded;
    }

pub new-ids-others : NewIdsAreOthers
new-ids-others book number table before now fit room at others where_ given = others where_ apart
  where
    s : State
    s = state_of book

    few : length table.owners ≤ s.entries
    few = all-numbered (HasFewOwners s.entries) s.tables number table at (fitting-sound book fit).tables.few

    apart : IsOfId number (length table.owners + 1) where_ → ⊥
    apart of =
        let same : given.table ≡ table =
        same_one (numbered s.tables number) given.table table (ap (numbered s.tables) (sym of.table_is) ∙ given.named) at in
        let last : given.write ≤ length table.owners = subst (λ (x : Table). given.write ≤ length x.owners) same given.last in
        let count = entries-are book in
        let names = own_dir-same given.own.deletes of.deletes given.write given.own.statement (length table.owners + 1) of.statement
        (omega (arith, last, few, count, room)) (omega (arith, few, count, room)) (sym given.own.dir ∙ of.dir) in
        let is : given.write ≡ length table.owners + 1 = names.1 in
        omega (arith, is, last)

pub earlier-ids-kept : EarlierIdsAreKept
earlier-ids-kept book more before now fit keeps where_ given =
    let later = table-stays book more where_.table.0 given.table given.named in
    let longer : length later.0.owners ≡ length given.table.owners + length later.2.owners.more =
    ap length later.2.owners.is ∙ length-append given.table.owners later.2.owners.more in
    keeps where_ (record {
      table = later.0;
      named = later.1;
      write = given.write;
      first = given.first;
      last = omega (arith, given.last, longer);
      own = given.own;
    })
