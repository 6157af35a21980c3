-- A transaction with one write id, and its places; and one with none.
use Rattle.std.proofs.Common.{refl, ◌≡◌, ℕ, ◌==◌, ◌⊎◌, inl, inr, true, false, cond, if◌then◌else◌, Some, None, [], ◌∷◌, map, option_map, sym, ap, ◌∙◌, eqb-true, eq-eqb}
use Rattle.hv_shelf.specs.declared.place.Place.{Place}
use Rattle.hv_history.specs.declared.state.Table.{Table}
use Rattle.hv_history.specs.declared.state.Transaction.{Transaction}
use Rattle.hv_history.specs.State.{State, numbered, given_in}
use Rattle.hv_stands.specs.Files.{own_dir, IsOwn}
use Rattle.hv_stands.specs.Sound.{given_of, owners_of, given_among, owner_among, IsSound}
use Rattle.hv_stands.specs.Running.{IsOfId}
use Rattle.hv_stands.proofs.Numbers.{one_value, none_is, either, numbered-map}
use Rattle.hv_stands.proofs.Keeping.{owner-table}

-- what it was given
given-there : (s : State) (txn : ℕ) (t : Transaction) → numbered s.transactions txn ≡ Some t → numbered (map given_of s.transactions) txn ≡ Some t.given
given-there s txn t at = numbered-map given_of s.transactions txn ∙ ap (option_map given_of) at

-- the transaction of a write id was given it
id-given : (s : State) (txn : ℕ) (t : Transaction) → IsSound s → numbered s.transactions txn ≡ Some t → (k write : ℕ) (table : Table)
    → numbered s.tables k ≡ Some table → numbered table.owners write ≡ Some txn → given_in k t.given ≡ Some write
id-given s txn t sound at k write table here owner =
    ap (λ o. given_among o k) (sym (given-there s txn t at))
    ∙ sound.given.is_given txn k write
    (ap (λ o. owner_among o write) (numbered-map owners_of s.tables k ∙ ap (option_map owners_of) here) ∙ owner)

own-given : (s : State) (txn : ℕ) (t : Transaction) → IsSound s → numbered s.transactions txn ≡ Some t → (place : Place) (own : IsOwn s.tables txn place)
    → given_in place.table.0 t.given ≡ Some own.write
own-given s txn t sound at place own = id-given s txn t sound at place.table.0 own.write own.table own.is own.owner

-- without a write id it has none, and so no directory
pub unowned-id : (s : State) (txn : ℕ) (t : Transaction) → IsSound s → numbered s.transactions txn ≡ Some t → t.given ≡ []
    → (k write : ℕ) (table : Table) → numbered s.tables k ≡ Some table → numbered table.owners write ≡ Some txn → ⊥
unowned-id s txn t sound at none k write table here owner =
    let is : given_in k [] ≡ Some write = ap (given_in k) (sym none) ∙ id-given s txn t sound at k write table here owner in
    cc

pub unowned : (s : State) (txn : ℕ) (t : Transaction) → IsSound s → numbered s.transactions txn ≡ Some t → t.given ≡ [] → (place : Place)
    → IsOwn s.tables txn place → ⊥
unowned s txn t sound at none place own = unowned-id s txn t sound at none place.table.0 own.write own.table own.is own.owner

-- ---- one write id

pub found-given : (k w : ℕ) → given_in k ((k, w) ∷ []) ≡ Some w
found-given k w = ap (λ b. if b then Some w else None) (eq-eqb k k refl)

given-only : (k w table write : ℕ) → given_in table ((k, w) ∷ []) ≡ Some write → (table ≡ k) × (write ≡ w)
given-only k w table write e = by (either (k == table)) e
  where
    by : (k == table ≡ true) ⊎ (k == table ≡ false) → cond (k == table) (Some w) None ≡ Some write → (table ≡ k) × (write ≡ w)
    by (inl same) e = (sym (eqb-true k table same), sym (one_value w write (sym (ap (λ b. cond b (Some w) None) same) ∙ e)))
    by (inr apart) e = absurd (none_is (cond (k == table) (Some w) None) write (ap (λ b. cond b (Some w) None) apart) e)

-- its table
pub record IsIdOf (s : State) (txn k w : ℕ) : Type 0 where
  pub table : Table
  pub here : numbered s.tables k ≡ Some table
  pub owner : numbered table.owners w ≡ Some txn

pub is-id-of : (s : State) (txn k w : ℕ) (t : Transaction) → IsSound s → numbered s.transactions txn ≡ Some t → t.given ≡ (k, w) ∷ [] → IsIdOf s txn k w
is-id-of s txn k w t sound at given =
    let there = owner-table (map owners_of s.tables) s.tables k w txn refl
    (sound.given.has_owner txn k w (ap (λ o. given_among o k) (given-there s txn t at) ∙ ap (given_in k) given ∙ found-given k w)) in
    record { table = there.0; here = there.1; owner = there.2 }

-- its places are those of the write id
pub own-of-id : (s : State) (txn k w : ℕ) (t : Transaction) → IsSound s → numbered s.transactions txn ≡ Some t → t.given ≡ (k, w) ∷ []
    → (place : Place) → IsOwn s.tables txn place → IsOfId k w place
own-of-id s txn k w t sound at given place own =
    let both = given-only k w place.table.0 own.write (ap (given_in place.table.0) (sym given) ∙ own-given s txn t sound at place own) in
    record {
      table_is = both.0;
      deletes = own.deletes;
      statement = own.statement;
      dir = own.dir ∙ ap (λ (x : ℕ). own_dir own.deletes x own.statement) both.1;
    }
