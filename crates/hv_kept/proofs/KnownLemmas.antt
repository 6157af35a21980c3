-- What is kept of the tables, as the store makes a step and tables are kept and forgotten.

use Rattle.std.proofs.Common.{◌≡◌, ℕ, Bool, true, false, cond, ◌&&◌, List, Option, Some, None, Result, Ok, Err, IfOk, OnOk, OnErr, IsErrOf, is_ok, length, is_some, le_refl, lt_irrefl, nat_cmp, BTreeMap, refl, sym, ◌∙◌, ap, subst, inl, inr}
use Rattle.std.specs.Cmp.{unsigned_Decides, unsigned_ties}
use Rattle.std.specs.BTreeMap.{is_at, get, Updates, IsUnchanged}
use Rattle.std.specs.Map.{lookup}
use Rattle.std.specs.FinMap as tree
use Rattle.hv_base.specs.declared.ids.TableId.{TableId}
use Rattle.hv_base.specs.Told.{Tells, Moves}
use Rattle.hv_base.proofs.ToldLemmas.{Moves-same, Moves-weaken}
use Rattle.hv_shelf.specs.declared.fault.ShelfFault.{ShelfFault}
use Rattle.hv_shelf.specs.declared.fault.ShelfFault.TheVariants as fault
use Rattle.hv_shelf.specs.declared.place.Place.{Place}
use Rattle.hv_shelf.specs.declared.place.DirAt.{DirAt}
use Rattle.hv_shelf.specs.Causes.{SoftCause}
use Rattle.hv_shelf.specs.Disk.{Store, places_of, HasFile, TornFile, IsRemoved, TornRemove, IsRenamed, TornRename, HasWritten, TornWrite}
use Rattle.hv_kept.specs.Kept.{is_among, HaveSame, Knows, AreKnown, IsWithin}
use Rattle.hv_kept.proofs.NamesLemmas.{true_or_false, listed, same_places, put_same, removed_same, put_within, torn_put_within, removed_within, torn_removed_within, renamed_within, torn_renamed_within}

-- ## One table

-- what is kept of another table stays right
stays : (table other : ℕ) (names : Option Store) (before now : Option Store) → ¬ (table ≡ other) →
    Moves (IsWithin table) before now → Knows before other names → Knows now other names
stays table other None before now apart step known = tt
stays table other (Some names) None None apart step known = tt
stays table other (Some names) None (Some s') apart step known = absurd step
stays table other (Some names) (Some s) None apart step known = absurd step
stays table other (Some names) (Some s) (Some s') apart step known = record {
  same = λ q of.
      known.same q of
      ∙ sym (ap is_some (step.others q (true_or_false _ (λ e. apart (sym ((unsigned_Decides q.table.0 table).0 e) ∙ (unsigned_Decides q.table.0 other).0 of)))));
}

-- a file was put, and noted
pub put_known : (table : ℕ) (place : Place) (empty bytes : List ℕ) (names names' : Store) (before now : Option Store) →
    HasFile place empty names names' → Moves (HasFile place bytes) before now →
    Knows before table (Some names) → Knows now table (Some names')
put_known table place empty bytes names names' None None noted step known = tt
put_known table place empty bytes names names' None (Some s') noted step known = absurd step
put_known table place empty bytes names names' (Some s) None noted step known = absurd step
put_known table place empty bytes names names' (Some s) (Some s') noted step known =
    put_same table place empty bytes names names' s s' noted step known

-- the files of a directory were taken away, and that was noted
pub removed_known : (table : ℕ) (dir : DirAt) (names names' : Store) (before now : Option Store) →
    IsRemoved dir names names' → Moves (IsRemoved dir) before now →
    Knows before table (Some names) → Knows now table (Some names')
removed_known table dir names names' None None noted step known = tt
removed_known table dir names names' None (Some s') noted step known = absurd step
removed_known table dir names names' (Some s) None noted step known = absurd step
removed_known table dir names names' (Some s) (Some s') noted step known =
    removed_same table dir names names' s s' noted step known

-- what was listed
pub listed_known : (table : TableId) (places : List Place) (names : Store) (told : Option Store) →
    ((q : Place) → tree.contains_key names.tree q ≡ is_among places q) →
    Tells told (λ s. places ≡ places_of table s.tree) → Knows told table.0 (Some names)
listed_known table places names None has is = tt
listed_known table places names (Some s) has is = record {
  same = λ q of.
      has q ∙ ap (λ ps. is_among ps q) is ∙ listed table s.tree q ∙ ap (λ b. b && tree.contains_key s.tree q) of;
}

-- what is kept, listed
pub known_listed : (table : TableId) (places : List Place) (names : Store) (told : Option Store) →
    places ≡ places_of table names.tree → Knows told table.0 (Some names) → Tells told (λ s. places ≡ places_of table s.tree)
known_listed table places names None is known = tt
known_listed table places names (Some s) is known = is ∙ same_places table names.tree s.tree known

-- ## All tables

without : (table other : ℕ) (names : Option Store) (before now : Option Store) →
    Moves (IsWithin table) before now → Knows before other names →
    (b : Bool) → is_at (nat_cmp table) other ≡ b → Knows now other (cond b None names)
without table other names before now step known true e = tt
without table other names before now step known false e =
    stays table other names before now
    (λ same. let clash : true ≡ false = sym ((unsigned_Decides table other).1 same) ∙ unsigned_ties table other ∙ e in cc)
    step known

pub forget_known : (table : ℕ) (kept kept' : BTreeMap ℕ Store) (before now : Option Store) →
    ((q : ℕ) → get nat_cmp kept' q ≡ cond (is_at (nat_cmp table) q) None (get nat_cmp kept q)) →
    Moves (IsWithin table) before now → AreKnown before kept → AreKnown now kept'
forget_known table kept kept' before now updates step known other =
    subst (Knows now other) (sym (updates other)) (without table other _ before now step (known other) _ refl)

with_one : (table other : ℕ) (names : Store) (was : Option Store) (told : Option Store) →
    Knows told table (Some names) → Knows told other was →
    (b : Bool) → is_at (nat_cmp table) other ≡ b → Knows told other (cond b (Some names) was)
with_one table other names was told one known true e =
    subst (λ t. Knows told t (Some names)) ((unsigned_Decides table other).0 (unsigned_ties table other ∙ e)) one
with_one table other names was told one known false e = known

pub keep_known : (table : ℕ) (names : Store) (kept kept' : BTreeMap ℕ Store) (told : Option Store) →
    ((q : ℕ) → get nat_cmp kept' q ≡ cond (is_at (nat_cmp table) q) (Some names) (get nat_cmp kept q)) →
    AreKnown told kept → Knows told table (Some names) → AreKnown told kept'
keep_known table names kept kept' told updates known one other =
    subst (Knows told other) (sym (updates other)) (with_one table other names _ told one (known other) _ refl)

pub same_known : (kept kept' : BTreeMap ℕ Store) (told : Option Store) → kept'.entries ≡ kept.entries →
    AreKnown told kept → AreKnown told kept'
same_known kept kept' told same known other =
    subst (λ es. Knows told other (lookup (is_at (nat_cmp other)) es)) (sym same) (known other)

-- ## Steps that leave the files

-- the tree stayed
pub tree_known : (kept : BTreeMap ℕ Store) (before now : Option Store) →
    Moves (λ s s'. s'.tree ≡ s.tree) before now → AreKnown before kept → AreKnown now kept
tree_known kept before now step known other = one before now _ step (known other)
  where
    one : (before now : Option Store) (names : Option Store) → Moves (λ s s'. s'.tree ≡ s.tree) before now →
        Knows before other names → Knows now other names
    one before now None step known = tt
    one None None (Some names) step known = tt
    one None (Some s') (Some names) step known = absurd step
    one (Some s) None (Some names) step known = absurd step
    one (Some s) (Some s') (Some names) step known = subst (HaveSame other names.tree) (sym step) known

torn_tree : (at count : ℕ) (s s' : Store) → TornWrite at count s s' → s'.tree ≡ s.tree
torn_tree at count s s' (inl e) = ap (λ (x : Store). x.tree) e
torn_tree at count s s' (inr broken) = broken.tree_is

-- ## What a map was asked

pub keep_either : {E : Type 0} (table : ℕ) (names : Store) (kept kept' : BTreeMap ℕ Store) (told : Option Store) (result : Result (Option Store) E) →
    OnOk result (Updates nat_cmp kept kept' table (Some names)) → OnErr result (IsUnchanged kept kept') →
    AreKnown told kept → Knows told table (Some names) → AreKnown told kept'
keep_either table names kept kept' told (Ok was) done unchanged known one = keep_known table names kept kept' told done.0 known one
keep_either table names kept kept' told (Err fault) done unchanged known one = same_known kept kept' told unchanged known

-- ## What is noted of a call that succeeded

-- what a map had of a table that was taken out of it
pub taken_known : (table : ℕ) (kept : BTreeMap ℕ Store) (told : Option Store) (names : Store) (found : Option Store) →
    found ≡ get nat_cmp kept table → found ≡ Some names → AreKnown told kept → Knows told table (Some names)
taken_known table kept told names found value is known = subst (Knows told table) (sym value ∙ is) (known table)

pub put_taken : (place : Place) (bytes : List ℕ) (kept kept' : BTreeMap ℕ Store) (before now : Option Store) →
    ((q : ℕ) → get nat_cmp kept' q ≡ cond (is_at (nat_cmp place.table.0) q) None (get nat_cmp kept q)) →
    Moves (HasFile place bytes) before now → AreKnown before kept → AreKnown now kept'
put_taken place bytes kept kept' before now updates step =
    forget_known place.table.0 kept kept' before now updates
    (Moves-weaken (HasFile place bytes) (IsWithin place.table.0) (λ s s'. put_within place bytes s s') before now step)

pub removed_taken : (dir : DirAt) (kept kept' : BTreeMap ℕ Store) (before now : Option Store) →
    ((q : ℕ) → get nat_cmp kept' q ≡ cond (is_at (nat_cmp dir.table.0) q) None (get nat_cmp kept q)) →
    Moves (IsRemoved dir) before now → AreKnown before kept → AreKnown now kept'
removed_taken dir kept kept' before now updates step =
    forget_known dir.table.0 kept kept' before now updates
    (Moves-weaken (IsRemoved dir) (IsWithin dir.table.0) (λ s s'. removed_within dir s s') before now step)

pub renamed_taken : (from : DirAt) (to : List ℕ) (kept kept' : BTreeMap ℕ Store) (before now : Option Store) →
    ((q : ℕ) → get nat_cmp kept' q ≡ cond (is_at (nat_cmp from.table.0) q) None (get nat_cmp kept q)) →
    Moves (IsRenamed from to) before now → AreKnown before kept → AreKnown now kept'
renamed_taken from to kept kept' before now updates step =
    forget_known from.table.0 kept kept' before now updates
    (Moves-weaken (IsRenamed from to) (IsWithin from.table.0) (λ s s'. renamed_within from to s s') before now step)

-- ## Calls that failed

torn_put : (place : Place) (before now : Option Store) → Moves (TornFile place) before now → Moves (IsWithin place.table.0) before now
torn_put place before now = Moves-weaken (TornFile place) (IsWithin place.table.0) (λ s s'. torn_put_within place s s') before now

torn_removed : (dir : DirAt) (before now : Option Store) → Moves (TornRemove dir) before now → Moves (IsWithin dir.table.0) before now
torn_removed dir before now = Moves-weaken (TornRemove dir) (IsWithin dir.table.0) (λ s s'. torn_removed_within dir s s') before now

torn_renamed : (from : DirAt) (to : List ℕ) (before now : Option Store) →
    Moves (TornRename from to) before now → Moves (IsWithin from.table.0) before now
torn_renamed from to before now =
    Moves-weaken (TornRename from to) (IsWithin from.table.0) (λ s s'. torn_renamed_within from to s s') before now

unmoved : (table : ℕ) (before now : Option Store) → now ≡ before → Moves (IsWithin table) before now
unmoved table before now same =
    subst (λ told. Moves (IsWithin table) before told) (sym same)
    (Moves-same (IsWithin table) (λ s. record { others = λ q h. refl }) before)

-- ## Calls of the journal

pub written_known : (kept : BTreeMap ℕ Store) (at : ℕ) (bytes : List ℕ) (before now : Option Store) →
    Moves (HasWritten at bytes) before now → AreKnown before kept → AreKnown now kept
written_known kept at bytes before now step =
    tree_known kept before now (Moves-weaken (HasWritten at bytes) (λ s s'. s'.tree ≡ s.tree) (λ s s' w. w.tree_is) before now step)

pub torn_known : (kept : BTreeMap ℕ Store) (at count : ℕ) (before now : Option Store) →
    Moves (TornWrite at count) before now → AreKnown before kept → AreKnown now kept
torn_known kept at count before now step =
    tree_known kept before now (Moves-weaken (TornWrite at count) (λ s s'. s'.tree ≡ s.tree) (λ s s' w. torn_tree at count s s' w) before now step)

pub told_known : (kept : BTreeMap ℕ Store) (before now : Option Store) → now ≡ before → AreKnown before kept → AreKnown now kept
told_known kept before now same known = subst (λ told. AreKnown told kept) (sym same) known

-- what a call of the journal that writes left
pub journal_known : (kept : BTreeMap ℕ Store) (at : ℕ) (bytes : List ℕ) (before now : Option Store) (result : Result (Unit {0}) ShelfFault) →
    OnOk result (Moves (HasWritten at bytes) before now) → (IsErrOf result fault.Failed → Moves (TornWrite at (length bytes)) before now) →
    (IsErrOf result fault.NoMemory → now ≡ before) → AreKnown before kept → AreKnown now kept
journal_known kept at bytes before now (Ok done) written torn same = written_known kept at bytes before now written
journal_known kept at bytes before now (Err fault.Failed) written torn same = torn_known kept at (length bytes) before now (torn refl)
journal_known kept at bytes before now (Err fault.NoMemory) written torn same = told_known kept before now (same refl)

pub on_ok : {A E : Type 0} (result : Result A E) (P : Type 0) → is_ok result ≡ true → OnOk result P → P
on_ok (Ok value) P is p = p
on_ok (Err fault) P is p = absurd (cc)

-- a call that didn't ask the other store, and didn't fail
pub calm : {F : Type 0} (faults hard : ℕ) → ¬ F → SoftCause F faults faults hard hard
calm faults hard never = record {
  later = le_refl faults;
  hard_later = le_refl hard;
  failed = λ f. absurd (never f);
  failed_last = λ f. absurd (never f);
  rose_last = λ low. absurd (lt_irrefl faults low);
  below_last = λ low. refl;
}

-- what a call that wasn't done left
pub put_undone : (place : Place) (before now : Option Store) (result : Result (Unit {0}) ShelfFault) → is_ok result ≡ false →
    (IsErrOf result fault.Failed → Moves (TornFile place) before now) → (IsErrOf result fault.NoMemory → now ≡ before) →
    Moves (IsWithin place.table.0) before now
put_undone place before now (Ok done) undone torn same = absurd (cc)
put_undone place before now (Err fault.Failed) undone torn same = torn_put place before now (torn refl)
put_undone place before now (Err fault.NoMemory) undone torn same = unmoved place.table.0 before now (same refl)

pub rename_undone : (from : DirAt) (to : List ℕ) (before now : Option Store) (result : Result (Unit {0}) ShelfFault) → is_ok result ≡ false →
    (IsErrOf result fault.Failed → Moves (TornRename from to) before now) → (IsErrOf result fault.NoMemory → now ≡ before) →
    Moves (IsWithin from.table.0) before now
rename_undone from to before now (Ok done) undone torn same = absurd (cc)
rename_undone from to before now (Err fault.Failed) undone torn same = torn_renamed from to before now (torn refl)
rename_undone from to before now (Err fault.NoMemory) undone torn same = unmoved from.table.0 before now (same refl)

pub remove_undone : {E : Type 0} (dir : DirAt) (before now : Option Store) (result : Result (Unit {0}) E) → is_ok result ≡ false →
    OnErr result (Moves (TornRemove dir) before now) → Moves (IsWithin dir.table.0) before now
remove_undone dir before now (Ok done) undone torn = absurd (cc)
remove_undone dir before now (Err failed) undone torn = torn_removed dir before now torn

-- what a table that is kept was listed as
pub listed_if : {V E : Type 0} (table : TableId) (names : Store) (result : Result V E) (items : V → List Place) (told : Option Store) →
    IfOk result (λ v. (other : Option Store) → Knows other table.0 (Some names) → Tells other (λ s. items v ≡ places_of table s.tree)) →
    Knows told table.0 (Some names) → IfOk result (λ v. Tells told (λ s. items v ≡ places_of table s.tree))
listed_if table names (Ok value) items told is known = is told known
listed_if table names (Err fault) items told is known = tt

-- what was listed, of the list itself
pub told_list : {V E : Type 0} (result : Result V E) (value : V) (items : V → List Place) (told : Option Store) (table : TableId)
    (places : List Place) → result ≡ Ok value → places ≡ items value →
    IfOk result (λ v. Tells told (λ s. items v ≡ places_of table s.tree)) → Tells told (λ s. places ≡ places_of table s.tree)
told_list result value items told table places is are listed =
    subst (λ ps. Tells told (λ s. ps ≡ places_of table s.tree)) (sym are)
    (subst (λ r. IfOk r (λ v. Tells told (λ s. items v ≡ places_of table s.tree))) is listed)
