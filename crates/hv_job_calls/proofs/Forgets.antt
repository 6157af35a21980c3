-- An own directory of a write id among the places of a table, and the call that forgets the id.
use Rattle.std.proofs.Common.{◌≡◌, inl, inr, ℕ, suc, ◌+◌, ◌/◌, ◌%◌, ◌==◌, ◌<◌, ◌≤◌, Bool, true, false, true≢false, Option, Some, None, Result, Ok, Err, List, [], ◌∷◌, ◌++◌, length, get_or, refl, sym, ap, ◌∙◌, subst, arith, eqb-true, eq-eqb, ltb-true, ltb-false}
use Rattle.std.specs.Prelude.{nat_lt, codes, IfOk, IfErr, Contains}
use Rattle.std.specs.FinMap as tree
use Rattle.std.proofs.lemmas.List.{get_or_default}
use Rattle.hv_base.specs.Told.{Tells}
use Rattle.hv_base.specs.declared.ids.TableId.{TableId}
use Rattle.hv_base.specs.declared.ids.WriteId.{WriteId}
use Rattle.hv_shelf.specs.declared.place.DirAt.{DirAt}
use Rattle.hv_shelf.specs.declared.place.Place.{Place}
use Rattle.hv_shelf.specs.Disk.{Store, Tree, places_of}
use Rattle.hv_table.specs.Decimal.{fixed_digits}
use Rattle.hv_dirs.specs.declared.names.DirName.{DirName}
use Rattle.hv_dirs.specs.declared.names.DirName.TheVariants as dir_name
use Rattle.hv_dirs.specs.Names.{IsName, IsNumber, text_of, own_name, kind_mark}
use Rattle.hv_history.specs.declared.entry.Entry.{Entry}
use Rattle.hv_history.specs.declared.entry.Entry.TheVariants as entry
use Rattle.hv_history.specs.declared.state.Table.{Table}
use Rattle.hv_history.specs.State.{State, numbered, nothing_yet, state_of}
use Rattle.hv_history.specs.Legal.{AllFit, profile}
use Rattle.hv_stands.specs.Files.{own_dir}
use Rattle.hv_stands.proofs.Numbers.{found, numbered-within}
use Rattle.hv_stands.proofs.Soundness.{all-numbered}
use Rattle.hv_law_visible.specs.Members.{IsIn}
use Rattle.hv_table_rows.proofs.TakenFiles.{place-there}
use Rattle.hv_law_made.specs.Laws.{IsOwnOf}
use Rattle.hv_law_made.specs.Named.{HasNames}
use Rattle.hv_law_made.proofs.BookLemmas.{books-are-sound, aborted-id}
use Rattle.hv_law_made.proofs.NameBounds.{books-have-names}
use Rattle.hv_law_made.proofs.UnmadeLemmas.{own-name}
use Rattle.hv_telling.specs.hv_law_work.specs.Marks.{MayGoNow}
use Rattle.hv_trail.specs.Steps.{Note, Read, Done, Step}
use Rattle.hv_telling.specs.hv_house.specs.declared.fault.HouseFault.{HouseFault}
use Rattle.hv_telling.specs.hv_house.specs.declared.fault.HouseFault.TheVariants as house
use Rattle.hv_telling.specs.hv_house.specs.declared.house.House.{House}
use Rattle.hv_telling.specs.hv_house.specs.Faults.{HasRisen}
use Rattle.hv_telling.specs.hv_house.specs.House.{StaysPutWithin}
use Rattle.hv_telling.specs.hv_house.specs.Steps.{seen_of, fault_outcome}
use Rattle.hv_telling.specs.Telling.{IsWhole, HasNoOwn}
use Rattle.hv_telling.proofs.Few.{few-entries}
use Rattle.hv_telling.proofs.Told.{told-stays}
use Rattle.hv_job_calls.specs.declared.fault.JobFault.{JobFault}
use Rattle.hv_job_calls.specs.declared.fault.JobFault.TheVariants as fault
use Rattle.hv_job_calls.specs.Forgetting.{forget_call, is_own_named, IsOwnNamed, IsFirstOwn, StillListedIn}
use Rattle.hv_job_calls.specs.Refusals.{IsLostId, IsKeptId, IsLostIn, CanForget, IsOwnText, IsListedOwn, IsUnlisted}
use Rattle.hv_job_calls.specs.Steps.{job_call, JobStep}
use Rattle.hv_job_calls.specs.Tests.{IsHouse, ListsOrHouse}
use Rattle.hv_job_calls.proofs.Steps.{ok-behind, house-behind, listed-on, read-start, read-failed, unread-note, shut-note}

-- ---- the text of an own directory: the last four digits of its statement

same-digits : (w a b : ℕ) → fixed_digits w (a / 10) ≡ fixed_digits w (b / 10) → a % 10 ≡ b % 10 → fixed_digits (suc w) a ≡ fixed_digits (suc w) b
unfolding fixed_digits
same-digits w a b front last = (λ i. front i ++ (48 + last i) ∷ [])

no-digits : (a b : ℕ) → fixed_digits 0 a ≡ fixed_digits 0 b
unfolding fixed_digits
no-digits a b = refl

four-digits : (s r : ℕ) → r ≡ s % 10000 → fixed_digits 4 s ≡ fixed_digits 4 r
four-digits s r is =
    same-digits 3 s r
    (same-digits 2 (s / 10) (r / 10)
    (same-digits 1 ((s / 10) / 10) ((r / 10) / 10)
    (same-digits 0 (((s / 10) / 10) / 10) (((r / 10) / 10) / 10) (no-digits ((((s / 10) / 10) / 10) / 10) ((((r / 10) / 10) / 10) / 10)) (omega (arith, is)))
    (omega (arith, is)))
    (omega (arith, is)))
    (omega (arith, is))

own-wrapped : (deletes : Bool) (write s r : ℕ) → r ≡ s % 10000 → own_dir deletes write s ≡ own_dir deletes write r
unfolding own_name
own-wrapped deletes write s r is =
    ap (λ (last : List ℕ). kind_mark deletes ++ (codes "delta_" ++ fixed_digits 7 write ++ codes "_" ++ fixed_digits 7 write ++ codes "_" ++ last)) (four-digits s r is)

-- it has a name
pub own-is-named : (write : ℕ) (text : List ℕ) → IsNumber write → IsOwnText write text → (name : DirName) × (IsName name × (text_of name ≡ text))
own-is-named write text number own =
    let small : own.statement % 10000 < 10000 = omega arith in (
      dir_name.Own own.deletes (record { 0 = write }) (own.statement % 10000),
      ((number, small), sym (own.is ∙ own-wrapped own.deletes write own.statement (own.statement % 10000) refl)),
    )

-- and by its name it is known
pub own-told : (write : ℕ) (text : List ℕ) (name : DirName) → IsNumber write → IsName name → text_of name ≡ text → IsOwnNamed write text (is_own_named write name)
own-told write text (dir_name.Base high) number is e = λ own.
    own-name (dir_name.Base high) own.deletes write own.statement is number.1 (e ∙ own.is)
own-told write text (dir_name.Own deletes other statement) number is e = by (other.0 == write) refl
  where
    by : (b : Bool) → (other.0 == write) ≡ b → IsOwnNamed write text b
    by true same = record {
      deletes = deletes;
      statement = statement;
      is = sym e ∙ ap (λ (w : ℕ). own_dir deletes w statement) (eqb-true other.0 write same);
    }
    by false apart = λ own.
        let one = own-name (dir_name.Own deletes other statement) own.deletes write own.statement is number.1 (e ∙ own.is) in
        true≢false (sym (eq-eqb other.0 write one) ∙ apart)
own-told write text (dir_name.Wide deletes low high) number is e = λ own.
    own-name (dir_name.Wide deletes low high) own.deletes write own.statement is number.1 (e ∙ own.is)
own-told write text (dir_name.Staged job name) number is e = λ own.
    own-name (dir_name.Staged job name) own.deletes write own.statement is number.1 (e ∙ own.is)

pub own-nameless : (write : ℕ) (text : List ℕ) → IsNumber write → ((name : DirName) → IsName name → text_of name ≡ text → None ≡ Some name) → IsOwnText write text → ⊥
own-nameless write text number every own =
    let there = own-is-named write text number own in
    let never : None ≡ Some there.0 = every there.0 there.1.0 there.1.1 in
    cc

-- ---- among places

-- none of the first ones is in one
pub record NoneOwn (write : ℕ) (places : List Place) (i : ℕ) : Type 0 where
  pub none : (k : ℕ) (place : Place) → k < i → get_or places k place ≡ place → IsOwnText write place.dir → ⊥

pub none-init : (write : ℕ) (places : List Place) → NoneOwn write places 0
none-init write places = record { none = λ k place low at own. absurd (omega (arith, low)) }

pub none-next : (write : ℕ) (places : List Place) (i : ℕ) (item : Place) → i < length places → item ≡ get_or places i item → NoneOwn write places i
    → (IsOwnText write item.dir → ⊥) → NoneOwn write places (i + 1)
none-next write places i item within is so_far here = record { none = λ k place low at own. by k place low at own (nat_lt k i) refl }
  where
    by : (k : ℕ) (place : Place) → k < i + 1 → get_or places k place ≡ place → IsOwnText write place.dir → (b : Bool) → nat_lt k i ≡ b → ⊥
    by k place low at own true less = so_far.none k place (ltb-true k i less) at own
    by k place low at own false most =
        let high = ltb-false k i most in
        let same : k ≡ i = omega (arith, high, low) in
        let one : place ≡ item = sym at ∙ ap (λ (n : ℕ). get_or places n place) same ∙ get_or_default places i place item within ∙ sym is in
        here (subst (λ (p : Place). IsOwnText write p.dir) one own)

pub none-all : (write : ℕ) (places : List Place) (i : ℕ) → length places ≤ i → NoneOwn write places i → IsFirstOwn write places None
none-all write places i all so_far = λ place among own.
    let within = among.1 in
    so_far.none among.0 place (omega (arith, within, all)) among.2 own

pub first-found : (write : ℕ) (places : List Place) (i : ℕ) (item : Place) (dir : List ℕ) → i < length places → item ≡ get_or places i item → dir ≡ item.dir
    → IsOwnText write item.dir → IsFirstOwn write places (Some dir)
first-found write places i item dir within is same own =
    (subst (IsOwnText write) (sym same) own, (item, (i, within, sym is), sym same))

-- ---- of a table

module _ (table : TableId) (write : ℕ) (places : List Place) where
  pub listed-own : (dir : List ℕ) → IsFirstOwn write places (Some dir) → (files : Tree) → places ≡ places_of table files → IsListedOwn table write dir files
  listed-own dir first files are = record {
    own = first.0;
    place = first.1.0;
    listed = subst (λ (ps : List Place). Contains ps first.1.0) are first.1.1;
    there = first.1.2;
  }

  pub unlisted : IsFirstOwn write places None → (files : Tree) → places ≡ places_of table files → IsUnlisted table write files
  unlisted none files are = λ place among. none place (subst (λ (ps : List Place). Contains ps place) (sym are) among)

in-contains : {X : Type 0} (x : X) (xs : List X) → IsIn x xs → Contains xs x
in-contains x [] h = absurd h
in-contains x (y ∷ xs) (inl e) = (0, omega arith, e)
in-contains x (y ∷ xs) (inr h) = let at = in-contains x xs h in (suc at.0, omega (arith, at.1), at.2)

pub none-stands : (table : TableId) (write : ℕ) (files : Tree) → IsUnlisted table write files → HasNoOwn table.0 write files
none-stands table write files none = λ place own. by place own (tree.get files place) refl
  where
    by : (place : Place) → IsOwnOf table.0 write place → (o : Option (List ℕ)) → tree.get files place ≡ o → o ≡ None
    by place own None e = refl
    by place own (Some bytes) e =
        absurd (none place (in-contains place (places_of table files) (place-there table files place bytes own.table_is e))
        (record { deletes = own.deletes; statement = own.statement; is = own.dir }))

pub tells-more : (o : Option Store) (P Q : Store → Type 0) → ((s : Store) → P s → Q s) → Tells o P → Tells o Q
tells-more None P Q on is = tt
tells-more (Some s) P Q on is = on s is

-- ---- the id

-- it has a name
pub id-number : (book : List Entry) (fit : AllFit profile nothing_yet book) (table write : ℕ) → CanForget (state_of book) table write → IsNumber write
id-number book fit table write can =
    let state = state_of book in
    let t = found (λ (x : Table). IsLostId state write x × IsKeptId write x) (numbered state.tables table) can in
    let owner = aborted-id state.transactions (numbered t.0.owners write) t.2.0 in
    let few = few-entries book fit in
    let names = books-have-names state (omega (arith, few)) (books-are-sound profile book fit) in
    let here = all-numbered (HasNames state) state.tables table t.0 t.1 names.tables in
    ((numbered-within t.0.owners write owner.0 owner.1).0, here.ids write owner.0 owner.1)

-- its directories may go
pub lost-goes : (state : State) (table : TableId) (write : ℕ) (dir : DirAt) → dir.table ≡ table → IsOwnText write dir.dir → IsLostIn state table.0 write → MayGoNow state dir
lost-goes state table write dir here own lost =
    let t = found (IsLostId state write) (numbered state.tables table.0) lost in
    let owner = aborted-id state.transactions (numbered t.0.owners write) t.2 in
    inr (inl (record {
      table = t.0;
      table_is = ap (λ (x : TableId). numbered state.tables x.0) here ∙ t.1;
      write = write;
      txn = owner.0;
      owner = owner.1;
      aborted = owner.2;
      deletes = own.deletes;
      statement = own.statement;
      text = own.is;
    }))

-- ---- what a listing comes to

pub house-unlisted : (o : Option Store) (table : TableId) (write : ℕ) (r : Result (Unit {0}) JobFault) → IfErr r IsHouse → IfErr r (StillListedIn o table write)
house-unlisted o table write (Ok x) is = tt
house-unlisted o table write (Err (fault.House why)) is = tt
house-unlisted o table write (Err fault.Gone) is = absurd is
house-unlisted o table write (Err (fault.Full entries)) is = absurd is
house-unlisted o table write (Err fault.NotFound) is = absurd is
house-unlisted o table write (Err (fault.Needed txn)) is = absurd is
house-unlisted o table write (Err (fault.StillListed dir)) is = absurd is
house-unlisted o table write (Err (fault.Working job)) is = absurd is
house-unlisted o table write (Err fault.Starved) is = absurd is

pub ok-so : {T E A : Type 0} (r : Result T E) → A → IfOk r (λ _. A)
ok-so (Ok x) so = so
ok-so (Err why) so = tt

-- in the store before the listing
pub unlisted-before : (o p : Option Store) → p ≡ o → (table : TableId) (write : ℕ) (r : Result (Unit {0}) JobFault) → IfErr r (StillListedIn p table write)
    → IfErr r (StillListedIn o table write)
unlisted-before o p same table write r is = subst (λ (q : Option Store). IfErr r (StillListedIn q table write)) same is

pub bare-before : (o p : Option Store) → p ≡ o → (table : TableId) (write : ℕ) (r : Result (Unit {0}) JobFault)
    → IfOk r (λ _. Tells p (λ s. IsUnlisted table write s.tree)) → IfOk r (λ _. Tells o (λ s. IsUnlisted table write s.tree))
bare-before o p same table write r is = subst (λ (q : Option Store). IfOk r (λ _. Tells q (λ s. IsUnlisted table write s.tree))) same is

module _ {D : Type 0} (told : D → Option Store) (faults : D → ℕ) (table : TableId) (write : WriteId) where
  -- what was noted, or failed
  pub noted : (before now : House D) (r : Result (Unit {0}) JobFault) → JobStep told faults (job_call (Note (entry.Forgot table write)) r) before now r
      → JobStep told faults (forget_call table write r) before now r
  noted before now (Ok x) step = step
  noted before now (Err (fault.House house.Store)) step = step
  noted before now (Err (fault.House house.NoMemory)) step = step
  noted before now (Err (fault.House (house.Failed count))) step = absurd step.step.may
  noted before now (Err fault.Gone) step = step
  noted before now (Err (fault.Full entries)) step = step
  noted before now (Err fault.NotFound) step = step
  noted before now (Err (fault.Needed txn)) step = step
  noted before now (Err (fault.StillListed dir)) step = step
  noted before now (Err (fault.Working job)) step = step
  noted before now (Err fault.Starved) step = step

  -- the listing failed
  pub list-failed : (before now : House D) (why : HouseFault) → IsWhole told before → Step told faults (Read None) (fault_outcome why) (seen_of before) (seen_of now)
      → StaysPutWithin profile told why now → faults before.shelf ≤ faults now.shelf → HasRisen (faults before.shelf) (faults now.shelf) why
      → JobStep {T = Unit {0}} told faults (forget_call table write (Err (fault.House why))) before now (Err (fault.House why))
  list-failed before now house.Store whole read stays later risen =
      read-failed told faults None (Note (entry.Forgot table write)) before now house.Store whole read stays later risen
      (shut-note told faults None (entry.Forgot table write) before now read)
  list-failed before now house.NoMemory whole read stays later risen =
      read-failed told faults None (Note (entry.Forgot table write)) before now house.NoMemory whole read stays later risen
      (unread-note told faults None (entry.Forgot table write) before now read)
  list-failed before now (house.Failed count) whole read stays later risen =
      read-failed told faults None (Read None) before now (house.Failed count) whole read stays later risen read

  -- or it was done
  module _ (before mid : House D) (read : Step told faults (Read None) Done (seen_of before) (seen_of mid)) (same : told mid.shelf ≡ told before.shelf) where
    start : mid.start ≡ before.start
    start = read-start told faults None Done before mid read

    pub listed : (now : House D) (r : Result (Unit {0}) JobFault) → IfErr r ListsOrHouse → JobStep told faults (forget_call table write r) mid now r
        → JobStep told faults (forget_call table write r) before now r
    listed now (Ok x) is step = ok-behind told faults None before mid read same (Note (entry.Forgot table write)) now x start step
    listed now (Err (fault.House house.Store)) is step =
        house-behind told faults None before mid read same (Note (entry.Forgot table write)) now house.Store start (told-stays told before mid start) step
    listed now (Err (fault.House house.NoMemory)) is step =
        house-behind told faults None before mid read same (Note (entry.Forgot table write)) now house.NoMemory start (told-stays told before mid start) step
    listed now (Err (fault.House (house.Failed count))) is step =
        house-behind told faults None before mid read same (Read None) now (house.Failed count) start (told-stays told before mid start) step
    listed now (Err (fault.StillListed dir)) is step = listed-on told faults None before mid read same now dir start (told-stays told before mid start) step
    listed now (Err fault.Gone) is step = absurd is
    listed now (Err (fault.Full entries)) is step = absurd is
    listed now (Err fault.NotFound) is step = absurd is
    listed now (Err (fault.Needed txn)) is step = absurd is
    listed now (Err (fault.Working job)) is step = absurd is
    listed now (Err fault.Starved) is step = absurd is
