-- A house that others act on: what was found, counted and listed at some moment is so of its longer book too.
use Rattle.std.proofs.Common.{◌≡◌, ◌≤◌, ℕ, Option, Some, None, List, ◌++◌, length, take, option_map, sym, ◌∙◌, ap, subst, append_assoc}
use Rattle.std.specs.Prelude.{IsSomeAnd}
use Rattle.std.specs.Global.{Vec}
use Rattle.std.specs.FinMap as tree
use Rattle.std.proofs.lemmas.List.{take-append-le}
use Rattle.hv_base.specs.Told.{Tells}
use Rattle.hv_base.specs.declared.ids.TxnId.{TxnId}
use Rattle.hv_base.specs.declared.ids.TableId.{TableId}
use Rattle.hv_shelf.specs.declared.place.Place.{Place}
use Rattle.hv_shelf.specs.Disk.{Store}
use Rattle.hv_logic.specs.declared.catalog.TableInfo.{TableInfo}
use Rattle.hv_choosing.specs.declared.listing.DirFile.{DirFile}
use Rattle.hv_law_dues.specs.hv_counts.specs.declared.due.Due.{Due}
use Rattle.hv_law_dues.specs.hv_counts.specs.Counts.{dues_in}
use Rattle.hv_history.specs.declared.entry.Entry.{Entry}
use Rattle.hv_history.specs.State.{State, state_of}
use Rattle.hv_history.specs.Lasting.{IsFront}
use Rattle.hv_stands.specs.Reading.{table_of_name}
use Rattle.hv_trail.specs.declared.trail.TrailItem.{TrailItem}
use Rattle.hv_trail.specs.Trail.{book_of}
use Rattle.hv_trail.specs.Steps.{HouseSeen, Call, Outcome, gains, Step}
use Rattle.hv_trail.proofs.LastingLaws.{book-append}
use Rattle.hv_actor.specs.Acting.{IsLater, known}
use Rattle.hv_acts.specs.hv_telling.specs.hv_house.specs.declared.listing.Listing.{Listing}
use Rattle.hv_acts.specs.hv_telling.specs.hv_house.specs.House.{IsFaithful}
use Rattle.hv_acts.specs.hv_telling.specs.hv_house.specs.Listing.{info_in, AreTaken}
use Rattle.hv_acts.specs.hv_telling.specs.Telling.{IsTold, IsToldHouse}
use Rattle.hv_acts.specs.hv_telling.proofs.Told.{whole-shown, house-book}
use Rattle.hv_acts.specs.declared.told.ToldHouse.{ToldHouse}
use Rattle.hv_acts.specs.Told.{IsWholeOrClosed, seen_in, trail_in, book_in}
use Rattle.hv_acts.specs.Counting.{AreAsMany}
use Rattle.hv_acts.specs.Going.{IsOpenHouse, AddsOwn}
use Rattle.hv_acts.specs.Reading.{HasPlace, ReadsTable, HasListed, HasGot, HasMissed, ReadsOnTold, IsGotStill, AllGotStill, state_then, IsThere}
use Rattle.hv_acts.proofs.Readings.{then-same, found-there, reads-at}
use Rattle.hv_acts.proofs.Listed.{all-got}
use Rattle.hv_table_reader.specs.Steady.{GoesBehind, IsSteady, AreSteady, IsNamedThen, AreListedSteady, IsListing, bytes_got}

-- ---- fronts

pub front-more : {A : Type 0} (a b c : List A) → IsFront a b → IsFront b c → IsFront a c
front-more a b c f g = record { more = f.more ++ g.more; is = g.is ∙ ap (λ (xs : List _). xs ++ g.more) f.is ∙ append_assoc a f.more g.more }

pub book-front : (before now : List TrailItem) → IsFront before now → IsFront (book_of before) (book_of now)
book-front before now front = record { more = book_of front.more; is = ap book_of front.is ∙ book-append before front.more }

-- the entries before a place of a book are those of a longer one
pub take-front : (book now : List Entry) (place : ℕ) → IsFront book now → place ≤ length book → take place now ≡ take place book
take-front book now place front has = ap (take place) front.is ∙ take-append-le place book front.more has

-- ---- a house that goes on

pub behind-more : {D : Type 0} (a b c : HouseSeen D) → GoesBehind a b → GoesBehind b c → GoesBehind a c
behind-more a b c f g = record { start = g.start ∙ f.start; front = front-more a.trail b.trail c.trail f.front g.front }

-- others acted
pub behind-later : {D : Type 0} (faults : D → ℕ) (a b : HouseSeen D) → IsLater faults a b → GoesBehind a b
behind-later faults a b later = record { start = later.rest.start; front = record { more = later.added; is = later.trail } }

-- a call was made
pub behind-step : {D : Type 0} (told : D → Option Store) (faults : D → ℕ) (call : Call) (outcome : Outcome) (a b : HouseSeen D) → Step told faults call outcome a b → GoesBehind a b
behind-step told faults call outcome a b step = record { start = step.rest.start; front = record { more = gains call outcome; is = step.trail } }

-- one's own acts were done, and others between
pub behind-adds : {D : Type 0} {by : ℕ} (faults : D → ℕ) (between : List TrailItem → Type 0) (own own' : List ℕ) (a b : ToldHouse D) (added : List Entry)
    → AddsOwn faults between by (known own a) (known own' b) added → GoesBehind (seen_in a) (seen_in b)
behind-adds faults between own own' a b added adds = record { start = adds.later.rest.start; front = record { more = adds.went.added; is = adds.went.seen } }

module _ {D : Type 0} (told : D → Option Store) where
  -- it is told as it was
  pub told-behind : (a b : ToldHouse D) → GoesBehind (seen_in a) (seen_in b) → IsToldHouse told a.house → IsToldHouse told b.house
  told-behind a b behind is = subst (IsTold told) (sym behind.start) is

  pub steady-on : (o : Option Store) (by : TxnId) (a b : HouseSeen D) (place : Place) → GoesBehind a b → IsSteady told o by a place → IsSteady told o by b place
  steady-on o by a b place behind steady = record {
    got = λ now bytes later. steady.got now bytes (behind-more a b now behind later);
    unmissed = λ now later. steady.unmissed now (behind-more a b now behind later);
  }

  -- of a store that isn't told nothing is said
  pub none-steady : (by : TxnId) (before : HouseSeen D) (taken : List DirFile) → AreSteady told None by before taken
  none-steady by before taken = λ file among. record { got = λ now bytes behind has. tt; unmissed = λ now behind has. tt }

  pub all-steady-on : (o : Option Store) (by : TxnId) (a b : HouseSeen D) (taken : List DirFile) → GoesBehind a b → AreSteady told o by a taken
      → AreSteady told o by b taken
  all-steady-on o by a b taken behind steady = λ file among. steady-on o by a b file.place behind (steady file among)

  pub listed-on : (o : Option Store) (by : TxnId) (a b : HouseSeen D) (info : TableInfo) (listing : Listing) → GoesBehind a b
      → AreListedSteady told o by a info listing → AreListedSteady told o by b info listing
  listed-on o by a b info listing behind files = record {
    taken = files.taken;
    inserts = all-steady-on o by a b listing.inserts.items behind files.inserts;
    deletes = all-steady-on o by a b listing.deletes.items behind files.deletes;
  }

  -- ---- what is got

  told-any : (o : Option Store) (P : Store → Type 0) → Tells o (λ s. ⊥) → Tells o P
  told-any None P never = tt
  told-any (Some s) P never = absurd never

  pub got-steady : (o : Option Store) (by : TxnId) (before house : HouseSeen D) (place : Place) (bytes : Vec ℕ) → GoesBehind before house
      → IsSteady told o by before place → HasGot told house by place bytes.items → Tells o (λ s. tree.get s.tree place ≡ bytes_got (Some bytes))
  got-steady o by before house place bytes behind steady has = steady.got house bytes.items behind has

  pub missed-steady : (o : Option Store) (by : TxnId) (before house : HouseSeen D) (place : Place) → GoesBehind before house
      → IsSteady told o by before place → HasMissed told house by place → Tells o (λ s. tree.get s.tree place ≡ bytes_got None)
  missed-steady o by before house place behind steady has = told-any o (λ (s : Store). tree.get s.tree place ≡ bytes_got None) (steady.unmissed house behind has)

-- ---- files that were listed

module _ {D : Type 0} (told : D → Option Store) (house now : ToldHouse D) (kept : IsWholeOrClosed told house.house) (running : IsOpenHouse house)
    (behind : GoesBehind (seen_in house) (seen_in now)) (by : TxnId) (place : ℕ) (info : TableInfo) (listing : Listing)
    (reads : ReadsTable (trail_in house) by place info.table.0) (named : IsNamedThen (trail_in house) place info)
    (listed : HasListed told (seen_in house) by place info.table listing) (is : IsToldHouse told house.house) where
  there : IsThere (trail_in house) place info
  there = found-there (trail_in house) place named.name info listed.book named.named

  shown : (store : Store) × (told house.house.shelf ≡ Some store) × IsFaithful (book_in house) store
  shown =
      let whole = whole-shown told house.house (kept.whole running) is in (
        whole.0,
        whole.1,
        subst (λ (entries : List Entry). IsFaithful entries whole.0) (sym (house-book house.house)) whole.2,
      )

  reads-there : ReadsTable (trail_in house) by place there.table.info.table.0
  reads-there = subst (λ (i : TableInfo). ReadsTable (trail_in house) by place i.table.0) (sym there.info_is) reads

  reads-on : (later : HouseSeen D) → GoesBehind (seen_in house) later → ReadsOnTold told (seen_in house) later by place there.table
  reads-on later goes = record { is_told = is; start = goes.start; front = goes.front; reads = reads-there; here = there.here }

  got-still : (later : HouseSeen D) → GoesBehind (seen_in house) later
      → AllGotStill told (seen_in house) later by listing.inserts.items × AllGotStill told (seen_in house) later by listing.deletes.items
  got-still later goes =
      all-got told (seen_in house) later by place there.table (reads-on later goes) listing
      (subst (λ (i : TableInfo). HasListed told (seen_in house) by place i.table listing) (sym there.info_is) listed)

  at-store : (store : Store) (P : Store → Type 0) → told house.house.shelf ≡ Some store → IsSomeAnd (told house.house.shelf) P → P store
  at-store store P at some = subst (λ (o : Option Store). IsSomeAnd o P) at some

  at-told : (store : Store) (P : Store → Type 0) → told house.house.shelf ≡ Some store → Tells (told house.house.shelf) P → P store
  at-told store P at tells = subst (λ (o : Option Store). Tells o P) at tells

  one-steady : (store : Store) (file : DirFile) → told house.house.shelf ≡ Some store
      → ((later : HouseSeen D) → GoesBehind (seen_in house) later → IsGotStill told (seen_in house) later by file)
      → IsSteady told (Some store) by (seen_in now) file.place
  one-steady store file at still = record {
    got = λ later bytes goes got. at-store store (λ s. tree.get s.tree file.place ≡ Some bytes) at
        ((still later (behind-more (seen_in house) (seen_in now) later behind goes)).got bytes got);
    unmissed = λ later goes missed. (still later (behind-more (seen_in house) (seen_in now) later behind goes)).never_missed missed;
  }

  pub listing-now : IsListing told now by place info listing
  listing-now = record {
    book = book_in house;
    store = shown.0;
    legal = shown.2.legal;
    front = book-front (trail_in house) (trail_in now) behind.front;
    has = reads.reader.has;
    table = there.table;
    info_is = there.info_is;
    reads = reads-at (trail_in house) by place listed.book listed.unended there.table shown.0.tree reads-there there.here shown.2.stands;
    list = listed.list;
    files = record {
      taken = at-told shown.0 (λ s. AreTaken info.table listing.list s.tree listing.inserts.items listing.deletes.items) shown.1 listed.files;
      inserts = λ file among. one-steady shown.0 file shown.1 (λ later goes. (got-still later goes).0 file among);
      deletes = λ file among. one-steady shown.0 file shown.1 (λ later goes. (got-still later goes).1 file among);
    };
  }

-- ---- what was found and counted

pub named-on : (before now : List TrailItem) (place : ℕ) (info : TableInfo) → IsFront before now → HasPlace before place → IsNamedThen before place info → IsNamedThen now place info
named-on before now place info front has named = record {
  name = named.name;
  named = named.named ∙ ap (λ (s : State). option_map info_in (table_of_name named.name s.tables)) (sym (then-same before now front place has));
}

pub dues-at : (trail : List TrailItem) (book : List Entry) (place : ℕ) (table : TableId) (dues : List Due) → IsFront book (book_of trail) → place ≤ length book
    → AreAsMany dues (dues_in (state_then trail place) table.0) → AreAsMany dues (dues_in (state_of (take place book)) table.0)
dues-at trail book place table dues front has same =
    subst (λ (entries : List Entry). AreAsMany dues (dues_in (state_of entries) table.0)) (take-front book (book_of trail) place front has) same
