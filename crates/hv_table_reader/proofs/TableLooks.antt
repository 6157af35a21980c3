-- Acts that read, one behind another.
use Rattle.std.proofs.Common.{◌≡◌, ◌≤◌, ℕ, Option, List, [], ◌++◌, Result, Ok, Err, refl, sym, ◌∙◌, subst, append-nil, arith}
use Rattle.std.specs.Prelude.{IfErr, IsErrAnd}
use Rattle.hv_base.specs.declared.ids.TxnId.{TxnId}
use Rattle.hv_shelf.specs.Disk.{Store}
use Rattle.hv_trail.specs.declared.trail.TrailItem.{TrailItem}
use Rattle.hv_trail.proofs.LastingLaws.{book-append, goes-on-front}
use Rattle.hv_actor.specs.Acting.{Went, AreRows, among, known}
use Rattle.hv_actor.specs.Rows.{later_itself}
use Rattle.hv_actor.proofs.Weaving.{went-more, later-further}
use Rattle.hv_acts.specs.hv_telling.specs.hv_house.specs.declared.fault.HouseFault.TheVariants as house_fault
use Rattle.hv_table_reader.specs.declared.fault.RowFault.{RowFault}
use Rattle.hv_table_reader.specs.declared.fault.RowFault.TheVariants as row_fault
use Rattle.hv_acts.specs.declared.told.ToldHouse.{ToldHouse}
use Rattle.hv_acts.specs.Told.{seen_in, trail_in}
use Rattle.hv_acts.specs.Going.{faults_in, IsOpenHouse, AddsOwn}
use Rattle.hv_acts.proofs.Mine.{all-mine}
use Rattle.hv_table_reader.specs.Damage.{IsSoft}
use Rattle.hv_table_reader.specs.Tables.{RisesTo, LooksOver, HasLookedOver}

went-none : (between : List TrailItem → Type 0) → AreRows between → (own : List ℕ) (trail : List TrailItem) → Went between [] own own trail trail
went-none between rows own trail = record {
  placed = [];
  items = refl;
  places = sym (append-nil own);
  added = [];
  seen = sym (append-nil trail);
  woven = rows.none;
  goes_on = goes-on-front trail trail (record { more = []; is = sym (append-nil trail) });
}

rises-then : (why : RowFault) (low mid high : ℕ) → low ≤ mid → RisesTo mid high why → RisesTo low high why
rises-then (row_fault.Damaged place) low mid high up rises = tt
rises-then (row_fault.House house_fault.Store) low mid high up rises = tt
rises-then (row_fault.House house_fault.NoMemory) low mid high up rises = tt
rises-then (row_fault.House (house_fault.Failed count)) low mid high up rises = (let above = rises.0 in omega (arith, up, above), rises.1)

module _ {D : Type 0} (told : D → Option Store) (faults : D → ℕ) (between : List TrailItem → Type 0) (meanwhile : ToldHouse D → ToldHouse D → Type 0) (by : TxnId) where
  abbrev Over : {T : Type 0} → List ℕ → List ℕ → ToldHouse D → ToldHouse D → Result T RowFault → Type 0
  Over own own' before now result = LooksOver (among told faults between meanwhile) by (known own before) (known own' now) result

  adds-more : AreRows between → (own own' own'' : List ℕ) (a b c : ToldHouse D) → AddsOwn faults between by.0 (known own a) (known own' b) []
      → AddsOwn faults between by.0 (known own' b) (known own'' c) []
      → AddsOwn faults between by.0 (known own a) (known own'' c) []
  adds-more rows own own' own'' a b c first second = record {
    items = first.items ++ second.items;
    went = went-more between rows first.items second.items own own' own'' (trail_in a) (trail_in b) (trail_in c) first.went second.went;
    entries = book-append first.items second.items ∙ (λ i. first.entries i ++ second.entries i);
    mine = all-mine by.0 first.items second.items first.mine second.mine;
    later = later-further faults (seen_in a) (seen_in b) (seen_in c) first.later second.later;
  }

  pub looks-none : AreRows between → (own : List ℕ) (house : ToldHouse D) → IsOpenHouse house
      → HasLookedOver (among told faults between meanwhile) by (known own house) (known own house)
  looks-none rows own house running = record {
    adds = record {
      items = [];
      went = went-none between rows own (trail_in house);
      entries = refl;
      mine = tt;
      later = later_itself faults (seen_in house);
    };
    running = running;
    leaves = tt;
    marked = tt;
    counts = tt;
  }

  pub looked : {T : Type 0} (own own' : List ℕ) (a b : ToldHouse D) (x : T)
      → LooksOver (among told faults between meanwhile) by (known own a) (known own' b) (Ok x)
      → HasLookedOver (among told faults between meanwhile) by (known own a) (known own' b)
  looked own own' a b x looks = record { adds = looks.adds; running = looks.running; leaves = tt; marked = tt; counts = tt }

  err-rises : {T : Type 0} (result : Result T RowFault) (low mid high : ℕ) → low ≤ mid → IfErr result (RisesTo mid high) → IfErr result (RisesTo low high)
  err-rises (Ok x) low mid high up rises = tt
  err-rises (Err why) low mid high up rises = rises-then why low mid high up rises

  pub looks-then : AreRows between → {T : Type 0} (own own' own'' : List ℕ) (a b c : ToldHouse D) (result : Result T RowFault)
      → HasLookedOver (among told faults between meanwhile) by (known own a) (known own' b)
      → LooksOver (among told faults between meanwhile) by (known own' b) (known own'' c) result
      → LooksOver (among told faults between meanwhile) by (known own a) (known own'' c) result
  looks-then rows own own' own'' a b c result first second = record {
    adds = adds-more rows own own' own'' a b c first.adds second.adds;
    running = second.running;
    leaves = second.leaves;
    marked = second.marked;
    counts = err-rises result (faults_in faults a) (faults_in faults b) (faults_in faults c) first.adds.later.count second.counts;
  }

  -- and then no call of the house failed
  pub looks-on : {T : Type 0} (own own' : List ℕ) (a b : ToldHouse D) (result : Result T RowFault)
      → HasLookedOver (among told faults between meanwhile) by (known own a) (known own' b)
      → IfErr result IsSoft → LooksOver (among told faults between meanwhile) by (known own a) (known own' b) result
  looks-on own own' a b (Ok x) looks soft = record { adds = looks.adds; running = looks.running; leaves = tt; marked = tt; counts = tt }
  looks-on own own' a b (Err (row_fault.Damaged place)) looks soft = record { adds = looks.adds; running = tt; leaves = looks.running; marked = tt; counts = tt }
  looks-on own own' a b (Err (row_fault.House house_fault.NoMemory)) looks soft = record { adds = looks.adds; running = tt; leaves = looks.running; marked = tt; counts = tt }
  looks-on own own' a b (Err (row_fault.House house_fault.Store)) looks soft = absurd soft
  looks-on own own' a b (Err (row_fault.House (house_fault.Failed count))) looks soft = absurd soft

  lacks-soft : {T : Type 0} (result : Result T RowFault) → IsErrAnd result (λ why. why ≡ row_fault.House house_fault.NoMemory) → IfErr result IsSoft
  lacks-soft (Ok x) lacks = absurd lacks
  lacks-soft (Err why) lacks = subst IsSoft (sym lacks) tt

  -- memory lacked then
  pub looks-lacks : {T : Type 0} (own own' : List ℕ) (a b : ToldHouse D) (result : Result T RowFault)
      → HasLookedOver (among told faults between meanwhile) by (known own a) (known own' b)
      → IsErrAnd result (λ why. why ≡ row_fault.House house_fault.NoMemory)
      → LooksOver (among told faults between meanwhile) by (known own a) (known own' b) result
  looks-lacks own own' a b result looks lacks = looks-on own own' a b result looks (lacks-soft result lacks)

  -- what is passed up
  pub looks-up : {T U : Type 0} (own own' : List ℕ) (a b : ToldHouse D) (why : RowFault) (result : Result U RowFault) → IsErrAnd result (λ w. w ≡ why)
      → LooksOver {T = T} (among told faults between meanwhile) by (known own a) (known own' b) (Err why)
      → LooksOver {T = U} (among told faults between meanwhile) by (known own a) (known own' b) result
  looks-up own own' a b why (Ok x) left looks = absurd left
  looks-up {U = U} own own' a b why (Err w) left looks =
      subst (λ (v : RowFault). LooksOver {T = U} (among told faults between meanwhile) by (known own a) (known own' b) (Err v)) (sym left)
      (record { adds = looks.adds; running = tt; leaves = looks.leaves; marked = looks.marked; counts = looks.counts })
