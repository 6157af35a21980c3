-- The next entry worked out by hand: two deletes of one row's partition, of which the first has committed at place 9 of the book.
use Rattle.std.specs.Prelude.{ℕ, true, Option, Some, None, List, [], ◌∷◌, codes}
use Rattle.hv_base.specs.declared.ids.Touch.{Touch}
use Rattle.hv_logic.specs.declared.catalog.TableInfo.{TableInfo}
use Rattle.hv_logic.specs.declared.effect.Effect.{Effect}
use Rattle.hv_logic.specs.declared.meaning.Meaning.{Meaning}
use Rattle.hv_logic.specs.declared.meaning.Meaning.TheVariants.{Change}
use Rattle.hv_history.specs.declared.state.Ending.TheVariants.{Committed}
use Rattle.hv_history.specs.declared.state.Table.{Table}
use Rattle.hv_history.specs.declared.state.Transaction.{Transaction}
use Rattle.hv_history.specs.State.{State, no_openings}
use Rattle.hv_stands.specs.Worked.{shape_by_hand, part_one, id_by_hand, row_by_hand}

abbrev pub info_by_hand : TableInfo
info_by_hand = record { table = record { 0 = 1 }; shape = shape_by_hand }

-- one row of the partition p=1 is deleted
abbrev pub effect_by_hand : Effect
effect_by_hand = record { inserts = []; deletes = row_by_hand part_one (id_by_hand 1 0 3) 2 1 ∷ [] }

abbrev pub touch_by_hand : Touch
touch_by_hand = record { table = record { 0 = 1 }; partition = part_one; inserted = 0; deleted = 1 }

-- two write ids were given in the table
abbrev pub table_by_hand : Table
table_by_hand = record { info = info_by_hand; is_live = true; owners = 1 ∷ 2 ∷ []; writes = []; forgotten = [] }

abbrev pub first_by_hand : Transaction
first_by_hand = record {
  session = codes "a";
  statements = [];
  snapshot = Some (record { place = 4; tables = []; opened = 1 });
  given = (1, 2) ∷ [];
  ending = Some (Committed 9 (touch_by_hand ∷ []));
}

-- the second, with its snapshot at this place
abbrev pub second_by_hand : ℕ → List (ℕ × ℕ) → Option Meaning → Transaction
second_by_hand place given meaning = record {
  session = codes "b";
  statements = record { number = 2; text = []; meaning = meaning; wrote = [] } ∷ [];
  snapshot = Some (record { place = place; tables = []; opened = 2 });
  given = given;
  ending = None;
}

abbrev pub state_by_hand : Transaction → State
state_by_hand second = record {
  entries = 12;
  openings = no_openings;
  transactions = first_by_hand ∷ second ∷ [];
  tables = table_by_hand ∷ [];
  jobs = [];
}

abbrev pub change_by_hand : Option Meaning
change_by_hand = Some (Change info_by_hand effect_by_hand)
