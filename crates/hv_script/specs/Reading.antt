-- What a reader of a script has read, with what the bytes behind it give.
use Rattle.std.specs.Prelude.{◌≡◌, ℕ, Option, List, [], ◌∷◌, ◌++◌}
use Rattle.hv_script.specs.declared.items.Item.{Item}
use Rattle.hv_script.specs.declared.items.Move.{Move}
use Rattle.hv_script.specs.declared.items.Stand.{Stand}
use Rattle.hv_script.specs.declared.reader.Reader.{Reader}
use Rattle.hv_script.specs.Items.{items_from, items_by, no_bytes, first_of}

abbrev pub item_of : Reader → Item
item_of reader = record { line = reader.begun; bytes = reader.bytes.items }

abbrev pub given : Reader → List ℕ → List Item
given reader bytes = reader.items.items ++ items_from reader.stand reader.line (item_of reader) bytes

-- the reader took a byte that is so much to the items, but for its line
pub record Acted (old new : Reader) (move : Move) (b : ℕ) : Type 0 where
  pub line : new.line ≡ old.line
  pub items : (rest : Stand → Item → List Item) → new.items.items ++ rest new.stand (item_of new) ≡ old.items.items ++ items_by rest move old.line (item_of old) b

-- the reader moved its item to the items
pub record Finished (old new : Reader) : Type 0 where
  pub line : new.line ≡ old.line
  pub items : new.items.items ≡ old.items.items ++ item_of old ∷ []
  pub empty : item_of new ≡ no_bytes old.begun

-- the reader took this byte, which has that one behind it
abbrev pub Took : Reader → Reader → ℕ → Option ℕ → Type 0
Took old new b next = (bytes : List ℕ) → first_of bytes ≡ next → given new bytes ≡ given old (b ∷ bytes)
