-- The items of a script. This project's profile, after the scripts that Hive's beeline takes.
-- Between items, spaces, tabs, CR, LF and comments from -- to the line's end are skipped. An item that begins
-- with ! goes to the end of its line and is a directive. Any other item is a statement's text: it goes to the
-- first ; outside strings, backquotes and comments, or to the script's end, and the ; isn't part of it.
use Rattle.std.specs.Prelude.{ℕ, ◌+◌, ◌==◌, ◌&&◌, ◌||◌, Bool, false, if◌then◌else◌, not, Option, Some, None, List, [], ◌∷◌, ◌++◌}
use Rattle.hv_script.specs.declared.items.Item.{Item}
use Rattle.hv_script.specs.declared.items.Stand.{Stand}
use Rattle.hv_script.specs.declared.items.Stand.TheVariants.{Between, Skipped, Directive, Outside, Comment, Quoted, Escaped}
use Rattle.hv_script.specs.declared.items.Move.{Move}
use Rattle.hv_script.specs.declared.items.Move.TheVariants.{Skip, Begin, Keep, Finish, Lone}

abbrev pub tab : ℕ
tab = 9

abbrev pub line_feed : ℕ
line_feed = 10

abbrev pub carriage_return : ℕ
carriage_return = 13

abbrev pub space : ℕ
space = 32

abbrev pub exclamation_mark : ℕ
exclamation_mark = 33

abbrev pub double_quote : ℕ
double_quote = 34

abbrev pub single_quote : ℕ
single_quote = 39

abbrev pub dash : ℕ
dash = 45

abbrev pub semicolon : ℕ
semicolon = 59

abbrev pub backslash : ℕ
backslash = 92

abbrev pub backquote : ℕ
backquote = 96

abbrev pub blank : ℕ → Bool
blank b = b == space || b == tab || b == carriage_return || b == line_feed

abbrev pub opens_quote : ℕ → Bool
opens_quote b = b == single_quote || b == double_quote || b == backquote

-- a dash, and another one behind it
abbrev pub opens_comment : ℕ → Option ℕ → Bool
opens_comment b None = false
opens_comment b (Some next) = b == dash && next == dash

-- where the next byte of a text stands, behind one that stands outside
abbrev pub behind : ℕ → Option ℕ → Stand
behind b next = if opens_quote b then Quoted b else (if opens_comment b next then Comment else Outside)

-- what a byte is, by where it stands and by the byte behind it
abbrev pub move_of : Stand → ℕ → Option ℕ → Move
move_of Between b next =
    if blank b then Skip Between
    else (if opens_comment b next then Skip Skipped
    else (if b == exclamation_mark then Begin Directive
    else (if b == semicolon then Lone else Begin (behind b next))))
move_of Skipped b next = if b == line_feed then Skip Between else Skip Skipped
move_of Directive b next = if b == line_feed then Finish else Keep Directive
move_of Outside b next = if b == semicolon then Finish else Keep (behind b next)
move_of Comment b next = if b == line_feed then Keep Outside else Keep Comment
move_of (Quoted q) b next =
    if b == q then Keep Outside
    else (if b == backslash && not (q == backquote) then Keep (Escaped q) else Keep (Quoted q))
move_of (Escaped q) b next = Keep (Quoted q)

abbrev pub first_of : List ℕ → Option ℕ
first_of [] = None
first_of (b ∷ _) = Some b

-- the line behind a byte
abbrev pub line_behind : ℕ → ℕ → ℕ
line_behind line b = if b == line_feed then line + 1 else line

abbrev pub with_byte : Item → ℕ → Item
with_byte item b = record { line = item.line; bytes = item.bytes ++ b ∷ [] }

-- the item that the script's end leaves
abbrev pub last_item : Stand → Item → List Item
last_item Between item = []
last_item Skipped item = []
last_item Directive item = item ∷ []
last_item Outside item = item ∷ []
last_item Comment item = item ∷ []
last_item (Quoted q) item = item ∷ []
last_item (Escaped q) item = item ∷ []

abbrev pub no_bytes : ℕ → Item
no_bytes line = record { line = line; bytes = [] }

-- what a byte adds, where rest gives what the bytes behind it add
abbrev pub items_by : (Stand → Item → List Item) → Move → ℕ → Item → ℕ → List Item
items_by rest (Skip stand) line item b = rest stand item
items_by rest (Begin stand) line item b = rest stand (record { line = line; bytes = b ∷ [] })
items_by rest (Keep stand) line item b = rest stand (with_byte item b)
items_by rest Finish line item b = item ∷ rest Between (no_bytes item.line)
items_by rest Lone line item b = no_bytes line ∷ rest Between (no_bytes line)

-- the items that the bytes give from here on, where so much of an item was read
abbrev pub items_from : Stand → ℕ → Item → List ℕ → List Item
items_from stand line item [] = last_item stand item
items_from stand line item (b ∷ bytes) =
    items_by (λ behind begun. items_from behind (line_behind line b) begun bytes) (move_of stand b (first_of bytes)) line item b

abbrev pub items_of : List ℕ → List Item
items_of script = items_from Between 1 (no_bytes 1) script
