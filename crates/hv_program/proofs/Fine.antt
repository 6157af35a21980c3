-- Which actions a script asks for: each statement's text and its session's name are short, and its hold is one that may be asked for.
use Rattle.std.proofs.Common.{◌≡◌, ℕ, ◌≤◌, Bool, true, false, ◌||◌, ◌&&◌, cond, nat_lt, nat_le, Option, Some, None, List, [], ◌∷◌, ◌++◌, length, codes, refl, subst, sym, arith}
use Rattle.std.specs.List.{AllByRecursion, list_all}
use Rattle.std.specs.Option.{option_map, option_to_list}
use Rattle.std.proofs.lemmas.Bool.{ltb-false, leb-true, or_parts, and_parts}
use Rattle.hv_script.specs.declared.items.Item.{Item}
use Rattle.hv_script.specs.Items.{first_of, items_of}
use Rattle.hv_script.specs.Script.{begins_directive, front}
use Rattle.hv_script.specs.declared.actions.Action.{Action}
use Rattle.hv_base.specs.declared.gate.Stage.TheVariants.{Start, Read, Commit}
use Rattle.hv_script.specs.declared.kinds.Kind.{Kind}
use Rattle.hv_script.specs.declared.kinds.Kind.TheVariants.{Statement, Session, Hold, Go, Compact, Clean, Barrier, Unknown}
use Rattle.hv_script.specs.Kinds.{behind, directive_of, hold_of, is_name, is_name_byte, kind_of, named, or_else, same_text, without_trail, word_kind}
use Rattle.hv_script.specs.Standing.{Standing, first_standing, is_faulty, is_held, after}
use Rattle.hv_script.specs.Actions.{action_for, actions_from, actions_of, stage_of_pending}
use Rattle.hv_session.specs.Doing.{IsHold}
use Rattle.hv_program.specs.Running.{IsFine}

-- ---- what a directive may name

abbrev IsNamed : Kind → Type 0
IsNamed (Session name) = length name ≤ 32
IsNamed (Hold stage) = IsHold (Some stage)
IsNamed other = Unit {0}

named-by : (b : Bool) (name : List ℕ) → (b ≡ true → length name ≤ 32) → IsNamed (cond b (Session name) Unknown)
named-by true name short = short refl
named-by false name short = tt

short-name : (name : List ℕ) → is_name name ≡ true → length name ≤ 32
short-name name e =
    let outer = and_parts (nat_lt 0 (length name) && nat_le (length name) 32) (list_all is_name_byte name) e in
    leb-true (length name) 32 (and_parts (nat_lt 0 (length name)) (nat_le (length name) 32) outer.0).1

named-session : (name : List ℕ) → IsNamed (named Session name)
named-session name = named-by (is_name name) name (short-name name)

go-by : (b : Bool) (name : List ℕ) → IsNamed (cond b (Go name) Unknown)
go-by true name = tt
go-by false name = tt

hold-by : (start read commit : Bool)
    → IsNamed (cond start (Hold Start) (cond read (Hold Read) (cond commit (Hold Commit) Unknown)))
hold-by true read commit = tt
hold-by false true commit = tt
hold-by false false true = tt
hold-by false false false = tt

named-hold : (stage : List ℕ) → IsNamed (hold_of stage)
named-hold stage = hold-by (same_text stage (codes "start")) (same_text stage (codes "read")) (same_text stage (codes "commit"))

word-by : (compact clean barrier : Bool) → IsNamed (cond compact Compact (cond clean Clean (cond barrier Barrier Unknown)))
word-by true clean barrier = tt
word-by false true barrier = tt
word-by false false true = tt
word-by false false false = tt

named-word : (word : List ℕ) → IsNamed (word_kind word)
named-word word = word-by (same_text word (codes "!compact")) (same_text word (codes "!clean")) (same_text word (codes "!barrier"))

or-named : (make : List ℕ → Kind) (found : Option (List ℕ)) (other : Kind) → ((rest : List ℕ) → IsNamed (make rest)) → IsNamed other → IsNamed (or_else make found other)
or-named make None other each rest = rest
or-named make (Some found) other each rest = each found

named-directive : (line : List ℕ) → IsNamed (directive_of line)
named-directive line =
    or-named (named Session) (behind (codes "!session ") line) _ named-session
    (or-named hold_of (behind (codes "!hold ") line) _ named-hold
    (or-named (named Go) (behind (codes "!go ") line) _ (λ name. go-by (is_name name) name) (named-word line)))

kind-by : (b : Bool) (line : List ℕ) → IsNamed (cond b (directive_of line) Statement)
kind-by true line = named-directive line
kind-by false line = tt

named-kind : (bytes : List ℕ) → IsNamed (kind_of bytes)
named-kind bytes = kind-by (begins_directive (first_of bytes)) (without_trail bytes)

-- ---- where the reading stands

record IsAble (standing : Standing) : Type 0 where
  current : length standing.current ≤ 32
  pending : IsHold (option_map stage_of_pending standing.pending)

able-after : (standing : Standing) (item : Item) (kind : Kind) → IsNamed kind → IsAble standing → IsAble (after standing item kind)
able-after standing item Statement is able = record { current = able.current; pending = tt }
able-after standing item (Session name) is able = record { current = is; pending = able.pending }
able-after standing item (Hold stage) is able = record { current = able.current; pending = is }
able-after standing item (Go name) is able = record { current = able.current; pending = able.pending }
able-after standing item Compact is able = able
able-after standing item Clean is able = able
able-after standing item Barrier is able = able
able-after standing item Unknown is able = able

fine-action : (standing : Standing) (item : Item) (kind : Kind) → is_faulty standing item kind ≡ false → IsAble standing
    → AllByRecursion IsFine (option_to_list (action_for standing item kind))
fine-action standing item Statement e able =
    let outer = or_parts (nat_lt 32768 (length item.bytes) || nat_le 10000 standing.statements) (is_held standing.current standing.held) e in
    let inner = or_parts (nat_lt 32768 (length item.bytes)) (nat_le 10000 standing.statements) outer.0 in
    (record { text = ltb-false 32768 (length item.bytes) inner.0; session = able.current; hold = able.pending }, tt)
fine-action standing item (Session name) e able = (tt, tt)
fine-action standing item (Hold stage) e able = tt
fine-action standing item (Go name) e able = (tt, tt)
fine-action standing item Compact e able = (tt, tt)
fine-action standing item Clean e able = (tt, tt)
fine-action standing item Barrier e able = (tt, tt)
fine-action standing item Unknown e able = tt

all-append : (xs ys : List Action) → AllByRecursion IsFine xs → AllByRecursion IsFine ys → AllByRecursion IsFine (xs ++ ys)
all-append [] ys all more = more
all-append (x ∷ xs) ys all more = (all.0, all-append xs ys all.1 more)

fine-by : (b : Bool) (passed some more : List Action) → AllByRecursion IsFine passed → (b ≡ false → AllByRecursion IsFine some) → AllByRecursion IsFine more
    → AllByRecursion IsFine (cond b passed (some ++ more))
fine-by true passed some more here first rest = here
fine-by false passed some more here first rest = all-append some more (first refl) rest

fine-from : (standing : Standing) (items : List Item) → IsAble standing → AllByRecursion IsFine (actions_from standing items)
fine-from standing [] able = tt
fine-from standing (item ∷ items) able =
    let kind = kind_of item.bytes in
    fine-by (is_faulty standing item kind) (actions_from standing items) (option_to_list (action_for standing item kind)) (actions_from (after standing item kind) items)
    (fine-from standing items able) (λ e. fine-action standing item kind e able)
    (fine-from (after standing item kind) items (able-after standing item kind (named-kind item.bytes) able))

able-first : IsAble first_standing
able-first = record { current = omega (arith, four); pending = tt }
  where
    four : length (codes "main") ≡ 4
    four = refl

pub fine-actions : (script : List ℕ) (actions : List Action) → actions ≡ actions_of script → AllByRecursion IsFine actions
fine-actions script actions same = subst (AllByRecursion IsFine) (sym same) (fine-from first_standing (items_of (front script)) able-first)
