-- What a reader does with an item is what the definitions say of it.
use Rattle.std.proofs.Common.{◌≡◌, Bool, false, cond, Option, List, ◌∷◌, ◌++◌, ap, sym, append_assoc, ◌∙◌}
use Rattle.std.specs.Option.{option_to_list}
use Rattle.std.specs.Str.{IsUtf8}
use Rattle.hv_script.specs.Script.{earlier}
use Rattle.hv_script.specs.declared.items.Item.{Item}
use Rattle.hv_script.specs.declared.actions.Action.{Action}
use Rattle.hv_script.specs.declared.kinds.Kind.{Kind}
use Rattle.hv_script.specs.declared.reading.Reader.{Reader}
use Rattle.hv_script.specs.Actions.{action_for, actions_from, least}
use Rattle.hv_script.specs.Kinds.{kind_of}
use Rattle.hv_script.specs.ActionReading.{Took}
use Rattle.hv_script.specs.Standing.{Standing, after, fault_lines, is_faulty}

abbrev here : Standing → Item → Bool
here standing item = is_faulty standing item (kind_of item.bytes)

abbrev next : Standing → Item → Standing
next standing item = after standing item (kind_of item.bytes)

abbrev asked : Standing → Item → Option Action
asked standing item = action_for standing item (kind_of item.bytes)

lines_are : (s : Standing) (item : Item) (items : List Item) (test : Bool) → here s item ≡ test
    → fault_lines s (item ∷ items) ≡ cond test (item.line ∷ fault_lines s items) (fault_lines (next s item) items)
lines_are s item items test e = ap (λ (t : Bool). cond t (item.line ∷ fault_lines s items) (fault_lines (next s item) items)) e

actions_are : (s : Standing) (item : Item) (items : List Item) (test : Bool) → here s item ≡ test
    → actions_from s (item ∷ items) ≡ cond test (actions_from s items) (option_to_list (asked s item) ++ actions_from (next s item) items)
actions_are s item items test e = ap (λ (t : Bool). cond t (actions_from s items) (option_to_list (asked s item) ++ actions_from (next s item) items)) e

kept : (old new : Reader) (item : Item) (made : Option Action) → here old.sessions item ≡ false
    → new.sessions ≡ next old.sessions item → new.actions.items ≡ old.actions.items ++ option_to_list made → new.fault ≡ old.fault
    → (IsUtf8 item.bytes → made ≡ asked old.sessions item) → Took old new item
kept old new item made test s a f m = record {
  fault = λ items.
      (λ i. earlier (f i) (least (fault_lines (s i) items)))
      ∙ sym (ap (λ lines. earlier old.fault (least lines)) (lines_are old.sessions item items false test));
  actions = λ items utf8.
      (λ i. a i ++ actions_from (s i) items)
      ∙ append_assoc old.actions.items (option_to_list made) (actions_from (next old.sessions item) items)
      ∙ ap (λ more. old.actions.items ++ more)
      (ap (λ found. option_to_list found ++ actions_from (next old.sessions item) items) (m utf8)
      ∙ sym (actions_are old.sessions item items false test));
}

pub took_kept : (old new : Reader) (item : Item) (kind : Kind) (made : Option Action) → kind ≡ kind_of item.bytes
    → is_faulty old.sessions item kind ≡ false → new.sessions ≡ after old.sessions item kind
    → new.actions.items ≡ old.actions.items ++ option_to_list made → new.fault ≡ old.fault
    → (IsUtf8 item.bytes → made ≡ action_for old.sessions item kind) → Took old new item
took_kept old new item kind made k test s a f m =
    kept old new item made (sym (ap (λ x. is_faulty old.sessions item x) k) ∙ test) (s ∙ ap (λ x. after old.sessions item x) k) a f
    (λ utf8. m utf8 ∙ ap (λ x. action_for old.sessions item x) k)
