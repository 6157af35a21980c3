-- The first line of a directive that isn't taken, item by item.
use Rattle.std.proofs.Common.{◌≡◌, ℕ, ◌≤◌, Option, Some, None, List, ◌∷◌, ◌++◌, refl, sym, ap, ◌∙◌, min, arith}
use Rattle.std.specs.Option.{option_to_list}
use Rattle.hv_script.specs.Script.{earlier}
use Rattle.hv_script.specs.declared.items.Item.{Item}
use Rattle.hv_script.specs.Actions.{least, untaken_line, untaken_lines}
use Rattle.hv_script.specs.Kinds.{kind_of}

min-again : (x y z : ℕ) → min (min x y) z ≡ min x (min y z)
min-again x y z = grind arith

pub earlier-again : (one other last : Option ℕ) → earlier (earlier one other) last ≡ earlier one (earlier other last)
earlier-again None other last = refl
earlier-again (Some x) None last = refl
earlier-again (Some x) (Some y) None = refl
earlier-again (Some x) (Some y) (Some z) = ap Some (min-again x y z)

least-more : (line : Option ℕ) (lines : List ℕ) → least (option_to_list line ++ lines) ≡ earlier line (least lines)
least-more None lines = refl
least-more (Some x) lines = refl

pub untaken-more : (line : Option ℕ) (item : Item) (items : List Item)
    → earlier (earlier line (untaken_line item (kind_of item.bytes))) (least (untaken_lines items)) ≡ earlier line (least (untaken_lines (item ∷ items)))
untaken-more line item items =
    earlier-again line (untaken_line item (kind_of item.bytes)) (least (untaken_lines items))
    ∙ ap (λ (l : Option ℕ). earlier line l) (sym (least-more (untaken_line item (kind_of item.bytes)) (untaken_lines items)))
