use Rattle.std.proofs.Common.{◌≡◌, ℕ, List, [], ◌∷◌, ◌++◌, length, Option, Some, ap, sym, ◌∙◌, subst}
use Rattle.atomic_table.specs.Table.{opening}
use Rattle.hv_turn.specs.Order.{Turning, beginning}
use Rattle.hv_turn.proofs.Allowed.{starts}
use Rattle.hv_turn.proofs.turn.Turn.new.Goals as goal

pub new-requires : goal.new-requires
new-requires g c =
    let first = c.of-about.result.value in
    let items : c.push_reserved.new.self.items ≡ Some first ∷ [] = c.push_reserved.ensures.items ∙ (ap (λ l. l ++ Some c.args.value ∷ []) c.in-Ok.ensures.items ∙ ap (λ x. Some x ∷ []) (sym c.of-about.ensures)) in
    let long = c.length-length.ensures ∙ ap (λ x. length (g.S.Storied.items x)) (sym c.of-about.ensures) in
    subst (λ (z : ℕ × List (Option g.row.S.Denot)). Turning g.S.Storied.items g.S.Storied.root g.S.Storied.later g.S.Storied.keeps first (opening (0 ∷ 0 ∷ z.0 ∷ []) z.1 (beginning g.S.Storied.items g.S.Storied.root g.S.Storied.later g.S.Storied.keeps first)))
    (λ i. (sym long i, sym items i)) (starts g.S.Storied.items g.S.Storied.root g.S.Storied.later g.S.Storied.keeps first (g.met.S.Storied.reflexive first) (subst g.S.Storied.keeps (sym c.of-about.ensures) c.requires.keeps))
