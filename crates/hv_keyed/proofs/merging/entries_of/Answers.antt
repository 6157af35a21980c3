use Rattle.std.proofs.Common.{◌≡◌, ◌∷◌, [], ◌++◌, ap, ◌∙◌, arith}
use Rattle.std.specs.Option.{option_to_list}
use Rattle.hv_keyed.proofs.PartLaws.{entry_more}
use Rattle.hv_keyed.proofs.merging.entries_of.Goals as goal

pub loop-key-preserved : goal.loop-key-preserved
loop-key-preserved g c =
    entry_more c.loop-key.left.keys c.pop.new.self.keys c.loop-key.rest.items c.pop-in-Some.new.self.items c.in-Some.key c.pop-in-Some.result
    c.loop-key.entries.items c.add_entry.new.entries.items _ c.loop-key.invariant.0
    (c.pop.ensures.keys ∙ ap (λ key. c.pop.new.self.keys ++ option_to_list key) c.in-Some.is) c.pop-in-Some.ensures.items
    (λ some. c.pop-in-Some.ensures.variant.1 (omega (arith, some, c.loop-key.rest.ok))) c.in_ok-add_entry.ensures c.loop-key.invariant.1
