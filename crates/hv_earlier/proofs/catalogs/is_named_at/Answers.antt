use Rattle.std.proofs.Common.{nat_eq, true, ◌≡◌, sym, ◌∙◌, rules}
use Rattle.std.specs.Option.{option_copied}
use Rattle.std.specs.Cmp.Lexicographic.{pointwise}
use Rattle.hv_earlier.proofs.NameLemmas.{live-named}
use Rattle.hv_earlier.proofs.catalogs.is_named_at.Goals as goal

pub returns-then-is_live_at : goal.returns-then-is_live_at
returns-then-is_live_at c =
    let live : c.is_live_at.result ≡ true = search rules in
    record {
      named =
          c.eq.ensures ∙ (λ i. pointwise nat_eq (c.made_name.ensures.name i) (c.as_str.ensures i))
          ∙ sym (live-named c.args.name.now c.args.book.now.entries c.args.position c.args.table (option_copied c.table_tree.result)
          (sym c.is_live_at.ensures.live ∙ live) c.table_tree.ensures.shape);
    }
