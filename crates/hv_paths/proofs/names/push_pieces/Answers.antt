use Rattle.std.proofs.Common.{◌++◌, map, string_bytes, sym, ap, ◌∙◌, lit<}
use Rattle.std.specs.Str.Iter.{split_text, split_has_more, split_pattern}
use Rattle.std.proofs.lemmas.Iterator.Consumers.{YieldsList-end}
use Rattle.std.proofs.lemmas.Iterator.Splits.{YieldsList-from_str_split}
use Rattle.hv_paths.specs.Names.{piece_name, slash}
use Rattle.hv_paths.proofs.NameLemmas.{map-shown, pieces_of-some}
use Rattle.hv_paths.proofs.names.push_pieces.Goals as goal

pub returns : goal.returns
returns c =
    let split = c.split-piece-items.ensures
    in let same = c.into_iter-piece-iterator.ensures.into_iter_gives
    in let all =
    YieldsList-from_str_split {s = c.into_iter-piece-iterator.result} slash c.args.text.now (lit< tt)
    (ap split_text same ∙ split.text) (ap split_has_more same ∙ split.has_more)
    (ap split_pattern same ∙ split.pattern)
    in let ended =
    YieldsList-end all c.loop-piece.yielded _ c.loop-piece.yielded_by _ _ c.in-None.is c.next.ensures.steps
    in let some = pieces_of-some c.args.text.now (sym c.is_empty.ensures ∙ c.if-is_empty.false)
    in c.loop-piece.invariant
    ∙ ap (λ names. map string_bytes c.args.names.now.items ++ names)
    (map-shown c.loop-piece.yielded ∙ ap (map piece_name) (ended.0 ∙ some))
