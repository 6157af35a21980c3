use Rattle.std.proofs.Common.{length, refl, sym, ap, ◌∙◌}
use Rattle.std.specs.Prelude.{nat_eq}
use Rattle.std.specs.Cmp.Lexicographic.{pointwise}
use Rattle.std.proofs.lemmas.Bool.{ltb-true, ltb-false}
use Rattle.std.proofs.lemmas.Option.{slice_get_read, slice_get_past}
use Rattle.hv_history.specs.State.{state_of}
use Rattle.hv_book.proofs.NameLaws.{searched, point-some, point-none}
use Rattle.hv_book.proofs.names.has_named.Goals as goal

pub returns-in-Some : goal.returns-in-Some
returns-in-Some c =
    let tables = (state_of c.args.book.now.entries).tables in
    let numbers = c.args.numbers.now in
    let at = c.names_below.result in
    let got = slice_get_read numbers (length numbers) at c.in-Some.table.now refl (ltb-true at (length numbers) (sym c.in-Some.ensures.lookup.0)) c.in-Some.ensures.lookup.1 in
    record {
      named =
          point-some tables c.args.name.now numbers at c.in-Some.table.now c.eq.result got
          (c.eq.ensures ∙ ap (λ name. pointwise nat_eq name c.args.name.now) c.name_of.ensures.name)
          ∙ searched tables c.args.name.now numbers at c.requires.named c.names_below.ensures.bound c.names_below.ensures.point;
    }

pub returns-in-None : goal.returns-in-None
returns-in-None c =
    let tables = (state_of c.args.book.now.entries).tables in
    let numbers = c.args.numbers.now in
    let at = c.names_below.result in
    let got = slice_get_past numbers at (ltb-false at (length numbers) (sym c.in-None.ensures.lookup.0)) in
    record {
      named =
          point-none tables c.args.name.now numbers at got
          ∙ searched tables c.args.name.now numbers at c.requires.named c.names_below.ensures.bound c.names_below.ensures.point;
    }
