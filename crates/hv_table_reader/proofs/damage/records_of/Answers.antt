use Rattle.std.proofs.Common.{Some, sym, ap, ◌∙◌}
use Rattle.hv_table_rows.specs.Amiss.{first_amiss}
use Rattle.hv_table_reader.proofs.Sheets.{turned, holds, tells-other, spelled-so}
use Rattle.hv_table_reader.proofs.damage.records_of.Goals as goal

pub returns-in-Some-clause-damage : goal.returns-in-Some-clause-damage
returns-in-Some-clause-damage c = λ o got.
    tells-other o c.args.place.now c.args.deletes c.args.span c.in-Some.at c.in-Ok.kind c.in-Ok.other c.args.bytes.now c.in-Ok.recs.items
    c.damaged.result c.damaged.ensures.place (turned o c.args.place.now (Some c.args.bytes.now) got) c.in-Ok.ensures.found.0 c.in-Ok.ensures.found.1
    (sym c.in-Some.is ∙ c.in_ok-at-in-Ok.ensures
    ∙ ap (first_amiss c.args.deletes c.args.place.now.bucket c.args.span c.in-Ok.kind c.in-Ok.other) c.deref.ensures.value)

pub returns-in-None-clause-recs : goal.returns-in-None-clause-recs
returns-in-None-clause-recs c = λ o got.
    holds o c.args.place.now c.args.deletes c.args.span c.in-Ok.kind c.in-Ok.other c.args.bytes.now c.in-Ok.recs.items
    (turned o c.args.place.now (Some c.args.bytes.now) got) c.in-Ok.ensures.found.0 c.in-Ok.ensures.found.1
    (sym c.in-None.is ∙ c.in_ok-at-in-Ok.ensures
    ∙ ap (first_amiss c.args.deletes c.args.place.now.bucket c.args.span c.in-Ok.kind c.in-Ok.other) c.deref.ensures.value)

pub returns-in-None-clause-spelled : goal.returns-in-None-clause-spelled
returns-in-None-clause-spelled c =
    spelled-so c.args.deletes c.args.place.now.bucket c.args.span c.in-Ok.kind c.in-Ok.other c.args.bytes.now c.in-Ok.recs.items c.in-Ok.ensures.found.1
    (sym c.in-None.is ∙ c.in_ok-at-in-Ok.ensures
    ∙ ap (first_amiss c.args.deletes c.args.place.now.bucket c.args.span c.in-Ok.kind c.in-Ok.other) c.deref.ensures.value)
