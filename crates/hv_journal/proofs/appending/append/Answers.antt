use Rattle.std.proofs.Common.{◌≡◌, length, [], ◌∷◌, ◌++◌, refl, sym, subst, arith}
use Rattle.std.proofs.lemmas.Grind.{common_steps}
use Rattle.std.proofs.lemmas.Result.{err_from_is_err_and}
use Rattle.hv_journal.specs.Appending.{Holds}
use Rattle.hv_journal.specs.Writing.{records_of}
use Rattle.hv_journal.proofs.Appended.{gate_closed, gate_opened}
use Rattle.hv_journal.proofs.Torn.{record_torn_told, gate_torn_told}
use Rattle.hv_journal.proofs.appending.append.Goals as goal

pub returns-in_err-write_through-2-clause-no_memory : goal.returns-in_err-write_through-2-clause-no_memory
returns-in_err-write_through-2-clause-no_memory g c = λ full book at held.
    let told = g.D.Shelf.told in
    let bytes : c.as_slice.result.now ≡ records_of c.args.first.now c.args.more.now ++ 0 ∷ [] = grind (arith, common_steps) in
    let before = gate_closed (told c.args.shelf.now) (told c.write_through.new.shelf) (records_of c.args.first.now c.args.more.now) book c.args.place.now c.as_slice.result.now bytes c.in_ok-write_through.ensures.done at held in
    let p = err_from_is_err_and c.from_residual-in_err-write_through-2.result c.from_residual-in_err-write_through-2.ensures.1 in
    subst (λ x. Holds x book) (sym (c.in_err-write_through-2.ensures.no_memory (cc (full, p.1, p.2)))) before

pub returns-clause-added : goal.returns-clause-added
returns-clause-added g c = λ book at held.
    let told = g.D.Shelf.told in
    let bytes : c.as_slice.result.now ≡ records_of c.args.first.now c.args.more.now ++ 0 ∷ [] = grind (arith, common_steps) in
    gate_opened (told c.args.shelf.now) (told c.write_through.new.shelf) (told c.write_through-2.new.shelf) c.args.first.now c.args.more.now book c.args.place.now c.as_slice.result.now _ c.encode_entries.ensures.has bytes refl c.in_ok-write_through.ensures.done c.in_ok-write_through-2.ensures.done at held

pub returns-in_err-write_through-clause-torn : goal.returns-in_err-write_through-clause-torn
returns-in_err-write_through-clause-torn g c = λ failed book at held.
    let told = g.D.Shelf.told in
    record_torn_told (told c.args.shelf.now) (told c.write_through.new.shelf) (c.args.first.now ∷ c.args.more.now) book c.args.place.now (length c.as_slice.result.now) c.in_err-write_through.ensures.torn at held

pub returns-in_err-write_through-2-clause-torn : goal.returns-in_err-write_through-2-clause-torn
returns-in_err-write_through-2-clause-torn g c = λ failed book at held.
    let told = g.D.Shelf.told in
    let bytes : c.as_slice.result.now ≡ records_of c.args.first.now c.args.more.now ++ 0 ∷ [] = grind (arith, common_steps) in
    gate_torn_told (told c.args.shelf.now) (told c.write_through.new.shelf) (told c.write_through-2.new.shelf) c.args.first.now c.args.more.now book c.args.place.now _ c.as_slice.result.now c.encode_entries.ensures.has bytes refl c.in_ok-write_through.ensures.done c.in_err-write_through-2.ensures.torn at held
