use Rattle.std.proofs.Common.{◌≡◌, ◌++◌, ◌∷◌, [], ℕ, List, map, sym, ap, ◌∙◌, subst, append-nil}
use Rattle.std.proofs.lemmas.Result.{on_ok_weaker}
use Rattle.hv_choosing.specs.declared.listing.DirFile.{DirFile}
use Rattle.hv_actor.specs.Acting.{known}
use Rattle.hv_compact.specs.Gathering.{taken_in}
use Rattle.hv_compact.specs.Reading.{ReadsOne}
use Rattle.hv_compact.proofs.Gets.{items_in, works-none, files-more, taken-bucket, taken-one, taken-none}
use Rattle.hv_compact.proofs.reading.read_taken.Goals as goal

pub returns-then-is_taken-clause-files : goal.returns-then-is_taken-clause-files
returns-then-is_taken-clause-files g c = λ are.
    let bucket : c.args.file.now.place.bucket ≡ c.args.bucket =
    taken-bucket c.args.task.kind c.args.bucket c.args.file.now (sym c.is_taken.ensures ∙ c.if-is_taken.true) in
    on_ok_weaker c.read_next.result
    (λ reads. files-more c.args.deletes c.args.bucket c.args.read.now.items c.read_next.new.read.items
    (subst (λ (b : ℕ). ReadsOne c.args.deletes b c.args.read.now.items c.read_next.new.read.items) bucket reads) are) c.read_next.ensures.read

pub returns-then-is_taken-clause-made : goal.returns-then-is_taken-clause-made
returns-then-is_taken-clause-made g c = λ recs_of was_told stands.
    let one : taken_in c.args.task.kind c.args.bucket (c.args.file.now ∷ []) ≡ c.args.file.now ∷ [] =
    taken-one c.args.task.kind c.args.bucket c.args.file.now (sym c.is_taken.ensures ∙ c.if-is_taken.true) in
    on_ok_weaker c.read_next.result
    (λ read. read ∙ ap (λ (fs : List DirFile). items_in c.args.read.now.items ++ map recs_of fs) (sym one))
    (c.read_next.ensures.made (recs_of c.args.file.now) was_told stands)

pub returns-else-is_taken-clause-works : goal.returns-else-is_taken-clause-works
returns-else-is_taken-clause-works g c =
    works-none g.D.Shelf.told g.D.Shelf.faults g.W.Actor.between g.W.Actor.meanwhile c.args.task.job g.met.W.Actor.rows
    (known (g.W.Actor.own c.args.actor.now) (g.W.Actor.house c.args.actor.now)) c.requires.running

pub returns-else-is_taken-clause-made : goal.returns-else-is_taken-clause-made
returns-else-is_taken-clause-made g c = λ recs_of was_told stands.
    let none : taken_in c.args.task.kind c.args.bucket (c.args.file.now ∷ []) ≡ [] =
    taken-none c.args.task.kind c.args.bucket c.args.file.now (sym c.is_taken.ensures ∙ c.if-is_taken.false) in
    sym (append-nil (items_in c.args.read.now.items))
    ∙ ap (λ (fs : List DirFile). items_in c.args.read.now.items ++ map recs_of fs) (sym none)
