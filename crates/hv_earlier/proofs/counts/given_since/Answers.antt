use Rattle.std.proofs.Common.{◌≡◌, ◌-◌, suc, length, map, take, refl, sym, ap, ◌∙◌, subst, arith}
use Rattle.std.proofs.lemmas.Option.{slice_get_read}
use Rattle.hv_ids.specs.Ids.{table_of}
use Rattle.hv_links.specs.Links.{before_of}
use Rattle.hv_meta.specs.hv_book.specs.Past.{total}
use Rattle.hv_earlier.specs.Places.{given_from}
use Rattle.hv_earlier.proofs.WalkLaws.{IsStop, stop-start, stop-step, given-start, given-step, none-from, not-from}
use Rattle.hv_earlier.proofs.counts.given_since.Goals as goal

pub loop-number-init : goal.loop-number-init
loop-number-init c =
    let ids = c.args.given.now.ids in
    let start = given-start c.args.position c.args.table ids in
    let same = ap (λ n. total (given_from c.args.position c.args.table) (take n ids)) c.last-number.ensures.last in (
      omega (arith, start, same),
      c.last-number.ensures.bound,
      omega arith,
      subst (IsStop c.args.table ids) (sym c.last-number.ensures.last) (stop-start c.args.table ids),
    )

pub returns-then-numbered-position : goal.returns-then-numbered-position
returns-then-numbered-position c =
    let ids = c.args.given.now.ids in
    let number = c.loop-number.number in
    let at = number - 1 in
    let next : number ≡ suc at = omega (arith, c.loop-number-test.true) in
    let within = c.loop-number.invariant.1 in
    let got = slice_get_read ids (length ids) at c.numbered.result refl (omega (arith, next, within)) c.numbered.ensures.id in
    let none =
    none-from (given_from c.args.position c.args.table) c.args.position (not-from c.args.position c.args.table) ids at c.numbered.result c.requires.rising got c.if-numbered-position.true
    in
    let same = ap (λ n. total (given_from c.args.position c.args.table) (take n ids)) next in
    record { since = omega (arith, c.loop-number.invariant.0, none, same) }

pub loop-number-preserved : goal.loop-number-preserved
loop-number-preserved c =
    let ids = c.args.given.now.ids in
    let number = c.loop-number.number in
    let at = number - 1 in
    let next : number ≡ suc at = omega (arith, c.loop-number-test.true) in
    let within = c.loop-number.invariant.1 in
    let got = slice_get_read ids (length ids) at c.numbered.result refl (omega (arith, next, within)) c.numbered.ensures.id in
    let is = c.loop-number.invariant.3 at c.numbered.result next got in
    let step = given-step c.args.position c.args.table ids at c.numbered.result got is c.if-numbered-position.false in
    let before = c.before-number.ensures.before ∙ ap (λ n. before_of n (map table_of ids)) next in
    let same = ap (λ n. total (given_from c.args.position c.args.table) (take n ids)) next in
    let back = ap (λ n. total (given_from c.args.position c.args.table) (take n ids)) before in
    let less = c.before-number.ensures.less (omega (arith, next)) in (
      omega (arith, c.loop-number.invariant.0, step, same, back),
      omega (arith, within, less),
      omega (arith, c.loop-number.invariant.2, less),
      subst (IsStop c.args.table ids) (sym before) (stop-step c.args.table ids at c.numbered.result got is),
    )
