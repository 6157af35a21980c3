use Rattle.std.proofs.Common.{◌≡◌, ◌++◌, sym, ap, ◌∙◌}
use Rattle.std.specs.Str.{chars}
use Rattle.std.specs.Prelude.{encode_utf8}
use Rattle.std.proofs.lemmas.Str.{chars-nil}
use Rattle.std.proofs.lemmas.List.{nil_from_length}
use Rattle.hv_text.proofs.TextLemmas.{last_char}
use Rattle.hv_text.proofs.characters.split_last.Goals as goal

pub returns-in-Some : goal.returns-in-Some
returns-in-Some c =
    let last = c.in-Some.last in
    let front = c.as_str.result.now in
    let e : c.args.text.now ≡ front ++ encode_utf8 last =
    sym c.chars-characters.ensures.rest ∙ c.in-Some.ensures.steps ∙ ap (λ t. t ++ encode_utf8 last) (sym c.as_str.ensures) in
    last_char _ front last c.utf8.text c.as_str.utf8 e

pub returns-in-None : goal.returns-in-None
returns-in-None c = ap chars (sym c.chars-characters.ensures.rest ∙ nil_from_length _ c.in-None.ensures.steps.0) ∙ chars-nil
