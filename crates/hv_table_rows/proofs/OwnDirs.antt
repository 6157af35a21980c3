-- A directory whose name is that of an own one is it.
use Rattle.std.proofs.Common.{◌≡◌, ℕ, ◌<◌, Bool, List, sym, ◌∙◌}
use Rattle.hv_dirs.specs.Names.{write_end}
use Rattle.hv_dirs.proofs.NameLemmas.{own_rest, wide_rest, own-text, wide-text, kind-same, low-fits, base-first, own-first, base-delta, apart, own-not-wide}
use Rattle.hv_stands.specs.Files.{own_dir}
use Rattle.hv_stands.proofs.MadeFiles.{own_dir-same}
use Rattle.hv_choosing.specs.declared.dir.Dir.{Dir}
use Rattle.hv_choosing.specs.declared.dir.Dir.TheVariants.{Base, Own, Wide}
use Rattle.hv_choosing.specs.Dirs.{IsAt}

pub own-named : (text : List ℕ) (d : Dir) (deletes : Bool) (write statement : ℕ) → IsAt text d → text ≡ own_dir deletes write statement → write < write_end
    → (last : ℕ) × (d ≡ Own deletes (record { 0 = write }) last)
own-named text (Base high) deletes write statement at is few =
    apart _ _ 98 100 (base-first high.0) (own-first deletes write statement) base-delta (at.1 ∙ is)
own-named text (Own kind other last) deletes write statement at is few =
    let same = own_dir-same kind deletes other.0 last write statement at.0.0.1 few (at.1 ∙ is) in
    (last, λ i. Own (same.0 i) (record { 0 = same.1 i }) last)
own-named text (Wide kind low high) deletes write statement at is few =
    let k = kind-same deletes kind (own_rest write statement) (wide_rest low.0 high.0)
    (sym (own-text deletes write statement) ∙ sym (at.1 ∙ is) ∙ wide-text kind low.0 high.0) in
    absurd (own-not-wide write statement low.0 high.0 few (low-fits low.0 high.0 at.0) at.0.2 k.1)
