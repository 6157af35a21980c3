use Rattle.std.proofs.Common.{◌≡◌, ◌∙◌, ap, sym, subst, refl, IfOk}
use Rattle.percent_encoding.specs.Percent.{percent_decode}
use Rattle.std.specs.Str.{bytes_eq, IsUtf8}
use Rattle.hv_value.specs.declared.value.Value.{Value}
use Rattle.hv_route.specs.Partitions.{default_partition}
use Rattle.hv_route.proofs.PartitionLemmas.{read_text, read_no_text}
use Rattle.hv_route.proofs.partitions.read_value.Goals as goal

pub returns-in-Some : goal.returns-in-Some
unfolding default_partition
returns-in-Some c =
    let decoded : c.append_to.new.out.items ≡ percent_decode c.args.piece.now =
    rw (c.in_ok-append_to.ensures.ok, c.new-bytes.ensures.items, c.percent_decode.ensures.bytes) refl in
    subst (λ (v : Value). IfOk c.read_as.result (λ value. value ≡ v))
    (read_text c.args.kind c.args.piece.now c.in-Some.text (ap (bytes_eq c.args.piece.now) (sym c.as_bytes.ensures.value) ∙ sym c.eq.ensures ∙ c.if-eq.false) (subst IsUtf8 decoded c.in-Some.ensures.0) (c.in-Some.ensures.1 ∙ decoded)) c.read_as.ensures

pub returns-in-None : goal.returns-in-None
unfolding default_partition
returns-in-None c =
    let decoded : c.append_to.new.out.items ≡ percent_decode c.args.piece.now =
    rw (c.in_ok-append_to.ensures.ok, c.new-bytes.ensures.items, c.percent_decode.ensures.bytes) refl in
    read_no_text c.args.kind c.args.piece.now (ap (bytes_eq c.args.piece.now) (sym c.as_bytes.ensures.value) ∙ sym c.eq.ensures ∙ c.if-eq.false) (λ h. c.in-None.ensures (subst IsUtf8 (sym decoded) h))
