use Rattle.std.proofs.Common.{◌+◌, ◌∙◌, ap, length, refl, sym}
use Rattle.spv_printer.proofs.Pieces.{rest_of}
use Rattle.spv_annotate.specs.inner.Linked.{until_id}
use Rattle.spv_annotate.proofs.Steadies.{until_skip}
use Rattle.spv_annotate.proofs.linked.size_past_steady.Goals as goal

pub returns-clause-size : goal.returns-clause-size
returns-clause-size c =
    let line = c.args.line.now in
    let q = c.args.quoting in
    let n = c.steady_size-steady.result in
    let s = c.steady_size-steady.ensures in
    let r = rest_of line n (length line) refl s.within in
    ap (λ k. n + k) (c.size_by_bytes.ensures.size ∙ ap (until_id q) r)
    ∙ sym (until_skip q line n c.requires s.within s.steady)
