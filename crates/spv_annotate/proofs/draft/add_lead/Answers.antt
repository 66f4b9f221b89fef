use Rattle.std.proofs.Common.{◌≤◌, ◌∙◌, arith, length, refl, sym}
use Rattle.spv_annotate.proofs.Drafts.{copied_lead}
use Rattle.spv_annotate.proofs.draft.add_lead.Goals as goal

pub returns-clause-copied : goal.returns-clause-copied
returns-clause-copied c =
    let n = c.in-Some.count in
    let xs = c.args.octets.now in
    let b = c.in-Some.ensures.0.high in
    let l : n ≤ length xs = omega (arith, b) in
    copied_lead c.args.buffer.now c.put_plain.new.buffer xs _ c.args.at n l refl
    (sym c.are_plain.ensures ∙ c.if-not-are_plain.false) c.put_plain.ensures
