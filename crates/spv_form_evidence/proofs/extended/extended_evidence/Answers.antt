use Rattle.std.proofs.Common.{◌≡◌, sym, ap, ◌∙◌}
use Rattle.spv_module.specs.Module.{plain_insts}
use Rattle.spv_form_evidence.specs.extended.Evidence.{least_of, least_with, most_of, most_with}
use Rattle.spv_form_evidence.proofs.lemmas.extended.Sufficing.{found}
use Rattle.spv_form_evidence.proofs.extended.extended_evidence.Goals as goal

pub returns : goal.returns
returns c =
    let is = plain_insts c.args.«module».now in
    let call = c.in-Some.call in
    let least : c.least_of.result ≡ least_of call.number = c.least_of.ensures
    ∙ ap (λ s. least_with s.more s.least) c.signature_of-signature.ensures in
    let most : c.most_of.result ≡ most_of call.number = c.most_of.ensures
    ∙ ap (λ s. most_with s.more s.least) c.signature_of-signature.ensures in
    rw (least, most) (found is c.args.inst call c.requires.broken (sym c.in-Some.is ∙ c.in_ok-call.ensures))
