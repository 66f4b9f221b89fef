use Rattle.spv_standard_evidence.proofs.Versioned.{lack_value}
use Rattle.spv_standard_evidence.proofs.versions.value_lack.Goals as goal

pub returns-in-Some : goal.returns-in-Some
returns-in-Some c = λ i e.
    lack_value c.args.missing.now.lines c.args.kinds.now.numbers i c.args.k c.args.kind c.args.value
    c.in-Some.hit.number c.in-Some.hit.line e c.in-Some.ensures

pub returns-in-None : goal.returns-in-None
returns-in-None c = λ i e. c.in-None.ensures
