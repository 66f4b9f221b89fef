use Rattle.spv_type_evidence.proofs.lemmas.types.Returning.{return_shows}
use Rattle.spv_type_evidence.proofs.types.returns.return_evidence.Goals as goal

pub returns : goal.returns
returns c = λ G i o. return_shows G c.args.definitions.now c.args.number c.returned_type.result i
    c.returned_type.ensures c.requires.broken o
