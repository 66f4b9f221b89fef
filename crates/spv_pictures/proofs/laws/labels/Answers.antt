use Rattle.spv_pictures.proofs.Labels.{label_read, label_unmarked}
use Rattle.spv_pictures.proofs.laws.labels.Goals as goal

pub returns : goal.returns
returns c = record { marks = λ t. (label_unmarked t).all; read = label_read }
