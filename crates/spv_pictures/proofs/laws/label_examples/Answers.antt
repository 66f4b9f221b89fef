use Rattle.spv_pictures.proofs.Worked.{frame_example, hidden_example, marked_example, not_hidden_example, order_example}
use Rattle.spv_pictures.proofs.Worked.{read_example}
use Rattle.spv_pictures.proofs.laws.label_examples.Goals as goal

pub returns : goal.returns
returns c = record {
  marked = marked_example;
  hidden = hidden_example;
  not_hidden = not_hidden_example;
  read = read_example;
  order = order_example;
  frame = frame_example;
}
