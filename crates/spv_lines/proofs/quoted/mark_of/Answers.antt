use Rattle.std.proofs.Common.{◌∙◌, ◌∷◌, ap}
use Rattle.spv_lines.specs.inner.Quoted.{quote, slash, feed}
use Rattle.spv_lines.proofs.quoted.mark_of.Goals as goal

pub returns-in-Some-behind-2 : goal.returns-in-Some-behind-2
returns-in-Some-behind-2 c = (34, quote, c.in-Some-behind.ensures ∙ ap (λ z. 92 ∷ z) c.in-Some-behind-2.ensures)

pub returns-in-Some-behind-3 : goal.returns-in-Some-behind-3
returns-in-Some-behind-3 c = (92, slash, c.in-Some-behind.ensures ∙ ap (λ z. 92 ∷ z) c.in-Some-behind-3.ensures)

pub returns-in-Some-behind-4 : goal.returns-in-Some-behind-4
returns-in-Some-behind-4 c = (110, feed, c.in-Some-behind.ensures ∙ ap (λ z. 92 ∷ z) c.in-Some-behind-4.ensures)
