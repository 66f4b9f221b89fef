use Rattle.std.proofs.Common.{ℕ, Option, Some, None}
use Rattle.std.specs.Prelude.{MatchOption, MatchBool, is_some}
use Rattle.spv_flow.proofs.branches.code.Code.has_label.Goals as goal

by_some : (o : Option ℕ) (P : Type 0) (Q : ℕ → Type 0) → MatchOption o P Q → MatchBool (is_some o) ((m : ℕ) × Q m) P
by_some None P Q h = h
by_some (Some m) P Q h = (m, h)

pub returns : goal.returns
returns c = λ G is. rw c.is_some.ensures (by_some c.label_of.result _ _ (c.label_of.ensures.label G is))
