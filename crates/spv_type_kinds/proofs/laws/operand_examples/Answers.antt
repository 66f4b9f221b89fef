use Rattle.std.proofs.Common.{◌≡◌, ℕ, List, [], ◌∷◌, Some, None, refl}
use Rattle.spv_type_kinds.proofs.laws.operand_examples.Goals as goal

not_none : (x : ℕ) → Some x ≡ None → ⊥
not_none x e = cc

not_empty : (x : ℕ) (xs : List ℕ) → [] ≡ x ∷ xs → ⊥
not_empty x xs e = cc

pub returns : goal.returns
returns c = record {
  words = refl;
  ids = refl;
  not_ids = λ e. not_empty 1 [] e;
  result_type = refl;
  head = refl;
  function_type = refl;
  not_function_type = λ e. not_none 5 e;
}
