-- The values of some operands, one after another.
use Rattle.std.proofs.Common.{◌≡◌, ◌<◌, ◌∙◌, ℕ, List, Option, Some, None, IsSomeAnd, length, get_or}
use Rattle.std.proofs.Common.{sym, subst}
use Rattle.std.proofs.lemmas.List.Elements.{Contains-get_or}
use Rattle.std.proofs.lemmas.Option.{same_Some, slice_get-get_or}
use Rattle.spv_module.specs.Operand.{Plain, PlainInst}
use Rattle.spv_kernel_operands.specs.Value.{value_at}
use Rattle.spv_kernel_operands.specs.inner.Scopes.{HasValue}

-- one that has such a value
pub value_found : (P : ℕ → Type 0) (is : List PlainInst) (os : List Plain) (seats : List ℕ) (k : ℕ) (o : Option ℕ)
    → k < length seats → o ≡ value_at is os (get_or seats k 0) → IsSomeAnd o P → HasValue P is os seats
value_found P is os seats k None l e h = absurd h
value_found P is os seats k (Some n) l e h = record {
  seat = get_or seats k 0;
  among = Contains-get_or seats k 0 l;
  number = n;
  value = sym e;
  holds = h;
}

-- where none has, none is found
pub none_found : (P : ℕ → Type 0) (is : List PlainInst) (os : List Plain) (seats : List ℕ)
    → ((k : ℕ) → k < length seats → ¬ (IsSomeAnd (value_at is os (get_or seats k 0)) P)) → ¬ (HasValue P is os seats)
none_found P is os seats h v =
    let k = v.among.0 in
    let l = v.among.1 in
    let one : Some (get_or seats k 0) ≡ Some (get_or seats k v.seat) =
    sym (slice_get-get_or seats k 0 l) ∙ slice_get-get_or seats k v.seat l in
    let same = same_Some (get_or seats k 0) (get_or seats k v.seat) one ∙ v.among.2 in
    h k l (subst (λ (x : ℕ). IsSomeAnd (value_at is os x) P) (sym same)
    (subst (λ (o : Option ℕ). IsSomeAnd o P) (sym v.value) v.holds))
