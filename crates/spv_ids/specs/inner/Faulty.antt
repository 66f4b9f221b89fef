-- The rules on ids that are broken at an instruction, without a grammar table. (For the code alone.)
use Rattle.std.specs.Prelude.{◌≡◌, ◌<◌, ◌≤◌, ◌⊎◌, ℕ, List, Option, Some, MatchOption, slice_get}
use Rattle.spv_module.specs.Operand.{Plain, PlainInst}
use Rattle.spv_module.specs.declared.fault.Rule.{Rule}
use Rattle.spv_module.specs.declared.fault.Rule.TheVariants.{D1, D2, D3, D4, D5}
use Rattle.spv_layout.specs.First.{rank_of}
use Rattle.spv_ids.specs.Definition.{IsDefinedAt, IsLocal}
use Rattle.spv_ids.specs.Order.{IsInOrder, IsInScope, IsOrdered, IsScoped}
use Rattle.spv_ids.specs.Broken.{IsOutOfRange}
use Rattle.spv_ids.specs.inner.Uses.{IsUsedBefore, behind, argument_id, mention_id}

-- A use of the id by instruction n breaks the rule.
pub data IsBadUse (bound : ℕ) (is : List PlainInst) (n x : ℕ) : Rule → Type 0 where
  out_of_range : IsOutOfRange bound x → IsBadUse bound is n x D1
  undefined : ((m : ℕ) → ¬ (IsDefinedAt is x m)) → IsBadUse bound is n x D3
  not_in_order : IsOrdered is n → ¬ (IsInOrder is n x) → IsBadUse bound is n x D4
  not_in_scope : IsScoped is n → IsLocal is x → ¬ (IsInScope is n x) → IsBadUse bound is n x D5

-- Some use among the first operands of instruction n breaks the rule.
pub record HasBadUse (bound : ℕ) (is : List PlainInst) (n to : ℕ) (r : Rule) : Type 0 where
  pub id : ℕ
  pub used : IsUsedBefore is n to id
  pub bad : IsBadUse bound is n id r

-- A mention of the id breaks the rule.
pub data IsBadMention (bound : ℕ) (is : List PlainInst) (x : ℕ) : Rule → Type 0 where
  out_of_range : IsOutOfRange bound x → IsBadMention bound is x D1
  undefined : ((m : ℕ) → ¬ (IsDefinedAt is x m)) → IsBadMention bound is x D3

-- An operand behind the number of an OpExtInst, instruction n, breaks the rule: as a use, or as a mention.
pub data IsBadOperand (bound : ℕ) (is : List PlainInst) (n : ℕ) (o : Plain) (r : Rule) : Type 0 where
  argument : (x : ℕ) → argument_id o ≡ Some x → IsBadUse bound is n x r → IsBadOperand bound is n o r
  mention : (x : ℕ) → mention_id o ≡ Some x → IsBadMention bound is x r → IsBadOperand bound is n o r

-- Some operand among the first behind the number of instruction n breaks the rule.
pub record HasBadOperand (bound : ℕ) (is : List PlainInst) (n to : ℕ) (r : Rule) : Type 0 where
  pub inst : PlainInst
  pub there : slice_get is n ≡ Some inst
  pub place : ℕ
  pub below : place < to
  pub operand : Plain
  pub operand_at : slice_get (behind inst) place ≡ Some operand
  pub bad : IsBadOperand bound is n operand r

-- The rule is broken at instruction n.
pub data IsFaulty (bound : ℕ) (is : List PlainInst) (n : ℕ) : Rule → Type 0 where
  result_out_of_range : (x : ℕ) → IsDefinedAt is x n → IsOutOfRange bound x → IsFaulty bound is n D1
  defined_again : (m x : ℕ) → IsDefinedAt is x n → m < n → IsDefinedAt is x m → IsFaulty bound is n D2
  by_use : (to : ℕ) (r : Rule) → HasBadUse bound is n to r → IsFaulty bound is n r
  by_operand : (to : ℕ) (r : Rule) → HasBadOperand bound is n to r → IsFaulty bound is n r

-- Of the rules of which something holds, the first in the order of telling; none where it holds of none.
abbrev pub IsLeast : (Rule → Type 0) → Option Rule → Type 0
IsLeast P o = MatchOption o ((q : Rule) → ¬ (P q)) (λ r. P r × ((q : Rule) → P q → rank_of r ≤ rank_of q))

-- The rule is the earlier of one that there may be and another.
pub record IsEarlier (one : Option Rule) (other r : Rule) : Type 0 where
  pub either : (one ≡ Some r) ⊎ (r ≡ other)
  pub last : rank_of r ≤ rank_of other
  pub first : (q : Rule) → one ≡ Some q → rank_of r ≤ rank_of q

-- No rule on ids is broken before instruction n.
pub record AreClean (bound : ℕ) (is : List PlainInst) (n : ℕ) : Type 0 where
  pub clean : (m : ℕ) (q : Rule) → m < n → ¬ (IsFaulty bound is m q)

-- The rule is the first that is broken, at instruction n; none where none is.
pub record IsFirstFault (bound : ℕ) (is : List PlainInst) (r : Rule) (n : ℕ) : Type 0 where
  pub before : AreClean bound is n
  pub broken : IsFaulty bound is n r
  pub least : (q : Rule) → IsFaulty bound is n q → rank_of r ≤ rank_of q
