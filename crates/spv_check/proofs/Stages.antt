-- Which stage the rules of roles, capabilities, entry points and types are of, and their order. Each rule that demands
-- something of an instruction has its lines here.
use Rattle.std.proofs.Common.{◌≡◌, ◌≤◌, ◌<◌, ◌⊎◌, ℕ, List, refl, inl, inr, arith}
use Rattle.spv_table.specs.Table.{Table}
use Rattle.spv_module.specs.Operand.{PlainInst}
use Rattle.spv_module.specs.declared.fault.Rule.{Rule}
use Rattle.spv_module.specs.declared.fault.Rule.TheVariants as rule
use Rattle.spv_layout.specs.First.{stage_of, rank_of}
use Rattle.spv_layout.specs.Stage as stages
use Rattle.spv_type_rules.specs.roles.Broken as roles
use Rattle.spv_capabilities.specs.Keeps as capabilities
use Rattle.spv_ops.specs.Typed.{IsTyped}
use Rattle.spv_type_rules.specs.Keeps as rules
use Rattle.spv_check.specs.types.Broken as types

-- A rule of capabilities or entry points that is broken: its stage, and its place before those of types.
pub record IsEarly (r : Rule) : Type 0 where
  pub stage : stage_of r ≡ stages.of_types
  pub rank : rank_of r ≤ 25

pub early : (G : Table) (is : List PlainInst) (n : ℕ) (i : PlainInst) (r : Rule) → ¬ (capabilities.Keeps G is r n i)
    → IsEarly r
early G is n i rule.C1 never = record { stage = refl; rank = omega arith }
early G is n i rule.C2 never = record { stage = refl; rank = omega arith }
early G is n i rule.M1 never = record { stage = refl; rank = omega arith }
early G is n i rule.E1 never = record { stage = refl; rank = omega arith }
early G is n i rule.E2 never = record { stage = refl; rank = omega arith }
early G is n i _ never = absurd (never tt)

typed_stage : (G : Table) (is : List PlainInst) (n : ℕ) (i : PlainInst) (r : Rule)
    → ¬ (rules.Keeps (IsTyped G is) is r n i) → stage_of r ≡ stages.of_types
typed_stage G is n i rule.Y2 h = refl
typed_stage G is n i rule.Y3 h = refl
typed_stage G is n i rule.Y4 h = refl
typed_stage G is n i rule.Y5 h = refl
typed_stage G is n i rule.Y6 h = refl
typed_stage G is n i rule.Y7 h = refl
typed_stage G is n i rule.Y8 h = refl
typed_stage G is n i _ h = absurd (h tt)

pub types_stage : (G : Table) (is : List PlainInst) (r : Rule) (n : ℕ) → types.Broken G is r n
    → (stage_of r ≡ stages.of_roles) ⊎ (stage_of r ≡ stages.of_types)
types_stage G is _ _ (types.of_roles _ _ (roles.miscast n k x r u p)) = inl refl
types_stage G is _ _ (types.of_capabilities r n i s h) = inr (early G is n i r h).stage
types_stage G is _ _ (types.of_types r n i s h) = inr (typed_stage G is n i r h)

-- The rules of the stage of Y1 demand nothing else.

pub capable_first : (G : Table) (is : List PlainInst) (n : ℕ) (i : PlainInst) (r : Rule) → stage_of r ≡ stages.of_roles
    → capabilities.Keeps G is r n i
capable_first G is n i rule.C1 s = absurd (let wrong : 5 ≡ 4 = s in omega arith)
capable_first G is n i rule.C2 s = absurd (let wrong : 5 ≡ 4 = s in omega arith)
capable_first G is n i rule.M1 s = absurd (let wrong : 5 ≡ 4 = s in omega arith)
capable_first G is n i rule.E1 s = absurd (let wrong : 5 ≡ 4 = s in omega arith)
capable_first G is n i rule.E2 s = absurd (let wrong : 5 ≡ 4 = s in omega arith)
capable_first G is n i _ s = tt

pub typed_first : (G : Table) (is : List PlainInst) (n : ℕ) (i : PlainInst) (r : Rule) → stage_of r ≡ stages.of_roles
    → rules.Keeps (IsTyped G is) is r n i
typed_first G is n i rule.Y2 s = absurd (let wrong : 5 ≡ 4 = s in omega arith)
typed_first G is n i rule.Y3 s = absurd (let wrong : 5 ≡ 4 = s in omega arith)
typed_first G is n i rule.Y4 s = absurd (let wrong : 5 ≡ 4 = s in omega arith)
typed_first G is n i rule.Y5 s = absurd (let wrong : 5 ≡ 4 = s in omega arith)
typed_first G is n i rule.Y6 s = absurd (let wrong : 5 ≡ 4 = s in omega arith)
typed_first G is n i rule.Y7 s = absurd (let wrong : 5 ≡ 4 = s in omega arith)
typed_first G is n i rule.Y8 s = absurd (let wrong : 5 ≡ 4 = s in omega arith)
typed_first G is n i _ s = tt

-- No rule that comes before those of types.
pub untyped : (G : Table) (is : List PlainInst) (n : ℕ) (i : PlainInst) (b : ℕ) → b ≤ 25 → (q : Rule) → rank_of q < b
    → rules.Keeps (IsTyped G is) is q n i
untyped G is n i b h rule.Y2 l = absurd (let k : 26 < b = l in omega arith)
untyped G is n i b h rule.Y3 l = absurd (let k : 27 < b = l in omega arith)
untyped G is n i b h rule.Y4 l = absurd (let k : 28 < b = l in omega arith)
untyped G is n i b h rule.Y5 l = absurd (let k : 29 < b = l in omega arith)
untyped G is n i b h rule.Y6 l = absurd (let k : 30 < b = l in omega arith)
untyped G is n i b h rule.Y7 l = absurd (let k : 31 < b = l in omega arith)
untyped G is n i b h rule.Y8 l = absurd (let k : 32 < b = l in omega arith)
untyped G is n i b h _ l = tt
