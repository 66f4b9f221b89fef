-- Of which stage a broken rule on flow is. Proofs above go by these three cases, not by the rules one by one.
use Rattle.std.proofs.Common.{◌≡◌, ℕ, List, refl, arith}
use Rattle.spv_table.specs.Table.{Table}
use Rattle.spv_module.specs.Operand.{PlainInst}
use Rattle.spv_module.specs.declared.fault.Rule.{Rule}
use Rattle.spv_module.specs.declared.fault.Rule.TheVariants.{A1, A2}
use Rattle.spv_layout.specs.Stage.{of_branches, of_values}
use Rattle.spv_layout.specs.First.{stage_of, IsUnbroken}
use Rattle.spv_flow.specs.branches.Ready.{IsMissing, IsPairMissing}
use Rattle.spv_flow.specs.declared.branches.fork.Fork.{Fork}
use Rattle.spv_flow.specs.declared.branches.fork.Fork.TheVariants.{Free}
use Rattle.spv_flow.specs.branches.Broken.{Broken}

-- It is a rule F, or A1 or A2, of a value that a walk misses.
pub data IsStaged (G : Table) (is : List PlainInst) : Rule → ℕ → Type 0 where
  branches : (r : Rule) (n : ℕ) → stage_of r ≡ of_branches → IsStaged G is r n
  missing : (n : ℕ) → IsMissing G is n → IsStaged G is A1 n
  pair_missing : (n : ℕ) → IsPairMissing G is n → IsStaged G is A2 n

pub staged : (fork : Fork) (G : Table) (is : List PlainInst) (r : Rule) (n : ℕ) → Broken fork G is r n
    → IsStaged G is r n
staged fork G is _ _ (Broken.missing n m) = IsStaged.missing n m
staged fork G is _ _ (Broken.pair_missing n m) = IsStaged.pair_missing n m
staged fork G is _ _ _ = IsStaged.branches _ _ refl

-- A1 and A2 are broken alike, whether F4 is asked or not.
pub moved : (fork other : Fork) (G : Table) (is : List PlainInst) (r : Rule) (n : ℕ) → stage_of r ≡ of_values
    → Broken fork G is r n → Broken other G is r n
moved fork other G is r n s b = by_stage r n s (staged fork G is r n b)
  where
    by_stage : (q : Rule) (m : ℕ) → stage_of q ≡ of_values → IsStaged G is q m → Broken other G is q m
    by_stage _ _ v (IsStaged.branches q m e) = absurd (omega (arith, v, e))
    by_stage _ _ v (IsStaged.missing m h) = Broken.missing m h
    by_stage _ _ v (IsStaged.pair_missing m h) = Broken.pair_missing m h

pub values_moved : (fork other : Fork) (G : Table) (is : List PlainInst) → IsUnbroken (Broken fork G is) of_values
    → IsUnbroken (Broken other G is) of_values
values_moved fork other G is u = λ r n s b. u r n s (moved other fork G is r n s b)

-- What is broken where F4 is not asked is broken in any case.
pub asked : (fork : Fork) (G : Table) (is : List PlainInst) (r : Rule) (n : ℕ) → Broken Free G is r n
    → Broken fork G is r n
asked fork G is _ _ (Broken.no_label n k x op used none) = Broken.no_label n k x op used none
asked fork G is _ _ (Broken.to_entry n x m target d e) = Broken.to_entry n x m target d e
asked fork G is _ _ (Broken.parents n phi not) = Broken.parents n phi not
asked fork G is _ _ (Broken.same_labels n x e op u w) = cc
asked fork G is _ _ (Broken.missing n m) = Broken.missing n m
asked fork G is _ _ (Broken.pair_missing n m) = Broken.pair_missing n m

pub unasked : (fork : Fork) (G : Table) (is : List PlainInst) (stage : ℕ) → IsUnbroken (Broken fork G is) stage
    → IsUnbroken (Broken Free G is) stage
unasked fork G is stage u = λ r n s b. u r n s (asked fork G is r n b)
