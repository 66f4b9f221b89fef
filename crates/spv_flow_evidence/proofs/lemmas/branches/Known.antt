-- What is known of the instruction at which a rule is broken.
use Rattle.std.proofs.Common.{◌≡◌, ◌<◌, ℕ, List, length, map, refl, sym, subst, arith}
use Rattle.std.proofs.lemmas.List.{length-map}
use Rattle.spv_table.specs.Table.{Table}
use Rattle.spv_module.specs.Operand.{PlainInst}
use Rattle.spv_module.specs.declared.module.Inst.{Inst}
use Rattle.spv_module.specs.Module.{plain_inst}
use Rattle.spv_module.specs.declared.fault.Rule.{Rule}
use Rattle.spv_module.specs.declared.fault.Rule.TheVariants.{D3}
use Rattle.spv_layout.specs.First.{IsFirst, IsUnbroken}
use Rattle.spv_layout.specs.Place.{IsShort, AreFew}
use Rattle.spv_layout.specs.Plan.{IsPlan}
use Rattle.spv_layout.specs.declared.form.Role.TheVariants.{Label}
use Rattle.spv_layout.specs.Stage.{of_branches, of_ids}
use Rattle.spv_ids.specs.Broken as ids
use Rattle.spv_ids.specs.Outcome.{IsDefinitionOf, definition_in}
use Rattle.spv_flow.specs.declared.branches.code.Code.{Code}
use Rattle.spv_flow.specs.branches.inner.Code.{insts_of, IsCode}
use Rattle.spv_flow.specs.declared.branches.fork.Fork.{Fork}
use Rattle.spv_flow.specs.declared.branches.fork.Fork.TheVariants.{Free}
use Rattle.spv_flow.specs.branches.Broken.{Broken}
use Rattle.spv_flow.proofs.lemmas.branches.Firsts.{broken_within}
use Rattle.spv_evidence.specs.declared.evidence.Evidence.{Evidence}
use Rattle.spv_flow_evidence.specs.branches.Evidence.{IsEvidence}
use Rattle.spv_flow_evidence.specs.branches.inner.Known.{KeepsDefinitions}
use Rattle.spv_flow.proofs.lemmas.branches.Firsts.{few_insts}

-- The instructions that are looked at are those of a module whose plan and ids are known.
pub known_code : (G : Table) (c : Code) (insts : List Inst) → c.insts.now ≡ insts → IsShort (map plain_inst insts)
    → IsPlan G (map plain_inst insts) c.plan.now
    → ((x : ℕ) → IsDefinitionOf (map plain_inst insts) x (definition_in c.ids.now x))
    → IsCode G c
known_code G c insts e words plan each =
    record {
      plan = subst (λ (xs : List Inst). IsPlan G (map plain_inst xs) c.plan.now) (sym e) plan;
      each = subst (λ (xs : List Inst). (x : ℕ) → IsDefinitionOf (map plain_inst xs) x (definition_in c.ids.now x))
          (sym e) each;
      most = subst (λ (xs : List Inst). AreFew xs) (sym e) (few_insts insts words);
    }

-- A rule is broken at one of them.
pub record IsBroken (fork : Fork) (G : Table) (c : Code) (q : Rule) (n : ℕ) : Type 0 where
  pub within : n < length c.insts.now
  pub broken : Broken fork G (insts_of c) q n

pub known_broken : (fork : Fork) (G : Table) (c : Code) (insts : List Inst) (q : Rule) (n : ℕ) → c.insts.now ≡ insts
    → IsFirst (Broken fork G (map plain_inst insts)) of_branches q n → IsBroken fork G c q n
known_broken fork G c insts q n e first =
    let broken = subst (λ (xs : List Inst). Broken fork G (map plain_inst xs) q n) (sym e) first.broken in
    record {
      within = (let lt = broken_within fork G (insts_of c) q n first.of_stage broken in
          let count = length-map c.insts.now plain_inst in omega (arith, lt, count));
      broken = broken;
    }

-- What was found of them, where F4 is not asked, shows it in any case.
asked : (fork : Fork) (G : Table) (is : List PlainInst) (r : Rule) (n : ℕ) (e : Evidence) → IsEvidence Free G is r n e
    → IsEvidence fork G is r n e
asked fork G is _ _ _ (IsEvidence.no_label n k x m op used defined none) =
    IsEvidence.no_label n k x m op used defined none
asked fork G is _ _ _ (IsEvidence.to_entry n k x m op used defined entry) =
    IsEvidence.to_entry n k x m op used defined entry
asked fork G is _ _ _ (IsEvidence.missing_parent n b p ps phi of leads none all) =
    IsEvidence.missing_parent n b p ps phi of leads none all
asked fork G is _ _ _ (IsEvidence.no_predecessor n b k x ps phi of used none all) =
    IsEvidence.no_predecessor n b k x ps phi of used none all
asked fork G is _ _ _ (IsEvidence.twice n b j k p ps phi of lt one two all) =
    IsEvidence.twice n b j k p ps phi of lt one two all
asked fork G is _ _ _ (IsEvidence.same_labels n x distinct op one two) = cc

pub found : (fork : Fork) (G : Table) (c : Code) (insts : List Inst) (q r : Rule) (n : ℕ) (e : Evidence)
    → c.insts.now ≡ insts → q ≡ r → IsEvidence Free G (insts_of c) r n e
    → IsEvidence fork G (map plain_inst insts) q n e
found fork G c insts q r n e same rule h =
    subst (λ (p : Rule). IsEvidence fork G (map plain_inst insts) p n e) (sym rule)
    (subst (λ (xs : List Inst). IsEvidence fork G (map plain_inst xs) r n e) same (asked fork G (insts_of c) r n e h))

pub definitions : (G : Table) (bound : ℕ) (is : List PlainInst) (n : ℕ) → IsUnbroken (ids.Broken G bound is) of_ids
    → KeepsDefinitions G is n
definitions G bound is n unbroken =
    record { each = λ k x u none. unbroken D3 n refl (ids.Broken.undefined n k x Label u none) }
