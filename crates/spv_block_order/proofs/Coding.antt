-- The instructions that are looked at are those of a module whose branches are sound.
use Rattle.std.proofs.Common.{◌≡◌, ◌<◌, ℕ, List, [], ◌∷◌, refl, sym, subst}
use Rattle.spv_table.specs.Table.{Table}
use Rattle.spv_module.specs.Operand.{PlainInst}
use Rattle.spv_layout.specs.declared.class.Class.TheVariants.{Function}
use Rattle.spv_module.specs.declared.fault.Rule.TheVariants.{A1}
use Rattle.spv_layout.specs.Stage.{of_branches, of_values}
use Rattle.spv_layout.specs.First.{IsUnbroken}
use Rattle.spv_layout.specs.Place.{IsAt, IsShort}
use Rattle.spv_layout.specs.Plan.{IsPlan}
use Rattle.spv_layout.specs.inner.Outcome.{ArePlacesOf}
use Rattle.spv_ids.specs.Outcome.{AreIds}
use Rattle.spv_flow.specs.declared.branches.fork.Fork.{Fork}
use Rattle.spv_flow.specs.declared.branches.fork.Fork.TheVariants.{Free}
use Rattle.spv_flow.specs.branches.Broken as flow
use Rattle.spv_flow.specs.branches.Ready.{IsMissing}
use Rattle.spv_flow.specs.declared.walks.code.Code.{Code}
use Rattle.spv_flow.specs.walks.inner.Code.{insts_of, IsCode}
use Rattle.spv_flow.proofs.lemmas.branches.Firsts.{few_insts}
use Rattle.spv_flow.proofs.lemmas.walks.Places.{no_function}
use Rattle.spv_flow.proofs.lemmas.walks.Staged.{unasked}
use Rattle.spv_block_order.specs.inner.Rising.{IsSound}

pub code_is : (fork : Fork) (G : Table) (c : Code) (is : List PlainInst) (bound : ℕ) → insts_of c ≡ is → IsShort is
    → ((js : List PlainInst) (n : ℕ) → ArePlacesOf js c.plan.now → n < c.globals → ¬ (IsAt js n (Function ∷ [])))
    → IsPlan G is c.plan.now → AreIds G bound is c.ids.now → IsUnbroken (flow.Broken fork G is) of_branches
    → IsCode G c
code_is fork G c is bound same short before plan ids branches =
    let here : IsPlan G (insts_of c) c.plan.now =
    subst (λ (js : List PlainInst). IsPlan G js c.plan.now) (sym same) plan in
    record {
      plan = here;
      bound = bound;
      ids = subst (λ (js : List PlainInst). AreIds G bound js c.ids.now) (sym same) ids;
      branches = subst (λ (js : List PlainInst). IsUnbroken (flow.Broken Free G js) of_branches) (sym same)
          (unasked fork G is of_branches branches);
      most = few_insts c.insts.now (subst IsShort (sym same) short);
      global = no_function (insts_of c) c.plan.now c.globals here.place before;
    }

-- and where no rule on values is broken, each walk defines what is used
pub sound_is : (fork : Fork) (G : Table) (c : Code) (is : List PlainInst) → insts_of c ≡ is → IsCode G c
    → IsUnbroken (flow.Broken fork G is) of_values → IsSound G c
sound_is fork G c is same code values = record {
  code = code;
  ready = subst (λ (js : List PlainInst). (n : ℕ) → ¬ (IsMissing G js n)) (sym same)
      (λ n m. values A1 n refl (flow.Broken.missing n m));
}
