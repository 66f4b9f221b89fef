use Rattle.std.proofs.Common.{◌∙◌, ◌≡◌, List, ap, map, refl, sym, subst, arith}
use Rattle.std.proofs.lemmas.List.{length-map}
use Rattle.spv_module.specs.Module.{plain_inst, plain_insts}
use Rattle.spv_module.specs.Operand.{PlainInst}
use Rattle.spv_layout.specs.Place.{IsShort}
use Rattle.spv_layout.specs.Plan.{IsPlan}
use Rattle.spv_layout.proofs.Misfits.{short_list}
use Rattle.spv_ids.specs.Outcome.{IsDefinitionOf, definition_in}
use Rattle.spv_explain.specs.declared.kinds.Part.TheVariants as part
use Rattle.spv_explain.proofs.Parted.{declaration_shown, decoration_shown, interface_shown, limit_shown, operand_shown}
use Rattle.spv_explain.proofs.Parted.{order_shown, part_at, placement_shown, version_shown}
use Rattle.spv_explain.proofs.standard.kernel_evidence.Goals as goal

pub overflow_cast-total : goal.overflow_cast-total
overflow_cast-total c =
    let xs = c.as_slice-insts.result.now in
    let s = short_list (map plain_inst xs) in
    let l = length-map xs plain_inst in
    let q : IsShort (map plain_inst xs) = rw c.as_slice-insts.ensures.value c.requires.words in
    omega arith

pub new-definitions-requires-clause-ids : goal.new-definitions-requires-clause-ids
new-definitions-requires-clause-ids c = λ x.
    subst (λ is. IsDefinitionOf is x (definition_in c.args.ids.now x))
    (ap (λ items. map plain_inst items) (sym c.as_slice-insts.ensures.value)) (c.requires.ids.each x)

pub order_evidence-requires-clause-known : goal.order_evidence-requires-clause-known
order_evidence-requires-clause-known c =
    let G = c.args.table.now in
    let is = plain_insts c.args.module.now in
    let r = c.args.fault.rule in
    let n = c.args.fault.inst in
    let m = c.args.minor in
    let p = part_at G m is is r n part.Order refl (sym c.part_of.ensures ∙ c.in-Order.is) c.requires.broken in
    (c.requires.branches.0, G, c.requires.plan, c.requires.ids, c.requires.branches.1, p)

pub returns-in-Order : goal.returns-in-Order
returns-in-Order c =
    let G = c.args.table.now in
    let is = plain_insts c.args.module.now in
    let r = c.args.fault.rule in
    let n = c.args.fault.inst in
    let m = c.args.minor in
    order_shown G m is r n c.order_evidence.result
    (c.order_evidence.ensures c.requires.branches.0 G c.requires.plan c.requires.ids c.requires.branches.1)

pub interface_evidence-requires-clause-words : goal.interface_evidence-requires-clause-words
interface_evidence-requires-clause-words c = rw c.as_slice-insts.ensures.value c.requires.words

pub interface_evidence-requires-clause-same : goal.interface_evidence-requires-clause-same
interface_evidence-requires-clause-same c = c.new-definitions.ensures

pub interface_evidence-requires-clause-ids : goal.interface_evidence-requires-clause-ids
interface_evidence-requires-clause-ids c = λ x.
    subst (λ is. IsDefinitionOf is x (definition_in c.args.ids.now x))
    (ap (λ items. map plain_inst items) (sym c.as_slice-insts.ensures.value)) (c.requires.ids.each x)

pub interface_evidence-requires-clause-broken : goal.interface_evidence-requires-clause-broken
interface_evidence-requires-clause-broken c =
    let G = c.args.table.now in
    let is = plain_insts c.args.module.now in
    let r = c.args.fault.rule in
    let n = c.args.fault.inst in
    let m = c.args.minor in
    let same : c.new-definitions.result ≡ is = c.new-definitions.ensures
    ∙ ap (λ items. map plain_inst items) c.as_slice-insts.ensures.value in
    let part_is = sym c.part_of.ensures ∙ c.in-Interfaces.is in
    let p = part_at G m is _ r n part.Interfaces same part_is c.requires.broken in (
      G,
      subst (λ (is : List PlainInst). IsPlan G is c.args.plan.now)
          (ap (λ items. map plain_inst items) (sym c.as_slice-insts.ensures.value)) c.requires.plan,
      p.1,
    )

pub returns-in-Interfaces : goal.returns-in-Interfaces
returns-in-Interfaces c =
    let G = c.args.table.now in
    let is = plain_insts c.args.module.now in
    let r = c.args.fault.rule in
    let n = c.args.fault.inst in
    let m = c.args.minor in
    let same : c.new-definitions.result ≡ is = c.new-definitions.ensures
    ∙ ap (λ items. map plain_inst items) c.as_slice-insts.ensures.value in
    let part_is = sym c.part_of.ensures ∙ c.in-Interfaces.is in
    let p = part_at G m is _ r n part.Interfaces same part_is c.requires.broken in
    interface_shown G m is _ r n c.interface_evidence.result same p.0 (c.interface_evidence.ensures G
    (subst (λ (is : List PlainInst). IsPlan G is c.args.plan.now)
    (ap (λ items. map plain_inst items) (sym c.as_slice-insts.ensures.value)) c.requires.plan))

pub declaration_evidence-requires-clause-rule : goal.declaration_evidence-requires-clause-rule
declaration_evidence-requires-clause-rule c =
    let G = c.args.table.now in
    let is = plain_insts c.args.module.now in
    let r = c.args.fault.rule in
    let n = c.args.fault.inst in
    let m = c.args.minor in
    let same : c.new-definitions.result ≡ is = c.new-definitions.ensures
    ∙ ap (λ items. map plain_inst items) c.as_slice-insts.ensures.value in
    let p = part_at G m is _ r n part.Declarations same (sym c.part_of.ensures ∙ c.in-Declarations.is) c.requires.broken in
    p.0

pub declaration_evidence-requires-clause-broken : goal.declaration_evidence-requires-clause-broken
declaration_evidence-requires-clause-broken c =
    let G = c.args.table.now in
    let is = plain_insts c.args.module.now in
    let r = c.args.fault.rule in
    let n = c.args.fault.inst in
    let m = c.args.minor in
    let same : c.new-definitions.result ≡ is = c.new-definitions.ensures
    ∙ ap (λ items. map plain_inst items) c.as_slice-insts.ensures.value in
    let p = part_at G m is _ r n part.Declarations same (sym c.part_of.ensures ∙ c.in-Declarations.is) c.requires.broken in
    (G, p.1)

pub returns-in-Declarations : goal.returns-in-Declarations
returns-in-Declarations c =
    let G = c.args.table.now in
    let is = plain_insts c.args.module.now in
    let r = c.args.fault.rule in
    let n = c.args.fault.inst in
    let m = c.args.minor in
    let same : c.new-definitions.result ≡ is = c.new-definitions.ensures
    ∙ ap (λ items. map plain_inst items) c.as_slice-insts.ensures.value in
    let p = part_at G m is _ r n part.Declarations same (sym c.part_of.ensures ∙ c.in-Declarations.is) c.requires.broken in
    declaration_shown G m is _ r n _ same (c.declaration_evidence.ensures G p.1)

pub placement_evidence-requires-clause-broken : goal.placement_evidence-requires-clause-broken
placement_evidence-requires-clause-broken c =
    let G = c.args.table.now in
    let is = plain_insts c.args.module.now in
    let r = c.args.fault.rule in
    let n = c.args.fault.inst in
    let m = c.args.minor in
    let same : c.new-definitions.result ≡ is = c.new-definitions.ensures
    ∙ ap (λ items. map plain_inst items) c.as_slice-insts.ensures.value in
    let p = part_at G m is _ r n part.Placements same (sym c.part_of.ensures ∙ c.in-Placements.is) c.requires.broken in
    p.1

pub returns-in-Placements : goal.returns-in-Placements
returns-in-Placements c =
    let G = c.args.table.now in
    let is = plain_insts c.args.module.now in
    let r = c.args.fault.rule in
    let n = c.args.fault.inst in
    let m = c.args.minor in
    let same : c.new-definitions.result ≡ is = c.new-definitions.ensures
    ∙ ap (λ items. map plain_inst items) c.as_slice-insts.ensures.value in
    let p = part_at G m is _ r n part.Placements same (sym c.part_of.ensures ∙ c.in-Placements.is) c.requires.broken in
    placement_shown G m is _ r n c.placement_evidence.result same p.0 c.placement_evidence.ensures

pub decoration_evidence-requires-clause-rule : goal.decoration_evidence-requires-clause-rule
decoration_evidence-requires-clause-rule c =
    let G = c.args.table.now in
    let is = plain_insts c.args.module.now in
    let r = c.args.fault.rule in
    let n = c.args.fault.inst in
    let m = c.args.minor in
    let same : c.new-definitions.result ≡ is = c.new-definitions.ensures
    ∙ ap (λ items. map plain_inst items) c.as_slice-insts.ensures.value in
    let p = part_at G m is _ r n part.Decorations same (sym c.part_of.ensures ∙ c.in-Decorations.is) c.requires.broken in
    p.0

pub decoration_evidence-requires-clause-broken : goal.decoration_evidence-requires-clause-broken
decoration_evidence-requires-clause-broken c =
    let G = c.args.table.now in
    let is = plain_insts c.args.module.now in
    let r = c.args.fault.rule in
    let n = c.args.fault.inst in
    let m = c.args.minor in
    let same : c.new-definitions.result ≡ is = c.new-definitions.ensures
    ∙ ap (λ items. map plain_inst items) c.as_slice-insts.ensures.value in
    let p = part_at G m is _ r n part.Decorations same (sym c.part_of.ensures ∙ c.in-Decorations.is) c.requires.broken in
    p.1

pub returns-in-Decorations : goal.returns-in-Decorations
returns-in-Decorations c =
    let G = c.args.table.now in
    let is = plain_insts c.args.module.now in
    let r = c.args.fault.rule in
    let n = c.args.fault.inst in
    let m = c.args.minor in
    let same : c.new-definitions.result ≡ is = c.new-definitions.ensures
    ∙ ap (λ items. map plain_inst items) c.as_slice-insts.ensures.value in
    let p = part_at G m is _ r n part.Decorations same (sym c.part_of.ensures ∙ c.in-Decorations.is) c.requires.broken in
    decoration_shown G m is _ r n c.decoration_evidence.result same c.decoration_evidence.ensures

pub operand_evidence-requires : goal.operand_evidence-requires
operand_evidence-requires c =
    let G = c.args.table.now in
    let is = plain_insts c.args.module.now in
    let r = c.args.fault.rule in
    let n = c.args.fault.inst in
    let m = c.args.minor in
    let same : c.new-definitions.result ≡ is = c.new-definitions.ensures
    ∙ ap (λ items. map plain_inst items) c.as_slice-insts.ensures.value in
    let p = part_at G m is _ r n part.Operands same (sym c.part_of.ensures ∙ c.in-Operands.is) c.requires.broken in
    (G, p)

pub returns-in-Operands : goal.returns-in-Operands
returns-in-Operands c =
    let G = c.args.table.now in
    let is = plain_insts c.args.module.now in
    let r = c.args.fault.rule in
    let n = c.args.fault.inst in
    let m = c.args.minor in
    let same : c.new-definitions.result ≡ is = c.new-definitions.ensures
    ∙ ap (λ items. map plain_inst items) c.as_slice-insts.ensures.value in
    let p = part_at G m is _ r n part.Operands same (sym c.part_of.ensures ∙ c.in-Operands.is) c.requires.broken in
    operand_shown G m is _ r n c.operand_evidence.result same (c.operand_evidence.ensures G p)

pub version_evidence-requires-clause-broken : goal.version_evidence-requires-clause-broken
version_evidence-requires-clause-broken c =
    let G = c.args.table.now in
    let is = plain_insts c.args.module.now in
    let r = c.args.fault.rule in
    let n = c.args.fault.inst in
    let m = c.args.minor in
    let same : c.new-definitions.result ≡ is = c.new-definitions.ensures
    ∙ ap (λ items. map plain_inst items) c.as_slice-insts.ensures.value in
    let p = part_at G m is _ r n part.Version same (sym c.part_of.ensures ∙ c.in-Version.is) c.requires.broken in
    p.1

pub returns-in-Version : goal.returns-in-Version
returns-in-Version c =
    let G = c.args.table.now in
    let is = plain_insts c.args.module.now in
    let r = c.args.fault.rule in
    let n = c.args.fault.inst in
    let m = c.args.minor in
    let same : c.new-definitions.result ≡ is = c.new-definitions.ensures
    ∙ ap (λ items. map plain_inst items) c.as_slice-insts.ensures.value in
    let p = part_at G m is _ r n part.Version same (sym c.part_of.ensures ∙ c.in-Version.is) c.requires.broken in
    version_shown G m is _ r n _ same p.0 c.version_evidence.ensures

pub limit_evidence-requires : goal.limit_evidence-requires
limit_evidence-requires c =
    let G = c.args.table.now in
    let is = plain_insts c.args.module.now in
    let r = c.args.fault.rule in
    let n = c.args.fault.inst in
    let m = c.args.minor in
    let same : c.new-definitions.result ≡ is = c.new-definitions.ensures
    ∙ ap (λ items. map plain_inst items) c.as_slice-insts.ensures.value in
    let p = part_at G m is _ r n part.Limits same (sym c.part_of.ensures ∙ c.in-Limits.is) c.requires.broken in
    p.1

pub returns-in-Limits : goal.returns-in-Limits
returns-in-Limits c =
    let G = c.args.table.now in
    let is = plain_insts c.args.module.now in
    let r = c.args.fault.rule in
    let n = c.args.fault.inst in
    let m = c.args.minor in
    let same : c.new-definitions.result ≡ is = c.new-definitions.ensures
    ∙ ap (λ items. map plain_inst items) c.as_slice-insts.ensures.value in
    let p = part_at G m is _ r n part.Limits same (sym c.part_of.ensures ∙ c.in-Limits.is) c.requires.broken in
    limit_shown G m is _ r n _ same p.0 c.limit_evidence.ensures
