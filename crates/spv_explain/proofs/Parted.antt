-- A broken rule O is of its part, what is found of that part shows it, and what shows it suffices.
use Rattle.std.proofs.Common.{◌≡◌, ℕ, List, refl, sym, subst, inl, inr, arith}
use Rattle.std.specs.Prelude.{IfOk, Ok, Err}
use Rattle.std.specs.Prelude.{Result as Answer}
use Rattle.spv_table.specs.Table.{Table}
use Rattle.spv_module.specs.Operand.{PlainInst}
use Rattle.spv_module.specs.declared.fault.Fault.{Fault}
use Rattle.spv_module.specs.declared.fault.Rule.{Rule}
use Rattle.spv_module.specs.declared.fault.Rule.TheVariants as rule
use Rattle.spv_module.specs.declared.fault.Stop.TheVariants as stop
use Rattle.spv_extended.specs.declared.reach.Reach.{Reach}
use Rattle.spv_extended.specs.declared.reach.Reach.TheVariants.{Profile, Extended, OpenCl}
use Rattle.spv_layout.specs.First.{IsUnbroken, stage_of}
use Rattle.spv_layout.specs.Stage.{of_branches, of_standard}
use Rattle.spv_flow.specs.branches.Broken as flow
use Rattle.spv_block_order.specs.Broken as order
use Rattle.spv_interfaces.specs.Broken as interfaces
use Rattle.spv_interfaces.specs.Interface.{IsMisfaced}
use Rattle.spv_declarations.specs.Broken as declarations
use Rattle.spv_declarations.specs.Decorated.{IsMisplaced}
use Rattle.spv_kernel_operands.specs.Broken as operands
use Rattle.spv_versions.specs.Broken as versions
use Rattle.spv_limits.specs.Broken as limits
use Rattle.spv_evidence.specs.declared.evidence.Evidence.{Evidence}
use Rattle.spv_standard.specs.Broken as standard
use Rattle.spv_standard.specs.Broken.{KernelBroken}
use Rattle.spv_standard.proofs.Stages.{standard_stage}
use Rattle.spv_standard_evidence.specs.Declarations.{IsDecorating, IsUndecorated}
use Rattle.spv_standard_evidence.specs.Evidence as found
use Rattle.spv_standard_evidence.specs.Order as by_order
use Rattle.spv_standard_evidence.specs.Declarations as by_declarations
use Rattle.spv_standard_evidence.specs.Operands as by_operands
use Rattle.spv_standard_evidence.specs.Versions as by_versions
use Rattle.spv_standard_evidence.specs.Limits as by_limits
use Rattle.spv_standard_evidence.specs.Interfaces as by_interfaces
use Rattle.spv_standard_evidence.proofs.Faced.{interfaces_suffice}
use Rattle.spv_standard_evidence.proofs.Limited.{limits_suffice}
use Rattle.spv_standard_evidence.proofs.Operated.{operands_suffice}
use Rattle.spv_standard_evidence.proofs.Ordered.{order_suffices}
use Rattle.spv_standard_evidence.proofs.Sufficing.{declarations_suffice}
use Rattle.spv_standard_evidence.proofs.Versioned.{versions_suffice}
use Rattle.spv_check.specs.Broken.{Broken, IsTold, Precedes}
use Rattle.spv_check.specs.Fork.{fork_of}
use Rattle.spv_explain.specs.Standard.{IsEvidence}
use Rattle.spv_explain.specs.inner.Kinds.{part_of}
use Rattle.spv_explain.specs.declared.kinds.Part.{Part}
use Rattle.spv_explain.specs.declared.kinds.Part.TheVariants as part

-- what is known of a broken rule of a part
abbrev pub IsOfPart : Part → Table → ℕ → List PlainInst → Rule → ℕ → Type 0
IsOfPart part.Order G minor is r n = order.Broken G is r n
IsOfPart part.Interfaces G minor is r n = (r ≡ rule.O4) × IsMisfaced G minor is n
IsOfPart part.Declarations G minor is r n = IsUndecorated r × declarations.Broken G is r n
IsOfPart part.Placements G minor is r n = (r ≡ rule.O7) × IsMisplaced is n
IsOfPart part.Decorations G minor is r n = IsDecorating r × declarations.Broken G is r n
IsOfPart part.Operands G minor is r n = operands.Broken G is r n
IsOfPart part.Version G minor is r n = (r ≡ rule.O21) × versions.Broken G minor is rule.O21 n
IsOfPart part.Limits G minor is r n = (r ≡ rule.O22) × limits.Broken is rule.O22 n

parted_order : (G : Table) (minor : ℕ) (is : List PlainInst) (r : Rule) (n : ℕ) → order.Broken G is r n
    → IsOfPart (part_of r) G minor is r n
parted_order G minor is _ _ (order.early_block n b) = order.early_block n b
parted_order G minor is _ _ (order.early_use n u) = order.early_use n u

parted_interfaces : (G : Table) (minor : ℕ) (is : List PlainInst) (r : Rule) (n : ℕ) → interfaces.Broken G minor is r n
    → IsOfPart (part_of r) G minor is r n
parted_interfaces G minor is _ _ (interfaces.misfaced n h) = (refl, h)

parted_declarations : (G : Table) (minor : ℕ) (is : List PlainInst) (r : Rule) (n : ℕ) → declarations.Broken G is r n
    → IsOfPart (part_of r) G minor is r n
parted_declarations G minor is _ _ (declarations.repeated n h) = (inl refl, declarations.repeated n h)
parted_declarations G minor is _ _ (declarations.takes_id n h) = (inr (inl refl), declarations.takes_id n h)
parted_declarations G minor is _ _ (declarations.of_no_member n h) =
    (inr (inr (inl refl)), declarations.of_no_member n h)
parted_declarations G minor is _ _ (declarations.misplaced n h) = (refl, h)
parted_declarations G minor is _ _ (declarations.second n h) = (inl refl, declarations.second n h)
parted_declarations G minor is _ _ (declarations.linked_entry n h) = (inr (inl refl), declarations.linked_entry n h)
parted_declarations G minor is _ _ (declarations.initialized n h) =
    (inr (inr (inl refl)), declarations.initialized n h)
parted_declarations G minor is _ _ (declarations.half_built_in n h) =
    (inr (inr (inr refl)), declarations.half_built_in n h)
parted_declarations G minor is _ _ (declarations.forward_elsewhere n h) =
    (inr (inr (inr (inl refl))), declarations.forward_elsewhere n h)
parted_declarations G minor is _ _ (declarations.incapable n h) =
    (inr (inr (inr (inr refl))), declarations.incapable n h)

parted_by : (G : Table) (minor : ℕ) (is : List PlainInst) (r : Rule) (n : ℕ) (i : PlainInst)
    → operands.IsBrokenBy G is i r → operands.Broken G is r n → IsOfPart (part_of r) G minor is r n
parted_by G minor is _ n i (operands.scopes h) b = b
parted_by G minor is _ n i (operands.atomic h) b = b
parted_by G minor is _ n i (operands.written h) b = b
parted_by G minor is _ n i (operands.empty h) b = b
parted_by G minor is _ n i (operands.control h) b = b
parted_by G minor is _ n i (operands.switch h) b = b
parted_by G minor is _ n i (operands.void h) b = b

parted_operands : (G : Table) (minor : ℕ) (is : List PlainInst) (r : Rule) (n : ℕ) → operands.Broken G is r n
    → IsOfPart (part_of r) G minor is r n
parted_operands G minor is _ _ (operands.operands r n i t b) =
    parted_by G minor is r n i b (operands.operands r n i t b)
parted_operands G minor is _ _ (operands.elsewhere n h) = operands.elsewhere n h

parted_versions : (G : Table) (minor : ℕ) (is : List PlainInst) (r : Rule) (n : ℕ) → versions.Broken G minor is r n
    → IsOfPart (part_of r) G minor is r n
parted_versions G minor is _ _ (versions.late n h) = (refl, versions.late n h)

parted_limits : (G : Table) (minor : ℕ) (is : List PlainInst) (r : Rule) (n : ℕ) → limits.Broken is r n
    → IsOfPart (part_of r) G minor is r n
parted_limits G minor is _ _ (limits.past n h) = (refl, limits.past n h)

parted : (G : Table) (minor : ℕ) (is : List PlainInst) (r : Rule) (n : ℕ) → KernelBroken G minor is r n
    → IsOfPart (part_of r) G minor is r n
parted G minor is _ _ (KernelBroken.of_order r n b) = parted_order G minor is r n b
parted G minor is _ _ (KernelBroken.of_interfaces r n b) = parted_interfaces G minor is r n b
parted G minor is _ _ (KernelBroken.of_declarations r n b) = parted_declarations G minor is r n b
parted G minor is _ _ (KernelBroken.of_operands r n b) = parted_operands G minor is r n b
parted G minor is _ _ (KernelBroken.of_versions r n b) = parted_versions G minor is r n b
parted G minor is _ _ (KernelBroken.of_limits r n b) = parted_limits G minor is r n b

-- the same of a list that is equal, and of a part that is told
pub part_at : (G : Table) (minor : ℕ) (is js : List PlainInst) (r : Rule) (n : ℕ) (p : Part) → js ≡ is → part_of r ≡ p
    → KernelBroken G minor is r n → IsOfPart p G minor js r n
part_at G minor is js r n p same e b =
    subst (λ (q : Part). IsOfPart q G minor js r n) e
    (parted G minor js r n (subst (λ ks. KernelBroken G minor ks r n) (sym same) b))

-- what is found of each part shows the rule
pub order_shown : {E : Type 0} (G : Table) (minor : ℕ) (is : List PlainInst) (r : Rule) (n : ℕ) (o : Answer Evidence E)
    → IfOk o (by_order.IsEvidence G is r n) → IfOk o (λ e. found.IsEvidence G minor is r n e)
order_shown G minor is r n (Ok e) h = found.of_order r n e h
order_shown G minor is r n (Err _) h = tt

pub interface_shown : {E : Type 0} (G : Table) (minor : ℕ) (is js : List PlainInst) (r : Rule) (n : ℕ)
    (o : Answer Evidence E) → js ≡ is → r ≡ rule.O4 → IfOk o (by_interfaces.IsEvidence G minor js rule.O4 n)
    → IfOk o (λ e. found.IsEvidence G minor is r n e)
interface_shown G minor is js r n (Ok e) same one h =
    subst (λ (q : Rule). found.IsEvidence G minor is q n e) (sym one)
    (found.of_interfaces rule.O4 n e (subst (λ ks. by_interfaces.IsEvidence G minor ks rule.O4 n e) same h))
interface_shown G minor is js r n (Err _) same one h = tt

pub declaration_shown : (G : Table) (minor : ℕ) (is js : List PlainInst) (r : Rule) (n : ℕ) (e : Evidence) → js ≡ is
    → by_declarations.IsEvidence G js r n e → found.IsEvidence G minor is r n e
declaration_shown G minor is js r n e same h =
    found.of_declarations r n e (subst (λ ks. by_declarations.IsEvidence G ks r n e) same h)

pub decoration_shown : {E : Type 0} (G : Table) (minor : ℕ) (is js : List PlainInst) (r : Rule) (n : ℕ)
    (o : Answer Evidence E) → js ≡ is → IfOk o (by_declarations.IsEvidence G js r n)
    → IfOk o (λ e. found.IsEvidence G minor is r n e)
decoration_shown G minor is js r n (Ok e) same h = declaration_shown G minor is js r n e same h
decoration_shown G minor is js r n (Err _) same h = tt

pub placement_shown : {E : Type 0} (G : Table) (minor : ℕ) (is js : List PlainInst) (r : Rule) (n : ℕ)
    (o : Answer Evidence E) → js ≡ is → r ≡ rule.O7
    → IfOk o (λ e. (T : Table) → by_declarations.IsEvidence T js rule.O7 n e)
    → IfOk o (λ e. found.IsEvidence G minor is r n e)
placement_shown G minor is js r n (Ok e) same one h =
    subst (λ (q : Rule). found.IsEvidence G minor is q n e) (sym one)
    (declaration_shown G minor is js rule.O7 n e same (h G))
placement_shown G minor is js r n (Err _) same one h = tt

pub operand_shown : {E : Type 0} (G : Table) (minor : ℕ) (is js : List PlainInst) (r : Rule) (n : ℕ)
    (o : Answer Evidence E) → js ≡ is → IfOk o (by_operands.IsEvidence G js r n)
    → IfOk o (λ e. found.IsEvidence G minor is r n e)
operand_shown G minor is js r n (Ok e) same h =
    found.of_operands r n e (subst (λ ks. by_operands.IsEvidence G ks r n e) same h)
operand_shown G minor is js r n (Err _) same h = tt

pub version_shown : (G : Table) (minor : ℕ) (is js : List PlainInst) (r : Rule) (n : ℕ) (e : Evidence) → js ≡ is
    → r ≡ rule.O21 → by_versions.IsEvidence G minor js rule.O21 n e → found.IsEvidence G minor is r n e
version_shown G minor is js r n e same one h =
    subst (λ (q : Rule). found.IsEvidence G minor is q n e) (sym one)
    (found.of_versions rule.O21 n e (subst (λ ks. by_versions.IsEvidence G minor ks rule.O21 n e) same h))

pub limit_shown : (G : Table) (minor : ℕ) (is js : List PlainInst) (r : Rule) (n : ℕ) (e : Evidence) → js ≡ is
    → r ≡ rule.O22 → by_limits.IsEvidence js rule.O22 n e → found.IsEvidence G minor is r n e
limit_shown G minor is js r n e same one h =
    subst (λ (q : Rule). found.IsEvidence G minor is q n e) (sym one)
    (found.of_limits rule.O22 n e (subst (λ ks. by_limits.IsEvidence ks rule.O22 n e) same h))

-- where a rule O is told, no rule of branches is broken
earlier : (r : Rule) (n : ℕ) (q : Rule) (m : ℕ) → stage_of r ≡ of_standard → stage_of q ≡ of_branches
    → ¬ (Precedes r n q m)
earlier r n q m s t (Precedes.stage l) = absurd (omega (arith, s, t, l))
earlier r n q m s t (Precedes.instruction e l) = absurd (omega (arith, s, t, e))
earlier r n q m s t (Precedes.rule e f l) = absurd (omega (arith, s, t, e))

pub unbroken_branches : (G : Table) (reach : Reach) (bound : ℕ) (is : List PlainInst) (f : Fault)
    → IsTold G reach bound is (stop.Fault f) → standard.Broken G reach is f.rule f.inst
    → IsUnbroken (flow.Broken (fork_of reach) G is) of_branches
unbroken_branches G reach bound is f told b = λ q m s h.
    earlier f.rule f.inst q m (standard_stage G reach is f.rule f.inst b) s (told.0.least q m (Broken.of_flow q m h))

-- of no other list they are asked
pub not_asked : (reach : Reach) → ((minor : ℕ) → ¬ (reach ≡ OpenCl minor)) → (G : Table) (is : List PlainInst) (r : Rule)
    (n : ℕ) → ¬ (standard.Broken G reach is r n)
not_asked Profile other G is r n b = b
not_asked Extended other G is r n b = b
not_asked (OpenCl minor) other G is r n b = other minor refl

-- what shows a rule suffices
found_broken : (G : Table) (minor : ℕ) (is : List PlainInst) (r : Rule) (n : ℕ) (e : Evidence)
    → found.IsEvidence G minor is r n e → KernelBroken G minor is r n
found_broken G minor is _ _ _ (found.of_order r n e h) = KernelBroken.of_order r n (order_suffices G is r n e h)
found_broken G minor is _ _ _ (found.of_interfaces r n e h) =
    KernelBroken.of_interfaces r n (interfaces_suffice G minor is r n e h)
found_broken G minor is _ _ _ (found.of_declarations r n e h) =
    KernelBroken.of_declarations r n (declarations_suffice G is r n e h)
found_broken G minor is _ _ _ (found.of_operands r n e h) =
    KernelBroken.of_operands r n (operands_suffice G is r n e h)
found_broken G minor is _ _ _ (found.of_versions r n e h) =
    KernelBroken.of_versions r n (versions_suffice G minor is r n e h)
found_broken G minor is _ _ _ (found.of_limits r n e h) = KernelBroken.of_limits r n (limits_suffice is r n e h)

pub standard_broken : (G : Table) (reach : Reach) (is : List PlainInst) (r : Rule) (n : ℕ) (e : Evidence)
    → IsEvidence G reach is r n e → standard.Broken G reach is r n
standard_broken G Profile is r n e h = h
standard_broken G Extended is r n e h = h
standard_broken G (OpenCl minor) is r n e h = found_broken G minor is r n e h
