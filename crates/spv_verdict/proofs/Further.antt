-- What breaks a rule of the profile breaks it where extended instructions are looked at, too.
use Rattle.std.proofs.Common.{◌≡◌, ◌++◌, inl, inr, ℕ, List, [], ◌∷◌, refl, sym, subst, arith}
use Rattle.std.specs.Prelude.{slice_index}
use Rattle.spv_table.specs.Table.{Table}
use Rattle.spv_module.specs.Operand.{Argument, Id, PlainInst}
use Rattle.spv_module.specs.declared.profile.Profile.TheVariants as profile
use Rattle.spv_module.specs.declared.fault.Rule.{Rule}
use Rattle.spv_module.specs.declared.fault.Rule.TheVariants.{O3, Y9, Y10}
use Rattle.spv_extended.specs.declared.reach.Reach.TheVariants.{Profile, Extended, OpenCl}
use Rattle.spv_extended.proofs.Brokens.{moved}
use Rattle.spv_extended.specs.Broken as extended
use Rattle.spv_extended.specs.Example.{call, imports}
use Rattle.spv_extended.specs.Facts.{facts_of}
use Rattle.spv_extended.specs.Opened.{opened, opened_inst}
use Rattle.spv_extended.specs.Sets.{set_in}
use Rattle.spv_std_types.specs.Broken as std_types
use Rattle.spv_std_types.specs.Example.{unlike}
use Rattle.spv_std_types.specs.Mistyped.{IsMistyped}
use Rattle.spv_std_types.proofs.Brokens.{of_call}
use Rattle.spv_std_types.proofs.Worked.{unlike_mistyped}
use Rattle.spv_standard.specs.Broken as standard
use Rattle.spv_standard.specs.Broken.{KernelBroken}
use Rattle.spv_standard.specs.Example.{entries}
use Rattle.spv_flow.specs.declared.branches.fork.Fork.{Fork}
use Rattle.spv_flow.specs.declared.branches.fork.Fork.TheVariants.{Distinct}
use Rattle.spv_flow.specs.branches.Broken as flow
use Rattle.spv_layout.specs.First.{stage_of}
use Rattle.spv_layout.specs.Plan.{IsLaidOut}
use Rattle.spv_layout.specs.Stage as stages
use Rattle.spv_check.proofs.Firsts.{calls_stage, flow_stage, ids_stage, layout_stage, of_last_stage}
use Rattle.spv_check.proofs.Firsts.{of_std_types_stage, planned}
use Rattle.spv_check.proofs.Kept.{LayoutLaw, laid}
use Rattle.spv_check.proofs.Miscalls.{not_asked}
use Rattle.spv_check.proofs.Mistypings.{types_not_asked}
use Rattle.spv_check.proofs.Stages.{types_stage}
use Rattle.spv_check.specs.Broken.{Broken, IsSound}
use Rattle.spv_check.specs.Fork.{fork_of}
use Rattle.spv_check.specs.Valid.{IsValid}
use Rattle.spv_check.specs.types.Broken as types
use Rattle.spv_opening.proofs.Alike.{alike_opened}
use Rattle.spv_opening.proofs.Calls.{calls_broken}
use Rattle.spv_opening.proofs.Capable.{capabilities_kept}
use Rattle.spv_opening.proofs.Flow.{flow_broken}
use Rattle.spv_opening.proofs.Ids.{ids_broken}
use Rattle.spv_opening.proofs.Layouts.{layout_broken}
use Rattle.spv_opening.proofs.Rules.{roles_broken, rules_kept}
use Rattle.spv_opening.proofs.Uses.{opened_at}

types_broken : (G : Table) (is : List PlainInst) (r : Rule) (n : ℕ) → types.Broken G is r n
    → types.Broken G (opened is) r n
types_broken G is _ _ (types.of_roles r n b) = types.of_roles r n (roles_broken G (set_in is) is r n b)
types_broken G is _ _ (types.of_capabilities r n i e never) =
    let f = opened_inst (set_in is) in
    types.of_capabilities r n (f i) (opened_at f is n i e) (λ k. never (capabilities_kept G (set_in is) is r n i k))
types_broken G is _ _ (types.of_types r n i e never) =
    let f = opened_inst (set_in is) in
    types.of_types r n (f i) (opened_at f is n i e) (λ k. never (rules_kept G (set_in is) is r n i k))

pub broken_too : (G : Table) (bound : ℕ) (is : List PlainInst) (r : Rule) (n : ℕ) → Broken G Profile bound is r n
    → Broken G Extended bound (opened is) r n
broken_too G bound is _ _ (Broken.of_layout r n b) = Broken.of_layout r n
    (layout_broken profile.Own G (set_in is) is r n b)
broken_too G bound is _ _ (Broken.of_ids r n b) = Broken.of_ids r n (ids_broken G bound (set_in is) is r n b)
broken_too G bound is _ _ (Broken.of_types r n b) = Broken.of_types r n (types_broken G is r n b)
broken_too G bound is _ _ (Broken.of_flow r n b) = Broken.of_flow r n (flow_broken Distinct G (set_in is) is r n b)
broken_too G bound is _ _ (Broken.of_calls r n b) =
    Broken.of_calls r n (calls_broken is (opened is) (alike_opened (set_in is) is) r n b)
broken_too G bound is _ _ (Broken.of_extended r n b) = absurd (not_asked Profile is refl r n b)
broken_too G bound is _ _ (Broken.of_std_types r n b) = absurd (types_not_asked Profile is refl r n b)
broken_too G bound is _ _ (Broken.of_standard r n b) = absurd b

pub valid_too : (G : Table) (bytes : List ℕ) → IsValid G Extended bytes → IsValid G Profile bytes
valid_too G bytes v = record {
  words = v.words;
  order = v.order;
  is_module = v.is_module;
  insts = v.reading.spelled;
  reading = record { spelled = v.reading.spelled; listing = v.reading.listing; seen = refl };
  sound = λ r n b. v.sound r n (subst (λ (is : List PlainInst). Broken G Extended (slice_index v.words 3) is r n)
      (sym v.reading.seen) (broken_too G (slice_index v.words 3) v.reading.spelled r n b));
}

-- What is valid there is a kernel of OpenCL, unless it breaks Y10 or a rule of stage O.

-- what is broken however much is asked of the labels of an OpBranchConditional is broken where most is
strict : (fork : Fork) (G : Table) (is : List PlainInst) (r : Rule) (n : ℕ) → flow.Broken fork G is r n
    → flow.Broken Distinct G is r n
strict fork G is _ _ (flow.no_label n k x op used none) = flow.no_label n k x op used none
strict fork G is _ _ (flow.to_entry n x m target d e) = flow.to_entry n x m target d e
strict fork G is _ _ (flow.parents n phi not) = flow.parents n phi not
strict fork G is _ _ (flow.same_labels n x e op u w) = flow.same_labels n x refl op u w
strict fork G is _ _ (flow.missing n m) = flow.missing n m
strict fork G is _ _ (flow.pair_missing n m) = flow.pair_missing n m

wide_sound : LayoutLaw → ((G : Table) (is : List PlainInst) → IsLaidOut profile.Own G is
    → IsLaidOut profile.OpenCl G is)
    → (G : Table) (minor bound : ℕ) (is : List PlainInst) → ((n : ℕ) → ¬ (IsMistyped is n))
    → ((r : Rule) (n : ℕ) → ¬ (KernelBroken G minor is r n)) → IsSound G Extended bound is
    → IsSound G (OpenCl minor) bound is
wide_sound law wider G minor bound is never keeps s _ _ (Broken.of_layout r n b) =
    planned (OpenCl minor) G is (law.not_both profile.OpenCl)
    (wider G is (laid law G Extended (record { bound = bound; insts = is }) s)) r n b
wide_sound law wider G minor bound is never keeps s _ _ (Broken.of_ids r n b) = s r n (Broken.of_ids r n b)
wide_sound law wider G minor bound is never keeps s _ _ (Broken.of_types r n b) = s r n (Broken.of_types r n b)
wide_sound law wider G minor bound is never keeps s _ _ (Broken.of_flow r n b) =
    s r n (Broken.of_flow r n (strict (fork_of (OpenCl minor)) G is r n b))
wide_sound law wider G minor bound is never keeps s _ _ (Broken.of_calls r n b) = s r n (Broken.of_calls r n b)
wide_sound law wider G minor bound is never keeps s _ _ (Broken.of_extended r n b) =
    s r n (Broken.of_extended r n (moved (OpenCl minor) Extended is r n refl b))
wide_sound law wider G minor bound is never keeps s _ _ (Broken.of_std_types r n b) =
    never n (of_call (OpenCl minor) is r n b)
wide_sound law wider G minor bound is never keeps s _ _ (Broken.of_standard r n b) = keeps r n b

pub valid_wider : LayoutLaw
    → ((G : Table) (is : List PlainInst) → IsLaidOut profile.Own G is → IsLaidOut profile.OpenCl G is)
    → (G : Table) (minor : ℕ) (bytes : List ℕ) (v : IsValid G Extended bytes) → ((n : ℕ) → ¬ (IsMistyped v.insts n))
    → ((r : Rule) (n : ℕ) → ¬ (KernelBroken G minor v.insts r n)) → IsValid G (OpenCl minor) bytes
valid_wider law wider G minor bytes v never keeps = record {
  words = v.words;
  order = v.order;
  is_module = v.is_module;
  insts = v.insts;
  reading = record { spelled = v.reading.spelled; listing = v.reading.listing; seen = v.reading.seen };
  sound = wide_sound law wider G minor (slice_index v.words 3) v.insts never keeps v.sound;
}

-- Y9 is of the stage that the profile does not ask.

not_extended : (G : Table) (bound : ℕ) (is : List PlainInst) (r : Rule) (n : ℕ) → stage_of r ≡ stages.of_extended
    → Broken G Profile bound is r n → ⊥
not_extended G bound is _ _ s (Broken.of_layout r n b) =
    elim (layout_stage Profile G is r n b) [ inl e ↦ omega (arith, e, s) | inr e ↦ omega (arith, e, s) ]
not_extended G bound is _ _ s (Broken.of_ids r n b) = let e = ids_stage G bound is r n b in omega (arith, e, s)
not_extended G bound is _ _ s (Broken.of_types r n b) =
    elim (types_stage G is r n b) [ inl e ↦ omega (arith, e, s) | inr e ↦ omega (arith, e, s) ]
not_extended G bound is _ _ s (Broken.of_flow r n b) =
    elim (flow_stage Profile G is r n b) [ inl e ↦ omega (arith, e, s) | inr e ↦ omega (arith, e, s) ]
not_extended G bound is _ _ s (Broken.of_calls r n b) = let e = calls_stage is r n b in omega (arith, e, s)
not_extended G bound is _ _ s (Broken.of_extended r n b) = not_asked Profile is refl r n b
not_extended G bound is _ _ s (Broken.of_std_types r n b) = types_not_asked Profile is refl r n b
not_extended G bound is _ _ s (Broken.of_standard r n b) = b

pub not_y9 : (G : Table) (bound : ℕ) (is : List PlainInst) (n : ℕ) → Broken G Profile bound is Y9 n → ⊥
not_y9 G bound is n b = not_extended G bound is Y9 n refl b

-- a call of OpenCL.std that has two operands, where three are taken
abbrev pub short_call : List PlainInst
short_call = imports ++ call 1 171 (Id 7 ∷ Id 8 ∷ []) ∷ []

pub short_broken : (G : Table) (bound : ℕ) → Broken G Extended bound (opened short_call) Y9 2
unfolding facts_of
short_broken G bound =
    Broken.of_extended Y9 2 (extended.miscalled 2 refl
    (record { inst = call 1 171 (Argument 7 ∷ Argument 8 ∷ []); there = refl; missed = refl }))

-- Y10 is asked of a kernel of OpenCL alone.

pub not_y10 : (G : Table) (bound : ℕ) (is : List PlainInst) (n : ℕ) → Broken G Extended bound is Y10 n → ⊥
not_y10 G bound is n b = types_not_asked Extended is refl Y10 n (of_std_types_stage G Extended bound is Y10 n refl b)

-- the values of the small module are opened as they are
opened_unlike : opened unlike ≡ unlike
unfolding facts_of
opened_unlike = refl

pub unlike_broken : (G : Table) (minor bound : ℕ) → Broken G (OpenCl minor) bound (opened unlike) Y10 22
unlike_broken G minor bound =
    let b : std_types.Broken (OpenCl minor) unlike Y10 22 = std_types.mistyped 22 refl (_, unlike_mistyped) in
    Broken.of_std_types Y10 22
    (subst (λ (is : List PlainInst). std_types.Broken (OpenCl minor) is Y10 22) (sym opened_unlike) b)

-- So are the rules of stage O.

pub not_o3 : (G : Table) (bound : ℕ) (is : List PlainInst) (n : ℕ) → Broken G Extended bound is O3 n → ⊥
not_o3 G bound is n b = of_last_stage G Extended bound is O3 n refl b

-- entry points are opened as they are
opened_entries : opened entries ≡ entries
opened_entries = refl

pub entries_broken : (G : Table) (minor bound : ℕ) → standard.Broken G (OpenCl minor) entries O3 1
    → Broken G (OpenCl minor) bound (opened entries) O3 1
entries_broken G minor bound b =
    Broken.of_standard O3 1
    (subst (λ (is : List PlainInst). standard.Broken G (OpenCl minor) is O3 1) (sym opened_entries) b)
