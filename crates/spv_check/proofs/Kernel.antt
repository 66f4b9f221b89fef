-- The smallest kernel is a valid module under a small grammar table.
use Rattle.std.proofs.Common.{◌≡◌, ◌<◌, ◌+◌, ◌&&◌, ℕ, List, [], ◌∷◌, Bool, true, false, Some, nat_lt, lit<, lit≤, refl}
use Rattle.std.proofs.Common.{arith, map, length, codes, inl}
use Rattle.std.specs.Prelude.{IsUtf8}
use Rattle.std.specs.List.{AllByRecursion, list_all}
use Rattle.std.proofs.lemmas.Bool.Decides.{nat_tests}
use Rattle.std.proofs.lemmas.List.Elements.{All-from_recursion}
use Rattle.spv_words.specs.declared.words.Order.TheVariants.{Little}
use Rattle.spv_words.specs.Header.{IsModule}
use Rattle.spv_words.proofs.Standing.{Octets}
use Rattle.spv_words.proofs.Refusal.{found_module}
use Rattle.spv_table.specs.declared.table.Entry.{Entry}
use Rattle.spv_table.specs.Table.{entry_of, pattern_of}
use Rattle.spv_module.specs.Operand.{OfType, Result, Id, Text, Value, Mask, PlainInst, start}
use Rattle.spv_module.specs.declared.profile.Profile.TheVariants.{Own}
use Rattle.spv_module.specs.Shape.{shape_of}
use Rattle.spv_module.specs.Spelling.{Takes, HoldsText, mask_parameters}
use Rattle.spv_inst.specs.Flat.{due}
use Rattle.spv_inst.specs.inner.Flat.{Matches}
use Rattle.spv_module.specs.Instruction.{IsInstruction, IsListing, Listing, first_word}
use Rattle.spv_module.specs.declared.fault.Rule.{Rule}
use Rattle.spv_inst.proofs.Joined.{flat_match}
use Rattle.spv_layout.specs.declared.form.Role.{Role}
use Rattle.spv_layout.specs.Broken as layout_rules
use Rattle.spv_layout.proofs.Dead.{laid_out_or_dead}
use Rattle.spv_ids.specs.Definition.{IsUsedAt}
use Rattle.spv_type_rules.specs.roles.Broken as role_rules
use Rattle.spv_type_rules.specs.roles.Role.{Plays}
use Rattle.spv_check.specs.types.Broken as type_rules
use Rattle.spv_check.specs.Kernel.{capabilities, addressing_models, memory_models, execution_models, controls, grammar}
use Rattle.spv_check.specs.Kernel.{operand, operands, entry, capability, model, entry_point, void, of_void, function}
use Rattle.spv_check.specs.Kernel.{label, return_op, end, kernel}
use Rattle.spv_check.proofs.KernelRules.{is_laid_out, ids_kept, capabilities_kept, types_kept, flow_kept}
use Rattle.spv_check.proofs.KernelRules.{calls_kept, each_use}
use Rattle.spv_extended.specs.declared.reach.Reach.TheVariants.{Profile}
use Rattle.spv_check.specs.Broken.{IsSound}
use Rattle.spv_check.specs.Checked.{IsChecked, IsKept}
use Rattle.spv_check.specs.Reading.{IsReading}
use Rattle.spv_check.specs.Valid.{IsValid}
use Rattle.spv_check.specs.Example.{kernel_program, kernel_body, kernel_words, kernel_bytes}
use Rattle.spv_check.proofs.Checks.{sound_of}
use Rattle.spv_check.proofs.Miscalls.{not_asked}
use Rattle.spv_check.proofs.Mistypings.{types_not_asked}
use Rattle.spv_flow.specs.declared.branches.fork.Fork.TheVariants.{Distinct}

-- Each use is in its role.

in_role : (n k x : ℕ) (r : Role) → IsUsedAt grammar kernel n k x r → Plays kernel r x
in_role n k x r u = each_use (λ m y q. Plays kernel q y) refl (inl (lit≤ tt, lit≤ tt))
    (inl (lit≤ tt, lit≤ tt)) (inl (lit≤ tt, lit≤ tt)) n k x r u

roles_kept : (r : Rule) (n : ℕ) → role_rules.Broken grammar kernel r n → ⊥
roles_kept _ _ (role_rules.miscast n k x r u not) = not (in_role n k x r u)

typing_kept : (r : Rule) (n : ℕ) → type_rules.Broken grammar kernel r n → ⊥
typing_kept _ _ (type_rules.of_roles r n b) = roles_kept r n b
typing_kept _ _ (type_rules.of_capabilities r n i e not) = not (capabilities_kept r n i e)
typing_kept _ _ (type_rules.of_types r n i e not) = not (types_kept r n i e)

layout_kept : (r : Rule) (n : ℕ) → layout_rules.Broken Own grammar kernel r n → ⊥
layout_kept _ _ (layout_rules.misfit i n e not) = not (is_laid_out.fits n i e)
layout_kept _ _ (layout_rules.dead r n d) = laid_out_or_dead Own kernel kernel r n is_laid_out.layout d refl

pub kept : IsKept grammar Profile kernel_program
kept = record {
  few = lit≤ tt;
  laid_out = is_laid_out;
  ids = λ r n s b. ids_kept r n b;
  roles = record { each = in_role };
  capabilities = capabilities_kept;
  rules = types_kept;
  types = (λ r n s b. typing_kept r n b, λ r n s b. typing_kept r n b);
  branches = λ r n s b. flow_kept Distinct r n b;
  values = λ r n s b. flow_kept Distinct r n b;
  calls = λ r n s b. calls_kept r n b;
  extended = not_asked Profile kernel refl;
  std_types = types_not_asked Profile kernel refl;
  standard = λ r n b. b;
}

pub sound : IsSound grammar Profile 5 kernel
sound = sound_of grammar Profile kernel_program layout_kept kept

-- The words spell the list.

spelled : (before : List PlainInst) (i : PlainInst) (e : Entry) (further : List ℕ) → i.opcode < 65536
    → length further + 1 < 65536 → entry_of grammar i.opcode ≡ Some e
    → Matches grammar (start before i.opcode) (map due (pattern_of e)) i.operands further
    → IsInstruction grammar before i (first_word i.opcode further ∷ further)
spelled before i e further a b k m = record {
  further = further;
  entry = e;
  opcode = a;
  count = b;
  spelled = refl;
  known = k;
  matches = flat_match grammar (start before i.opcode) (pattern_of e) i.operands further m;
}

addresses_spelled : (before : List PlainInst) → IsInstruction grammar before (capability 4) (131089 ∷ 4 ∷ [])
unfolding shape_of
addresses_spelled before =
    spelled before (capability 4) (entry (codes "OpCapability") (operand 0 ∷ [])) (4 ∷ []) (lit< tt) (lit< tt) refl
    (Matches.take _ _ _ (Value 0 4) (4 ∷ []) [] _ _ (Takes.value capabilities 4 [] refl) (Matches.end _))

kernel_spelled : (before : List PlainInst) → IsInstruction grammar before (capability 6) (131089 ∷ 6 ∷ [])
unfolding shape_of
kernel_spelled before =
    spelled before (capability 6) (entry (codes "OpCapability") (operand 0 ∷ [])) (6 ∷ []) (lit< tt) (lit< tt) refl
    (Matches.take _ _ _ (Value 0 6) (6 ∷ []) [] _ _ (Takes.value capabilities 6 [] refl) (Matches.end _))

model_spelled : (before : List PlainInst) → IsInstruction grammar before model (196622 ∷ 2 ∷ 2 ∷ [])
unfolding shape_of
model_spelled before =
    spelled before model (entry (codes "OpMemoryModel") (operand 1 ∷ operand 2 ∷ [])) (2 ∷ 2 ∷ []) (lit< tt)
    (lit< tt) refl
    (Matches.take _ _ _ (Value 1 2) (2 ∷ []) [] _ _ (Takes.value addressing_models 2 [] refl) (
    Matches.take _ _ _ (Value 2 2) (2 ∷ []) [] _ _ (Takes.value memory_models 2 [] refl) (Matches.end _)))

name_held : HoldsText (107 ∷ []) (codes "k") (0 ∷ 0 ∷ [])
name_held = record { words = (lit< tt, tt); octets = refl; no_zero = (λ e. omega (arith, e), tt); short = lit< tt }

name_utf8 : IsUtf8 (codes "k")
unfolding lib.Utf8.encode
name_utf8 = (codes "k", (refl, refl))

entry_spelled : (before : List PlainInst) → IsInstruction grammar before entry_point (262159 ∷ 6 ∷ 3 ∷ 107 ∷ [])
unfolding shape_of
entry_spelled before =
    spelled before entry_point (entry (codes "OpEntryPoint") (operand 3 ∷ operand 7 ∷ operand 8 ∷ operands 7 ∷ []))
    (6 ∷ 3 ∷ 107 ∷ []) (lit< tt) (lit< tt) refl
    (Matches.take _ _ _ (Value 3 6) (6 ∷ []) [] _ _ (Takes.value execution_models 6 [] refl) (
    Matches.take _ _ _ (Id 3) (3 ∷ []) [] _ _ (Takes.id 3) (
    Matches.take _ _ _ (Text (codes "k")) (107 ∷ []) [] _ _
    (Takes.text (codes "k") (107 ∷ []) (0 ∷ 0 ∷ []) name_held (refl, (refl, tt)) name_utf8) (
    Matches.no_many _ _ _ _ (Matches.end _)))))

void_spelled : (before : List PlainInst) → IsInstruction grammar before void (131091 ∷ 1 ∷ [])
unfolding shape_of
void_spelled before =
    spelled before void (entry (codes "OpTypeVoid") (operand 6 ∷ [])) (1 ∷ []) (lit< tt) (lit< tt) refl
    (Matches.take _ _ _ (Result 1) (1 ∷ []) [] _ _ (Takes.result 1) (Matches.end _))

type_spelled : (before : List PlainInst) → IsInstruction grammar before of_void (196641 ∷ 2 ∷ 1 ∷ [])
unfolding shape_of
type_spelled before =
    spelled before of_void (entry (codes "OpTypeFunction") (operand 6 ∷ operand 7 ∷ operands 7 ∷ [])) (2 ∷ 1 ∷ [])
    (lit< tt) (lit< tt) refl
    (Matches.take _ _ _ (Result 2) (2 ∷ []) [] _ _ (Takes.result 2) (
    Matches.take _ _ _ (Id 1) (1 ∷ []) [] _ _ (Takes.id 1) (
    Matches.no_many _ _ _ _ (Matches.end _))))

function_spelled : (before : List PlainInst) → IsInstruction grammar before function (327734 ∷ 1 ∷ 3 ∷ 0 ∷ 2 ∷ [])
unfolding shape_of mask_parameters
function_spelled before =
    spelled before function (entry (codes "OpFunction") (operand 5 ∷ operand 6 ∷ operand 4 ∷ operand 7 ∷ []))
    (1 ∷ 3 ∷ 0 ∷ 2 ∷ []) (lit< tt) (lit< tt) refl
    (Matches.take _ _ _ (OfType 1) (1 ∷ []) [] _ _ (Takes.result_type 1) (
    Matches.take _ _ _ (Result 3) (3 ∷ []) [] _ _ (Takes.result 3) (
    Matches.take _ _ _ (Mask 4 0) (0 ∷ []) [] _ _ (Takes.mask controls 0 [] refl) (
    Matches.take _ _ _ (Id 2) (2 ∷ []) [] _ _ (Takes.id 2) (Matches.end _)))))

label_spelled : (before : List PlainInst) → IsInstruction grammar before label (131320 ∷ 4 ∷ [])
unfolding shape_of
label_spelled before =
    spelled before label (entry (codes "OpLabel") (operand 6 ∷ [])) (4 ∷ []) (lit< tt) (lit< tt) refl
    (Matches.take _ _ _ (Result 4) (4 ∷ []) [] _ _ (Takes.result 4) (Matches.end _))

return_spelled : (before : List PlainInst) → IsInstruction grammar before return_op (65789 ∷ [])
return_spelled before =
    spelled before return_op (entry (codes "OpReturn") []) [] (lit< tt) (lit< tt) refl (Matches.end _)

end_spelled : (before : List PlainInst) → IsInstruction grammar before end (65592 ∷ [])
end_spelled before = spelled before end (entry (codes "OpFunctionEnd") []) [] (lit< tt) (lit< tt) refl (Matches.end _)

pub listed : IsListing grammar kernel kernel_body
listed =
    Listing.more _ (capability 4) _ (131089 ∷ 4 ∷ []) _ (addresses_spelled _) (
    Listing.more _ (capability 6) _ (131089 ∷ 6 ∷ []) _ (kernel_spelled _) (
    Listing.more _ model _ (196622 ∷ 2 ∷ 2 ∷ []) _ (model_spelled _) (
    Listing.more _ entry_point _ (262159 ∷ 6 ∷ 3 ∷ 107 ∷ []) _ (entry_spelled _) (
    Listing.more _ void _ (131091 ∷ 1 ∷ []) _ (void_spelled _) (
    Listing.more _ of_void _ (196641 ∷ 2 ∷ 1 ∷ []) _ (type_spelled _) (
    Listing.more _ function _ (327734 ∷ 1 ∷ 3 ∷ 0 ∷ 2 ∷ []) _ (function_spelled _) (
    Listing.more _ label _ (131320 ∷ 4 ∷ []) _ (label_spelled _) (
    Listing.more _ return_op _ (65789 ∷ []) _ (return_spelled _) (
    Listing.more _ end _ (65592 ∷ []) _ (end_spelled _) (
    Listing.end _))))))))))

-- The bytes stand for the words.

all_below : (bs : List ℕ) → list_all (λ b. nat_lt b 256) bs ≡ true → AllByRecursion (λ b. b < 256) bs
all_below [] h = tt
all_below (b ∷ bs) h = let p = both (nat_lt b 256) (list_all (λ c. nat_lt c 256) bs) h in
    (below b p.0, all_below bs p.1) where
      both : (x y : Bool) → (x && y) ≡ true → (x ≡ true) × (y ≡ true)
      both true y e = (refl, e)
      both false y e = cc

      below : (c : ℕ) → nat_lt c 256 ≡ true → c < 256
      below c e = grind (arith, nat_tests)

octets : Octets kernel_bytes
octets = All-from_recursion (λ b. b < 256) kernel_bytes (all_below kernel_bytes refl)

is_module : IsModule Little kernel_bytes kernel_words
is_module =
    found_module Little kernel_bytes (record
    { size = lit≤ tt; least = lit≤ tt; groups = refl; octets = octets; magic = refl }) refl refl (lit≤ tt) (lit≤ tt)

pub read : IsReading grammar Profile kernel kernel_body
read = record { spelled = kernel; listing = listed; seen = refl }

pub valid : IsValid grammar Profile kernel_bytes
valid = record {
  words = kernel_words;
  order = Little;
  is_module = is_module;
  insts = kernel;
  reading = read;
  sound = sound;
}

pub checked : IsChecked grammar Profile kernel_words kernel_program
checked = record { reading = read; bound = refl; sound = sound }
