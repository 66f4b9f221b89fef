-- Worked examples under a small table.
use Rattle.std.proofs.Common.{ℕ, List, [], ◌∷◌, Some, refl, arith}
use Rattle.spv_table.specs.Table.{pattern_of}
use Rattle.spv_module.specs.Operand.{OfType, Result, Id, start}
use Rattle.spv_module.specs.Shape.{alone, shape_of}
use Rattle.spv_module.specs.Spelling.{Takes, mask_parameters}
use Rattle.spv_module.specs.Instruction.{Listing}
use Rattle.spv_module.specs.Refusal.{ShapeRefuses}
use Rattle.spv_module.specs.declared.fault.Rule.{Rule}
use Rattle.spv_module.specs.declared.fault.Rule.TheVariants.{I3, I4, I7}
use Rattle.spv_module.specs.Example.{small, access, load_entry, string_entry}
use Rattle.spv_module.specs.declared.opcode.TheConstants as opcode
use Rattle.spv_inst.specs.Flat.{OneOf, MaybeOf}
use Rattle.spv_inst.proofs.Lists.{dies_not}
use Rattle.spv_inst.proofs.Worked.{string_listed}
use Rattle.spv_evidence.specs.declared.evidence.Evidence.{Evidence}
use Rattle.spv_evidence.specs.declared.evidence.Evidence.TheVariants.{Opcode, Due}
use Rattle.spv_form_evidence.specs.words.Front.{Reaches}
use Rattle.spv_form_evidence.specs.words.Example.{masked}
use Rattle.spv_form_evidence.specs.words.Evidence.{Shows, IsEvidence}
use Rattle.spv_form_evidence.proofs.lemmas.words.Sufficing.{suffices}
use Rattle.spv_form_evidence.proofs.lemmas.words.Unique.{one}

-- the first instruction
first : (words : List ℕ) (r : Rule) (n : ℕ) (e : Evidence) → Shows small [] words r n e → IsEvidence small words r 0 n e
first words r n e s = record {
  before = [];
  front = [];
  left = words;
  place = n;
  all = refl;
  spelled = Listing.end [];
  number = refl;
  at = omega arith;
  shows = s;
}

-- the three operands of an OpLoad, and then the mask 4
load_reached : Reaches small (start [] opcode.LOAD) (pattern_of load_entry) (2 ∷ 9 ∷ 8 ∷ 4 ∷ [])
    (OfType 2 ∷ Result 9 ∷ Id 8 ∷
    []) (2 ∷ 9 ∷ 8 ∷ []) (OneOf (alone 3) ∷ []) (4 ∷ [])
unfolding shape_of
load_reached =
    Reaches.maybe (OfType 2 ∷ Result 9 ∷ Id 8 ∷ []) (2 ∷ 9 ∷ 8 ∷ []) (alone 3) [] 4 [] (
    Reaches.operand (OfType 2 ∷ Result 9 ∷ []) (2 ∷ 9 ∷ []) (alone 2) (MaybeOf (alone 3) ∷ []) (Id 8) (8 ∷ []) (4 ∷
    []) [] (
    Reaches.operand (OfType 2 ∷ []) (2 ∷ []) (alone 1) (OneOf (alone 2) ∷ MaybeOf (alone 3) ∷ []) (Result 9) (9 ∷ [])
    (8 ∷ 4 ∷ []) [] (
    Reaches.operand [] [] (alone 0) (OneOf (alone 1) ∷ OneOf (alone 2) ∷ MaybeOf (alone 3) ∷ []) (OfType 2) (2 ∷ [])
    (9 ∷ 8 ∷ 4 ∷ []) []
    Reaches.begin (Takes.result_type 2)) (Takes.result 9)) (Takes.id 8))

pub mask_shown : IsEvidence small masked I7 0 4 (Due opcode.LOAD 3 (Some 3))
unfolding shape_of mask_parameters
mask_shown =
    first masked I7 4 (Due opcode.LOAD 3 (Some 3))
    (Shows.refused opcode.LOAD (2 ∷ 9 ∷ 8 ∷ 4 ∷ []) [] load_entry (OfType 2 ∷ Result 9 ∷ Id 8 ∷ []) (2 ∷ 9 ∷ 8 ∷ [])
    (alone 3)
    [] (4 ∷ []) I7 0 (omega arith) refl load_reached
    (ShapeRefuses.unknown_bit access 4 [] refl))

pub not_beside : IsEvidence small masked I7 0 4 (Due opcode.LOAD 2 (Some 3)) → ⊥
not_beside i = let e = one small masked I7 0 4 (Due opcode.LOAD 3 (Some 3)) (Due opcode.LOAD 2 (Some 3))
    mask_shown i in cc

pub not_kind : IsEvidence small masked I7 0 4 (Due opcode.LOAD 3 (Some 2)) → ⊥
not_kind i = let e = one small masked I7 0 4 (Due opcode.LOAD 3 (Some 3)) (Due opcode.LOAD 3 (Some 2)) mask_shown
    i in cc

pub not_alone : IsEvidence small masked I7 0 4 (Opcode opcode.LOAD) → ⊥
not_alone i = let e = one small masked I7 0 4 (Due opcode.LOAD 3 (Some 3)) (Opcode opcode.LOAD) mask_shown i in cc

-- an OpString without its text
pub text_missing : IsEvidence small (131079 ∷ 5 ∷ []) I4 0 2 (Due 7 1 (Some 5))
unfolding shape_of
text_missing =
    first (131079 ∷ 5 ∷ []) I4 2 (Due 7 1 (Some 5))
    (Shows.refused 7 (5 ∷ []) [] string_entry (Result 5 ∷ []) (5 ∷ []) (alone 5) [] [] I4 0 (omega arith) refl
    (Reaches.operand [] [] (alone 1) (OneOf (alone 5) ∷ []) (Result 5) (5 ∷ []) [] [] Reaches.begin (Takes.result 5))
    (ShapeRefuses.missing _ tt))

pub unknown_shown : IsEvidence small (65537 ∷ []) I3 0 0 (Opcode 1)
unknown_shown = first (65537 ∷ []) I3 0 (Opcode 1) (Shows.no_entry 1 [] [] (omega arith) refl)

-- nothing shows that an instruction fails that is spelled
pub string_sound : (r : Rule) (k n : ℕ) (e : Evidence) → IsEvidence small (196615 ∷ 5 ∷ 6513249 ∷ []) r k n e → ⊥
string_sound r k n e i = dies_not small [] _ (196615 ∷ 5 ∷ 6513249 ∷ []) (196615 ∷ 5 ∷ 6513249 ∷ []) r k n (suffices
    small (196615 ∷ 5 ∷ 6513249 ∷ []) r k n e i) string_listed refl
