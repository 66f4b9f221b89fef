-- Worked examples under a small table.
use Rattle.std.proofs.Common.{◌≡◌, ◌++◌, ℕ, List, [], ◌∷◌, refl, arith, map, ap, length, append-nil}
use Rattle.std.specs.Prelude.{IsUtf8, codes}
use Rattle.spv_table.specs.Table.{One, Maybe, Many}
use Rattle.spv_module.specs.declared.opcode.TheConstants.{SWITCH}
use Rattle.spv_module.specs.Operand.{Plain, OfType, Result, Id, Word, Number, Text, Mask, Context, and_then, start}
use Rattle.spv_module.specs.Shape.{AsText, AsWord, alone, shape_of}
use Rattle.spv_module.specs.Spelling.{Takes, HoldsText, mask_parameters, Match, Spells, SpellsAll}
use Rattle.spv_module.specs.declared.fault.Rule.{Rule}
use Rattle.spv_module.specs.declared.fault.Rule.TheVariants.{I4, I7, I8}
use Rattle.spv_module.specs.Refusal.{ShapeRefuses, Misfit}
use Rattle.spv_table.specs.Table.{pattern_of}
use Rattle.spv_inst.specs.Flat.{due}
use Rattle.spv_inst.specs.inner.Flat.{Matches, Fails}
use Rattle.spv_module.specs.Instruction.{IsInstruction, first_word}
use Rattle.spv_module.specs.Example.{load_entry, string_entry, switch_entry, access, small, load, string, long_value}
use Rattle.spv_module.specs.Example.{switch}
use Rattle.spv_inst.proofs.Joined.{flat_match, match_flat}
use Rattle.spv_inst.proofs.Fails.{fails_not}
use Rattle.spv_inst.proofs.Misfits.{misfit_fails}
use Rattle.spv_inst.proofs.Refusals.{takes_refuses}

load_matches : Matches small (start [] 61) (map due (One 0 ∷ One 1 ∷ One 2 ∷ Maybe 3 ∷ [])) load.operands
    (2 ∷ 9 ∷ 8 ∷ 3 ∷ 4 ∷ [])
unfolding shape_of mask_parameters
load_matches =
    Matches.take _ _ _ (OfType 2) (2 ∷ []) [] _ _ (Takes.result_type 2) (
    Matches.take _ _ _ (Result 9) (9 ∷ []) [] _ _ (Takes.result 9) (
    Matches.take _ _ _ (Id 8) (8 ∷ []) [] _ _ (Takes.id 8) (
    Matches.maybe _ _ _ _ 3 (4 ∷ []) (
    Matches.take _ _ _ (Mask 3 3) (3 ∷ []) (alone 4 ∷ []) _ _ (Takes.mask access 3 (4 ∷ []) refl) (
    Matches.take _ _ _ (Word 4) (4 ∷ []) [] _ _ (Takes.word 4) (
    Matches.end _))))))

-- 0x0006003D 2 9 8 3 4
pub load_spelled : IsInstruction small [] load (393277 ∷ 2 ∷ 9 ∷ 8 ∷ 3 ∷ 4 ∷ [])
load_spelled = record {
  further = 2 ∷ 9 ∷ 8 ∷ 3 ∷ 4 ∷ [];
  entry = load_entry;
  opcode = omega arith;
  count = omega arith;
  spelled = refl;
  known = refl;
  matches = flat_match small (start [] 61) (One 0 ∷ One 1 ∷ One 2 ∷ Maybe 3 ∷ []) load.operands
      (2 ∷ 9 ∷ 8 ∷ 3 ∷ 4 ∷ []) load_matches;
}

abc : HoldsText (6513249 ∷ []) (codes "abc") []
abc = record {
  words = (omega arith, tt);
  octets = refl;
  no_zero = (λ e. omega arith, (λ e. omega arith, (λ e. omega arith, tt)));
  short = omega arith;
}

abc_text : IsUtf8 (codes "abc")
unfolding lib.Utf8.encode
abc_text = (codes "abc", (refl, refl))

string_matches : Matches small (start [] 7) (map due (One 1 ∷ One 5 ∷ [])) string.operands (5 ∷ 6513249 ∷ [])
unfolding shape_of
string_matches =
    Matches.take _ _ _ (Result 5) (5 ∷ []) [] _ _ (Takes.result 5) (
    Matches.take _ _ _ (Text (codes "abc")) (6513249 ∷ []) [] _ _
    (Takes.text (codes "abc") (6513249 ∷ []) [] abc tt abc_text) (
    Matches.end _))

-- 0x00030007 5 "abc"
pub string_spelled : IsInstruction small [] string (196615 ∷ 5 ∷ 6513249 ∷ [])
string_spelled = record {
  further = 5 ∷ 6513249 ∷ [];
  entry = string_entry;
  opcode = omega arith;
  count = omega arith;
  spelled = refl;
  known = refl;
  matches = flat_match small (start [] 7) (One 1 ∷ One 5 ∷ []) string.operands (5 ∷ 6513249 ∷ []) string_matches;
}

switch_matches : Matches small (start long_value SWITCH) (map due (One 2 ∷ One 2 ∷ Many 6 ∷ [])) switch.operands
    (2 ∷ 10 ∷ 7 ∷ 1 ∷ 11 ∷ [])
unfolding shape_of
switch_matches =
    Matches.take _ _ _ (Id 2) (2 ∷ []) [] _ _ (Takes.id 2) (
    Matches.take _ _ _ (Id 10) (10 ∷ []) [] _ _ (Takes.id 10) (
    Matches.many _ _ _ _ 7 (1 ∷ 11 ∷ []) (
    Matches.parts _ _ _ (record { kind = 4; paired = Rattle.std.specs.Prelude.true }
    ∷ record { kind = 2; paired = Rattle.std.specs.Prelude.true } ∷ []) _ _ refl (
    Matches.take _ _ _ (Number 7 1 2) (7 ∷ 1 ∷ []) [] _ _ (Takes.wide 64 7 1 (omega arith)) (
    Matches.take _ _ _ (Id 11) (11 ∷ []) [] _ _ (Takes.id 11) (
    Matches.no_many _ _ _ _ (Matches.end _)))))))

-- 0x000600FB 2 10 7 1 11, where %2 has 64 bits
pub switch_spelled : IsInstruction small long_value switch (393467 ∷ 2 ∷ 10 ∷ 7 ∷ 1 ∷ 11 ∷ [])
switch_spelled = record {
  further = 2 ∷ 10 ∷ 7 ∷ 1 ∷ 11 ∷ [];
  entry = switch_entry;
  opcode = omega arith;
  count = omega arith;
  spelled = refl;
  known = refl;
  matches = flat_match small (start long_value SWITCH) (One 2 ∷ One 2 ∷ Many 6 ∷ []) switch.operands
      (2 ∷ 10 ∷ 7 ∷ 1 ∷ 11 ∷ []) switch_matches;
}

pub unknown_fails : Fails small (start [] 61) (map due (One 0 ∷ One 1 ∷ One 2 ∷ Maybe 3 ∷ [])) (2 ∷ 9 ∷ 8 ∷ 4 ∷ []) I7 3
unfolding shape_of mask_parameters
unknown_fails =
    Fails.take _ _ _ (OfType 2) (2 ∷ []) [] _ I7 2 (Takes.result_type 2) (
    Fails.take _ _ _ (Result 9) (9 ∷ []) [] _ I7 1 (Takes.result 9) (
    Fails.take _ _ _ (Id 8) (8 ∷ []) [] _ I7 0 (Takes.id 8) (
    Fails.maybe _ _ _ 4 [] I7 0 (
    Fails.refused _ _ _ (4 ∷ []) I7 0 (ShapeRefuses.unknown_bit access 4 [] refl)))))

-- the bit 4 has no enumerant, so no operands are spelled
pub unknown_spells_nothing : (os : List Plain)
    → Match small (start [] 61) (One 0 ∷ One 1 ∷ One 2 ∷ Maybe 3 ∷ []) os (2 ∷ 9 ∷ 8 ∷ 4 ∷ []) → ⊥
unknown_spells_nothing os m =
    fails_not small (start [] 61) (map due (One 0 ∷ One 1 ∷ One 2 ∷ Maybe 3 ∷ [])) (2 ∷ 9 ∷ 8 ∷ 4 ∷ [])
    (2 ∷ 9 ∷ 8 ∷ 4 ∷ []) I7 3 os
    unknown_fails (match_flat small (start [] 61) (One 0 ∷ One 1 ∷ One 2 ∷ Maybe 3 ∷ []) os (2 ∷ 9 ∷ 8 ∷ 4 ∷ []) m) refl

-- 0x0005003D 2 9 8 4
pub unknown_dead : Rattle.spv_module.specs.Malformed.IsMalformedAt small (327741 ∷ 2 ∷ 9 ∷ 8 ∷ 4 ∷ []) I7 0 4
unknown_dead =
    Rattle.spv_module.specs.Malformed.FailsAt.here [] (327741 ∷ 2 ∷ 9 ∷ 8 ∷ 4 ∷ []) I7 4
    (Rattle.spv_module.specs.Malformed.IsMalformed.misfit 61 (2 ∷ 9 ∷ 8 ∷ 4 ∷ []) [] load_entry I7 3 (omega arith) refl
    (Rattle.spv_inst.proofs.Fronts.fails_misfit small (start [] 61) (One 0 ∷ One 1 ∷ One 2 ∷ Maybe 3 ∷ [])
    (2 ∷ 9 ∷ 8 ∷ 4 ∷ []) I7 3 unknown_fails))

-- 3 4 as a MemoryAccess
pub access_spelled : Spells small (start [] 61) (alone 3) (Mask 3 3 ∷ Word 4 ∷ []) (3 ∷ 4 ∷ [])
unfolding shape_of mask_parameters
access_spelled =
    Spells.operand (start [] 61) (alone 3) (Mask 3 3) (3 ∷ []) (alone 4 ∷ []) (Word 4 ∷ []) (4 ∷ [])
    (Takes.mask access 3 (4 ∷ []) refl) (
    SpellsAll.more (and_then (start [] 61) (Mask 3 3)) (alone 4) [] (Word 4 ∷ []) [] (4 ∷ []) [] (
    Spells.operand (and_then (start [] 61) (Mask 3 3)) (alone 4) (Word 4) (4 ∷ []) [] [] [] (Takes.word 4)
    (SpellsAll.none _))
    (SpellsAll.none _))

-- what a pattern of one item refuses, its kind does not spell
no_spelling : (c : Context) (us : List ℕ) (rule : Rule) (n : ℕ) → Fails small c (map due (One 3 ∷ [])) us rule n
    → (os : List Plain) → Spells small c (alone 3) os us → ⊥
no_spelling c us rule n f os s =
    let m : Match small c (One 3 ∷ []) (os ++ []) (us ++ []) = Match.one c 3 [] os [] us [] s (Match.nothing _) in
    let m' : Match small c (One 3 ∷ []) os us = simp append-nil at m in
    fails_not small c (map due (One 3 ∷ [])) us us rule n os f (match_flat small c (One 3 ∷ []) os us m') refl

pub access_unknown : (os : List Plain) → Spells small (start [] 61) (alone 3) os (4 ∷ []) → ⊥
unfolding shape_of mask_parameters
access_unknown os s =
    no_spelling (start [] 61) (4 ∷ []) I7 0
    (Fails.refused _ _ _ (4 ∷ []) I7 0 (ShapeRefuses.unknown_bit access 4 [] refl)) os s

pub access_short : (os : List Plain) → Spells small (start [] 61) (alone 3) os (2 ∷ []) → ⊥
unfolding shape_of mask_parameters
access_short os s =
    no_spelling (start [] 61) (2 ∷ []) I4 1
    (Fails.take _ _ _ (Mask 3 2) (2 ∷ []) (alone 4 ∷ []) [] I4 0 (Takes.mask access 2 (4 ∷ []) refl)
    (Fails.refused _ _ _ [] I4 0 (ShapeRefuses.missing AsWord tt))) os s

pub load_matched : Match small (start [] 61) (pattern_of load_entry) load.operands (2 ∷ 9 ∷ 8 ∷ 3 ∷ 4 ∷ [])
load_matched = flat_match small (start [] 61) (One 0 ∷ One 1 ∷ One 2 ∷ Maybe 3 ∷ []) load.operands
    (2 ∷ 9 ∷ 8 ∷ 3 ∷ 4 ∷ []) load_matches

pub endless_refused : ShapeRefuses AsText (1633771873 ∷ []) I8 0
endless_refused = ShapeRefuses.endless 1633771873 []
    (λ e. omega arith, (λ e. omega arith, (λ e. omega arith, (λ e. omega arith, tt))))

pub abc_fits : (rule : Rule) (n : ℕ) → ShapeRefuses AsText (6513249 ∷ []) rule n → ⊥
abc_fits rule n r = takes_refuses 5 AsText (Text (codes "abc")) (6513249 ∷ []) [] [] (6513249 ∷ []) rule n
    (Takes.text (codes "abc") (6513249 ∷ []) [] abc tt abc_text) r refl

pub unknown_misfits : Misfit small (start [] 61) (pattern_of load_entry) (2 ∷ 9 ∷ 8 ∷ 4 ∷ []) I7 3
unknown_misfits = Rattle.spv_inst.proofs.Fronts.fails_misfit small (start [] 61) (One 0 ∷ One 1 ∷ One 2 ∷ Maybe 3 ∷ [])
    (2 ∷ 9 ∷ 8 ∷ 4 ∷ []) I7 3 unknown_fails

pub load_fits : (rule : Rule) (n : ℕ)
    → Misfit small (start [] 61) (pattern_of load_entry) (2 ∷ 9 ∷ 8 ∷ 3 ∷ 4 ∷ []) rule n → ⊥
load_fits rule n m =
    fails_not small (start [] 61) (map due (One 0 ∷ One 1 ∷ One 2 ∷ Maybe 3 ∷ [])) (2 ∷ 9 ∷ 8 ∷ 3 ∷ 4 ∷ [])
    (2 ∷ 9 ∷ 8 ∷ 3 ∷ 4 ∷ []) rule n load.operands
    (misfit_fails small (start [] 61) (One 0 ∷ One 1 ∷ One 2 ∷ Maybe 3 ∷ []) (2 ∷ 9 ∷ 8 ∷ 3 ∷ 4 ∷ []) rule n m)
    load_matches refl

-- 0x0005003D tells five words
pub short_count : IsInstruction small [] load (327741 ∷ 2 ∷ 9 ∷ 8 ∷ 3 ∷ 4 ∷ []) → ⊥
short_count i =
    let s = i.spelled in
    let f : i.further ≡ 2 ∷ 9 ∷ 8 ∷ 3 ∷ 4 ∷ [] = cc in
    let w : 327741 ≡ first_word 61 i.further = cc in
    let l : length i.further ≡ 5 = ap length f in
    omega arith

pub string_listed : Rattle.spv_module.specs.Instruction.IsListing small (string ∷ []) (196615 ∷ 5 ∷ 6513249 ∷ [])
string_listed = Rattle.spv_module.specs.Instruction.Listing.more [] string []
    (196615 ∷ 5 ∷ 6513249 ∷ []) [] string_spelled (Rattle.spv_module.specs.Instruction.Listing.end _)
