-- Worked examples of encoding.
use Rattle.std.proofs.Common.{◌≡◌, inr, ℕ, List, [], ◌∷◌, Some, length, refl, sym, subst, suc, ap, arith}
use Rattle.spv_table.specs.declared.table.Entry.{Entry}
use Rattle.spv_table.specs.Table.{entry_of, pattern_of, One}
use Rattle.spv_printer.specs.declared.encode_error.EncodeCode.{EncodeCode}
use Rattle.spv_printer.specs.declared.encode_error.EncodeCode.TheVariants.{N2, N3}
use Rattle.spv_module.specs.Operand.{Plain, Result, Text, PlainInst, start, and_then}
use Rattle.spv_module.specs.Shape.{Slot, alone, AsText, AsParts, shape_of}
use Rattle.spv_module.specs.Spelling.{Takes, Match}
use Rattle.spv_module.specs.Instruction.{Listing, IsListing}
use Rattle.spv_inst.specs.Flat.{Due, OneOf}
use Rattle.spv_inst.specs.inner.Flat.{Matches}
use Rattle.spv_module.specs.Example.{small, string, string_entry}
use Rattle.spv_printer.specs.Encoding.{HasNoWords, IsTooLong, StopsAt}
use Rattle.spv_inst.proofs.Joined.{match_flat}
use Rattle.spv_inst.proofs.Worked.{string_spelled}
use Rattle.spv_printer.proofs.Walk.{Walk, walk_start, walk_operand, walk_unfit}
use Rattle.spv_inst.proofs.Fit.{unfit_takes}
use Rattle.spv_printer.proofs.Stops.{not_stopped, not_prevented}

abbrev zero_operands : List Plain
zero_operands = Result 5 ∷ Text (97 ∷ 0 ∷ []) ∷ []

abbrev pub zero_inst : PlainInst
zero_inst = record { opcode = 7; operands = zero_operands }

abbrev pattern : List Due
pattern = OneOf (alone 1) ∷ OneOf (alone 5) ∷ []

no_parts : (ss : List Slot) → shape_of small (and_then (start [] 7) (Result 5)) (alone 5) ≡ AsParts ss → ⊥
unfolding shape_of
no_parts ss e = cc

no_text : (ws : List ℕ) (ss : List Slot)
    → Takes 5 (shape_of small (and_then (start [] 7) (Result 5)) (alone 5)) (Text (97 ∷ 0 ∷ [])) ws ss → ⊥
unfolding shape_of
no_text ws ss t = unfit_takes 5 AsText (Text (97 ∷ 0 ∷ [])) refl ws ss t

result_takes : Takes 1 (shape_of small (start [] 7) (alone 1)) (Result 5) (5 ∷ []) []
unfolding shape_of
result_takes = Takes.result 5

unmatched : (us : List ℕ) → Matches small (start [] 7) pattern zero_operands us → ⊥
unmatched us m =
    let w : Walk small (start [] 7) pattern zero_operands (and_then (start [] 7) (Result 5)) (OneOf (alone 5) ∷ [])
    (Text (97 ∷ 0 ∷ []) ∷ []) (5 ∷ []) =
    walk_operand small (start [] 7) pattern zero_operands (start [] 7) (alone 1) (OneOf (alone 5) ∷ []) (Result 5)
    (Text (97 ∷ 0 ∷ []) ∷ []) [] (5 ∷ []) [] (walk_start small (start [] 7) pattern zero_operands) result_takes in
    walk_unfit small (start [] 7) pattern zero_operands (and_then (start [] 7) (Result 5)) (alone 5) []
    (Text (97 ∷ 0 ∷ [])) [] (5 ∷ []) no_parts no_text w us m

by_entry : (e : Entry) → string_entry ≡ e → (us : List ℕ) → Match small (start [] 7) (pattern_of e) zero_operands us → ⊥
by_entry e f us m =
    let m' : Match small (start [] 7) (pattern_of string_entry) zero_operands us = subst
    (λ (x : Entry). Match small (start [] 7) (pattern_of x) zero_operands us) (sym f) m in
    unmatched us (match_flat small (start [] 7) (One 1 ∷ One 5 ∷ []) zero_operands us m')

entry_is : (e : Entry) → entry_of small 7 ≡ Some e → string_entry ≡ e
entry_is e f = cc

no_words : HasNoWords small [] zero_inst
no_words = λ e us f m. by_entry e (entry_is e f) us m

pub zero_stops : StopsAt small (zero_inst ∷ []) N2 0
zero_stops = record {
  before = [];
  inst = zero_inst;
  later = [];
  words = [];
  all = refl;
  number = refl;
  spelled = Listing.end [];
  short = omega arith;
  prevented = no_words;
}

listed : IsListing small (string ∷ []) (196615 ∷ 5 ∷ 6513249 ∷ [])
listed = Listing.more [] string [] (196615 ∷ 5 ∷ 6513249 ∷ []) [] string_spelled (Listing.end (string ∷ []))

pub string_goes : (code : EncodeCode) (n : ℕ) → StopsAt small (string ∷ []) code n → ⊥
string_goes code n s = not_stopped small (string ∷ []) (196615 ∷ 5 ∷ 6513249 ∷ []) code n listed (omega arith) s

pub string_long : IsTooLong small [] 4194302 string
string_long =
    let s = string_spelled in
    let n : 3 ≡ suc (length s.further) = ap length s.spelled in
    record { further = s.further; entry = s.entry; known = s.known; matches = s.matches; long = inr (omega arith) }

pub string_short : IsTooLong small [] 4194301 string → ⊥
string_short h = not_prevented small [] string (196615 ∷ 5 ∷ 6513249 ∷ []) 4194301 N3 string_spelled (omega arith) h
