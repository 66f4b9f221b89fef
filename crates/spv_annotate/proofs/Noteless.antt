-- Instructions without notes.
use Rattle.std.proofs.Common.{◌≡◌, ◌≢◌, ◌+◌, ◌++◌, ◌∙◌, ◌||◌, ℕ, List, [], ◌∷◌, Option, Some, None, Bool, true, false}
use Rattle.std.proofs.Common.{cond, flat_map, length, nat_eq, refl, sym, ap, append-nil}
use Rattle.std.specs.Prelude.{if◌then◌else◌, not, option_map}
use Rattle.std.specs.List.{list_any, position_from}
use Rattle.std.proofs.lemmas.Bool.Decides.{nat_tests}
use Rattle.std.proofs.Common.{arith}
use Rattle.spv_table.specs.Lookups.{is_number}
use Rattle.spv_module.specs.Operand.{PlainInst, result_in}
use Rattle.spv_module.specs.declared.opcode.TheConstants.{EXT_INST, LABEL, NAME}
use Rattle.spv_names.specs.Names.{name_in}
use Rattle.spv_layout.specs.Place.{first_word_of}
use Rattle.spv_extended.specs.Call.{call_in}
use Rattle.spv_annotate.specs.Called.{ids_of, set_of}
use Rattle.spv_annotate.specs.Module.{inst_at, named_by, naming_of}
use Rattle.spv_annotate.specs.Notes.{block_note, call_note, call_text, comment, each_once, entry_named, from_note}
use Rattle.spv_annotate.specs.Notes.{gap, name_note, name_notes, name_unless, name_text, note, notes, place_text}
use Rattle.spv_annotate.specs.inner.Known.{is_naming}

neither : (a b : Bool) → (a || b) ≡ false → (a ≡ false) × (b ≡ false)
neither false b h = (refl, h)
neither true b h = cc

-- where no instruction is an OpName, none names an id
pub unnamed_from : (x k : ℕ) (is : List PlainInst) → list_any is_naming is ≡ false
    → position_from (λ i. is_number x (named_by i)) k is ≡ None
unnamed_from x k [] h = refl
unnamed_from x k (i ∷ is) h =
    let r = neither (is_naming i) (list_any is_naming is) h in
    ap (λ (b : Bool). cond (is_number x (option_map (λ p. p.0) (if b then name_in i.operands else None))) (Some k)
    (position_from (λ j. is_number x (named_by j)) (k + 1) is)) r.0
    ∙ unnamed_from x (k + 1) is r.1

pub unnamed : (is : List PlainInst) → list_any is_naming is ≡ false → (x : ℕ) → naming_of is x ≡ None
unnamed is h x = unnamed_from x 0 is h

-- nor does an instruction that is none
pub names_none : (i : PlainInst) → i.opcode ≢ NAME → None ≡ named_by i
names_none i h =
    let f : nat_eq i.opcode NAME ≡ false = grind (arith, nat_tests) in
    sym (ap (λ (b : Bool). option_map (λ p. p.0) (if b then name_in i.operands else None)) f)

none_either : (b : Bool) (t : List ℕ) → t ≡ [] → (if b then [] else t) ≡ []
none_either true t e = refl
none_either false t e = e

no_names : (is : List PlainInst) (o : Option ℕ) (xs : List ℕ) → ((x : ℕ) → naming_of is x ≡ None)
    → flat_map (name_unless is o) xs ≡ []
no_names is o [] n = refl
no_names is o (x ∷ xs) n =
    ap (λ z. z ++ flat_map (name_unless is o) xs)
    (none_either (is_number x o) (name_note is x) (ap (name_text is x) (n x))) ∙ no_names is o xs n

-- there no name stands in a comment
pub no_name_notes : (is : List PlainInst) (i : PlainInst) → list_any is_naming is ≡ false → name_notes is i ≡ []
no_name_notes is i h =
    none_either (nat_eq i.opcode NAME) (flat_map (name_unless is (entry_named is i)) (each_once (ids_of is i)))
    (no_names is (entry_named is i) (each_once (ids_of is i)) (unnamed is h))

-- nor does one on an OpName
pub naming_names_none : (is : List PlainInst) (i : PlainInst) → i.opcode ≡ NAME → name_notes is i ≡ []
naming_names_none is i e =
    let f : nat_eq i.opcode NAME ≡ true = grind (arith, nat_tests) in
    ap (λ (b : Bool). if b then [] else flat_map (name_unless is (entry_named is i)) (each_once (ids_of is i))) f

pub not_so : (b : Bool) → not b ≡ true → b ≡ false
not_so true h = cc
not_so false h = refl

no_value : (t : List ℕ) → length t ≡ 0 → note t ≡ []
no_value [] e = refl
no_value (b ∷ t) e = absurd cc

four_nothing : (a b c d : List ℕ) → a ≡ [] → b ≡ [] → c ≡ [] → d ≡ [] → ((a ++ b) ++ c) ++ d ≡ []
four_nothing a b c d p q r s = rw (p, q, r, s) refl

-- an instruction that is no call and no label, has no value and no named id, has no notes
pub no_notes : (is : List PlainInst) (value : List ℕ) (n : ℕ) (i : PlainInst) → name_notes is i ≡ []
    → i.opcode ≢ EXT_INST → i.opcode ≢ LABEL → length value ≡ 0 → notes is value n i ≡ []
no_notes is value n i h e l v =
    let f : nat_eq i.opcode EXT_INST ≡ false = grind (arith, nat_tests) in
    let g : nat_eq i.opcode LABEL ≡ false = grind (arith, nat_tests) in
    four_nothing (name_notes is i) (call_note is i) (note value) (block_note is n i) h
    (ap (λ (b : Bool). call_text (if b then call_in (set_of is) i.operands else None)) f)
    (no_value value v)
    (ap (λ (b : Bool). if b then from_note is n (result_in i.operands) else []) g)

-- its comment tells its place alone
pub bare_comment : (is : List PlainInst) (value : List ℕ) (n word : ℕ) (line : List ℕ) → word ≡ first_word_of is n
    → notes is value n (inst_at is n) ≡ []
    → gap (length line) ++ place_text n word ≡ comment is value n line
bare_comment is value n word line e h =
    let place = gap (length line) ++ place_text n (first_word_of is n) in
    ap (λ w. gap (length line) ++ place_text n w) e ∙ (sym (append-nil place) ∙ ap (λ z. place ++ z) (sym h))
