-- What is known of operands, with one operand more.
use Rattle.std.proofs.Common.{◌≡◌, ◌++◌, ◌∙◌, ℕ, List, [], ◌∷◌, None, nat_eq, false, refl, ap, arith}
use Rattle.std.proofs.lemmas.Bool.Decides.{nat_tests}
use Rattle.std.specs.Option.{option_or}
use Rattle.std.specs.Prelude.{if◌then◌else◌}
use Rattle.spv_module.specs.Operand.{Plain, OfType, Result, Id, Word, Number, Text, Value, Mask, Argument, Mention}
use Rattle.spv_module.specs.Operand.{result_in, type_in}
use Rattle.spv_module.specs.Width.{first_id, width_in}
use Rattle.spv_lines.proofs.OneMore.{result_snoc, type_snoc}
use Rattle.spv_parser.specs.declared.operands.Known.{Known}
use Rattle.spv_parser.specs.inner.Kept.{IsOfOperands, count_of, first_after, width_after}

-- how many operands there are, with one more, up to two
abbrev pub count_more : ℕ → ℕ
count_more n = if nat_eq n 0 then 1 else 2

first_same : (o : Plain) (xs ys : List Plain) → first_id (o ∷ xs) ≡ first_id (o ∷ ys)
first_same (OfType x) xs ys = refl
first_same (Result x) xs ys = refl
first_same (Id x) xs ys = refl
first_same (Word x) xs ys = refl
first_same (Argument x) xs ys = refl
first_same (Mention x) xs ys = refl
first_same (Number a b n) xs ys = refl
first_same (Text t) xs ys = refl
first_same (Value k x) xs ys = refl
first_same (Mask k x) xs ys = refl

first_snoc : (os : List Plain) (o : Plain) → first_after (count_of os) (first_id os) o ≡ first_id (os ++ (o ∷ []))
first_snoc [] o = refl
first_snoc (x ∷ []) o = first_same x [] (o ∷ [])
first_snoc (x ∷ y ∷ os) o = first_same x (y ∷ os) (y ∷ (os ++ (o ∷ [])))

one_width : (o : Plain) → None ≡ width_in (o ∷ [])
one_width (OfType x) = refl
one_width (Result x) = refl
one_width (Id x) = refl
one_width (Word x) = refl
one_width (Argument x) = refl
one_width (Mention x) = refl
one_width (Number a b n) = refl
one_width (Text t) = refl
one_width (Value k x) = refl
one_width (Mask k x) = refl

two_widths : (x o : Plain) → width_after 1 (result_in (x ∷ [])) (width_in (x ∷ [])) o ≡ width_in (x ∷ o ∷ [])
two_widths (OfType x) o = refl
two_widths (Result y) (OfType x) = refl
two_widths (Result y) (Result x) = refl
two_widths (Result y) (Id x) = refl
two_widths (Result y) (Word x) = refl
two_widths (Result y) (Argument x) = refl
two_widths (Result y) (Mention x) = refl
two_widths (Result y) (Number a b n) = refl
two_widths (Result y) (Text t) = refl
two_widths (Result y) (Value k x) = refl
two_widths (Result y) (Mask k x) = refl
two_widths (Id x) o = refl
two_widths (Word x) o = refl
two_widths (Argument x) o = refl
two_widths (Mention x) o = refl
two_widths (Number a b n) o = refl
two_widths (Text t) o = refl
two_widths (Value k x) o = refl
two_widths (Mask k x) o = refl

more_widths : (x y : Plain) (xs ys : List Plain) → width_in (x ∷ y ∷ xs) ≡ width_in (x ∷ y ∷ ys)
more_widths (OfType x) o xs ys = refl
more_widths (Result y) (OfType x) xs ys = refl
more_widths (Result y) (Result x) xs ys = refl
more_widths (Result y) (Id x) xs ys = refl
more_widths (Result y) (Word x) xs ys = refl
more_widths (Result y) (Argument x) xs ys = refl
more_widths (Result y) (Mention x) xs ys = refl
more_widths (Result y) (Number a b n) xs ys = refl
more_widths (Result y) (Text t) xs ys = refl
more_widths (Result y) (Value k x) xs ys = refl
more_widths (Result y) (Mask k x) xs ys = refl
more_widths (Id x) o xs ys = refl
more_widths (Word x) o xs ys = refl
more_widths (Argument x) o xs ys = refl
more_widths (Mention x) o xs ys = refl
more_widths (Number a b n) o xs ys = refl
more_widths (Text t) o xs ys = refl
more_widths (Value k x) o xs ys = refl
more_widths (Mask k x) o xs ys = refl

width_snoc : (os : List Plain) (o : Plain)
    → width_after (count_of os) (result_in os) (width_in os) o ≡ width_in (os ++ (o ∷ []))
width_snoc [] o = one_width o
width_snoc (x ∷ []) o = two_widths x o
width_snoc (x ∷ y ∷ os) o = more_widths x y os (os ++ (o ∷ []))

count_snoc : (os : List Plain) (o : Plain) → count_more (count_of os) ≡ count_of (os ++ (o ∷ []))
count_snoc [] o = refl
count_snoc (x ∷ []) o = refl
count_snoc (x ∷ y ∷ os) o = refl

pub of_more : (known next : Known) (opcode : ℕ) (os : List Plain) (o : Plain) → next.opcode ≡ known.opcode
    → next.result ≡ option_or known.result (result_in (o ∷ []))
    → next.type_id ≡ option_or known.type_id (type_in (o ∷ []))
    → next.first ≡ first_after known.count known.first o
    → next.width ≡ width_after known.count known.result known.width o → next.count ≡ count_more known.count
    → IsOfOperands known opcode os → IsOfOperands next opcode (os ++ (o ∷ []))
of_more known next opcode os o n a b c w d h = record {
  opcode = n ∙ h.opcode;
  result = a ∙ (ap (λ x. option_or x (result_in (o ∷ []))) h.result ∙ result_snoc os o);
  type_id = b ∙ (ap (λ x. option_or x (type_in (o ∷ []))) h.type_id ∙ type_snoc os o);
  first = c ∙ (ap (λ x. first_after x known.first o) h.count
      ∙ (ap (λ x. first_after (count_of os) x o) h.first ∙ first_snoc os o));
  width = w ∙ (ap (λ x. width_after x known.result known.width o) h.count
      ∙ (ap (λ x. width_after (count_of os) x known.width o) h.result
      ∙ (ap (λ x. width_after (count_of os) (result_in os) x o) h.width ∙ width_snoc os o)));
  count = d ∙ (ap count_more h.count ∙ count_snoc os o);
}

pub count_none : (n : ℕ) → n ≡ 0 → 1 ≡ count_more n
count_none n e = rw e refl

pub count_some : (n : ℕ) → (n ≡ 0 → ⊥) → 2 ≡ count_more n
count_some n e = rw not_zero refl
  where
    not_zero : nat_eq n 0 ≡ false
    not_zero = grind (arith, nat_tests)
